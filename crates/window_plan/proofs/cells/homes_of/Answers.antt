use Rattle.std.proofs.Common.{◌∙◌, ap, sym, subst, Contains}
use Rattle.window_plan.specs.Kinds.{order_of}
use Rattle.window_plan.specs.Ranks.{key_of}
use Rattle.window_plan.proofs.Ranked.{key_in}
use Rattle.window_plan.proofs.cells.homes_of.Goals as goal

pub place_near-place-requires-clause-member : goal.place_near-place-requires-clause-member
place_near-place-requires-clause-member c =
    subst (λ key. Contains c.args.ranks.now key) (sym (c.rank_key-key.ensures
    ∙ ap (key_of (order_of c.args.kind)) c.cell_of_tag.ensures))
    (key_in (order_of c.args.kind) c.args.commit c.args.tags.now c.args.ranks.now c.requires.ranks
    c.loop-tag.tag-index _ c.loop-tag-test.true)
