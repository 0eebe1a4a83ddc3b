use Rattle.std.proofs.Common.{subst, sym}
use Rattle.std.proofs.lemmas.List.Filters.{dedup_is}
use Rattle.window_plan.specs.Kinds.{order_of}
use Rattle.window_plan.specs.Ranks.{AreRanks}
use Rattle.window_plan.proofs.Ranked.{distinct_ranks}
use Rattle.window_plan.proofs.cells.ranks_of.Goals as goal

pub returns-clause-ranks : goal.returns-clause-ranks
returns-clause-ranks c =
    subst (λ ks. AreRanks (order_of c.args.kind) c.args.commit c.args.tags.now ks)
    (sym (dedup_is _ _ _ c.dedup-2.ensures.filtered))
    (distinct_ranks (order_of c.args.kind) c.args.commit c.args.tags.now c.in_ok-keys.keys.items
    c.dedup.new.self.items c.sort_unstable.new.self.items c.in_ok-keys.ensures
    (dedup_is _ _ _ c.dedup.ensures.filtered) c.sort_unstable.ensures.permutation
    c.sort_unstable.ensures.sorted)
