use Rattle.std.proofs.Common.{◌<◌, get_or, sym, ◌∙◌, subst}
use Rattle.workload_maker.proofs.Placed.{same_width, turned_more}
use Rattle.workload_maker.proofs.turns.turn_all.Goals as goal

pub turn-requires-clause-at : goal.turn-requires-clause-at
turn-requires-clause-at c =
    let rows = c.args.rows.now.items in
    let i = c.loop-place.place-index in
    let place = get_or c.args.places.now i (0, 0) in
    let within = c.requires i (0, 0) c.loop-place-test.true in
    subst (λ n. place.1 < n)
    (sym (same_width rows c.loop-place.rows.items place.0 c.loop-place.invariant.widths within.0).1)
    within.1

pub loop-place-preserved : goal.loop-place-preserved
loop-place-preserved c = record {
  widths = c.turn.ensures.widths ∙ c.loop-place.invariant.widths;
  bits = turned_more c.args.rows.now.items c.loop-place.rows.items c.turn.new.rows.items
      c.args.places.now c.loop-place.place-index (0, 0) c.loop-place-test.true
      c.loop-place.invariant.bits c.turn.ensures.bits;
}
