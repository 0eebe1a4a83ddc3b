use Rattle.std.proofs.Common.{max, map, fold, take, get_or, slice_index, sym, ap, ◌∙◌, arith}
use Rattle.std.proofs.lemmas.List.{length-map, take_all, get_or-map}
use Rattle.std.proofs.lemmas.List.Sums.{fold_more}
use Rattle.window_model.specs.Windows.{window_at}
use Rattle.release_gate.proofs.ready.latest.Goals as goal

pub loop-dependency-preserved : goal.loop-dependency-preserved
loop-dependency-preserved c =
    let slots = c.args.slots.now in
    let items = c.deps-dependency-items.result.now in
    let i = c.loop-dependency.dependency-index in
    let last = (window_at c.args.plan.now.plan c.args.window).last in
    c.max-slot.ensures
    ∙ ap (λ n. max n (slice_index slots (get_or items i 0))) c.loop-dependency.invariant
    ∙ ap (max (fold max last (take i (map (slice_index slots) items))))
    (sym (get_or-map (slice_index slots) items i 0 0 c.loop-dependency-test.true))
    ∙ sym (fold_more max last (map (slice_index slots) items) i 0 (omega (
      arith,
      c.loop-dependency-test.true,
      length-map items (slice_index slots),
    )))

pub returns : goal.returns
returns c =
    let slots = c.args.slots.now in
    let items = c.deps-dependency-items.result.now in
    let last = (window_at c.args.plan.now.plan c.args.window).last in
    c.loop-dependency.invariant
    ∙ ap (fold max last) (take_all c.loop-dependency.dependency-index (map (slice_index slots)
    items) (omega (arith, c.loop-dependency-test.false, length-map items (slice_index slots))))
    ∙ ap (λ xs. fold max last (map (slice_index slots) xs)) c.deps-dependency-items.ensures
