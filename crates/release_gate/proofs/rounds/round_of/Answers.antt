use Rattle.std.proofs.Common.{max, map, fold, take, get_or, slice_index, sym, ap, ◌∙◌, arith}
use Rattle.std.proofs.lemmas.List.{length-map, take_all, get_or-map}
use Rattle.std.proofs.lemmas.List.Sums.{fold-append, fold_more}
use Rattle.release_gate.specs.Operations.{raw_slots_of}
use Rattle.window_model.specs.Windows.{greatest}
use Rattle.release_gate.proofs.rounds.round_of.Goals as goal

pub loop-window-preserved : goal.loop-window-preserved
loop-window-preserved c =
    let slots = c.args.slots.now in
    let items = c.args.windows.now in
    let i = c.loop-window.window-index in
    let raws = greatest (raw_slots_of c.args.op.now) in
    c.max-round.ensures
    ∙ ap (λ n. max n (slice_index slots (get_or items i 0))) c.loop-window.invariant
    ∙ ap (max (fold max raws (take i (map (slice_index slots) items))))
    (sym (get_or-map (slice_index slots) items i 0 0 c.loop-window-test.true))
    ∙ sym (fold_more max raws (map (slice_index slots) items) i 0 (omega (
      arith,
      c.loop-window-test.true,
      length-map items (slice_index slots),
    )))

pub returns : goal.returns
returns c =
    let slots = c.args.slots.now in
    let items = c.args.windows.now in
    let raws = raw_slots_of c.args.op.now in
    c.loop-window.invariant
    ∙ ap (fold max (greatest raws)) (take_all c.loop-window.window-index (map (slice_index slots)
    items) (omega (arith, c.loop-window-test.false, length-map items (slice_index slots))))
    ∙ sym (fold-append max 0 raws (map (slice_index slots) items))
