use Rattle.std.proofs.Common.{◌≡◌, ◌+◌, ◌∙◌, ℕ, List, ap, arith, length, sym}
use Rattle.std.specs.List.{filter_map}
use Rattle.surface_model.specs.Layout.{board}
use Rattle.surface_model.specs.Measurements.{Detector, detector_at}
use Rattle.slot_bits.specs.Lines.{bits_before}
use Rattle.slot_bits.specs.Seen.{bit_of, bits_of}
use Rattle.measure_map.specs.Seen.{SlotOf}
use Rattle.measure_map.proofs.Slotwise.{few_at, length_seen, line_next, more_counted}
use Rattle.measure_map.proofs.Unchanged.{quiet_count, quiet_line}
use Rattle.measure_map.proofs.building.with_slot.Goals as goal

pub returns-then-is_quiet-clause-count : goal.returns-then-is_quiet-clause-count
returns-then-is_quiet-clause-count c =
    let s = c.args.schedule.now in let t = c.args.slot in
    let f : ℕ → List Detector = λ t. filter_map (detector_at s t) (board s) in
    let quiet = sym (c.is_quiet.ensures.quiet s c.requires.times) ∙ c.if-is_quiet.true in
    let more : c.len.result ≡ length (f t) = c.len.ensures ∙ c.args.counted.bits.ok.0
    ∙ length_seen bit_of c.args.counted.bits.items (bits_before s t) c.requires.bits
    ∙ quiet_count s c.requires.accepted t c.if-slot-gt0.true quiet in
    ap (λ k. c.args.counted.count + k) more ∙ more_counted f c.args.counted.count t c.requires.count

pub returns-then-is_quiet-clause-bits : goal.returns-then-is_quiet-clause-bits
returns-then-is_quiet-clause-bits c =
    let s = c.args.schedule.now in let t = c.args.slot in
    let quiet = sym (c.is_quiet.ensures.quiet s c.requires.times) ∙ c.if-is_quiet.true in
    c.requires.bits ∙ quiet_line s c.requires.accepted t c.if-slot-gt0.true quiet
    ∙ sym (line_next s t)

pub returns-then-is_quiet-clause-few : goal.returns-then-is_quiet-clause-few
returns-then-is_quiet-clause-few c =
    let s = c.args.schedule.now in let t = c.args.slot in
    let quiet = sym (c.is_quiet.ensures.quiet s c.requires.times) ∙ c.if-is_quiet.true in
    let more : c.len.result ≡ length (filter_map (detector_at s t) (board s)) = c.len.ensures
    ∙ c.args.counted.bits.ok.0
    ∙ length_seen bit_of c.args.counted.bits.items (bits_before s t) c.requires.bits
    ∙ quiet_count s c.requires.accepted t c.if-slot-gt0.true quiet in
    let few = few_at s c.requires.accepted.ranges t in
    omega (arith, more, few, c.requires.few)

pub new-view-requires-clause-before : goal.new-view-requires-clause-before
new-view-requires-clause-before c = ap bits_of c.deref.ensures.value ∙ c.requires.bits

pub new-view-requires-clause-bits : goal.new-view-requires-clause-bits
new-view-requires-clause-bits c = ap bits_of c.deref-2.ensures.value ∙ c.in_ok-bits.ensures

pub overflow_add-result-2 : goal.overflow_add-result-2
overflow_add-result-2 c =
    let few = few_at c.args.schedule.now c.requires.accepted.ranges c.args.slot in
    let more = c.in_ok-more.ensures
    ∙ ap (λ (v : SlotOf). length
    (filter_map (detector_at v.schedule v.slot) (board v.schedule))) c.new-view.ensures in
    omega (arith, few, more, c.requires.few, c.requires.slots)

pub returns-clause-count : goal.returns-clause-count
returns-clause-count c =
    let s = c.args.schedule.now in let t = c.args.slot in
    let f : ℕ → List Detector = λ t. filter_map (detector_at s t) (board s) in
    let more = c.in_ok-more.ensures
    ∙ ap (λ (v : SlotOf). length
    (filter_map (detector_at v.schedule v.slot) (board v.schedule))) c.new-view.ensures in
    ap (λ k. c.args.counted.count + k) more ∙ more_counted f c.args.counted.count t c.requires.count

pub returns-clause-bits : goal.returns-clause-bits
returns-clause-bits c = c.in_ok-bits.ensures ∙ sym (line_next c.args.schedule.now c.args.slot)

pub returns-clause-few : goal.returns-clause-few
returns-clause-few c =
    let few = few_at c.args.schedule.now c.requires.accepted.ranges c.args.slot in
    let more = c.in_ok-more.ensures
    ∙ ap (λ (v : SlotOf). length
    (filter_map (detector_at v.schedule v.slot) (board v.schedule))) c.new-view.ensures in
    omega (arith, few, more, c.requires.few)
