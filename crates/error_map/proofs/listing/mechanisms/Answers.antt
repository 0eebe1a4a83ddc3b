use Rattle.std.proofs.Common.{◌≡◌, ◌<◌, ◌+◌, ◌-◌, ◌++◌, Some, map, flat_map, ap, ◌∙◌, sym, arith, length, slice_get, subst}
use Rattle.std.specs.List.{range_with_len}
use Rattle.surface_model.specs.Schedules.{Schedule}
use Rattle.surface_model.specs.Layout.{last_slot}
use Rattle.surface_model.specs.Errors.{mechanisms_at}
use Rattle.measure_map.specs.Placed.{Placed, map_of}
use Rattle.slot_bits.specs.Seen.{bit_of}
use Rattle.error_map.specs.Active.{active_at}
use Rattle.error_map.specs.Lines.{mechanisms_with}
use Rattle.error_map.specs.Seen.{mechanisms_of}
use Rattle.error_map.proofs.Listed.{listed_more, lines_count}
use Rattle.error_map.proofs.listing.mechanisms.Goals as goal

pub bits_of_slot-requires : goal.bits_of_slot-requires
bits_of_slot-requires c =
    let s = c.args.program.now in
    let last : c.slots-slot-end.result ≡ last_slot s + 1 =
    c.slots-slot-end.ensures.last s c.in_ok-timetable.ensures in
    let within : c.loop-slot.slot < length (map_of s).lines =
    omega (arith, last, lines_count s, c.loop-slot-test.true) in
    subst (λ (m : Placed). c.loop-slot.slot < length m.lines) (sym c.requires) within

pub loop-slot-preserved : goal.loop-slot-preserved
loop-slot-preserved c =
    let s = c.args.program.now in
    let t = c.loop-slot.slot in
    let last : c.slots-slot-end.result ≡ last_slot s + 1 =
    c.slots-slot-end.ensures.last s c.in_ok-timetable.ensures in
    let within : t < length (map_of s).lines =
    omega (arith, last, lines_count s, c.loop-slot-test.true) in
    let qubits : c.in_ok-qubits.qubits.items ≡ active_at s t = c.in_ok-qubits.ensures
    ∙ ap (λ (x : Schedule). active_at x t) c.schedule-schedule.ensures.schedule in
    let same : t ≡ t + 1 - 1 = omega arith in
    record {
      list = listed_more s t c.bits_of_slot.result.now c.in_ok-qubits.qubits.items
          (mechanisms_of c.loop-slot.list.items) (mechanisms_of c.push_slot.new.list.items) within
          (subst (λ (m : Placed). slice_get m.lines t ≡ Some (map bit_of c.bits_of_slot.result.now))
          c.requires c.bits_of_slot.ensures) qubits c.loop-slot.invariant.list
          (c.in_ok-push_slot.ensures
          ∙ ap (λ qs. mechanisms_of c.loop-slot.list.items
          ++ mechanisms_with t c.bits_of_slot.result.now qs) c.deref.ensures.value);
      qubits = λ l. qubits ∙ ap (active_at s) same;
    }

pub returns : goal.returns
returns c =
    let s = c.args.program.now in
    let last : c.slots-slot-end.result ≡ last_slot s + 1 =
    c.slots-slot-end.ensures.last s c.in_ok-timetable.ensures in
    let e : c.loop-slot.slot ≡ last_slot s + 1 = omega (arith, last) in
    c.loop-slot.invariant.list ∙ ap (λ n. flat_map (mechanisms_at s) (range_with_len 0 n)) e
