use Rattle.std.proofs.Common.{◌≡◌, ◌<◌, ◌≤◌, ◌+◌, [], length, flat_map, ap, ◌∙◌, sym, arith, subst, get_or}
use Rattle.std.specs.Prelude.{min}
use Rattle.std.specs.List.{range_with_len}
use Rattle.surface_model.specs.Schedules.{Schedule}
use Rattle.surface_model.specs.Layout.{last_slot}
use Rattle.surface_model.specs.Measurements.{bits_of_slot}
use Rattle.surface_laws.proofs.Ends.{IsMechanism}
use Rattle.measure_map.specs.Placed.{Placed, map_of}
use Rattle.slot_bits.specs.Seen.{bits_of}
use Rattle.error_map.specs.Changes.{changed_at, changed_bits}
use Rattle.error_map.specs.Seen.{error_in, mechanism_of, next_in}
use Rattle.error_map.specs.Sees.{IsEffect, bits_near, changed_among}
use Rattle.surface_model.specs.Errors.{Mechanism}
use Rattle.surface_model.specs.Limits.{last_named_slot}
use Rattle.error_map.proofs.Flipping.{line_changes, changed_more, changed_all, none_before, own_first}
use Rattle.error_map.proofs.Listed.{line_is, lines_count}
use Rattle.error_map.proofs.Masked.{last_small, member_is, place_near}
use Rattle.error_map.proofs.changes.flips.Goals as goal

pub effect_of-requires-clause-last : goal.effect_of-requires-clause-last
effect_of-requires-clause-last c =
    let last : c.last_slot-last.result ≡ last_slot c.args.program.now = c.last_slot-last.ensures in
    let small = last_small c.args.program.now c.is_accepted.ensures in
    (last ∙ ap last_slot (sym c.schedule.ensures.schedule), omega (arith, last, small))

pub effect_of-requires-clause-slot : goal.effect_of-requires-clause-slot
effect_of-requires-clause-slot c =
    let i = member_is c.args.program.now (mechanism_of c.args.mechanism) c.requires.known in
    let low : c.args.mechanism.slot ≤ last_slot c.args.program.now = i.last in
    omega (arith, low, c.last_slot-last.ensures)

pub bits_near-near-requires : goal.bits_near-near-requires
bits_near-near-requires c =
    let s = c.args.program.now in
    place_near s c.is_accepted.ensures (mechanism_of c.args.mechanism).place
    (member_is s (mechanism_of c.args.mechanism) c.requires.known).on_board

pub overflow_add-end : goal.overflow_add-end
overflow_add-end c =
    let s = c.args.program.now in
    let small : last_slot s ≤ last_named_slot = last_small s c.is_accepted.ensures in
    let last : c.last_slot-last.result ≡ last_slot s = c.last_slot-last.ensures in
    let end : c.min-end.result ≤ last_named_slot = omega (arith, small, last, c.min-end.ensures) in
    omega (arith, end)

pub loop-slot-init : goal.loop-slot-init
loop-slot-init c =
    let s = c.args.program.now in
    let f = c.in_ok-effect.effect in
    let same : error_in f ≡ mechanism_of c.args.mechanism = c.in_ok-effect.ensures.mechanism in
    let i : IsMechanism s (error_in f) =
    subst (IsMechanism s) (sym same)
    (member_is s (mechanism_of c.args.mechanism) c.requires.known) in
    let shown = subst (λ (x : Schedule). IsEffect x f) c.schedule.ensures.schedule
    c.in_ok-effect.ensures.effect in
    c.new-bits.ensures.items ∙ none_before s c.is_accepted.ensures f i shown
    ∙ ap (λ (e : Mechanism). flat_map (changed_at s e) (range_with_len 0 e.slot))
    c.in_ok-effect.ensures.mechanism

pub push_changes-requires : goal.push_changes-requires
push_changes-requires c =
    let s = c.args.program.now in
    let within : c.loop-slot.slot < length (map_of s).lines =
    omega (
      arith,
      lines_count s,
      c.loop-slot-test.true,
      c.min-end.ensures,
      c.last_slot-last.ensures,
    ) in
    subst (λ (m : Placed). c.loop-slot.slot < length m.lines) (sym c.requires.made) within

pub loop-slot-preserved : goal.loop-slot-preserved
loop-slot-preserved c =
    let s = c.args.program.now in
    let e = mechanism_of c.args.mechanism in
    let t = c.loop-slot.slot in
    let f = c.in_ok-effect.effect in
    let same : error_in f ≡ e = c.in_ok-effect.ensures.mechanism in
    let i : IsMechanism s (error_in f) =
    subst (IsMechanism s) (sym same) (member_is s e c.requires.known) in
    let shown = subst (λ (x : Schedule). IsEffect x f) c.schedule.ensures.schedule
    c.in_ok-effect.ensures.effect in
    let line = ap (λ (m : Placed). get_or m.lines t []) c.requires.made
    ∙ line_is s t (omega (
      arith,
      c.loop-slot-test.true,
      c.min-end.ensures,
      c.last_slot-last.ensures,
    )) in
    changed_more s e t c.loop-slot.bits.items c.push_changes.new.bits.items
    (changed_among f t (get_or c.args.map.now.lines t []) (bits_of c.bits_near-near.result))
    c.loop-slot.invariant
    (ap (λ xs. changed_among f t xs (bits_of c.bits_near-near.result)) line
    ∙ ap (changed_among f t (bits_of_slot s t)) (c.bits_near-near.ensures
    ∙ ap bits_near (sym (ap (λ (e : Mechanism). e.place) c.in_ok-effect.ensures.mechanism)))
    ∙ line_changes s c.is_accepted.ensures f i shown t ∙ ap (λ x. changed_at s x t) same)
    c.in_ok-push_changes.ensures

pub returns : goal.returns
returns c =
    let s = c.args.program.now in
    let e = mechanism_of c.args.mechanism in
    let f = c.in_ok-effect.effect in
    let same : error_in f ≡ e = c.in_ok-effect.ensures.mechanism in
    let member = member_is s e c.requires.known in
    let i : IsMechanism s (error_in f) = subst (IsMechanism s) (sym same) member in
    let shown = subst (λ (x : Schedule). IsEffect x f) c.schedule.ensures.schedule
    c.in_ok-effect.ensures.effect in
    let own : c.args.mechanism.slot ≤ (next_in f) =
    subst (λ (e : Mechanism). e.slot ≤ next_in f) c.in_ok-effect.ensures.mechanism
    (own_first s c.is_accepted.ensures f i shown) in
    let low : c.args.mechanism.slot ≤ last_slot s = member.last in
    let last : c.last_slot-last.result ≡ last_slot s = c.last_slot-last.ensures in
    let all : c.loop-slot.slot ≡ min (last_slot s) (next_in f) + 1 =
    omega (
      arith,
      own,
      low,
      last,
      c.last_slot.ensures,
      c.min-end.ensures,
      c.loop-slot.auto.slot,
      c.loop-slot.auto.slot-end,
      c.loop-slot-test.false,
    ) in
    c.loop-slot.invariant
    ∙ sym (ap (λ x. flat_map (changed_at s x) (range_with_len 0 c.loop-slot.slot)) same)
    ∙ changed_all s c.is_accepted.ensures f i shown c.loop-slot.slot all
    ∙ ap (changed_bits s) same
