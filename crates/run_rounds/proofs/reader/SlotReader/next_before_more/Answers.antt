use Rattle.std.proofs.Common.{◌≤◌, ◌∙◌, sym, ap, subst, arith}
use Rattle.surface_model.specs.Layout.{last_slot}
use Rattle.surface_model.proofs.Ranges.{few_slots}
use Rattle.run_rounds.specs.Slots.{At, width_of}
use Rattle.run_rounds.proofs.Maps.{before_next_long, slot_in_map, width_is}
use Rattle.run_rounds.proofs.reader.SlotReader.next_before_more.Goals as goal

pub fold-requires-clause-slot : goal.fold-requires-clause-slot
fold-requires-clause-slot g c =
    slot_in_map c.self.inside.program.now c.self.inside.map.now c.self.inside.slot
    c.self.invariant.map_is (subst (λ (at : At). at.slot ≤ last_slot at.schedule)
    (sym c.self.view_is) c.requires)

pub fold-requires-clause-row : goal.fold-requires-clause-row
fold-requires-clause-row g c =
    c.in_ok-fed.ensures.size ∙ c.width-width.ensures ∙ sym (ap width_of c.self.view_is)
    ∙ sym (width_is c.self.inside.program.now c.self.inside.map.now c.self.inside.slot
    c.self.invariant.map_is (subst (λ (at : At). at.slot ≤ last_slot at.schedule)
    (sym c.self.view_is) c.requires))

pub overflow_add-self : goal.overflow_add-self
overflow_add-self g c =
    let few = few_slots c.self.inside.program.now c.self.invariant.accepted.ranges in
    omega (arith, few, c.self.invariant.in_range)

pub invariant_of-self : goal.invariant_of-self
invariant_of-self g c =
    let within = subst (λ (at : At). at.slot ≤ last_slot at.schedule) (sym c.self.view_is)
    c.requires in
    record {
      accepted = c.self.invariant.accepted;
      map_is = c.self.invariant.map_is;
      first_is = c.self.invariant.first_is;
      last_is = c.self.invariant.last_is;
      lines = c.self.invariant.lines;
      in_range = omega (arith, within);
      before_long = before_next_long c.self.inside.program.now
          c.self.inside.map.now c.self.inside.slot c.in_ok-fed.fed c.self.invariant.map_is within
          (c.in_ok-fed.ensures.size ∙ c.width-width.ensures ∙ sym (ap width_of c.self.view_is));
    }
