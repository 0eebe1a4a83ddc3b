use Rattle.std.proofs.Common.{◌≤◌, ◌∙◌, sym, ap, subst}
use Rattle.surface_model.specs.Layout.{last_slot}
use Rattle.run_rounds.specs.Slots.{At, width_of}
use Rattle.run_rounds.proofs.Maps.{slot_in_map, width_is}
use Rattle.run_rounds.proofs.reader.SlotReader.width.Goals as goal

pub width-requires : goal.width-requires
width-requires c =
    slot_in_map c.self.inside.program.now c.self.inside.map.now c.self.inside.slot
    c.self.invariant.map_is (subst (λ (at : At). at.slot ≤ last_slot at.schedule)
    (sym c.self.view_is) c.requires)

pub returns : goal.returns
returns c =
    c.width.ensures
    ∙ width_is c.self.inside.program.now c.self.inside.map.now c.self.inside.slot
    c.self.invariant.map_is (subst (λ (at : At). at.slot ≤ last_slot at.schedule)
    (sym c.self.view_is) c.requires)
    ∙ ap width_of c.self.view_is
