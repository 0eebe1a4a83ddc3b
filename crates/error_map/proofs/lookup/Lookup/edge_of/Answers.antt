use Rattle.std.proofs.Common.{◌≤◌, ◌∙◌, Some, ap, arith, refl, subst, sym}
use Rattle.surface_model.specs.Schedules.{Schedule}
use Rattle.surface_model.specs.Errors.{odd_places, watched}
use Rattle.surface_model.specs.Limits.{last_named_slot}
use Rattle.error_map.specs.Indexes.{AreIndexes}
use Rattle.error_map.specs.Seen.{mechanism_of}
use Rattle.error_map.proofs.EdgeSteps.{detectors_are, edge_is, edge_made}
use Rattle.error_map.proofs.Masked.{last_small, member_is, place_near}
use Rattle.error_map.proofs.lookup.Lookup.edge_of.Goals as goal

pub ends_of-requires : goal.ends_of-requires
ends_of-requires c =
    let p = c.args.self.now in
    let x = subst (λ (s : Schedule). AreIndexes s c.self.inside.spots c.self.inside.readings
    c.self.inside.watch) c.self.view_is c.self.invariant in
    let i = member_is p (mechanism_of c.args.mechanism) c.requires in
    let near = place_near p x.accepted (mechanism_of c.args.mechanism).place i.on_board in
    let small = last_small p x.accepted in
    let slot : c.args.mechanism.slot ≤ last_named_slot = omega (arith, i.last, small) in
    (slot, near.0, near.1)

pub returns-in-None : goal.returns-in-None
returns-in-None c =
    let p = c.args.self.now in let e = mechanism_of c.args.mechanism in
    let m = c.self.inside.spots in
    let x = subst (λ (s : Schedule). AreIndexes s m c.self.inside.readings c.self.inside.watch)
    c.self.view_is c.self.invariant in
    ap (λ ends. edge_made p e ends (odd_places p e (watched p))) (sym c.in-None.is)
    ∙ edge_is p x.accepted e (member_is p e c.requires) m.detectors
    (detectors_are p m m.detectors x.made refl) c.ends_of.result c.ends_of.ensures

pub returns-in_ok-edge-in-One : goal.returns-in_ok-edge-in-One
returns-in_ok-edge-in-One c =
    let p = c.args.self.now in let e = mechanism_of c.args.mechanism in
    let m = c.self.inside.spots in
    let x = subst (λ (s : Schedule). AreIndexes s m c.self.inside.readings c.self.inside.watch)
    c.self.view_is c.self.invariant in
    ap Some c.in_ok-edge-in-One.ensures
    ∙ ap (λ ends. edge_made p e ends (odd_places p e (watched p))) (sym c.in-One.is)
    ∙ edge_is p x.accepted e (member_is p e c.requires) m.detectors
    (detectors_are p m m.detectors x.made refl) c.ends_of.result c.ends_of.ensures

pub returns-in_ok-edge-in-Two : goal.returns-in_ok-edge-in-Two
returns-in_ok-edge-in-Two c =
    let p = c.args.self.now in let e = mechanism_of c.args.mechanism in
    let m = c.self.inside.spots in
    let x = subst (λ (s : Schedule). AreIndexes s m c.self.inside.readings c.self.inside.watch)
    c.self.view_is c.self.invariant in
    ap Some c.in_ok-edge-in-Two.ensures
    ∙ ap (λ ends. edge_made p e ends (odd_places p e (watched p))) (sym c.in-Two.is)
    ∙ edge_is p x.accepted e (member_is p e c.requires) m.detectors
    (detectors_are p m m.detectors x.made refl) c.ends_of.result c.ends_of.ensures
