use Rattle.std.proofs.Common.{◌∙◌, Contains, ap, arith, refl, subst, sym}
use Rattle.surface_model.specs.Schedules.{Schedule}
use Rattle.surface_model.specs.Errors.{mechanisms, odd_places, watched, weight_of_class}
use Rattle.error_map.specs.declared.types.Wanted.TheVariants.{Every}
use Rattle.error_map.specs.Seen.{class_of, mechanism_of}
use Rattle.error_map.proofs.EdgeSteps.{same_edge}
use Rattle.error_map.proofs.Masked.{last_small, member_is}
use Rattle.error_map.proofs.lookup.Lookup.edge.Goals as goal

pub effect-effect-requires : goal.effect-effect-requires
effect-effect-requires c =
    let s = c.self.inside.schedule.now in
    let known = subst (λ (x : Schedule). Contains (mechanisms x) (mechanism_of c.args.mechanism))
    (sym c.self.view_is) c.requires in
    let i = member_is s (mechanism_of c.args.mechanism) known in
    let l = last_small s c.self.invariant.accepted in
    omega (arith, i.last, l)

pub returns : goal.returns
returns c =
    let s = c.self.inside.schedule.now in let x = c.self.invariant in
    let e = mechanism_of c.args.mechanism in
    let known = subst (λ (x : Schedule). Contains (mechanisms x) e) (sym c.self.view_is)
    c.requires in
    let i = member_is s e known in
    let same = c.effect-effect.ensures.mechanism in
    let flipped =
    c.in_ok-mask.ensures s x.accepted (c.map.ensures ∙ x.made)
    (subst (Contains (mechanisms s)) (sym same) known)
    (c.effect-effect.ensures.effect s Every x.accepted x.readings refl i.last)
    ∙ ap (λ y. odd_places s y (watched s)) same in
    same_edge c.args.first c.args.second _ _ _ _ (c.weight_of.ensures
    ∙ ap (λ (y : Schedule). weight_of_class y (class_of c.args.mechanism.class)) c.self.view_is)
    (c.in_ok-new.ensures ∙ flipped
    ∙ ap (λ (y : Schedule). odd_places y e (watched y)) c.self.view_is)
