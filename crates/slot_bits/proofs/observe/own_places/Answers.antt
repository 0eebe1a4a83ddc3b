use Rattle.std.proofs.Common.{◌≡◌, ◌<◌, ◌≤◌, ◌∙◌, ap, arith, filter, length, map, subst, sym}
use Rattle.std.proofs.lemmas.Result.{IfOk-weaker}
use Rattle.surface_model.specs.Schedules.{MergeLine, Schedule}
use Rattle.surface_model.specs.Layout.{checks, is_seam_check, last_slot, merged_region}
use Rattle.surface_model.specs.Measurements as measurements
use Rattle.slot_bits.specs.Observed.{place_of}
use Rattle.slot_bits.specs.Seen.{bits_of}
use Rattle.slot_bits.specs.Watched.{own_bits}
use Rattle.slot_bits.proofs.Watching.{in_of, merge_is, own_bits_at, placed}
use Rattle.slot_bits.proofs.observe.own_places.Goals as goal

pub seam_checks-requires-clause-one : goal.seam_checks-requires-clause-one
seam_checks-requires-clause-one c =
    let k = merge_is c.args.places.now c.is_accepted.ensures c.args.merge.now
    (in_of _ _ c.requires) in
    subst (λ (s : Schedule). c.args.merge.now.one < length s.patches)
    (sym c.schedule.ensures.schedule) k.one

pub seam_checks-requires-clause-two : goal.seam_checks-requires-clause-two
seam_checks-requires-clause-two c =
    let k = merge_is c.args.places.now c.is_accepted.ensures c.args.merge.now
    (in_of _ _ c.requires) in
    subst (λ (s : Schedule). c.args.merge.now.two < length s.patches)
    (sym c.schedule.ensures.schedule) k.two

pub among-requires : goal.among-requires
among-requires c =
    let k = merge_is c.args.places.now c.is_accepted.ensures c.args.merge.now
    (in_of _ _ c.requires) in
    let last = k.last in
    subst (λ (m : MergeLine). m.slot ≤ last_slot c.args.places.now) (sym c.merge.view_is)
    (omega (arith, last))

pub returns : goal.returns
returns c =
    let p = c.args.places.now in let m = c.args.merge.now in
    let found : bits_of c.deref.result.now
    ≡ map measurements.Outcome (filter (is_seam_check p m) (checks (merged_region p m))) =
    ap bits_of c.deref.ensures.value ∙ c.in_ok-bits.ensures
    ∙ ap (λ (s : Schedule). map measurements.Outcome
    (filter (is_seam_check s m) (checks (merged_region s m)))) c.schedule.ensures.schedule in
    let slot_is = ap (λ (x : MergeLine). x.slot) c.merge.view_is in
    IfOk-weaker c.among.result _ (λ v. v.items ≡ map (place_of p) (own_bits p m))
    (λ v h. placed p c.merge.inside.slot m.slot (bits_of c.deref.result.now) _ v.items
    (map (place_of p) (own_bits p m)) h slot_is found
    (own_bits_at p c.is_accepted.ensures m (in_of _ _ c.requires))) c.among.ensures
