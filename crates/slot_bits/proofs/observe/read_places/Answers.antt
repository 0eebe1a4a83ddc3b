use Rattle.std.proofs.Common.{◌≡◌, ◌<◌, ◌≤◌, ◌∙◌, ap, length, map, subst, sym}
use Rattle.std.proofs.lemmas.Result.{IfOk-weaker}
use Rattle.surface_model.specs.Schedules.{ReadLine, Schedule}
use Rattle.surface_model.specs.Layout.{last_slot, region_of_patch}
use Rattle.surface_model.specs.Measurements as measurements
use Rattle.surface_laws.proofs.Acceptance.{sound}
use Rattle.slot_bits.specs.Observed.{place_of}
use Rattle.slot_bits.specs.Seen.{bits_of}
use Rattle.slot_bits.specs.Watched.{first_side, read_bits}
use Rattle.slot_bits.proofs.Watching.{in_of, placed, places_in, read_bits_at, read_last}
use Rattle.slot_bits.proofs.observe.read_places.Goals as goal

pub patch_region-requires-clause-patch : goal.patch_region-requires-clause-patch
patch_region-requires-clause-patch c =
    let known = (sound c.args.places.now c.is_accepted.ensures).read_known c.args.read.now
    (in_of _ _ c.requires) in
    subst (λ (s : Schedule). c.read.inside.patch < length s.patches)
    (sym c.schedule.ensures.schedule)
    (subst (λ (x : ReadLine). x.patch < length c.args.places.now.patches) (sym c.read.view_is)
    known)

pub among-requires : goal.among-requires
among-requires c =
    subst (λ (x : ReadLine). x.slot ≤ last_slot c.args.places.now) (sym c.read.view_is)
    (read_last c.args.places.now c.args.read.now (in_of _ _ c.requires))

pub returns : goal.returns
returns c =
    let p = c.args.places.now in let r = c.args.read.now in
    let found : bits_of c.deref.result.now
    ≡ map measurements.Readout (places_in (first_side r.basis (region_of_patch p r.patch))) =
    ap bits_of c.deref.ensures.value ∙ c.in_ok-bits.ensures.list
    ∙ ap (λ r. map measurements.Readout (places_in r)) (c.first_side-side.ensures
    ∙ ap (first_side c.read.inside.basis) (c.patch_region.ensures.region
    ∙ ap (λ (s : Schedule). region_of_patch s c.read.inside.patch) c.schedule.ensures.schedule)
    ∙ ap (λ (x : ReadLine). first_side x.basis (region_of_patch p x.patch)) c.read.view_is) in
    let slot_is = ap (λ (x : ReadLine). x.slot) c.read.view_is in
    IfOk-weaker c.among.result _ (λ v. v.items ≡ map (place_of p) (read_bits p r))
    (λ v h. placed p c.read.inside.slot r.slot (bits_of c.deref.result.now) _ v.items
    (map (place_of p) (read_bits p r)) h slot_is found
    (read_bits_at p c.is_accepted.ensures r (in_of _ _ c.requires))) c.among.ensures
