use Rattle.std.proofs.Common.{◌≡◌, ◌<◌, ◌≤◌, ◌∙◌, ap, arith, length, map, subst, sym}
use Rattle.std.proofs.lemmas.Result.{IfOk-weaker}
use Rattle.surface_model.specs.Schedules.{Schedule}
use Rattle.surface_model.specs.Layout.{Region, area, last_slot, split_slot}
use Rattle.surface_model.specs.Measurements as measurements
use Rattle.slot_bits.specs.Observed.{place_of}
use Rattle.slot_bits.specs.Seen.{bits_of}
use Rattle.slot_bits.specs.Watched.{seam_bits, seam_start}
use Rattle.slot_bits.proofs.Watching.{in_of, merge_is, placed, places_in, seam_bits_at}
use Rattle.slot_bits.proofs.observe.seam_places.Goals as goal

pub seam_region-seam-requires-clause-one : goal.seam_region-seam-requires-clause-one
seam_region-seam-requires-clause-one c =
    let k = merge_is c.args.places.now c.is_accepted.ensures c.args.merge.now
    (in_of _ _ c.requires) in
    subst (λ (s : Schedule). c.args.merge.now.one < length s.patches)
    (sym c.schedule.ensures.schedule) k.one

pub seam_region-seam-requires-clause-two : goal.seam_region-seam-requires-clause-two
seam_region-seam-requires-clause-two c =
    let k = merge_is c.args.places.now c.is_accepted.ensures c.args.merge.now
    (in_of _ _ c.requires) in
    subst (λ (s : Schedule). c.args.merge.now.two < length s.patches)
    (sym c.schedule.ensures.schedule) k.two

pub overflow_cast-split : goal.overflow_cast-split
overflow_cast-split c =
    let k = merge_is c.args.places.now c.is_accepted.ensures c.args.merge.now
    (in_of _ _ c.requires) in
    let a = k.slot in let b = k.count in omega (arith, a, b, c.split_slot-split.ensures)

pub among-requires : goal.among-requires
among-requires c =
    let k = merge_is c.args.places.now c.is_accepted.ensures c.args.merge.now
    (in_of _ _ c.requires) in
    subst (λ n. n ≤ last_slot c.args.places.now) (sym c.split_slot-split.ensures) k.last

pub returns : goal.returns
returns c =
    let p = c.args.places.now in let m = c.args.merge.now in
    let found : bits_of c.deref.result.now ≡ map measurements.Readout (places_in (seam_start p m)) =
    ap bits_of c.deref.ensures.value ∙ c.in_ok-bits.ensures.list
    ∙ ap (λ (r : Region). map measurements.Readout (area r.row r.column 1 1)) (c.seam.view_is
    ∙ c.seam_region-seam.ensures.region)
    ∙ ap (λ (s : Schedule). map measurements.Readout (places_in (seam_start s m)))
    c.schedule.ensures.schedule in
    IfOk-weaker c.among.result _ (λ v. v.items ≡ map (place_of p) (seam_bits p m))
    (λ v h. placed p _ (split_slot m) (bits_of c.deref.result.now) _ v.items
    (map (place_of p) (seam_bits p m)) h c.split_slot-split.ensures found
    (seam_bits_at p c.is_accepted.ensures m (in_of _ _ c.requires))) c.among.ensures
