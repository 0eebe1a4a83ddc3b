-- No detector and no observable stands past the last slot, which is at most 4,095.
use Rattle.std.proofs.Common.{ℕ, ◌<◌, ◌≤◌, ⊎_elim, inl, inr, max, List, [], ◌∷◌, length, map, fold, filter, flat_map, All, refl, ap, subst, arith}
use Rattle.std.specs.Prelude.{◌==◌}
use Rattle.std.specs.List.{range_with_len}
use Rattle.graph_model.specs.declared.Tag.{Tag}
use Rattle.surface_model.specs.Schedules.{MergeLine, ReadLine, Schedule}
use Rattle.surface_model.specs.Layout.{last_slot, read_slot, split_slot}
use Rattle.surface_model.specs.Measurements.{detectors, Observable, observables, merge_observables, read_observable}
use Rattle.surface_model.specs.Accepted.{IsAccepted}
use Rattle.surface_model.specs.Tags.{tag_of, tags_of}
use Rattle.graph_model.specs.Members.{In}
use Rattle.graph_model.proofs.Elements.{in_map, in_filter, in_append, in_flat_map, all_at, all_of}
use Rattle.surface_laws.proofs.Acceptance.{sound}
use Rattle.surface_laws.proofs.Ends.{detector_is}
use Rattle.surface_laws.proofs.Slots.{line_observables}

-- ---- the greatest of some numbers

begun_below : {X : Type 0} (f : X → ℕ) (least : ℕ) (xs : List X) → least ≤ fold max least (map f xs)
begun_below f least [] = omega arith
begun_below f least (x ∷ xs) = let more = begun_below f (max least (f x)) xs in omega (arith, more)

none_above : {X : Type 0} (f : X → ℕ) (least : ℕ) (xs : List X) (x : X) → In x xs →
    f x ≤ fold max least (map f xs)
none_above f least [] x m = absurd m
none_above f least (y ∷ ys) x (inl e) = let more = begun_below f (max least (f y)) ys in
    omega (arith, more, ap f e)
none_above f least (y ∷ ys) x (inr m) = none_above f (max least (f y)) ys x m

all_bounded : {X : Type 0} (f : X → ℕ) (least most : ℕ) (xs : List X) → least ≤ most →
    ((x : X) → In x xs → f x ≤ most) → fold max least (map f xs) ≤ most
all_bounded f least most [] l h = l
all_bounded f least most (x ∷ xs) l h = all_bounded f (max least (f x)) most xs (let here =
    h x (inl refl) in omega (arith, here, l)) (λ y m. h y (inr m))

-- ---- slots

pub last_in_range : (s : Schedule) → IsAccepted s → last_slot s ≤ 4095
last_in_range s is =
    all_bounded (λ (line : ReadLine). line.slot) 0 4095 s.reads (omega arith) (λ r m.
    (all_at (λ (x : ReadLine). (x.patch < length s.patches) × (x.slot ≤ 4095)) s.reads r
    is.ranges.reads m).1)

pub tags_in_range : (s : Schedule) → All (λ (tag : Tag). tag.slot ≤ last_slot s) (tags_of s)
tags_in_range s =
    all_of (λ (tag : Tag). tag.slot ≤ last_slot s) (tags_of s)
    (λ tag m. let d = in_map (tag_of s) (detectors s) tag m in
    subst (λ (t : Tag). t.slot ≤ last_slot s) d.2 (detector_is s d.0 d.1).last)

pub read_in_range : (s : Schedule) (r : ReadLine) → In r s.reads → r.slot ≤ last_slot s
read_in_range s r m = none_above (λ (line : ReadLine). line.slot) 0 s.reads r m

-- a merge is over before its patches are read
split_in_range : (s : Schedule) → IsAccepted s → (m : MergeLine) → In m s.merges →
    split_slot m < last_slot s
split_in_range s is m i =
    let ok = sound s is in
    let within = ok.one m i in
    let r = ok.finished m.one within.known in
    let read = ok.read_is r.0 r.1 in
    let last = read_in_range s r.0 r.1 in
    let same = ap (read_slot s) r.2 in omega (arith, within.before, read, last, same)

merge_in_range : (s : Schedule) → IsAccepted s → (m : MergeLine) → In m s.merges →
    (o : Observable) → In o (merge_observables s m) → o.slot ≤ last_slot s
merge_in_range s is m i o (inl e) = let split = split_in_range s is m i in
    omega (arith, split, ap (λ (x : Observable). x.slot) e)
merge_in_range s is m i o (inr (inl e)) = let split = split_in_range s is m i in
    omega (arith, split, ap (λ (x : Observable). x.slot) e)
merge_in_range s is m i o (inr (inr e)) = absurd e

observable_in_range : (s : Schedule) → IsAccepted s → (o : Observable) → In o (observables s) →
    o.slot ≤ last_slot s
observable_in_range s is o h =
    let k = in_flat_map (line_observables s) (range_with_len 0 s.rounds_line) o h in
    ⊎_elim
    (λ a. let i = in_flat_map (merge_observables s) (filter (λ (merge : MergeLine). merge.line
    == k.0) s.merges) o a in
    merge_in_range s is i.0 (in_filter (λ (merge : MergeLine). merge.line == k.0) s.merges i.0
    i.1).0 o i.2)
    (λ b. let i = in_map (read_observable s) (filter (λ (line : ReadLine). line.line == k.0)
    s.reads) o b in
    let read = read_in_range s i.0 (in_filter (λ (line : ReadLine). line.line == k.0) s.reads i.0
    i.1).0 in omega (arith, read, ap (λ (x : Observable). x.slot) i.2))
    (in_append (flat_map
    (merge_observables s) (filter (λ (merge : MergeLine). merge.line == k.0) s.merges))
    (map (read_observable s) (filter (λ (line : ReadLine). line.line == k.0) s.reads)) o k.2)

pub raws_in_range : (s : Schedule) → IsAccepted s →
    All (λ slot. slot ≤ last_slot s) (map (λ (o : Observable). o.slot) (observables s))
raws_in_range s is =
    all_of (λ slot. slot ≤ last_slot s) (map (λ (o : Observable). o.slot) (observables s))
    (λ slot m. let o = in_map (λ (o : Observable). o.slot) (observables s) slot m in
    let within = observable_in_range s is o.0 o.1 in omega (arith, within, o.2))
