-- The values of those with one key, in order, by their numbers.
use Rattle.std.proofs.Common.{◌≡◌, ℕ, zero, suc, ◌+◌, ◌==◌, Bool, true, false, if◌then◌else◌, List, [], ◌∷◌, ◌++◌, length, map, filter, refl, sym, ap, ◌∙◌, arith, subst, append_assoc, length-append, slice_index, slice_index_or}
use Rattle.std.proofs.lemmas.List.{length-map}
use Rattle.std.specs.List.{range_with_len}
use Rattle.std.proofs.lemmas.Simd.{map-map}
use Rattle.graph_model.specs.declared.Tag.{Tag}
use Rattle.window_model.specs.Windows.{all_below}
use Rattle.window_model.specs.Decoder.{Task}
use Rattle.surface_model.specs.Schedules.{Schedule}
use Rattle.surface_model.specs.Measurements.{Detector, detectors, Observable, observables, parity_of}
use Rattle.surface_model.specs.Tags.{tag_of}
use Rattle.measure_map.specs.Placed.{before_slot, defects_at, raws_at}
use Rattle.window_model.specs.Speculation.{at_slot, detector_slots}
use Rattle.report_model.specs.Tasks.{HasTask, syndrome_of}

-- what stands after a front
behind : {X A : Type 0} (f : X → A) (d : A) (front : List X) (x : X) (xs : List X) →
    slice_index_or (map f (front ++ x ∷ xs)) (length front) d ≡ f x
behind f d [] x xs = refl
behind f d (y ∷ front) x xs = behind f d front x xs

behind_key : {X : Type 0} (key : X → ℕ) (front : List X) (x : X) (xs : List X) →
    slice_index (map key (front ++ x ∷ xs)) (length front) ≡ key x
behind_key key [] x xs = refl
behind_key key (y ∷ front) x xs = behind_key key front x xs

one_choice : {X A : Type 0} (one two : Bool) (value : X → A) (x : X) (xs : List X) (number : ℕ →
    A) (n : ℕ) (ns : List ℕ) → two ≡ one → number n ≡ value x → map value xs ≡ map number ns →
    map value (if one then x ∷ xs else xs) ≡ map number (if two then n ∷ ns else ns)
one_choice true true value x xs number n ns same here others = ap (λ a. a ∷ map value xs) (sym here)
    ∙ ap (λ l. number n ∷ l) others
one_choice false false value x xs number n ns same here others = others
one_choice true false value x xs number n ns same here others = absurd cc
one_choice false true value x xs number n ns same here others = absurd cc

chosen_behind : {X A : Type 0} (key : X → ℕ) (value : X → A) (d : A) (t : ℕ) (front xs : List X) →
    map value (filter (λ x. key x == t) xs)
    ≡ map (λ i. slice_index_or (map value (front ++ xs)) i d) (filter (λ i.
    slice_index (map key (front ++ xs)) i == t) (range_with_len (length front) (length xs)))
chosen_behind key value d t front [] = refl
chosen_behind key value d t front (x ∷ xs) =
    let all = front ++ x ∷ xs in
    let step : length (front ++ x ∷ []) ≡ length front + 1 = length-append front (x ∷ []) in
    one_choice (key x == t) (slice_index (map key all) (length front) == t) value x
    (filter (λ y. key y == t) xs) (λ i. slice_index_or (map value all) i d) (length front)
    (filter (λ i. slice_index (map key all) i == t) (range_with_len (length front + 1) (length xs)))
    (ap (λ k. k == t) (behind_key key front x xs)) (behind value d front x xs)
    (subst (λ n. map value (filter (λ y. key y == t) xs) ≡ map (λ i. slice_index_or (map value all)
    i d) (filter (λ i. slice_index (map key all) i == t) (range_with_len n (length xs)))) step
    (subst (λ l. map value (filter (λ y. key y == t) xs)
    ≡ map (λ i. slice_index_or (map value l) i d) (filter (λ i. slice_index (map key l) i == t)
    (range_with_len (length (front ++ x ∷ [])) (length xs))))
    (append_assoc front (x ∷ []) xs) (chosen_behind key value d t (front ++ x ∷ []) xs)))

pub chosen : {X A : Type 0} (key : X → ℕ) (value : X → A) (d : A) (t : ℕ) (xs : List X) →
    map value (filter (λ x. key x == t) xs) ≡ map (λ i. slice_index_or (map value xs) i d)
    (all_below (length (map key xs)) (λ i. slice_index (map key xs) i == t))
chosen key value d t xs =
    chosen_behind key value d t [] xs
    ∙ ap (λ n. map (λ i. slice_index_or (map value xs) i d) (filter (λ i. slice_index (map key xs) i
    == t) (range_with_len 0 n))) (sym (length-map xs key))

-- ---- the values of a slot's detectors and observables

pub detectors_chosen : (s : Schedule) (rows : List (List Bool)) (t : ℕ) (task : Task) → HasTask s
    task → defects_at s rows t ≡ map (syndrome_of s rows).value (at_slot (detector_slots task) t)
unfolding defects_at
detectors_chosen s rows t task is =
    subst (λ k. defects_at s rows t ≡ map (syndrome_of s rows).value (at_slot (detector_slots k) t))
    (sym is.1)
    (chosen (λ (d : Detector). d.slot) (λ (d : Detector). parity_of s rows d.bits) false t
    (detectors s)
    ∙ ap (λ slots. map (syndrome_of s rows).value (at_slot slots t))
    (sym (map-map (λ (tag : Tag). tag.slot) (tag_of s) (detectors s))))

pub observables_chosen : (s : Schedule) (rows : List (List Bool)) (t : ℕ) (task : Task) →
    HasTask s task → raws_at s rows t ≡ map (syndrome_of s rows).raw (at_slot task.raw_slots t)
unfolding raws_at
observables_chosen s rows t task is =
    subst (λ k. raws_at s rows t ≡ map (syndrome_of s rows).raw (at_slot k.raw_slots t)) (sym is.1)
    (chosen (λ (o : Observable). o.slot) (λ (o : Observable). parity_of s rows o.bits) false t
    (observables s))

-- ---- rows in which two follow each other at a slot

some_rows : (slot : ℕ) (before row : List Bool) →
    (slot ≡ 0 → before ≡ []) → (rows : List (List Bool)) × (before ≡ before_slot rows slot)
    × (row ≡ slice_index_or rows slot [])
some_rows zero before row none = (row ∷ [], none refl, refl)
some_rows (suc zero) before row none = (before ∷ row ∷ [], refl, refl)
some_rows (suc (suc n)) before row none =
    let k = some_rows (suc n) before row (λ e. absurd (omega (arith, e))) in ([] ∷ k.0, k.1, k.2)

-- so the values that a row gives are as many as the slot has detectors
pub values_long : (s : Schedule) (task : Task) (slot : ℕ) (before row values : List Bool) →
    HasTask s task → (slot ≡ 0 → before ≡ []) →
    ((rows : List (List Bool)) → before ≡ before_slot rows slot →
    row ≡ slice_index_or rows slot [] → values ≡ defects_at s rows slot) →
    length values ≡ length (at_slot (detector_slots task) slot)
values_long s task slot before row values is none given =
    let k = some_rows slot before row none in
    ap length (given k.0 k.1 k.2 ∙ detectors_chosen s k.0 slot task is)
    ∙ length-map (at_slot (detector_slots task) slot) (syndrome_of s k.0).value

pub raws_long : (s : Schedule) (task : Task) (slot : ℕ) (before row raws : List Bool) →
    HasTask s task → (slot ≡ 0 → before ≡ []) →
    ((rows : List (List Bool)) → before ≡ before_slot rows slot → row ≡ slice_index_or rows slot
    [] → raws ≡ raws_at s rows slot) → length raws ≡ length (at_slot task.raw_slots slot)
raws_long s task slot before row raws is none given =
    let k = some_rows slot before row none in
    ap length (given k.0 k.1 k.2 ∙ observables_chosen s k.0 slot task is)
    ∙ length-map (at_slot task.raw_slots slot) (syndrome_of s k.0).raw
