-- The bits that a mechanism changes, line by line.
use Rattle.std.proofs.Common.{◌≡◌, ℕ, zero, suc, ◌+◌, ◌<◌, ◌≤◌, ◌-◌, ◌==◌, ◌&&◌, ◌⊎◌, inl, inr, Bool, false, cond, refl, sym, ap, ◌∙◌, arith, length, Option, Some, None, List, [], ◌∷◌, ◌++◌, map, flat_map, slice_get}
use Rattle.std.specs.Prelude.{min, nat_le, nat_lt, position}
use Rattle.std.specs.List.{cons_option, filter_map, range_with_len}
use Rattle.std.proofs.lemmas.Bool.{cases_lt}
use Rattle.std.proofs.lemmas.Bool.Decides.{nat_tests}
use Rattle.std.specs.Option.{option_map_or}
use Rattle.std.proofs.lemmas.List.{append-nil}
use Rattle.graph_model.proofs.Members.{filter_same}
use Rattle.surface_model.specs.declared.Basis.{Basis}
use Rattle.surface_model.specs.declared.Basis.TheVariants.{Z, X}
use Rattle.surface_model.specs.Schedules.{same_basis, Schedule}
use Rattle.surface_model.specs.Layout.{Place, kind, covers, last_slot}
use Rattle.surface_model.specs.Measurements as measurements
use Rattle.surface_model.specs.Measurements.{bits_of_slot, is_read_at}
use Rattle.surface_model.specs.Errors.{ErrorClass, ReadoutError, SpaceX, SpaceZ, OutcomeError, Mechanism, flips_bit, is_outcome_of, is_readout_of, next_readout}
use Rattle.surface_model.specs.Accepted.{IsAccepted}
use Rattle.graph_model.proofs.Elements.{in_at}
use Rattle.surface_laws.proofs.Acceptance.{sound}
use Rattle.surface_laws.proofs.Ends.{IsMechanism}
use Rattle.surface_laws.proofs.Flips.{next_is}
use Rattle.error_map.specs.Changes.{changes_place, changed_at, changed_bits}
use Rattle.error_map.specs.declared.types.Effect.{Effect}
use Rattle.error_map.specs.Seen.{error_in, next_in, shown_in}
use Rattle.error_map.specs.Sees.{IsEffect, IsShown, bits_near, changed_among, changed_place, class_sees, sees, sees_place, space_sees}
use Rattle.error_map.proofs.Round.{near_places}
use Rattle.error_map.proofs.Seeing.{sees_is}
use Rattle.graph_model.proofs.Ranges.{flat_map_next}

-- a line's changes are those of the bits round the mechanism's place
pub line_changes : (s : Schedule) → IsAccepted s → (f : Effect) → IsMechanism s (error_in f) →
    IsEffect s f → (t : ℕ) → changed_among f t (bits_of_slot s t) (bits_near (error_in f).place)
    ≡ changed_at s (error_in f) t
line_changes s a f i shown t =
    ap (map (λ k. (t, k))) (near_places s f t
    ∙ filter_same (sees_place f t (bits_of_slot s t)) (changes_place s (error_in f) t)
    (range_with_len 0 (length (bits_of_slot s t)))
    (λ k m. at_place k (slice_get (bits_of_slot s t) k) refl))
  where
    at_place : (k : ℕ) (o : Option measurements.Bit) → slice_get (bits_of_slot s t) k ≡ o →
        option_map_or (λ bit. sees f t bit) o false
        ≡ option_map_or (λ bit. flips_bit s (error_in f) (record { slot = t; bit = bit })) o false
    at_place k (Some bit) g =
        sees_is s (sound s a) f i shown t bit (in_at (bits_of_slot s t) k bit g)
    at_place k None g = refl

-- one more slot
pub changed_more : (s : Schedule) (e : Mechanism) (t : ℕ) (old new line : List (ℕ × ℕ)) →
    old ≡ flat_map (changed_at s e) (range_with_len 0 t) → line ≡ changed_at s e t →
    new ≡ old ++ line → new ≡ flat_map (changed_at s e) (range_with_len 0 (t + 1))
changed_more s e t old new line h l k =
    k ∙ ap (λ xs. xs ++ line) h ∙ ap (λ xs. flat_map (changed_at s e) (range_with_len 0 t) ++ xs) l
    ∙ sym (flat_map_next (changed_at s e) t)

-- ---- no bit changes before the mechanism's slot, nor past its last

none_in : {Y : Type 0} (f : ℕ → List Y) (a n : ℕ) → ((u : ℕ) → a ≤ u → u < a + n → f u ≡ []) →
    flat_map f (range_with_len a n) ≡ []
none_in f a zero h = refl
none_in f a (suc n) h =
    ap (λ ys. ys ++ flat_map f (range_with_len (a + 1) n)) (h a (omega arith) (omega arith))
    ∙ none_in f (a + 1) n (λ u l m. h u (omega (arith, l)) (omega (arith, m)))

none_past : {Y : Type 0} (f : ℕ → List Y) (n k : ℕ) → ((u : ℕ) → n ≤ u → f u ≡ []) →
    flat_map f (range_with_len 0 (n + k)) ≡ flat_map f (range_with_len 0 n)
none_past f n zero h = let e : n + 0 ≡ n = omega arith in
    ap (λ j. flat_map f (range_with_len 0 j)) e
none_past f n (suc k) h =
    let e : n + suc k ≡ n + k + 1 = omega arith in
    ap (λ j. flat_map f (range_with_len 0 j)) e ∙ flat_map_next f (n + k)
    ∙ ap (λ ys. flat_map f (range_with_len 0 (n + k)) ++ ys) (h (n + k) (omega arith))
    ∙ append-nil (flat_map f (range_with_len 0 (n + k))) ∙ none_past f n k h

none_changed : (f : Effect) (u : ℕ) (line bits : List measurements.Bit) →
    ((bit : measurements.Bit) → sees f u bit ≡ false) →
    filter_map (changed_place f u line) bits ≡ []
none_changed f u line [] h = refl
none_changed f u line (bit ∷ bits) h =
    ap (λ b. cons_option (cond b (position (measurements.same_bit bit) line) None)
    (filter_map (changed_place f u line) bits)) (h bit) ∙ none_changed f u line bits h

not_after : (t n u : ℕ) (a b : Bool) → t ≤ n → (u < t) ⊎ (n < u) →
    (((nat_le t u && nat_lt u n) && a) && b) ≡ false
not_after t n u a b l (inl h) = grind (arith, nat_tests)
not_after t n u a b l (inr h) = grind (arith, nat_tests)

not_next : (t n u : ℕ) (a b : Bool) → t ≤ n → (u < t) ⊎ (n < u) → ((a && u == n) && b) ≡ false
not_next t n u a b l (inl h) = grind (arith, nat_tests)
not_next t n u a b l (inr h) = grind (arith, nat_tests)

not_here : (t n u : ℕ) (b : Bool) → n ≡ t → (u < t) ⊎ (n < u) → (u == t && b) ≡ false
not_here t n u b e (inl h) = grind (arith, nat_tests)
not_here t n u b e (inr h) = grind (arith, nat_tests)

module _ (s : Schedule) (a : IsAccepted s) (f : Effect) (i : IsMechanism s (error_in f))
    (shown : IsEffect s f) where
  space_far : (basis : Basis) (t : ℕ) (q : Place) (n : ℕ) (b : Bool) → t ≤ n → (u : ℕ) →
      (u < t) ⊎ (n < u) → (bit : measurements.Bit) → space_sees basis t q n b u bit ≡ false
  space_far basis t q n b l u h (measurements.Readout p) =
      not_next t n u (measurements.same_place p q) b l h
  space_far basis t q n b l u h (measurements.Outcome c) =
      not_after t n u (same_basis (kind c) basis) (covers c q) l h

  -- a space error's next readout is past its slot
  later : (n : ℕ) → n ≡ next_readout s (error_in f).slot (error_in f).place → (error_in f).slot ≤ n
  later n e = let k = (next_is s (error_in f).slot (error_in f).place i.last).later in
      omega (arith, k, e)

  class_far : (class : ErrorClass) →
      IsShown s class (error_in f).slot (error_in f).place (next_in f) (shown_in f) → (u : ℕ) →
      (u < (error_in f).slot) ⊎ ((next_in f) < u) → (bit : measurements.Bit) →
      class_sees class (error_in f).slot (error_in f).place (next_in f) (shown_in f) u bit ≡ false
  class_far ReadoutError k u h bit =
      not_here (error_in f).slot (next_in f) u (is_readout_of (error_in f).place bit) k h
  class_far SpaceX k u h bit =
      space_far Z (error_in f).slot (error_in f).place (next_in f) (shown_in f)
      (later (next_in f) k.0) u h bit
  class_far SpaceZ k u h bit =
      space_far X (error_in f).slot (error_in f).place (next_in f) (shown_in f)
      (later (next_in f) k.0) u h bit
  class_far OutcomeError k u h bit =
      not_here (error_in f).slot (next_in f) u (is_outcome_of (error_in f).place bit) k h

  no_changes : (u : ℕ) → (u < (error_in f).slot) ⊎ ((next_in f) < u) →
      changed_at s (error_in f) u ≡ []
  no_changes u h =
      sym (line_changes s a f i shown u)
      ∙ ap (map (λ k. (u, k))) (none_changed f u (bits_of_slot s u) (bits_near (error_in f).place)
      (λ bit. class_far (error_in f).class shown u h bit))

  pub none_before : [] ≡ flat_map (changed_at s (error_in f)) (range_with_len 0 (error_in f).slot)
  none_before =
      sym (none_in (changed_at s (error_in f)) 0 (error_in f).slot
      (λ u l m. no_changes u (inl (omega (arith, m)))))

  -- its last slot is not before its own
  pub own_first : (error_in f).slot ≤ (next_in f)
  own_first = by_class (error_in f).class shown
    where
      by_class : (class : ErrorClass) →
          IsShown s class (error_in f).slot (error_in f).place (next_in f) (shown_in f) →
          (error_in f).slot ≤ (next_in f)
      by_class ReadoutError k = omega (arith, k)
      by_class SpaceX k = later (next_in f) k.0
      by_class SpaceZ k = later (next_in f) k.0
      by_class OutcomeError k = omega (arith, k)

  -- so those of the slots up to its last are all
  pub changed_all : (n : ℕ) → n ≡ min (last_slot s) (next_in f) + 1 →
      flat_map (changed_at s (error_in f)) (range_with_len 0 n) ≡ changed_bits s (error_in f)
  unfolding changed_bits
  changed_all n g =
      let split : last_slot s + 1 ≡ n + (last_slot s + 1 - n) = omega (arith, g) in
      sym (ap (λ j. flat_map (changed_at s (error_in f)) (range_with_len 0 j)) split
      ∙ past (cases_lt (next_in f) (last_slot s)))
    where
      past : ((next_in f) < last_slot s) ⊎ (last_slot s ≤ (next_in f)) →
          flat_map (changed_at s (error_in f)) (range_with_len 0 (n + (last_slot s + 1 - n)))
          ≡ flat_map (changed_at s (error_in f)) (range_with_len 0 n)
      past (inl k) =
          none_past (changed_at s (error_in f)) n (last_slot s + 1 - n)
          (λ u b. no_changes u (inr (omega (arith, g, k, b))))
      past (inr k) = let same : n + (last_slot s + 1 - n) ≡ n = omega (arith, g, k) in
          ap (λ j. flat_map (changed_at s (error_in f)) (range_with_len 0 j)) same
