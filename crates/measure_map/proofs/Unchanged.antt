-- A slot in which nothing begins or ends has the line of the slot before.
use Rattle.std.proofs.Common.{◌≡◌, ◌<◌, ℕ, zero, suc, ◌==◌, Bool, true, false, cond, ◌&&◌, ◌||◌, refl, sym, ap, ◌∙◌, arith, List, [], ◌∷◌, ◌++◌, length, filter, map}
use Rattle.std.specs.Prelude.{is_some, Some, None, Option}
use Rattle.std.specs.List.{cons_option, filter_map, list_any}
use Rattle.std.proofs.lemmas.List.{length-map}
use Rattle.std.specs.Option.{option_map_or}
use Rattle.std.proofs.lemmas.Bool.{false≢true, true≢false}
use Rattle.surface_model.specs.Schedules.{MergeLine, ReadLine, Schedule}
use Rattle.surface_model.specs.Layout.{Place, board, is_check_at, region_of_patch, regions_at, split_slot}
use Rattle.surface_model.specs.Measurements.{Bit, Readout, Outcome, Detector, Measurement, bits_of_slot, detector_at, detector_bits, is_finished, is_prepared, is_read_at}
use Rattle.surface_model.specs.Accepted.{IsAccepted}
use Rattle.surface_laws.proofs.Acceptance.{sound}
use Rattle.patch_layout.specs.Regions.{seam_region}
use Rattle.timetable.specs.Times.{is_quiet}
use Rattle.timetable.proofs.Quiet.{IsStill, quiet_is, same_regions}
use Rattle.slot_bits.specs.Order.{has_bit, is_outcome_in, is_readout_in}
use Rattle.slot_bits.specs.Lines.{in_read, in_split, in_line, bits_before}
use Rattle.measure_map.proofs.Detecting.{finished_at}
use Rattle.slot_bits.proofs.Lines.{line_is, read_as, slot_has, slot_outcome, slot_rising}

none_and : {X : Type 0} (p q : X → Bool) (xs : List X) → list_any p xs ≡ false →
    list_any (λ x. p x && q x) xs ≡ false
none_and p q [] h = refl
none_and p q (x ∷ xs) h = by_test (p x) h (none_and p q xs)
  where
    by_test : (t : Bool) → t || list_any p xs ≡ false →
        (list_any p xs ≡ false → list_any (λ x. p x && q x) xs ≡ false) →
        (t && q x) || list_any (λ x. p x && q x) xs ≡ false
    by_test true h k = absurd (true≢false h)
    by_test false h k = k h

module _ (s : Schedule) (u : ℕ) (quiet : is_quiet s (suc u) ≡ true) where
  still : IsStill s u
  still = quiet_is s u quiet

  pub no_reads : (b : Bit) → list_any (in_read s (suc u) b) s.reads ≡ false
  no_reads b =
      none_and (λ (r : ReadLine). r.slot == suc u)
      (λ (r : ReadLine). is_readout_in (region_of_patch s r.patch) b) s.reads still.reads

  pub no_splits : (b : Bit) → list_any (in_split s (suc u) b) s.merges ≡ false
  no_splits b =
      none_and (λ (m : MergeLine). split_slot m == suc u)
      (λ (m : MergeLine). is_readout_in (seam_region s m) b) s.merges still.splits

  same_in : (b : Bit) → in_line s u b ≡ in_line s (suc u) b
  same_in b =
      ap (λ t. (t || list_any (in_split s u b) s.merges) || list_any (λ r. is_outcome_in r b)
      (regions_at s u))
      (none_and (λ (r : ReadLine). r.slot == u)
      (λ (r : ReadLine). is_readout_in (region_of_patch s r.patch) b) s.reads still.reads_before
      ∙ sym (no_reads b))
      ∙ ap (λ t. (list_any (in_read s (suc u) b) s.reads || t) || list_any (λ r. is_outcome_in r b)
      (regions_at s u))
      (none_and (λ (m : MergeLine). split_slot m == u)
      (λ (m : MergeLine). is_readout_in (seam_region s m) b) s.merges still.splits_before
      ∙ sym (no_splits b))
      ∙ ap (λ rs. (list_any (in_read s (suc u) b) s.reads
      || list_any (in_split s (suc u) b) s.merges) || list_any (λ r. is_outcome_in r b) rs)
      (same_regions s u still)

pub quiet_same : (s : Schedule) → IsAccepted s → (u : ℕ) → is_quiet s (suc u) ≡ true →
    bits_of_slot s u ≡ bits_of_slot s (suc u)
quiet_same s a u h =
    line_is s a (suc u) (bits_of_slot s u) (slot_rising s u) (λ b. slot_has s (sound s a) u b
    ∙ same_in s u h b)

-- by the line before
pub quiet_line : (s : Schedule) → IsAccepted s → (t : ℕ) → 0 < t → is_quiet s t ≡ true →
    bits_before s t ≡ bits_of_slot s t
quiet_line s a zero l q = absurd (omega (arith, l))
quiet_line s a (suc u) l q = quiet_same s a u q

-- ---- its bits are the outcomes of checks that go on

none_left : {X : Type 0} (p : X → Bool) (xs : List X) → ((x : X) → p x ≡ false) → filter p xs ≡ []
none_left p [] h = refl
none_left p (x ∷ xs) h = ap (λ t. cond t (x ∷ filter p xs) (filter p xs)) (h x) ∙ none_left p xs h

as_many : {X Y : Type 0} (f : X → Option Y) (p : X → Bool) (xs : List X) →
    ((x : X) → is_some (f x) ≡ p x) → length (filter_map f xs) ≡ length (filter p xs)
as_many f p [] h = refl
as_many {X = X} {Y = Y} f p (x ∷ xs) h = by_value (f x) (p x) (h x) (as_many f p xs h)
  where
    by_value : (o : Option Y) (b : Bool) → is_some o ≡ b →
        length (filter_map f xs) ≡ length (filter p xs) →
        length (cons_option o (filter_map f xs)) ≡ length (cond b (x ∷ filter p xs) (filter p xs))
    by_value (Some y) true e k = ap suc k
    by_value (Some y) false e k = absurd (true≢false e)
    by_value None true e k = absurd (false≢true e)
    by_value None false e k = k

module _ (s : Schedule) (a : IsAccepted s) (u : ℕ) (quiet : is_quiet s (suc u) ≡ true) where
  pub unread : (q : Place) → is_read_at s (suc u) q ≡ false
  unread q = read_as s (sound s a) (suc u) q
      ∙ ap (λ t. t || list_any (in_split s (suc u) (Readout q)) s.merges)
      (no_reads s u quiet (Readout q)) ∙ no_splits s u quiet (Readout q)

  goes_on : (c : Place) → is_check_at s u c ≡ is_check_at s (suc u) c
  goes_on c = sym (slot_outcome s (sound s a) u c)
      ∙ ap (λ bits. has_bit bits (Outcome c)) (quiet_same s a u quiet)
      ∙ slot_outcome s (sound s a) (suc u) c

  some_by : (x y d f : Bool) (going first last : List Measurement) → y ≡ x → (f ≡ true → y ≡ true) →
      is_some (cond (x && y) (Some going) (cond (x && d) (Some first) (cond f (Some last) None)))
      ≡ x
  some_by true true d f going first last e g = refl
  some_by true false d f going first last e g = absurd (false≢true e)
  some_by false true d f going first last e g = absurd (true≢false e)
  some_by false false d true going first last e g = absurd (false≢true (g refl))
  some_by false false d false going first last e g = refl

  pub has_bits : (c : Place) → is_some (detector_bits s (suc u) c) ≡ is_check_at s (suc u) c
  has_bits c =
      some_by (is_check_at s (suc u) c) (is_check_at s u c) (is_prepared s (suc u) c)
      (is_finished s (suc u) c) _ _ _ (goes_on c) (finished_at s a (suc u) c (suc u))

  has_detector : (c : Place) → is_some (detector_at s (suc u) c) ≡ is_check_at s (suc u) c
  has_detector c = kept (detector_bits s (suc u) c) ∙ has_bits c
    where
      kept : (o : Option (List Measurement)) →
          is_some (option_map_or {U = Option Detector}
          (λ bits. Some (record { slot = suc u; corner = c; bits = bits })) o None) ≡ is_some o
      kept (Some bits) = refl
      kept None = refl

  quiet_counted : length (bits_of_slot s (suc u))
      ≡ length (filter_map (detector_at s (suc u)) (board s))
  quiet_counted =
      let checked = filter (is_check_at s (suc u)) (board s) in
      ap (λ qs. length (map Readout qs ++ map Outcome checked))
      (none_left (is_read_at s (suc u)) (board s) unread) ∙ length-map checked Outcome
      ∙ sym (as_many (detector_at s (suc u)) (is_check_at s (suc u)) (board s) has_detector)

pub quiet_count : (s : Schedule) → IsAccepted s → (t : ℕ) → 0 < t → is_quiet s t ≡ true →
    length (bits_before s t) ≡ length (filter_map (detector_at s t) (board s))
quiet_count s a zero l q = absurd (omega (arith, l))
quiet_count s a (suc u) l q = ap length (quiet_same s a u q) ∙ quiet_counted s a u q
