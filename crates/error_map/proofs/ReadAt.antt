-- The keys of a schedule's readings, and the next readout by them.
use Rattle.std.proofs.Common.{◌≡◌, ℕ, ◌+◌, ◌<◌, ◌≤◌, ◌==◌, ◌&&◌, ⊎_elim, inl, Bool, true, false, cond, List, [], ◌∷◌, ◌++◌, refl, sym, ap, ◌∙◌, arith, eq-eqb, eqb-true, subst, map, flat_map, Contains, slice_get, Some}
use Rattle.std.specs.Prelude.{nat_lt, min}
use Rattle.std.specs.List.{list_any, range_with_len}
use Rattle.std.proofs.lemmas.Bool.{and_parts, cases_lt, lt-ltb, ltb-true}
use Rattle.std.proofs.lemmas.Bool.Decides.{nat_tests}
use Rattle.std.proofs.lemmas.Option.{slice_get_within, get_or_from_slice_get}
use Rattle.surface_model.specs.declared.Basis.{Basis}
use Rattle.surface_model.specs.declared.Basis.TheVariants.{Z, X}
use Rattle.surface_model.specs.Schedules.{same_basis, Schedule}
use Rattle.surface_model.specs.Layout.{Place, Region, area, has_qubit, is_among, last_slot, readings_at, region_of_patch, split_slot}
use Rattle.surface_model.specs.Measurements.{is_read_at}
use Rattle.surface_model.specs.Errors.{next_readout}
use Rattle.surface_model.specs.Accepted.{IsAccepted}
use Rattle.graph_model.specs.Members.{In}
use Rattle.graph_model.proofs.Elements.{any_in, in_any, in_append, append_left, append_right, in_map, map_in, in_flat_map, flat_map_in, place_in, contains_in, in_range, range_in}
use Rattle.surface_laws.proofs.Acceptance.{sound}
use Rattle.surface_laws.proofs.Regions.{Reading, of_patch, of_seam, reading_of, read_by, read_line, read_seam, same_tests}
use Rattle.surface_laws.proofs.Flips.{same_place_is}
use Rattle.patch_layout.specs.Regions.{seam_basis, seam_region}
use Rattle.slot_bits.proofs.Lines.{seam_same}
use Rattle.error_map.specs.declared.types.Wanted.{Wanted}
use Rattle.error_map.specs.declared.types.Wanted.TheVariants.{Every, One}
use Rattle.error_map.specs.Keys.{AreDistinct, AreKeys, IsNextKey, key_of, region_keys}
use Rattle.error_map.specs.Readings.{AreOf, AreReadings, ReadKeys, is_wanted, pick, read_keys, split_keys, wanted_keys}
use Rattle.error_map.specs.declared.keys.Key.{Key}
use Rattle.error_map.proofs.Nearest.{first_is, read_by_last, split_by_last}
use Rattle.error_map.proofs.Seeing.{in_contains}

-- ---- the places of a region

among : (low count n : ℕ) → is_among low (low + count) n ≡ true → (low ≤ n) × (n < low + count)
among low count n h = (grind (arith, nat_tests), grind (arith, nat_tests))

is_within : (low count n : ℕ) → low ≤ n → n < low + count → is_among low (low + count) n ≡ true
is_within low count n l h = grind (arith, nat_tests)

pub area_in : (r : Region) (q : Place) → has_qubit r q ≡ true →
    In q (area r.row r.column r.height r.width)
area_in r q h =
    let k = and_parts (is_among r.row (r.row + r.height) q.row) _ h in
    let a = among r.row r.height q.row k.0 in let b = among r.column r.width q.column k.1 in
    flat_map_in (λ i. map (λ j. record { row = i; column = j }) (range_with_len r.column r.width))
    (range_with_len r.row r.height) q.row q (range_in r.row r.height q.row a.0 a.1)
    (map_in (λ j. record { row = q.row; column = j }) (range_with_len r.column r.width) q.column
    (range_in r.column r.width q.column b.0 b.1))

pub in_area : (r : Region) (q : Place) → In q (area r.row r.column r.height r.width) →
    has_qubit r q ≡ true
in_area r q m =
    let i = in_flat_map
    (λ i. map (λ j. record { row = i; column = j }) (range_with_len r.column r.width))
    (range_with_len r.row r.height) q m in
    let j = in_map (λ j. record { row = i.0; column = j }) (range_with_len r.column r.width) q
    i.2 in
    let a = in_range r.row r.height i.0 i.1 in let b = in_range r.column r.width j.0 j.1 in
    subst (λ p. has_qubit r p ≡ true) j.2
    (both (is_within r.row r.height i.0 a.0 a.1) (is_within r.column r.width j.0 b.0 b.1))
  where
    both : {x y : Bool} → x ≡ true → y ≡ true → (x && y) ≡ true
    both {x} {y} e f = ap (λ b. b && y) e ∙ f

pub in_region : (n : ℕ) (r : Region) (key : Key) → In key (region_keys n r) →
    (q : Place) × (has_qubit r q ≡ true) × (key ≡ key_of n q)
in_region n r key m = let k = in_map (key_of n) (area r.row r.column r.height r.width) key m in
    (k.0, in_area r k.0 k.1, sym k.2)

pub region_in : (n : ℕ) (r : Region) (q : Place) → has_qubit r q ≡ true →
    In (key_of n q) (region_keys n r)
region_in n r q h = map_in (key_of n) (area r.row r.column r.height r.width) q (area_in r q h)

pub key_parts : (n m : ℕ) (p q : Place) → key_of n p ≡ key_of m q → (n ≡ m) × (p ≡ q)
key_parts n m p q e =
    let r : p.row ≡ q.row = ap (λ (k : Key). k.row) e in
    let c : p.column ≡ q.column = ap (λ (k : Key). k.col) e in
    (ap (λ (k : Key). k.number) e, λ i. record { row = r i; column = c i })

-- of those that are asked for
in_wanted : (wanted : Wanted) (n : ℕ) (r : Region) (key : Key) → In key (wanted_keys wanted n r) →
    (q : Place) × (has_qubit r q ≡ true) × (key ≡ key_of n q)
in_wanted Every n r key m = in_region n r key m
in_wanted (One p) n r key m = by_test (has_qubit r p) refl m
  where
    by_test : (b : Bool) → has_qubit r p ≡ b → In key (cond b (key_of n p ∷ []) []) →
        (q : Place) × (has_qubit r q ≡ true) × (key ≡ key_of n q)
    by_test true e m = (p, e, ⊎_elim (λ f. sym f) (λ f. absurd f) m)
    by_test false e m = absurd m

wanted_in : (wanted : Wanted) (n : ℕ) (r : Region) (q : Place) → is_wanted wanted q ≡ true →
    has_qubit r q ≡ true → In (key_of n q) (wanted_keys wanted n r)
wanted_in Every n r q w h = region_in n r q h
wanted_in (One p) n r q w h =
    let e : p ≡ q = same_place_is p q w in
    subst (λ b. In (key_of n q) (cond b (key_of n p ∷ []) [])) (sym (ap (has_qubit r) e ∙ h))
    (inl (ap (key_of n) e))

-- ---- the keys of all lines that read in a basis

module _ (s : Schedule) (a : IsAccepted s) (wanted : Wanted) (basis : Basis) where
  abbrev all_keys : List Key
  all_keys = flat_map (read_keys s wanted basis) s.reads ++ flat_map (split_keys s wanted basis)
      s.merges

  when : (b : Bool) (keys : List Key) (key : Key) → In key (cond b keys []) →
      (b ≡ true) × In key keys
  when true keys key m = (refl, m)
  when false keys key m = absurd m

  given : (b : Bool) (keys : List Key) (key : Key) → b ≡ true → In key keys →
      In key (cond b keys [])
  given b keys key e m = subst (λ c. In key (cond c keys [])) (sym e) m

  -- each key is of a reading
  of_reading : (key : Key) → In key all_keys → (t : ℕ) × (q : Place) × (key ≡ key_of t q)
      × (list_any (same_basis basis) (readings_at s t q) ≡ true)
  of_reading key m =
      ⊎_elim by_read by_split (in_append (flat_map (read_keys s wanted basis) s.reads)
      (flat_map (split_keys s wanted basis) s.merges) key m)
    where
      by_read : In key (flat_map (read_keys s wanted basis) s.reads) →
          (t : ℕ) × (q : Place) × (key ≡ key_of t q)
          × (list_any (same_basis basis) (readings_at s t q) ≡ true)
      by_read m =
          let line = in_flat_map (read_keys s wanted basis) s.reads key m in
          let w = when (same_basis basis line.0.basis)
          (wanted_keys wanted line.0.slot (region_of_patch s line.0.patch)) key line.2 in
          let q = in_wanted wanted line.0.slot (region_of_patch s line.0.patch) key w.1 in (
            line.0.slot,
            q.0,
            q.2,
            in_any (same_basis basis) (readings_at s line.0.slot q.0) line.0.basis
                (read_line s line.0.slot q.0 line.0 line.1 refl q.1) w.0,
          )

      by_split : In key (flat_map (split_keys s wanted basis) s.merges) →
          (t : ℕ) × (q : Place) × (key ≡ key_of t q)
          × (list_any (same_basis basis) (readings_at s t q) ≡ true)
      by_split m =
          let n = in_flat_map (split_keys s wanted basis) s.merges key m in
          let w = when (same_basis basis (seam_basis s n.0))
          (wanted_keys wanted (split_slot n.0) (seam_region s n.0)) key n.2 in
          let q = in_wanted wanted (split_slot n.0) (seam_region s n.0) key w.1 in (
            split_slot n.0,
            q.0,
            q.2,
            in_any (same_basis basis) (readings_at s (split_slot n.0) q.0)
                (seam_basis s n.0) (read_seam s (split_slot n.0) q.0 n.0 n.1 refl
                (seam_same s (sound s a) n.0 n.1 q.0 ∙ q.1)) w.0,
          )

  -- each reading has a key
  reading_in : (t : ℕ) (q : Place) → is_wanted wanted q ≡ true →
      list_any (same_basis basis) (readings_at s t q) ≡ true → In (key_of t q) all_keys
  reading_in t q w h =
      let b = any_in (same_basis basis) (readings_at s t q) h in
      by_reading b.0 b.2 (reading_of s t q b.0 b.1)
    where
      by_reading : (b : Basis) → same_basis basis b ≡ true → Reading s t q b →
          In (key_of t q) all_keys
      by_reading b e (of_patch line m f g k) =
          append_left _ (flat_map (split_keys s wanted basis) s.merges) (key_of t q)
          (flat_map_in (read_keys s wanted basis) s.reads line (key_of t q) m
          (given (same_basis basis line.basis)
          (wanted_keys wanted line.slot (region_of_patch s line.patch)) (key_of t q)
          (ap (same_basis basis) k ∙ e)
          (subst (λ n. In (key_of n q)
          (wanted_keys wanted line.slot (region_of_patch s line.patch))) f
          (wanted_in wanted line.slot (region_of_patch s line.patch) q w g))))
      by_reading b e (of_seam n m f g k) =
          append_right (flat_map (read_keys s wanted basis) s.reads) _ (key_of t q)
          (flat_map_in (split_keys s wanted basis) s.merges n (key_of t q) m
          (given (same_basis basis (seam_basis s n))
          (wanted_keys wanted (split_slot n) (seam_region s n)) (key_of t q)
          (ap (same_basis basis) k ∙ e)
          (subst (λ i. In (key_of i q) (wanted_keys wanted (split_slot n) (seam_region s n))) f
          (wanted_in wanted (split_slot n) (seam_region s n) q w
          (sym (seam_same s (sound s a) n m q) ∙ g)))))

  pub are_readings : (keys distinct : List Key) → keys ≡ all_keys → AreDistinct keys distinct →
      AreReadings s wanted basis distinct
  are_readings keys distinct e d = record {
    complete = λ t q w h. d.complete (key_of t q)
        (contains_in keys (key_of t q) (subst (In (key_of t q)) (sym e) (reading_in t q w h)));
    sound = λ t q m. let r =
        of_reading (key_of t q)
        (subst (In (key_of t q)) e (in_contains keys (key_of t q) (d.inhabited (key_of t q) m))) in
        let k = key_parts t r.0 q r.1 r.2 in
        subst (λ n. list_any (same_basis basis) (readings_at s n q) ≡ true) (sym k.0)
        (subst (λ p. list_any (same_basis basis) (readings_at s r.0 p) ≡ true) (sym k.1) r.3);
  }

  pub are_keys : (keys distinct : List Key) → keys ≡ all_keys → AreDistinct keys distinct →
      AreKeys distinct
  are_keys keys distinct e d = record {
    rising = d.rising;
  }

-- ---- the next readout is the first of the two bases'

module _ (s : Schedule) (a : IsAccepted s) (wanted : Wanted) (r : ReadKeys) (of : AreOf s wanted r)
    (t : ℕ) (q : Place) (asked : is_wanted wanted q ≡ true) (low : t ≤ last_slot s) where
  read_low : (m : ℕ) (b : Basis) → In b (readings_at s m q) → m ≤ last_slot s
  read_low m b i = by_reading b (reading_of s m q b i)
    where
      by_reading : (b : Basis) → Reading s m q b → m ≤ last_slot s
      by_reading b (of_patch line i e g k) = omega (arith, e, read_by_last s line i)
      by_reading b (of_seam n i e g k) = omega (arith, e, split_by_last s (sound s a) n i)

  any_low : (m : ℕ) (basis : Basis) → list_any (same_basis basis) (readings_at s m q) ≡ true →
      (m ≤ last_slot s) × (is_read_at s m q ≡ true)
  any_low m basis h = let b = any_in (same_basis basis) (readings_at s m q) h in
      (read_low m b.0 b.1, read_by s m q b.0 b.1)

  module _ (basis : Basis) (keys : List Key) (known : AreReadings s wanted basis keys) (n : ℕ)
      (next : IsNextKey keys t q r.end n) where
    later : t < n
    later = ⊎_elim (λ e. omega (arith, e, of.end, low)) (λ h. h.0) next.found

    bound : n ≤ last_slot s + 1
    bound = ⊎_elim (λ e. omega (arith, e, of.end))
        (λ h. let k = (any_low n basis (known.sound n q h.1)).0 in omega (arith, k)) next.found

    read : n < r.end → list_any (same_basis basis) (readings_at s n q) ≡ true
    read l = ⊎_elim (λ e. absurd (omega (arith, e, l))) (λ h. known.sound n q h.1) next.found

    first : (m : ℕ) → t < m → list_any (same_basis basis) (readings_at s m q) ≡ true → n ≤ m
    first m l h = next.least m l (known.complete m q asked h)

  module _ (z x : ℕ) (zn : IsNextKey r.z t q r.end z) (xn : IsNextKey r.x t q r.end x) where
    is_low : min z x ≤ last_slot s → min z x < r.end
    is_low l = omega (arith, l, of.end)

    least : (m : ℕ) → t < m → (basis : Basis) → list_any (same_basis basis) (readings_at s m q)
        ≡ true → min z x ≤ m
    least m l Z h = let k = first Z r.z of.z z zn m l h in omega (arith, k)
    least m l X h = let k = first X r.x of.x x xn m l h in omega (arith, k)

    same_self : (b : Basis) → same_basis b b ≡ true
    same_self Z = refl
    same_self X = refl

    pub next_is_min : min z x ≡ next_readout s t q
    next_is_min = first_is s t q low (min z x) (let k = later Z r.z of.z z zn in
        let l = later X r.x of.x x xn in omega (arith, k, l))
        (let k = bound Z r.z of.z z zn in omega (arith, k)) reads
        (λ m l h g. let b = any_in (λ b. true) (readings_at s m q) g in
        let k = least m l b.0 (in_any (same_basis b.0) (readings_at s m q) b.0 b.1
        (same_self b.0)) in omega (arith, k, h))
      where
        reads : min z x ≤ last_slot s → is_read_at s (min z x) q ≡ true
        reads l = ⊎_elim
            (λ (k : z < x). let e : z ≡ min z x = omega (arith, k) in
            subst (λ n. is_read_at s n q ≡ true) e
            (any_low z Z (read Z r.z of.z z zn (omega (arith, e, is_low l)))).1)
            (λ (k : x ≤ z). let e : x ≡ min z x = omega (arith, k) in
            subst (λ n. is_read_at s n q ≡ true) e
            (any_low x X (read X r.x of.x x xn (omega (arith, e, is_low l)))).1) (cases_lt z x)

    shown : (basis : Basis) (keys : List Key) (known : AreReadings s wanted basis keys) (n : ℕ)
        (next : IsNextKey keys t q r.end n) → min z x ≤ n →
        (n == min z x && nat_lt (min z x) r.end)
        ≡ list_any (same_basis basis) (readings_at s (min z x) q)
    shown basis keys known n next above = same_tests _ _
        (λ h. let k = and_parts (n == min z x) _ h in let e = eqb-true n (min z x) k.0 in
        let l = ltb-true (min z x) r.end k.1 in
        subst (λ m. list_any (same_basis basis) (readings_at s m q) ≡ true) e
        (read basis keys known n next (omega (arith, e, l))))
        (λ h. let l = (any_low (min z x) basis h).0 in
        let m : t < min z x = (let k = later Z r.z of.z z zn in let l = later X r.x of.x x xn in
        omega (arith, k, l)) in
        let f = first basis keys known n next (min z x) m h in
        both (eq-eqb n (min z x) (omega (arith, f, above))) (lt-ltb (min z x) r.end (is_low l)))
      where
        both : {x y : Bool} → x ≡ true → y ≡ true → (x && y) ≡ true
        both {x} {y} e f = ap (λ b. b && y) e ∙ f

    pub shown_is : (basis : Basis) → (pick basis z x == min z x && nat_lt (min z x) r.end)
        ≡ list_any (same_basis basis) (readings_at s (min z x) q)
    shown_is Z = shown Z r.z of.z z zn (omega arith)
    shown_is X = shown X r.x of.x x xn (omega arith)
