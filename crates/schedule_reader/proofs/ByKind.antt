-- Lines by their kinds, and what a line without fault has.
use Rattle.std.proofs.Common.{◌≡◌, ℕ, ◌<◌, ◌≤◌, Bool, true, false, not, ◌&&◌, ◌||◌, leb, List, [], ◌∷◌, length, drop, refl, ap, sym, ◌∙◌, arith, bytes_eq, codes, slice_index_or, Option, Some, None, unwrap_or}
use Rattle.std.specs.Prelude.{if◌then◌else◌, ◌==◌}
use Rattle.std.proofs.lemmas.Slice.Eq.{bytes_eq-Decides}
use Rattle.std.proofs.lemmas.Bool.{eqb-true}
use Rattle.std.proofs.lemmas.Bool.Decides.{nat_tests}
use Rattle.surface_model.specs.declared.FieldKind.{FieldKind}
use Rattle.surface_model.specs.declared.FieldKind.TheVariants.{ANumber}
use Rattle.surface_model.specs.Text.{TextLine, BadLine, BadNumber, UnknownName, Repeated, BadDistance, TooMany, shape_of, begins, has_shape, all_fields, is_in_place, is_bad_distance, is_number, is_between, number_of, is_in_range}
use Rattle.schedule_reader.specs.declared.line.LineKind.{LineKind}
use Rattle.schedule_reader.specs.declared.line.LineKind.TheVariants.{Swiper, Distance, Weights, Patch, Init, Merge, Read, Cond, Rounds}
use Rattle.schedule_reader.specs.declared.known.Place.{Place}
use Rattle.schedule_reader.specs.declared.known.Place.TheVariants.{Version, Distance as AtDistance, Weights as AtWeights, Body}
use Rattle.schedule_reader.specs.declared.known.Check.TheVariants.{Form, Range, Name, New}
use Rattle.schedule_reader.specs.Lines.{word_of, kind_of, line_of}
use Rattle.schedule_reader.specs.Known.{Tables, rank_of, test_of, fault_after_first, fault_in, is_fit, is_repeated_in, is_too_many_in}
use Rattle.schedule_reader.proofs.Numbers.{and_left, and_right}
use Rattle.schedule_reader.proofs.Typed.{typed_at}

pub same_word : (w v : List ℕ) → bytes_eq w v ≡ true → w ≡ v
same_word w v h = (bytes_eq-Decides w v).0 h

by_word : (w v : List ℕ) (x k : LineKind) (y : Option LineKind) → word_of x ≡ v →
    (if bytes_eq w v then Some x else y) ≡ Some k → (y ≡ Some k → w ≡ word_of k) → w ≡ word_of k
by_word w v x k y e h rest = by (bytes_eq w v) refl h
  where
    by : (b : Bool) → bytes_eq w v ≡ b → (if b then Some x else y) ≡ Some k → w ≡ word_of k
    by true q h = same_word w v q ∙ sym e ∙ ap word_of (cc)
    by false q h = rest h

pub kind_word : (w : List ℕ) (k : LineKind) → kind_of w ≡ Some k → w ≡ word_of k
kind_word w k h =
    by_word w (codes "swiper") Swiper k _ refl h
    (λ h. by_word w (codes "distance") Distance k _ refl h
    (λ h. by_word w (codes "weights") Weights k _ refl h
    (λ h. by_word w (codes "patch") Patch k _ refl h
    (λ h. by_word w (codes "init") Init k _ refl h
    (λ h. by_word w (codes "merge") Merge k _ refl h
    (λ h. by_word w (codes "read") Read k _ refl h
    (λ h. by_word w (codes "cond") Cond k _ refl h
    (λ h. by_word w (codes "rounds") Rounds k None refl h (λ h. absurd (cc))))))))))

pub known_kind : (fs : List (List ℕ)) (k : LineKind) (n : ℕ) (rest : List (List ℕ)) →
    rest ≡ drop 1 fs → kind_of (slice_index_or fs 0 []) ≡ Some k
    → line_of k n rest ≡ record { number = n; fields = fs }
known_kind [] k n rest e h = absurd (cc)
known_kind (f ∷ fs) k n rest e h = ap (λ r. line_of k n r) e
    ∙ ap (λ w. record { number = n; fields = w ∷ fs }) (sym (kind_word f k h))

-- ---- what a line without fault has

pub none_if : {X : Type 0} (b : Bool) (x : X) (y : Option X) → (if b then Some x else y) ≡ None →
    (b ≡ false) × (y ≡ None)
none_if true x y h = absurd (cc)
none_if false x y h = (refl, h)

pub not_not : (b : Bool) → not b ≡ false → b ≡ true
not_not true h = refl
not_not false h = absurd (cc)

pub or_left : (a b : Bool) → (a || b) ≡ false → a ≡ false
or_left true b h = h
or_left false b h = refl

pub or_right : (a b : Bool) → (a || b) ≡ false → b ≡ false
or_right true b h = absurd (cc)
or_right false b h = h

pub record IsClean (t : Tables) (l : TextLine) : Type 0 where
  pub shape : has_shape l ≡ true
  pub form : all_fields (test_of t Form) l ≡ true
  pub range : all_fields (test_of t Range) l ≡ true
  pub known : all_fields (test_of t Name) l ≡ true
  pub fresh : is_repeated_in t l ≡ false
  pub few : is_too_many_in t l ≡ false

pub clean : (t : Tables) (l : TextLine) → fault_after_first t l ≡ None → IsClean t l
clean t l h =
    let a = none_if (not (has_shape l && all_fields (test_of t Form) l)) BadLine _ h in
    let b = none_if (not (all_fields (test_of t Range) l)) BadNumber _ a.1 in
    let c = none_if (not (all_fields (test_of t Name) l)) UnknownName _ b.1 in
    let d = none_if (not (all_fields (test_of t New) l) || is_repeated_in t l) Repeated _ c.1 in
    let e = none_if (is_bad_distance l) BadDistance _ d.1 in
    let f = none_if (is_too_many_in t l) TooMany None e.1 in
    let s = not_not (has_shape l && all_fields (test_of t Form) l) a.0 in
    record {
      shape = and_left (has_shape l) (all_fields (test_of t Form) l) s;
      form = and_right (has_shape l) (all_fields (test_of t Form) l) s;
      range = not_not (all_fields (test_of t Range) l) b.0;
      known = not_not (all_fields (test_of t Name) l) c.0;
      fresh = or_right (not (all_fields (test_of t New) l)) (is_repeated_in t l) d.0;
      few = f.0;
    }

abbrev kinds_of : LineKind → List FieldKind
kinds_of k = unwrap_or (shape_of (word_of k)) []

-- a number in its range is a number
numbered : (low high : ℕ) (f : List ℕ) → is_in_range (ANumber low high) f ≡ true →
    is_number f ≡ true
numbered low high f h = and_left (is_number f) (is_between low high (number_of f)) h

room : (n m : ℕ) (b : Bool) → (leb n m || b) ≡ false → m < n
room n m b h = let k = or_left (leb n m) b h in grind (arith, nat_tests)

fit_after_first : (t : Tables) (k : LineKind) (n : ℕ) (fs : List (List ℕ)) →
    IsClean t (line_of k n fs) → is_fit t k fs
fit_after_first t Swiper n fs c = tt
fit_after_first t Distance n fs c =
    let l : length fs ≡ 1 = omega (arith, eqb-true (length (word_of Distance ∷ fs)) 2 c.shape) in
    numbered 0 999999999 (slice_index_or fs 0 []) (typed_at (test_of t Range) (kinds_of Distance) fs
    0 (omega arith) c.range)
fit_after_first t Weights n fs c =
    let l : length fs ≡ 2 = omega (arith, eqb-true (length (word_of Weights ∷ fs)) 3 c.shape) in (
      numbered 1 1000 (slice_index_or fs 0 []) (typed_at (test_of t Range) (kinds_of Weights) fs 0
          (omega arith) c.range),
      numbered 1 1000 (slice_index_or fs 1 []) (typed_at (test_of t Range) (kinds_of Weights) fs 1
          (omega arith) c.range),
    )
fit_after_first t Patch n fs c =
    let l : length fs ≡ 3 = omega (arith, eqb-true (length (word_of Patch ∷ fs)) 4 c.shape) in (
      typed_at (test_of t Form) (kinds_of Patch) fs 0 (omega arith) c.form,
      numbered 0 15 (slice_index_or fs 1 []) (typed_at (test_of t Range) (kinds_of Patch) fs 1
          (omega arith) c.range),
      numbered 0 15 (slice_index_or fs 2 []) (typed_at (test_of t Range) (kinds_of Patch) fs 2
          (omega arith) c.range),
      room 64 (length t.patches) false c.few,
    )
fit_after_first t Init n fs c =
    let l : length fs ≡ 3 = omega (arith, eqb-true (length (word_of Init ∷ fs)) 4 c.shape) in (
      typed_at (test_of t Form) (kinds_of Init) fs 0 (omega arith) c.form,
      numbered 0 4095 (slice_index_or fs 2 []) (typed_at (test_of t Range) (kinds_of Init) fs 2
          (omega arith) c.range),
    )
fit_after_first t Merge n fs c =
    let l : length fs ≡ 5 = omega (arith, eqb-true (length (word_of Merge ∷ fs)) 6 c.shape) in (
      typed_at (test_of t Form) (kinds_of Merge) fs 0 (omega arith) c.form,
      numbered 0 4095 (slice_index_or fs 3 []) (typed_at (test_of t Range) (kinds_of Merge) fs 3
          (omega arith) c.range),
      numbered 1 4095 (slice_index_or fs 4 []) (typed_at (test_of t Range) (kinds_of Merge) fs 4
          (omega arith) c.range),
      grind (arith, nat_tests, c.few),
    )
fit_after_first t Read n fs c =
    let l : length fs ≡ 4 = omega (arith, eqb-true (length (word_of Read ∷ fs)) 5 c.shape) in (
      typed_at (test_of t Form) (kinds_of Read) fs 0 (omega arith) c.form,
      typed_at (test_of t Form) (kinds_of Read) fs 1 (omega arith) c.form,
      numbered 0 4095 (slice_index_or fs 3 []) (typed_at (test_of t Range) (kinds_of Read) fs 3
          (omega arith) c.range),
      grind (arith, nat_tests, c.few),
    )
fit_after_first t Cond n fs c =
    let l : 4 ≤ length fs = grind (arith, nat_tests, c.shape) in (
      typed_at (test_of t Form) (kinds_of Cond) fs 0 (omega arith) c.form,
      numbered 0 4095 (slice_index_or fs 2 []) (typed_at (test_of t Range) (kinds_of Cond) fs 2
          (omega arith) c.range),
      grind (arith, nat_tests, c.few),
    )
fit_after_first t Rounds n fs c = tt

and_skip : (a b c : Bool) → ((a && b) && c) ≡ true → (a && c) ≡ true
and_skip true true c h = h
and_skip true false c h = absurd (cc)
and_skip false b c h = absurd (cc)

-- a first line is a version line
fit_first : (t : Tables) (k : LineKind) (n : ℕ) (fs : List (List ℕ)) (b : Bool) →
    (begins (codes "swiper") (line_of k n fs) && b) ≡ true → is_fit t k fs
fit_first t Swiper n fs b h = tt
fit_first t Distance n fs b h = absurd (cc)
fit_first t Weights n fs b h = absurd (cc)
fit_first t Patch n fs b h = absurd (cc)
fit_first t Init n fs b h = absurd (cc)
fit_first t Merge n fs b h = absurd (cc)
fit_first t Read n fs b h = absurd (cc)
fit_first t Cond n fs b h = absurd (cc)
fit_first t Rounds n fs b h = tt

pub fit : (t : Tables) (fo : Bool) (k : LineKind) (n : ℕ) (fs : List (List ℕ)) →
    fault_in t fo (line_of k n fs) ≡ None → is_fit t k fs
fit t fo k n fs h =
    at t.place (none_if (not (is_in_place (rank_of t.place) fo (line_of k n fs))) BadLine _ h)
  where
    at : (p : Place)
        → (not (is_in_place (rank_of p) fo (line_of k n fs)) ≡ false)
        × ((if rank_of p == 0 then None else fault_after_first t (line_of k n fs)) ≡ None) →
        is_fit t k fs
    at Version h =
        fit_first t k n fs (bytes_eq (slice_index_or (word_of k ∷ fs) 1 []) (codes "1"))
        (and_skip (begins (codes "swiper") (line_of k n fs)) (length (word_of k ∷ fs) == 2)
        (bytes_eq (slice_index_or (word_of k ∷ fs) 1 []) (codes "1"))
        (not_not (is_in_place 0 fo (line_of k n fs)) h.0))
    at AtDistance h = fit_after_first t k n fs (clean t (line_of k n fs) h.1)
    at AtWeights h = fit_after_first t k n fs (clean t (line_of k n fs) h.1)
    at Body h = fit_after_first t k n fs (clean t (line_of k n fs) h.1)
