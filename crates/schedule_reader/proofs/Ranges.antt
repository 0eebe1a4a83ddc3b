-- The ranges of the numbers of faultless lines.
use Rattle.std.proofs.Common.{◌≡◌, ℕ, ◌<◌, ◌≤◌, true, List, [], length, refl, sym, subst, arith, codes, bytes_eq, slice_index_or}
use Rattle.surface_model.specs.declared.FieldKind.TheVariants.{ANumber}
use Rattle.surface_model.specs.Text.{TextLine, begins, has, is_number, is_between, is_in_range, number_of}
use Rattle.surface_model.specs.Parse.{number_in, number_at}
use Rattle.schedule_reader.specs.declared.known.Check.TheVariants.{Range}
use Rattle.schedule_reader.specs.Known.{Tables, test_of}
use Rattle.schedule_reader.proofs.Numbers.{and_right, between}
use Rattle.schedule_reader.proofs.Typed.{typed_at}
use Rattle.schedule_reader.proofs.ByKind.{IsClean}
use Rattle.schedule_reader.proofs.Agreed.{as_kind, kinds_of, so_many, at_least, place_stays, found_at}

-- a known name's number is below the number of names
pub number_below : (names : List (List ℕ)) (f : List ℕ) → has names f ≡ true →
    number_in names f < length names
number_below names f h = let k = place_stays (bytes_eq f) names [] h in
    subst (λ n. n < length names) (sym (found_at (bytes_eq f) names k.1)) k.1

-- a field in its range
pub ranged : (low high : ℕ) (f : List ℕ) → is_in_range (ANumber low high) f ≡ true →
    (low ≤ number_of f) × (number_of f ≤ high)
ranged low high f h =
    between low high (number_of f) (and_right (is_number f) (is_between low high (number_of f)) h)

abbrev In : ℕ → ℕ → ℕ → Type 0
In low high n = (low ≤ n) × (n ≤ high)

-- the numbers of a clean line
pub record Numbers (l : TextLine) : Type 0 where
  pub row : begins (codes "patch") l ≡ true → In 0 15 (number_at l 2)
  pub column : begins (codes "patch") l ≡ true → In 0 15 (number_at l 3)
  pub init : begins (codes "init") l ≡ true → In 0 4095 (number_at l 3)
  pub merge : begins (codes "merge") l ≡ true → In 0 4095 (number_at l 4)
  pub count : begins (codes "merge") l ≡ true → In 1 4095 (number_at l 5)
  pub read : begins (codes "read") l ≡ true → In 0 4095 (number_at l 4)
  pub cond : begins (codes "cond") l ≡ true → In 0 4095 (number_at l 3)

pub numbers : (t : Tables) (l : TextLine) → IsClean t l → Numbers l
numbers t l c = record {
  row = λ h. as_kind (λ k. IsClean t k → In 0 15 (number_at k 2)) l.number l.fields (codes "patch")
      h refl
      (λ rest e k. let n = so_many t (codes "patch") rest 3 4 k.shape refl in
      ranged 0 15 (slice_index_or rest 1 [])
      (typed_at (test_of t Range) (kinds_of (codes "patch")) rest 1 (omega arith) k.range)) c;
  column = λ h. as_kind (λ k. IsClean t k → In 0 15 (number_at k 3)) l.number l.fields
      (codes "patch") h refl
      (λ rest e k. let n = so_many t (codes "patch") rest 3 4 k.shape refl in
      ranged 0 15 (slice_index_or rest 2 [])
      (typed_at (test_of t Range) (kinds_of (codes "patch")) rest 2 (omega arith) k.range)) c;
  init = λ h. as_kind (λ k. IsClean t k → In 0 4095 (number_at k 3)) l.number l.fields
      (codes "init") h refl
      (λ rest e k. let n = so_many t (codes "init") rest 3 4 k.shape refl in
      ranged 0 4095 (slice_index_or rest 2 [])
      (typed_at (test_of t Range) (kinds_of (codes "init")) rest 2 (omega arith) k.range)) c;
  merge = λ h. as_kind (λ k. IsClean t k → In 0 4095 (number_at k 4)) l.number l.fields
      (codes "merge") h refl
      (λ rest e k. let n = so_many t (codes "merge") rest 5 6 k.shape refl in
      ranged 0 4095 (slice_index_or rest 3 [])
      (typed_at (test_of t Range) (kinds_of (codes "merge")) rest 3 (omega arith) k.range)) c;
  count = λ h. as_kind (λ k. IsClean t k → In 1 4095 (number_at k 5)) l.number l.fields
      (codes "merge") h refl
      (λ rest e k. let n = so_many t (codes "merge") rest 5 6 k.shape refl in
      ranged 1 4095 (slice_index_or rest 4 [])
      (typed_at (test_of t Range) (kinds_of (codes "merge")) rest 4 (omega arith) k.range)) c;
  read = λ h. as_kind (λ k. IsClean t k → In 0 4095 (number_at k 4)) l.number l.fields
      (codes "read") h refl
      (λ rest e k. let n = so_many t (codes "read") rest 4 5 k.shape refl in
      ranged 0 4095 (slice_index_or rest 3 [])
      (typed_at (test_of t Range) (kinds_of (codes "read")) rest 3 (omega arith) k.range)) c;
  cond = λ h. as_kind (λ k. IsClean t k → In 0 4095 (number_at k 3)) l.number l.fields
      (codes "cond") h refl
      (λ rest e k. let n = at_least rest k.shape in ranged 0 4095 (slice_index_or rest 2 [])
      (typed_at (test_of t Range) (kinds_of (codes "cond")) rest 2 (omega arith) k.range)) c;
}
