-- Loops over lists, one element at a time.
use Rattle.std.proofs.Common.{◌≡◌, ℕ, ◌+◌, ◌<◌, Bool, false, List, length, get_or, sym, ap, ◌∙◌, subst, arith, ⊎_elim, All}
use Rattle.std.specs.Prelude.{ℤ}
use Rattle.std.specs.List.{range_with_len}
use Rattle.std.proofs.lemmas.Bool.{cases_eq}
use Rattle.std.proofs.lemmas.List.{get_or_default, same_lists}
use Rattle.graph_model.specs.Parity.{parity}
use Rattle.graph_model.specs.Problems.{Problem, meets}
use Rattle.graph_model.proofs.Members.{All-at, is_in_range}
use Rattle.matching_model.specs.Certificates.{free_end, has_defect, IsOddSet}

pub each_more : {X : Type 0} (P : X → Type 0) (xs : List X) (i : ℕ) (e : X) → i < length xs →
    ((k : ℕ) (d : X) → k < i → P (get_or xs k d)) → P (get_or xs i e) → (k : ℕ) (d : X) →
    k < i + 1 → P (get_or xs k d)
each_more P xs i e low before now k d l =
    ⊎_elim (λ s. subst P (get_or_default xs i e d low ∙ ap (λ j. get_or xs j d) (sym s)) now) (λ ne.
    before k d (omega (arith, l, ne))) (cases_eq k i)

pub later_more : (P : ℕ → Type 0) (i k : ℕ) → ((j : ℕ) → i < j → j < k → P j) → P k → (j : ℕ) →
    i < j → j < k + 1 → P j
later_more P i k before now j l m =
    ⊎_elim (λ s. subst P (sym s) now) (λ ne. before j l (omega (arith, m, ne))) (cases_eq j k)

-- a set of a certificate by its two parts
pub odd_set : (n : ℕ) (s : List ℕ × ℤ) (ms : List ℕ) (z : ℤ) → ms ≡ s.0 → z ≡ s.1 → IsOddSet n s →
    IsOddSet n (ms, z)
odd_set n s ms z first second odd = subst (IsOddSet n) (λ i. (sym first i, sym second i)) odd

-- ---- the boundary of a set of edges, place by place
module _ (p : Problem) (set : List ℕ) (bits : List Bool) (count : length bits
    ≡ free_end p) (value : (v : ℕ) → get_or bits v false ≡ parity (meets p.part v) set) where
  pub boundary_same : bits ≡ p.defects →
      All (λ v. parity (meets p.part v) set ≡ has_defect p v) (range_with_len 0 (free_end p))
  boundary_same e k d l = let v = get_or (range_with_len 0 (free_end p)) k d in sym (value v)
      ∙ ap (λ bs. get_or bs v false) e

  pub boundary_agrees : length p.defects ≡ free_end p → All (λ v. parity (meets p.part v) set
      ≡ has_defect p v) (range_with_len 0 (free_end p)) → bits ≡ p.defects
  boundary_agrees long all = same_lists bits p.defects (count ∙ sym long) at
    where
      at : (k : ℕ) (d : Bool) → k < length bits → get_or bits k d ≡ get_or p.defects k d
      at k d l =
          get_or_default bits k d false l ∙ value k
          ∙ All-at (λ v. parity (meets p.part v) set ≡ has_defect p v) (range_with_len 0 (free_end
          p)) k all (is_in_range 0 (free_end p) k (omega arith) (omega (arith, l, count)))
          ∙ get_or_default p.defects k false d (omega (arith, l, count, long))
