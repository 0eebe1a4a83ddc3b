-- Where a vertex is found in a search: in just one of the outermost sets, by its mark.
use Rattle.std.proofs.Common.{◌≡◌, ℕ, ◌<◌, true, List, [], ◌∷◌, refl, sym, ◌∙◌, ⊎_elim, inl, inr}
use Rattle.std.specs.Prelude.{ℤ}
use Rattle.std.specs.List.{range_with_len}
use Rattle.std.proofs.lemmas.Bool.{false≢true, or_cases}
use Rattle.graph_model.specs.Graph.{is_in}
use Rattle.graph_model.proofs.Members.{is_in-append}
use Rattle.matching_model.specs.Sums.{int_sum_by}
use Rattle.matching_model.specs.Blossoms.{Side, has, members, side_members}
use Rattle.matching_model.specs.Forests.{Mark, Search, marked, search_sum, summed}
use Rattle.matching_model.proofs.DualChange.{plain, plain_sum}
use Rattle.matching_model.proofs.Ending.{covers_all}
use Rattle.matching_model.proofs.Events.{Entry, IsAt}
use Rattle.matching_model.proofs.Slacks.{summed_ring}

-- the set of a list that holds a vertex of the list
pub set_with : (xs : List Entry) (v : ℕ) → is_in (side_members (plain xs)) v ≡ true → (m : Mark)
    × (x : Side) × IsAt (m, x) xs × has x v
set_with [] v h = absurd (false≢true h)
set_with (e ∷ es) v h =
    ⊎_elim (λ k. (e.0, e.1, inl refl, k)) (λ k. let r = set_with es v k in (r.0, r.1, inr r.2, r.3))
    (or_cases (is_in (members e.1.body) v) (is_in (side_members (plain es)) v)
    (sym (is_in-append (members e.1.body) (side_members (plain es)) v) ∙ h))

-- each of the n vertices is in one of the outermost sets
pub at_vertex : (n : ℕ) (s : Search) →
    ((f : ℕ → ℤ) → search_sum (summed f) s ≡ int_sum_by f (range_with_len 0 n)) → (v : ℕ) → v < n →
    (m : Mark) × (x : Side) × IsAt (m, x) (marked s) × has x v
at_vertex n s covers v l = set_with (marked s) v (covers_all n (side_members (plain (marked s)))
    (λ f. summed_ring (plain (marked s)) f ∙ plain_sum (summed f) s ∙ covers f) v l)
