-- A part's edges by their numbers.
use Rattle.std.proofs.Common.{◌≡◌, ◌≢◌, ℕ, suc, ◌==◌, ◌&&◌, ◌||◌, Bool, true, false, cond, List, [], ◌∷◌, length, Option, Some, None, find, slice_get, refl, sym, ap, ◌∙◌, subst, eqb-true, Contains}
use Rattle.std.specs.List.{list_any}
use Rattle.std.specs.List.Sorted.{IsStrictlyIncreasing}
use Rattle.std.specs.Option.{option_map_or}
use Rattle.std.proofs.lemmas.Bool.{false≢true}
use Rattle.std.proofs.lemmas.Option.{none-some, same_Some}
use Rattle.graph_model.specs.Graph.{is_in}
use Rattle.graph_model.specs.Problems.{Part, IsPart, IsPartEdge, meets, places_of}
use Rattle.graph_model.specs.declared.PartEdge.{PartEdge}
use Rattle.graph_model.proofs.Members.{Contains-is_in, is_in-Contains}
use Rattle.graph_model.proofs.PartEdges.{numbers_of, number_in, any_number, any_absent, part_edge_fits}

-- the edge of a number is one of those in the list
pub found_at : (edges : List PartEdge) (e : ℕ) (x : PartEdge) → find (λ (y : PartEdge). y.edge == e)
    edges ≡ Some x → (k : ℕ) × (slice_get edges k ≡ Some x) × (x.edge ≡ e)
found_at [] e x h = absurd (none-some x h)
found_at (y ∷ ys) e x h = by_test (y.edge == e) refl h (found_at ys e x)
  where
    by_test : (b : Bool) → y.edge == e ≡ b →
        cond b (Some y) (find (λ (z : PartEdge). z.edge == e) ys) ≡ Some x →
        (find (λ (z : PartEdge). z.edge == e) ys ≡ Some x → (k : ℕ) × (slice_get ys k ≡ Some x)
        × (x.edge ≡ e)) → (k : ℕ) × (slice_get (y ∷ ys) k ≡ Some x) × (x.edge ≡ e)
    by_test true t g later = (
      0,
      g,
      sym (ap (λ (z : PartEdge). z.edge) (same_Some y x g))
          ∙ eqb-true y.edge e t,
    )
    by_test false t g later = let k = later g in (suc k.0, k.1, k.2)

pub missed_all : (edges : List PartEdge) (e : ℕ) → find (λ (y : PartEdge). y.edge == e) edges
    ≡ None → is_in (numbers_of edges) e ≡ false
missed_all [] e h = refl
missed_all (y ∷ ys) e h = by_test (y.edge == e) h (missed_all ys e)
  where
    by_test : (b : Bool) → cond b (Some y) (find (λ (z : PartEdge). z.edge == e) ys) ≡ None →
        (find (λ (z : PartEdge). z.edge == e) ys ≡ None → is_in (numbers_of ys) e ≡ false) →
        (b || is_in (numbers_of ys) e) ≡ false
    by_test true g later = absurd (none-some y (sym g))
    by_test false g later = later g

-- ---- a set of edges
pub found_in : (edges : List PartEdge) (e : ℕ) (x : PartEdge) →
    find (λ (y : PartEdge). y.edge == e) edges ≡ Some x → Contains (numbers_of edges) e
found_in edges e x h = let k = found_at edges e x h in Contains-is_in (numbers_of edges) e
    (subst (λ n. is_in (numbers_of edges) n ≡ true) k.2 (number_in edges k.0 x k.1))

pub missed_in : (edges : List PartEdge) (e : ℕ) → find (λ (y : PartEdge). y.edge == e) edges
    ≡ None → Contains (numbers_of edges) e → ⊥
missed_in edges e h c =
    false≢true (sym (missed_all edges e h) ∙ is_in-Contains (numbers_of edges) e c)

-- whether the edge of a number ends at a place
pub meets_found : (part : Part) → IsStrictlyIncreasing (numbers_of part.edges) →
    (v e : ℕ) → meets part v e ≡ option_map_or (λ (x : PartEdge). is_in (places_of x) v)
    (find (λ (y : PartEdge). y.edge == e) part.edges) false
meets_found part up v e = by_found (find (λ (y : PartEdge). y.edge == e) part.edges) refl
  where
    by_found : (o : Option PartEdge) → find (λ (y : PartEdge). y.edge == e) part.edges ≡ o →
        meets part v e ≡ option_map_or (λ (x : PartEdge). is_in (places_of x) v) o false
    by_found None h = any_absent (λ x. is_in (places_of x) v) part.edges e (λ m.
        false≢true (sym (missed_all part.edges e h) ∙ m))
    by_found (Some x) h =
        let k = found_at part.edges e x h in
        subst (λ n. list_any (λ y. y.edge == n && is_in (places_of y) v) part.edges ≡ is_in
        (places_of x) v) k.2 (any_number (λ y. is_in (places_of y) v) part.edges up k.0 x k.1)

-- what holds of the edge of a number
module _ (part : Part) (fits_ : IsPart part) (v e : ℕ) where
  pub fits_found : (x : PartEdge) → find (λ (y : PartEdge). y.edge == e) part.edges ≡ Some x →
      IsPartEdge (length part.detectors) x
  fits_found x h = let k = found_at part.edges e x h in part_edge_fits part fits_ k.0 x k.1

  pub meets_one : (x : PartEdge) → find (λ (y : PartEdge). y.edge == e) part.edges ≡ Some x →
      meets part v e ≡ is_in (places_of x) v
  meets_one x h = meets_found part fits_.ascending v e
      ∙ ap (λ o. option_map_or (λ (y : PartEdge). is_in (places_of y) v) o false) h

  pub meets_none : (o : Option PartEdge) → o ≡ find (λ (y : PartEdge). y.edge == e) part.edges →
      ((x : PartEdge) → o ≢ Some x) → meets part v e ≡ false
  meets_none None h none = meets_found part fits_.ascending v e
      ∙ ap (λ o. option_map_or (λ (y : PartEdge). is_in (places_of y) v) o false) (sym h)
  meets_none (Some x) h none = absurd (none x refl)
