-- What a binary search finds among rising numbers.
use Rattle.std.proofs.Common.{◌≡◌, ℕ, ◌<◌, ◌≤◌, ◌==◌, ◌&&◌, ◌||◌, ⊎_elim, inl, inr, Bool, true, false, cond, List, [], ◌∷◌, Option, Some, None, find, length, get_or, refl, sym, ap, ◌∙◌, subst, arith, eqb-true}
use Rattle.std.specs.List.{list_any}
use Rattle.std.specs.Option.{option_map_or}
use Rattle.std.specs.List.Sorted.{IsStrictlyIncreasing, IsNonDecreasingBy, IsPartitionPoint}
use Rattle.std.specs.Ordering.{nat_cmp, ordering_index}
use Rattle.std.specs.declared.cmp.Ordering.TheVariants.{Less, Equal, Greater}
use Rattle.std.proofs.lemmas.Bool.{cases_lt, ne_eqb}
use Rattle.std.proofs.lemmas.Bool.Decides.{nat_tests}
use Rattle.std.proofs.lemmas.Cmp.{ranked}
use Rattle.std.proofs.lemmas.Grind.{get_or_default_zero}
use Rattle.std.proofs.lemmas.List.{get_or-map, length-map}
use Rattle.std.proofs.lemmas.Option.{slice_get_read, slice_get_cases}
use Rattle.graph_model.specs.declared.PartEdge.{PartEdge}
use Rattle.graph_model.specs.Graph.{is_in}
use Rattle.graph_model.proofs.Members.{is_in_first, is_in_rest, Contains-is_in}
use Rattle.graph_model.proofs.Truths.{or_false}
use Rattle.graph_model.proofs.Ascending.{increasing_above, increasing_rest, rises}
use Rattle.graph_model.proofs.PartEdges.{numbers_of, any_absent, find_number}

-- ---- edges of a part by their numbers
pub found_by_search : (edges : List PartEdge) → IsStrictlyIncreasing (numbers_of edges) →
    (e i : ℕ) → i < length edges → ((d : PartEdge) → nat_cmp (get_or edges i d).edge e ≡ Equal) →
    (x : PartEdge) → x ≡ get_or edges i x →
    Some x ≡ find (λ (y : PartEdge). y.edge == e) edges
found_by_search edges up e i within told x read =
    let same : x.edge ≡ e = ap (λ (y : PartEdge). y.edge) read
    ∙ ranked (get_or edges i x).edge e Equal (sym (told x)) in
    sym (subst (λ n. find (λ (y : PartEdge). y.edge == n) edges ≡ Some x) same
    (find_number edges up i x (slice_get_read edges (length edges) i x refl within read)))

none_found : (edges : List PartEdge) (e : ℕ) → (is_in (numbers_of edges) e ≡ true → ⊥) →
    find (λ (y : PartEdge). y.edge == e) edges ≡ None
none_found [] e h = refl
none_found (y ∷ ys) e h =
    ap (λ b. cond b (Some y) (find (λ (z : PartEdge). z.edge == e) ys)) (ne_eqb y.edge e (λ s. h
    (subst (λ n. is_in (numbers_of (y ∷ ys)) n ≡ true) s (is_in_first y.edge (numbers_of ys)))))
    ∙ none_found ys e (λ m. h (is_in_rest y.edge e (numbers_of ys) m))

module _ (edges : List PartEdge) (up : IsStrictlyIncreasing (numbers_of edges)) (e : ℕ) where
  read_number : (k : ℕ) (d : PartEdge) → k < length edges → get_or (numbers_of edges) k 0
      ≡ (get_or edges k d).edge
  read_number k d l = get_or-map (λ (y : PartEdge). y.edge) edges k d 0 l

  tests_rise : IsNonDecreasingBy (λ (y : PartEdge). ordering_index (nat_cmp y.edge e)) edges
  tests_rise i j d le within =
      let numbers = length-map edges (λ (y : PartEdge). y.edge) in
      let up_to = rises (numbers_of edges) up i j le (omega (arith, numbers, within)) in
      let one = read_number i d (omega arith) in
      let two = read_number j d within in
      grind (arith, nat_tests, up_to, one, two)

  pub missed_by_search : (i : ℕ) → (IsNonDecreasingBy (λ (y : PartEdge).
      ordering_index (nat_cmp y.edge e)) edges → IsPartitionPoint (λ (y : PartEdge).
      nat_cmp y.edge e ≡ Less) (λ (y : PartEdge). nat_cmp y.edge e ≡ Greater) edges i) →
      None ≡ find (λ (y : PartEdge). y.edge == e) edges
  missed_by_search i told = sym (none_found edges e (λ m.
      let found = Contains-is_in (numbers_of edges) e m in
      let within : found.0 < length edges =
      omega (arith, length-map edges (λ (y : PartEdge). y.edge), found.1) in
      absent found.0 within (sym (get_or_default_zero (numbers_of edges) found.0 e found.1)
      ∙ found.2)))
    where
      here : (k : ℕ) → k < length edges → get_or (numbers_of edges) k 0 ≡ e → PartEdge → ⊥
      here k l read d =
          let point = told tests_rise in
          let number = sym (read_number k d l) ∙ read in
          ⊎_elim
          (λ (below : k < i). let r : (get_or edges k d).edge < e = ranked (get_or edges k d).edge e
          Less (sym (point.0 k d (omega arith) below)) in omega (arith, r, number))
          (λ (above : i ≤ k). let r : e < (get_or edges k d).edge = ranked (get_or edges k d).edge e
          Greater (sym (point.1 k d above l)) in omega (arith, r, number))
          (cases_lt k i)

      absent : (k : ℕ) → k < length edges → get_or (numbers_of edges) k 0 ≡ e → ⊥
      absent k l read = elim ((slice_get_cases edges k).1) [
        | inl found ↦ here k l read found.0
        | inr past ↦ omega (arith, l, past.0)
      ]

-- ---- whether the edge of a number is owned
abbrev owns : List PartEdge → ℕ → Bool
owns edges e = list_any (λ (y : PartEdge). y.edge == e && y.owned) edges

-- what is known of the first edge, and of the others
owned_more : (x : PartEdge) (xs : List PartEdge) → IsStrictlyIncreasing (numbers_of (x ∷ xs)) →
    (e : ℕ) → (b : Bool) → x.edge == e ≡ b →
    owns xs e ≡ option_map_or (λ (y : PartEdge). y.owned)
    (find (λ (y : PartEdge). y.edge == e) xs) false →
    (b && x.owned) || owns xs e ≡ option_map_or (λ (y : PartEdge). y.owned)
    (cond b (Some x) (find (λ (y : PartEdge). y.edge == e) xs)) false
owned_more x xs up e true t later =
    ap (λ b. x.owned || b) (any_absent (λ (y : PartEdge). y.owned) xs e (λ m.
    let l = increasing_above x.edge (numbers_of xs) up e m in
    let s = eqb-true x.edge e t in
    omega (arith, l, s))) ∙ or_false x.owned
owned_more x xs up e false t later = later

owned_found : (edges : List PartEdge) → IsStrictlyIncreasing (numbers_of edges) → (e : ℕ) →
    owns edges e ≡ option_map_or (λ (y : PartEdge). y.owned)
    (find (λ (y : PartEdge). y.edge == e) edges) false
owned_found [] up e = refl
owned_found (x ∷ xs) up e = owned_more x xs up e (x.edge == e) refl
    (owned_found xs (increasing_rest x.edge (numbers_of xs) up) e)

pub owned_by_find : (edges : List PartEdge) → IsStrictlyIncreasing (numbers_of edges) → (e : ℕ) →
    (o : Option PartEdge) → o ≡ find (λ (y : PartEdge). y.edge == e) edges →
    option_map_or (λ (y : PartEdge). y.owned) o false
    ≡ list_any (λ (y : PartEdge). y.edge == e && y.owned) edges
owned_by_find edges up e o h = ap (λ p. option_map_or (λ (y : PartEdge). y.owned) p false) h
    ∙ sym (owned_found edges up e)
