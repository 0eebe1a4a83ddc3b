-- The members of a problem one after the other, and a table row by row.
use Rattle.std.proofs.Common.{◌≡◌, ℕ, suc, ◌+◌, ◌-◌, ◌*◌, ◌<◌, ◌≤◌, ◌%◌, ◌&&◌, Bool, true, false, cond, List, [], ◌∷◌, ◌++◌, length, map, filter, refl, sym, ap, ◌∙◌, arith, subst, ⊎_elim, ◌⊎◌, inl, inr, All, get_or, take, drop, Option, Some, None, eq-eqb, length-append, not}
use Rattle.std.specs.Prelude.{nat_lt, slice_range}
use Rattle.std.specs.Option.{option_map_or, unwrap_or}
use Rattle.std.specs.List.{range_with_len}
use Rattle.std.proofs.lemmas.Bool.{cases_eq, cases_lt, ne_eqb, lt-ltb, le-ltb}
use Rattle.std.proofs.lemmas.List.{get_or_append_left, get_or-append-add, get_or-take, get_or-drop, length-take, length-drop, get_or_default, length-map, get_or-map, append-nil}
use Rattle.std.proofs.lemmas.List.Elements.{filter-append, All-append, All-from_get_or}
use Rattle.std.proofs.lemmas.List.FromFn.{length-range_with_len}
use Rattle.std.proofs.lemmas.List.Sums.{length-filter, count_by-le-length}
use Rattle.std.proofs.lemmas.Nat.{mul-add-lt}
use Rattle.graph_model.specs.Graph.{is_in}
use Rattle.graph_model.specs.Parity.{◌⊕◌, parity}
use Rattle.graph_model.specs.Problems.{Problem, IsPart}
use Rattle.graph_model.proofs.Members.{is_in-range, is_in-filter, filter_same}
use Rattle.graph_model.proofs.Parities.{parity_push, xor-false}
use Rattle.graph_model.proofs.Ranges.{below_more}
use Rattle.matching_model.specs.Certificates.{free_end, has_defect, is_member, members, member_at, IsDistance}
use Rattle.matching_model.proofs.Parts.{walk_back}
use Rattle.matching_model.proofs.Walks.{even_members, all_by_member}
use Rattle.dist_search.specs.declared.search.Step.{Step}
use Rattle.dist_search.specs.declared.homes.Route.{Route}
use Rattle.dist_search.specs.Hops.{Extends, most_distance}
use Rattle.dist_search.specs.Tables.{dist_of, Distances, IsRoute, IsTable, IsTableOf, AreRows}
use Rattle.dist_search.proofs.Ways.{way_kept}
use Rattle.graph_model.specs.Limits.{most_places}

-- ---- members
module _ (p : Problem) where
  defects_more : (n : ℕ) → filter (has_defect p) (range_with_len 0 (n + 1))
      ≡ filter (has_defect p) (range_with_len 0 n) ++ cond (has_defect p n) (n ∷ []) []
  defects_more n = ap (filter (has_defect p)) (below_more n)
      ∙ filter-append (has_defect p) (range_with_len 0 n) (n ∷ [])

  pub defects_yes : (n : ℕ) → has_defect p n ≡ true →
      filter (has_defect p) (range_with_len 0 (n + 1)) ≡ filter (has_defect p) (range_with_len 0 n)
      ++ n ∷ []
  defects_yes n h = defects_more n ∙ ap (λ b. filter (has_defect p) (range_with_len 0 n)
      ++ cond b (n ∷ []) []) h

  pub defects_no : (n : ℕ) → has_defect p n ≡ false →
      filter (has_defect p) (range_with_len 0 (n + 1)) ≡ filter (has_defect p) (range_with_len 0 n)
  defects_no n h = defects_more n ∙ ap (λ b. filter (has_defect p) (range_with_len 0 n)
      ++ cond b (n ∷ []) []) h ∙ append-nil (filter (has_defect p) (range_with_len 0 n))

  parity_next : (n : ℕ) → parity (has_defect p) (range_with_len 0 (n + 1))
      ≡ parity (has_defect p) (range_with_len 0 n) ⊕ has_defect p n
  parity_next n = ap (parity (has_defect p)) (below_more n)
      ∙ parity_push (has_defect p) (range_with_len 0 n) n

  pub parity_yes : (n : ℕ) (odd : Bool) → odd ≡ parity (has_defect p) (range_with_len 0 n) →
      has_defect p n ≡ true → not odd ≡ parity (has_defect p) (range_with_len 0 (n + 1))
  parity_yes n odd e h = not_xor odd ∙ ap (λ b. b ⊕ true) e
      ∙ ap (λ b. parity (has_defect p) (range_with_len 0 n) ⊕ b) (sym h) ∙ sym (parity_next n)
    where
      not_xor : (b : Bool) → not b ≡ b ⊕ true
      not_xor true = refl
      not_xor false = refl

  pub parity_no : (n : ℕ) (odd : Bool) → odd ≡ parity (has_defect p) (range_with_len 0 n) →
      has_defect p n ≡ false → odd ≡ parity (has_defect p) (range_with_len 0 (n + 1))
  parity_no n odd e h = e ∙ sym (xor-false (parity (has_defect p) (range_with_len 0 n)))
      ∙ ap (λ b. parity (has_defect p) (range_with_len 0 n) ⊕ b) (sym h) ∙ sym (parity_next n)

  -- the places with a defect, and the free ends after them
  pub members_by : (odd : Bool) → odd ≡ parity (has_defect p) (range_with_len 0 (free_end p)) →
      members p ≡ filter (has_defect p) (range_with_len 0 (free_end p))
      ++ cond odd (free_end p ∷ []) []
  members_by odd e =
      let n : suc (free_end p) ≡ free_end p + 1 = omega arith in
      ap (λ k. filter (is_member p) (range_with_len 0 k)) n
      ∙ ap (filter (is_member p)) (below_more (free_end p))
      ∙ filter-append (is_member p) (range_with_len 0 (free_end p)) (free_end p ∷ [])
      ∙ ap (λ b. filter (is_member p) (range_with_len 0 (free_end p))
      ++ cond b (free_end p ∷ []) []) last
      ∙ ap (λ xs. xs ++ cond odd (free_end p ∷ []) []) (filter_same (is_member p) (has_defect p)
      (range_with_len 0 (free_end p)) place)
    where
      last : is_member p (free_end p) ≡ odd
      last = ap (λ b. cond b (parity (has_defect p) (range_with_len 0 (free_end p)))
          (has_defect p (free_end p))) (eq-eqb (free_end p) (free_end p) refl) ∙ sym e

      place : (x : ℕ) → is_in (range_with_len 0 (free_end p)) x ≡ true →
          is_member p x ≡ has_defect p x
      place x m = ap (λ b. cond b (parity (has_defect p) (range_with_len 0 (free_end p)))
          (has_defect p x)) (ne_eqb x (free_end p) (λ s. let k = is_in-range 0 (free_end p) x m in
          omega (arith, k.1, s)))

  pub members_odd : (place : ℕ) (xs ys : List ℕ) (odd : Bool) →
      place ≡ free_end p → xs ≡ filter (has_defect p) (range_with_len 0 place) →
      odd ≡ parity (has_defect p) (range_with_len 0 place) →
      odd ≡ true → ys ≡ xs ++ free_end p ∷ [] → ys ≡ members p
  members_odd place xs ys odd end is parity_is one last =
      last ∙ ap (λ zs. zs ++ free_end p ∷ []) (is
      ∙ ap (λ n. filter (has_defect p) (range_with_len 0 n)) end)
      ∙ sym (members_by true (sym one ∙ parity_is
      ∙ ap (λ n. parity (has_defect p) (range_with_len 0 n)) end))

  pub members_even : (place : ℕ) (xs ys : List ℕ) (odd : Bool) → place ≡ free_end p →
      xs ≡ filter (has_defect p) (range_with_len 0 place) →
      odd ≡ parity (has_defect p) (range_with_len 0 place) →
      odd ≡ false → ys ≡ xs → ys ≡ members p
  members_even place xs ys odd end is parity_is one last =
      last ∙ is ∙ ap (λ n. filter (has_defect p) (range_with_len 0 n)) end
      ∙ sym (append-nil (filter (has_defect p) (range_with_len 0 (free_end p))))
      ∙ sym (members_by false (sym one ∙ parity_is
      ∙ ap (λ n. parity (has_defect p) (range_with_len 0 n)) end))

  pub members_low : All (λ v. v < suc (free_end p)) (members p)
  members_low = all_by_member (λ v. v < suc (free_end p)) (members p) (λ x m. let k = is_in-range 0
      (suc (free_end p)) x (and_one (is_in (range_with_len 0 (suc (free_end p))) x) (is_member p x)
      (sym (is_in-filter (is_member p) (range_with_len 0 (suc (free_end p))) x) ∙ m)) in
      omega (arith, k.1))
    where
      and_one : (a b : Bool) → a && b ≡ true → a ≡ true
      and_one true b h = refl
      and_one false b h = h

  pub members_few : IsPart p.part → length (members p) ≤ most_places
  members_few part =
      let few = part.few_detectors in
      let m = length-filter (is_member p) (range_with_len 0 (suc (free_end p))) in
      let c = count_by-le-length (is_member p) (range_with_len 0 (suc (free_end p))) in
      let r = length-range_with_len 0 (suc (free_end p)) in
      let e = even_members p in
      omega (arith, few, m, c, r, e)

-- ---- rows
index_low : (i j k n : ℕ) → i < k → j < n → i * n + j < k * n
index_low i j k n l m = omega (arith, mul-add-lt i n j k l m)

pub rows_none : (p : Problem) (vs : List ℕ) (steps : List Step) → AreRows p vs 0 [] [] steps
rows_none p vs steps = record {
  size = omega arith;
  size_routes = omega arith;
  distance = λ i j l m. absurd (omega (arith, l));
  route = λ i j d l m. absurd (omega (arith, l));
  low = λ k d l. absurd (omega (arith, l));
}

pub rows_of_none : (p : Problem) (vs entries : List ℕ) (routes : List Route) (steps : List Step) →
    vs ≡ [] → entries ≡ [] → routes ≡ [] → AreRows p vs (length vs) entries routes steps
rows_of_none p vs entries routes steps none e r =
    subst (λ xs. AreRows p xs (length xs) entries routes steps) (sym none)
    (subst (λ xs. AreRows p [] 0 xs routes steps) (sym e) (subst (λ xs. AreRows p [] 0 [] xs steps)
    (sym r) (rows_none p [] steps)))

-- one vertex more, by its distances f and routes r
module _ (p : Problem) (vs : List ℕ) (k : ℕ) (entries : List ℕ)
    (routes : List Route) (steps steps' : List Step) (are : AreRows p vs k entries routes steps)
    (more : Extends steps steps') (fits_ : k < length vs)
    (f : ℕ → ℕ) (r : ℕ → Route)
    (near : (j : ℕ) → j < length vs →
    IsDistance p (get_or vs k 0) (get_or vs j 0) (f (get_or vs j 0)))
    (routed : (j : ℕ) → j < length vs →
    IsRoute p steps' (get_or vs k 0) (get_or vs j 0) (f (get_or vs j 0)) (r (get_or vs j 0)))
    (small : (j : ℕ) → j < length vs → f (get_or vs j 0) ≤ most_distance) where
  entry_at : (i j : ℕ) → i ≡ k → j < length vs → get_or (entries ++ map f vs) (i * length vs + j) 0
      ≡ f (get_or vs j 0)
  entry_at i j e m =
      let s = are.size in
      let index : i * length vs + j ≡ length entries + j = ap (λ x. x * length vs + j) e
      ∙ omega (arith, s) in
      ap (λ x. get_or (entries ++ map f vs) x 0) index ∙ get_or-append-add entries (map f vs) j 0
      ∙ get_or-map f vs j 0 0 m

  route_at : (i j : ℕ) (d : Route) → i ≡ k → j < length vs →
      get_or (routes ++ map r vs) (i * length vs + j) d ≡ r (get_or vs j 0)
  route_at i j d e m =
      let s = are.size_routes in
      let index : i * length vs + j ≡ length routes + j = ap (λ x. x * length vs + j) e
      ∙ omega (arith, s) in
      ap (λ x. get_or (routes ++ map r vs) x d) index ∙ get_or-append-add routes (map r vs) j d
      ∙ get_or-map r vs j 0 d m

  entry_kept : (i j : ℕ) → i < k → j < length vs →
      get_or (entries ++ map f vs) (i * length vs + j) 0 ≡ get_or entries (i * length vs + j) 0
  entry_kept i j l m = let s = are.size in get_or_append_left entries (map f vs) 0 (i * length vs
      + j) (omega (arith, s, index_low i j k (length vs) l m))

  route_kept : (i j : ℕ) (d : Route) → i < k → j < length vs →
      get_or (routes ++ map r vs) (i * length vs + j) d ≡ get_or routes (i * length vs + j) d
  route_kept i j d l m = let s = are.size_routes in get_or_append_left routes (map r vs) d (i
      * length vs + j) (omega (arith, s, index_low i j k (length vs) l m))

  later : {u v d : ℕ} {route : Route} → IsRoute p steps u v d route → IsRoute p steps' u v d route
  later one = record {
    one = one.one;
    two = one.two;
    first = way_kept steps steps' more one.first;
    second = way_kept steps steps' more one.second;
    between = one.between;
  }

  pub rows_more : AreRows p vs (k + 1) (entries ++ map f vs) (routes ++ map r vs) steps'
  rows_more = record {
    size = let s = are.size in omega (arith, s, length-append entries (map f vs), length-map vs f);
    size_routes = let s = are.size_routes in omega (
      arith,
      s,
      length-append routes (map r vs),
      length-map vs r,
    );
    distance = λ i j l m. ⊎_elim
        (λ e. subst (λ d. IsDistance p (get_or vs i 0) (get_or vs j 0) d) (sym (entry_at i j e m))
        (subst (λ x. IsDistance p (get_or vs x 0) (get_or vs j 0) (f (get_or vs j 0))) (sym e)
        (near j m)))
        (λ ne. let low : i < k = omega (arith, l, ne) in subst (IsDistance p (get_or vs i 0)
        (get_or vs j 0)) (sym (entry_kept i j low m)) (are.distance i j low m)) (cases_eq i k);
    route = λ i j d l m. ⊎_elim
        (λ e. subst (λ n. IsRoute p steps' (get_or vs i 0) (get_or vs j 0) n
        (get_or (routes ++ map r vs) (i * length vs + j) d)) (sym (entry_at i j e m))
        (subst (IsRoute p steps' (get_or vs i 0) (get_or vs j 0) (f (get_or vs j 0)))
        (sym (route_at i j d e m))
        (subst (λ x. IsRoute p steps' (get_or vs x 0) (get_or vs j 0) (f (get_or vs j 0))
        (r (get_or vs j 0))) (sym e) (routed j m))))
        (λ ne. let low : i < k = omega (arith, l, ne) in
        subst (λ n. IsRoute p steps' (get_or vs i 0) (get_or vs j 0) n
        (get_or (routes ++ map r vs) (i * length vs + j) d)) (sym (entry_kept i j low m))
        (subst (IsRoute p steps' (get_or vs i 0) (get_or vs j 0) (get_or entries (i * length vs + j)
        0)) (sym (route_kept i j d low m)) (later (are.route i j d low m)))) (cases_eq i k);
    low = All-append (λ d. d ≤ most_distance) entries (map f vs) are.low
        (All-from_get_or (λ d. d ≤ most_distance) (map f vs) 0
        (λ j l. let m : j < length vs = omega (arith, l, length-map vs f) in let s = small j m in
        let e : get_or (map f vs) j 0 ≡ f (get_or vs j 0) = get_or-map f vs j 0 0 m in
        omega (arith, s, e)));
  }

pub unwrap_far : (o : Option ℕ) (d : ℕ) → unwrap_or o d ≡ option_map_or (λ x. x) o d
unwrap_far None d = refl
unwrap_far (Some x) d = refl

-- ---- the table
pub distance_once : (p : Problem) (u v d e : ℕ) → IsDistance p u v d → IsDistance p u v e → d ≡ e
distance_once p u v d e one two = let a = one.least e two.walk in let b = two.least d one.walk in
    omega (arith, a, b)

distance_back : (p : Problem) (u v d : ℕ) → IsDistance p u v d → IsDistance p v u d
distance_back p u v d one =
    record { walk = walk_back p one.walk; least = λ n w. one.least n (walk_back p w) }

module _ (p : Problem) (part : IsPart p.part) (vs entries : List ℕ) (routes : List Route)
    (steps : List Step) (vs_are : vs ≡ members p) (are : AreRows p vs (length vs) entries routes
    steps) where
  abbrev t : Distances
  t = record { members = vs; entries = entries; routes = routes; steps = steps }

  dist_in : (i j : ℕ) → i < length vs → j < length vs →
      dist_of t i j ≡ get_or entries (i * length vs + j) 0
  dist_in i j l m = ap (λ b. cond (b
      && nat_lt j (length vs)) (get_or entries (i * length vs + j) 0) 0) (lt-ltb i (length vs) l)
      ∙ ap (λ b. cond b (get_or entries (i * length vs + j) 0) 0) (lt-ltb j (length vs) m)

  dist_out : (i j : ℕ) → (length vs ≤ i) ⊎ (length vs ≤ j) → dist_of t i j ≡ 0
  dist_out i j (inl l) = ap (λ b. cond (b && nat_lt j (length vs))
      (get_or entries (i * length vs + j) 0) 0) (le-ltb i (length vs) l)
  dist_out i j (inr l) = ap (λ b. cond (nat_lt i (length vs) && b) (get_or entries (i * length vs
      + j) 0) 0) (le-ltb j (length vs) l) ∙ none (nat_lt i (length vs))
    where
      none : (b : Bool) → cond (b && false) (get_or entries (i * length vs + j) 0) 0 ≡ 0
      none true = refl
      none false = refl

  either : (i j : ℕ) → ((i < length vs) × (j < length vs)) ⊎ ((length vs ≤ i) ⊎ (length vs ≤ j))
  either i j = by_first (cases_lt i (length vs)) (cases_lt j (length vs))
    where
      by_first : ((i < length vs) ⊎ (length vs ≤ i)) → ((j < length vs) ⊎ (length vs ≤ j)) →
          ((i < length vs) × (j < length vs)) ⊎ ((length vs ≤ i) ⊎ (length vs ≤ j))
      by_first (inl l) (inl m) = inl (l, m)
      by_first (inr l) m = inr (inl l)
      by_first (inl l) (inr m) = inr (inr m)

  entry : (i j : ℕ) → i < length vs → j < length vs →
      IsDistance p (get_or vs i 0) (get_or vs j 0) (dist_of t i j)
  entry i j l m = subst (IsDistance p (get_or vs i 0) (get_or vs j 0)) (sym (dist_in i j l m))
      (are.distance i j l m)

  pub table_of : IsTableOf p t
  table_of = record {
    members_are = vs_are;
    walks = λ i j d l m.
        subst (λ u. IsRoute p steps u (member_at p j) (dist_of t i j)
        (get_or routes (i * length vs + j) d)) (named i l)
        (subst (λ u. IsRoute p steps (get_or vs i 0) u (dist_of t i j)
        (get_or routes (i * length vs + j) d)) (named j m)
        (subst (λ n. IsRoute p steps (get_or vs i 0) (get_or vs j 0) n
        (get_or routes (i * length vs + j) d)) (sym (dist_in i j l m)) (are.route i j d l m)));
    distances = λ i j l m. at i j (subst (λ xs. i < length xs) (sym vs_are) l)
        (subst (λ xs. j < length xs) (sym vs_are) m);
  }
    where
      named : (i : ℕ) → i < length vs → get_or vs i 0 ≡ member_at p i
      named i l = get_or_default vs i 0 (free_end p) l ∙ ap (λ xs. get_or xs i (free_end p)) vs_are

      at : (i j : ℕ) → i < length vs → j < length vs →
          IsDistance p (member_at p i) (member_at p j) (dist_of t i j)
      at i j l m =
          subst (λ u. IsDistance p u (member_at p j) (dist_of t i j)) (named i l)
          (subst (λ u. IsDistance p (get_or vs i 0) u (dist_of t i j)) (named j m) (entry i j l m))

  pub table_is : IsTable t
  table_is = record {
    size = are.size;
    size_routes = are.size_routes;
    few = let n = ap length vs_are in let few = members_few p part in omega (arith, n, few);
    even = ap (λ xs. length xs % 2) vs_are ∙ even_members p;
    turn = λ i j. ⊎_elim (λ l. distance_once p (get_or vs i 0) (get_or vs j 0) _ _
        (entry i j l.0 l.1) (distance_back p (get_or vs j 0) (get_or vs i 0) _ (entry j i l.1 l.0)))
        (λ o. dist_out i j o ∙ sym (dist_out j i (⊎_elim (λ a. inr a) (λ b. inl b) o)))
        (either i j);
    low = λ i j. ⊎_elim (λ l. let e = dist_in i j l.0 l.1 in let s = are.size in let k = are.low
        (i * length vs + j) 0 (omega (arith, s, index_low i j (length vs) (length vs) l.0 l.1)) in
        omega (arith, e, k))
        (λ o. let e = dist_out i j o in omega (arith, e)) (either i j);
  }

-- ---- a row of the table
pub row_within : (i n : ℕ) → i < n → i * n + n ≤ n * n
row_within i n l = let k = index_low i (n - 1) n n l (omega (arith, l)) in omega (arith, k, l)

pub row_entry : (t : Distances) (i j : ℕ) → i < length t.members → j < length t.members →
    get_or (take (length t.members) (drop (i * length t.members) t.entries)) j 0 ≡ dist_of t i j
row_entry t i j l m =
    let n = length t.members in
    get_or-take n (drop (i * n) t.entries) j 0 m ∙ get_or-drop (i * n) t.entries j 0
    ∙ sym (ap (λ b. cond (b && nat_lt j n) (get_or t.entries (i * n + j) 0) 0) (lt-ltb i n l)
    ∙ ap (λ b. cond b (get_or t.entries (i * n + j) 0) 0) (lt-ltb j n m))

pub row_length : (t : Distances) → IsTable t → (i : ℕ) → i < length t.members →
    length (take (length t.members) (drop (i * length t.members) t.entries)) ≡ length t.members
row_length t table i l =
    let n = length t.members in
    let size = table.size in
    let low = row_within i n l in
    omega (arith, size, low, length-take n (drop (i * n) t.entries), length-drop (i * n) t.entries)

pub row_is : (xs ys : List ℕ) (i m n : ℕ) → xs ≡ ys → m ≡ n → slice_range xs (i * m) (i * m + m)
    ≡ take n (drop (i * n) ys)
row_is xs ys i m n e f =
    ap (λ zs. slice_range zs (i * m) (i * m + m)) e ∙ ap (λ k. slice_range ys (i * k) (i * k + k)) f
    ∙ (let long : i * n + n - i * n ≡ n = omega arith in ap (λ k. take k (drop (i * n) ys)) long)
