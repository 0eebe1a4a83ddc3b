-- A cheapest perfect matching of the members gives a least set: every correction gives a perfect
-- matching of no more cost.
use Rattle.std.proofs.Common.{◌≡◌, ℕ, zero, suc, ◌<◌, ◌≤◌, cond, get_or, eq-eqb, true, List, [], ◌∷◌, length, map, refl, sym, ap, ◌∙◌, arith, subst, ⊎_elim, sum_by}
use Rattle.std.specs.List.{range_with_len}
use Rattle.std.proofs.lemmas.Bool.{false≢true, false_from_ne_true, ne_eqb}
use Rattle.std.proofs.lemmas.List.Sums.{sum_by-cons}
use Rattle.std.proofs.lemmas.List.Elements.{Contains-get_or}
use Rattle.graph_model.specs.Graph.{is_in}
use Rattle.graph_model.specs.Corrections.{IsCorrection}
use Rattle.graph_model.specs.Problems.{Problem, meets, problem_weight}
use Rattle.graph_model.proofs.Members.{is_in_first, is_in_rest, is_in_cases, is_in-Contains}
use Rattle.matching_model.specs.Matchings.{Link, ends, AreApart, pair_ends, IsPerfectMatching, matching_cost}
use Rattle.matching_model.specs.Certificates.{IsProblem, Walk, AreDistances, free_end, has_defect, is_member, members, member_at}
use Rattle.matching_model.specs.Joins.{PairingLaw}
use Rattle.matching_model.proofs.Places.{place_in, place_below, get_place, filter_range_apart}
use Rattle.matching_model.proofs.Links.{AllJoin}
use Rattle.matching_model.proofs.Parts.{number_of}
use Rattle.matching_model.proofs.WeakDuality.{ApartLinks, apart_links}
use Rattle.matching_model.proofs.Walks.{joined_set, all_by_member}

in_map : (f : ℕ → ℕ) (xs : List ℕ) (x : ℕ) → is_in xs x ≡ true → is_in (map f xs) (f x) ≡ true
in_map f [] x m = m
in_map f (y ∷ ys) x m =
    ⊎_elim (λ e. subst (λ z. is_in (f y ∷ map f ys) z ≡ true) (ap f e) (is_in_first (f y) (map f
    ys))) (λ r. is_in_rest (f y) (f x) (map f ys) (in_map f ys x r)) (is_in_cases y x ys m)

map_in : (f : ℕ → ℕ) (xs : List ℕ) (z : ℕ) → is_in (map f xs) z ≡ true →
    (x : ℕ) × (is_in xs x ≡ true) × (f x ≡ z)
map_in f [] z m = absurd (false≢true m)
map_in f (y ∷ ys) z m =
    ⊎_elim (λ e. (y, is_in_first y ys, e)) (λ r. let k = map_in f ys z r in
    (k.0, is_in_rest y k.0 ys k.1, k.2)) (is_in_cases (f y) z (map f ys) m)

map_apart : (f : ℕ → ℕ) (xs : List ℕ) → ((x y : ℕ) → is_in xs x ≡ true → is_in xs y ≡ true →
    f x ≡ f y → x ≡ y) → AreApart xs → AreApart (map f xs)
map_apart f [] one apart = tt
map_apart f (x ∷ xs) one apart = (
  false_from_ne_true (is_in (map f xs) (f x)) (λ m. let k = map_in f xs (f x) m in
      let e = one k.0 x (is_in_rest x k.0 xs k.1) (is_in_first x xs) k.2 in
      false≢true (sym apart.0 ∙ subst (λ z. is_in xs z ≡ true) e k.1)),
  map_apart f xs (λ a b m n e. one a b (is_in_rest x a xs m) (is_in_rest x b xs n) e) apart.1,
)

in_list : (xs : List ℕ) (i d : ℕ) → i < length xs → is_in xs (get_or xs i d) ≡ true
in_list xs i d l = is_in-Contains xs (get_or xs i d) (Contains-get_or xs i d l)

place_get : (xs : List ℕ) (i d : ℕ) → AreApart xs → i < length xs → place_in xs (get_or xs i d) ≡ i
place_get [] i d apart l = absurd (omega arith)
place_get (x ∷ xs) zero d apart l = ap (λ b. cond b 0 (suc (place_in xs x))) (eq-eqb x x refl)
place_get (x ∷ xs) (suc i) d apart l =
    let low : i < length xs = omega (arith, l) in
    ap (λ b. cond b 0 (suc (place_in xs (get_or xs i d)))) (ne_eqb x (get_or xs i d) (λ e.
    false≢true (sym apart.0 ∙ subst (λ z. is_in xs z ≡ true) (sym e) (in_list xs i d low))))
    ∙ ap suc (place_get xs i d apart.1 low)

module _ (ms : List ℕ) where
  abbrev places_of_links : List Link → List (ℕ × ℕ)
  places_of_links [] = []
  places_of_links (l ∷ ls) = (place_in ms l.one, place_in ms l.two) ∷ places_of_links ls

  ends_of_places : (ls : List Link) → pair_ends (places_of_links ls) ≡ map (place_in ms) (ends ls)
  ends_of_places [] = refl
  ends_of_places (l ∷ ls) =
      ap (λ xs. place_in ms l.one ∷ place_in ms l.two ∷ xs) (ends_of_places ls)

module _ (p : Problem) (dist : ℕ → ℕ → ℕ) (are : AreDistances p dist) where
  near : (u v n : ℕ) → is_in (members p) u ≡ true → is_in (members p) v ≡ true → Walk p u v n →
      dist (place_in (members p) u) (place_in (members p) v) ≤ n
  near u v n mu mv walk =
      (are (place_in (members p) u) (place_in (members p) v) (place_below (members p) u mu)
      (place_below (members p) v mv)).least n
      (subst (λ b. Walk p (member_at p (place_in (members p) u)) b n)
      (sym (get_place (members p) v (free_end p) mv))
      (subst (λ a. Walk p a v n) (sym (get_place (members p) u (free_end p) mu)) walk))

  cost_of_places : (ls : List Link) → AllJoin (Walk p) ls →
      ((x : ℕ) → is_in (ends ls) x ≡ true → is_in (members p) x ≡ true) →
      matching_cost dist (places_of_links (members p) ls) ≤ sum_by (λ (l : Link). l.cost) ls
  cost_of_places [] joined to = omega arith
  cost_of_places (l ∷ ls) joined to =
      let ih = cost_of_places ls joined.1 (λ x m.
      to x (is_in_rest l.one x (l.two ∷ ends ls) (is_in_rest l.two x (ends ls) m))) in
      let one = near l.one l.two l.cost (to l.one (is_in_first l.one (l.two ∷ ends ls))) (to l.two
      (is_in_rest l.one l.two (l.two ∷ ends ls) (is_in_first l.two (ends ls)))) joined.0 in
      omega (
        arith,
        ih,
        one,
        sum_by-cons (λ (k : Link). k.cost) l ls,
        sum_by-cons (λ (q : ℕ × ℕ). dist q.0 q.1) (
          place_in (members p) l.one,
          place_in (members p) l.two,
        ) (places_of_links (members p) ls),
      )

  place_member : (i : ℕ) → i < length (members p) → place_in (members p) (member_at p i) ≡ i
  place_member i l =
      place_get (members p) i (free_end p) (filter_range_apart (is_member p) 0 (suc (free_end p))) l

  member_in : (i : ℕ) → i < length (members p) → is_in (members p) (member_at p i) ≡ true
  member_in i l = in_list (members p) i (free_end p) l

  -- the perfect matching of a correction
  pub matching_of : IsProblem p → (other : List ℕ) → IsCorrection (meets p.part)
      (range_with_len 0 (free_end p)) (map number_of p.part.edges) (has_defect p) other →
      (pairs : List (ℕ × ℕ)) × IsPerfectMatching (length (members p)) pairs
      × (matching_cost dist pairs ≤ sum_by (problem_weight p) other)
  matching_of ok other fits_ = by_links (apart_links p ok other fits_)
    where
      by_links : ((outs : List Link) × ApartLinks p (sum_by (problem_weight p) other) outs) →
          (pairs : List (ℕ × ℕ)) × IsPerfectMatching (length (members p)) pairs
          × (matching_cost dist pairs ≤ sum_by (problem_weight p) other)
      by_links outs =
          let same = ends_of_places (members p) outs.0 in
          let cheap = cost_of_places outs.0 outs.1.joined (λ x m. sym (outs.1.same x) ∙ m) in
          let less = outs.1.cost in (
            places_of_links (members p) outs.0,
            record {
              apart = subst AreApart (sym same) (map_apart (place_in (members p)) (ends outs.0)
                  (λ x y m n e.
                  sym (get_place (members p) x (free_end p) (sym (outs.1.same x) ∙ m))
                  ∙ ap (member_at p) e ∙ get_place (members p) y (free_end p)
                  (sym (outs.1.same y) ∙ n)) outs.1.apart);
              within = all_by_member (λ i. i < length (members p))
                  (pair_ends (places_of_links (members p) outs.0)) (λ i m.
                  let k = map_in (place_in (members p)) (ends outs.0) i
                  (subst (λ es. is_in es i ≡ true) same m) in
                  subst (λ z. z < length (members p)) k.2
                  (place_below (members p) k.0 (sym (outs.1.same k.0) ∙ k.1)));
              covers = λ i l. subst (λ es. is_in es i ≡ true) (sym same) (subst (λ z.
                  is_in (map (place_in (members p)) (ends outs.0)) z ≡ true) (place_member i l)
                  (in_map (place_in (members p)) (ends outs.0) (member_at p i)
                  (outs.1.same (member_at p i) ∙ member_in i l)));
            },
            omega (arith, cheap, less),
          )

pub pairing_law : PairingLaw
pairing_law p ok dist are pairs perfect least sets joins set difference =
    let made = joined_set p ok dist pairs perfect sets joins set difference in
    let cost = made.cost in
    record {
      correction = made.correction;
      least = λ other fits_. let k = matching_of p dist are ok other fits_ in
          let l = least k.0 k.1 in let m = k.2 in omega (arith, cost, l, m);
    }
