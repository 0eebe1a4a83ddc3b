-- The steps of a star, by their numbers and by the vertex that they leave.
use Rattle.std.proofs.Common.{◌≡◌, ℕ, zero, suc, Bool, true, false, ◌+◌, ◌<◌, ◌==◌, ◌&&◌, List, [], ◌∷◌, length, map, All, refl, sym, ap, ◌∙◌, arith, subst, Contains, get_or, eqb-true, eq-eqb, ◌-◌, ◌≤◌}
use Rattle.std.specs.List.{range_with_len}
use Rattle.std.proofs.lemmas.Bool.{false≢true}
use Rattle.std.proofs.lemmas.List.{get_or_default, get_or-map, length-map}
use Rattle.graph_model.specs.Graph.{is_in}
use Rattle.graph_model.specs.Problems.{Problem}
use Rattle.graph_model.specs.declared.PartEdge.{PartEdge}
use Rattle.graph_model.proofs.Members.{Contains-is_in, is_in-filter, is_in-range, is_in-below}
use Rattle.matching_model.specs.Certificates.{far_end, free_end}
use Rattle.matching_model.proofs.Walks.{all_by_member}
use Rattle.detector_graph.specs.Rows.{group_of}
use Rattle.detector_graph.specs.Steps.{step_starts}
use Rattle.dist_search.specs.declared.star.Hop.{Hop}
use Rattle.dist_search.specs.declared.star.Sense.{Sense}
use Rattle.dist_search.specs.declared.star.Sense.TheVariants.{Outward, Homeward}
use Rattle.dist_search.specs.Hops.{IsClose, IsHop, IsStar, hop_at, hops_from, measured, most_distance, nearer, nears_of, starts_of}
use Rattle.dist_search.proofs.Least.{hop_back, hop_there, hops_fit}

abbrev pub blank : Hop
blank = record { from = 0; to = 0; weight = 0; edge = 0 }

-- ---- what steps are measured by
pub measured_long : (sense : Sense) (ws : List ℕ) → length (measured sense ws) ≡ length ws
measured_long Outward ws = refl
measured_long Homeward ws = length-map ws (λ d. most_distance - d)

-- of two vertices the one is nearer by as much as the other is farther
pub turned_about : (ws : List ℕ) → All (λ d. d ≤ most_distance) ws → (h : Hop) →
    IsHop (length ws) h →
    get_or (nears_of ws) h.from 0 + h.weight - get_or (nears_of ws) h.to 0
    ≡ get_or ws h.to 0 + h.weight - get_or ws h.from 0
turned_about ws low h fits_ =
    let from = get_or-map (λ d. most_distance - d) ws h.from 0 0 fits_.from in
    let to = get_or-map (λ d. most_distance - d) ws h.to 0 0 fits_.to in
    let a = low h.from 0 fits_.from in
    let b = low h.to 0 fits_.to in
    omega (arith, from, to, a, b)

both_true : (a b : Bool) → a && b ≡ true → (a ≡ true) × (b ≡ true)
both_true true b h = (refl, h)
both_true false b h = absurd (false≢true h)

-- ---- the steps that leave one vertex
module _ (steps : List Hop) (v : ℕ) where
  abbrev group : List ℕ
  group = group_of (starts_of steps) v

  starts_long : length (starts_of steps) ≡ length steps
  starts_long = length-map steps (λ (h : Hop). h.from)

  start_at : (n : ℕ) → n < length steps → get_or (starts_of steps) n 0 ≡ (hop_at steps n).from
  start_at n l = get_or-map (λ (h : Hop). h.from) steps n blank 0 l

  pub group_leaves : All (λ n. (n < length steps) × ((hop_at steps n).from ≡ v)) group
  group_leaves = all_by_member (λ n. (n < length steps) × ((hop_at steps n).from ≡ v)) group leaves
    where
      leaves : (n : ℕ) → is_in group n ≡ true → (n < length steps) × ((hop_at steps n).from ≡ v)
      leaves n m =
          let both = both_true (is_in (range_with_len 0 (length (starts_of steps))) n) (get_or
          (starts_of steps) n 0 == v) (sym (is_in-filter (λ x. get_or (starts_of steps) x 0
          == v) (range_with_len 0 (length (starts_of steps))) n) ∙ m) in
          let k = is_in-range 0 (length (starts_of steps)) n both.0 in
          let l : n < length steps = omega (arith, k.1, starts_long) in
          (l, sym (start_at n l) ∙ eqb-true (get_or (starts_of steps) n 0) v both.1)

  group_has : (n : ℕ) → n < length steps → (hop_at steps n).from ≡ v → Contains group n
  group_has n l e =
      Contains-is_in group n
      (is_in-below (λ x. get_or (starts_of steps) x 0 == v) (length (starts_of steps)) n
      (omega (arith, l, starts_long))
      ∙ eq-eqb (get_or (starts_of steps) n 0) v (start_at n l ∙ e))

  abbrev pub more : List Hop
  more = map (hop_at steps) group

  pub more_long : length more ≡ length group
  more_long = length-map group (hop_at steps)

  pub more_has : (h : Hop) → Contains steps h → h.from ≡ v → Contains more h
  more_has h c e =
      let is : hop_at steps c.0 ≡ h = get_or_default steps c.0 blank h c.1 ∙ c.2 in
      let found = group_has c.0 c.1 (ap (λ (x : Hop). x.from) is ∙ e) in (
        found.0,
        omega (arith, found.1, more_long),
        get_or-map (hop_at steps) group found.0 c.0 h
            found.1 ∙ ap (hop_at steps) found.2 ∙ is,
      )

-- ---- the steps of a problem
module _ (p : Problem) where
  pub hop_even : (es : List PartEdge) (k : ℕ) (edge : PartEdge) → k < length es → get_or es k edge
      ≡ edge →
      hop_at (hops_from p es) (k + k) ≡ hop_there p edge
  hop_even [] k edge l e = absurd (omega (arith, l))
  hop_even (x ∷ xs) zero edge l e = ap (hop_there p) e
  hop_even (x ∷ xs) (suc k) edge l e =
      let n : suc k + suc k ≡ suc (suc (k + k)) = omega arith in
      ap (hop_at (hops_from p (x ∷ xs))) n ∙ hop_even xs k edge (omega (arith, l)) e

  pub hop_odd : (es : List PartEdge) (k : ℕ) (edge : PartEdge) → k < length es → get_or es k edge
      ≡ edge →
      hop_at (hops_from p es) (suc (k + k)) ≡ hop_back p edge
  hop_odd [] k edge l e = absurd (omega (arith, l))
  hop_odd (x ∷ xs) zero edge l e = ap (hop_back p) e
  hop_odd (x ∷ xs) (suc k) edge l e =
      let n : suc (suc k + suc k) ≡ suc (suc (suc (k + k))) = omega arith in
      ap (hop_at (hops_from p (x ∷ xs))) n ∙ hop_odd xs k edge (omega (arith, l)) e

  pub starts_are : (weights : List ℕ) (es : List PartEdge) → step_starts (free_end p) es
      ≡ starts_of (map (nearer weights) (hops_from p es))
  starts_are weights [] = refl
  starts_are weights (x ∷ xs) = ap (λ vs. x.first ∷ far_end p x ∷ vs) (starts_are weights xs)

  module _ (weights : List ℕ) (star : IsStar p weights) where
    fit : (h : Hop) → IsHop (suc (free_end p)) h → IsClose weights h →
        IsHop (suc (free_end p)) (nearer weights h)
    fit h f c =
        let from = f.from in
        let n = star.count in
        let w = star.low h.from 0 (omega (arith, from, n)) in
        let light = c.light in
        record { from = f.from; to = f.to; weight = omega (arith, w, light) }

    pub star_fits : All (IsHop (suc (free_end p))) (map (nearer weights) (hops_from p p.part.edges))
    star_fits k d l =
        let m : k < length (hops_from p p.part.edges) =
        omega (arith, l, length-map (hops_from p p.part.edges) (nearer weights)) in
        subst (IsHop (suc (free_end p))) (sym (get_or-map (nearer weights)
        (hops_from p p.part.edges) k d d m))
        (fit (get_or (hops_from p p.part.edges) k d) (hops_fit p star.is_part k d m).0
        (star.close k d m))
