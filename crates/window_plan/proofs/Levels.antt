-- Lists that grow by what passes a test, and levels of a search.
use Rattle.std.proofs.Common.{◌≡◌, ℕ, zero, suc, ◌+◌, ◌<◌, ◌≤◌, ⊎_elim, Bool, true, false, ◌||◌, ◌&&◌, List, refl, sym, ap, ◌∙◌, arith, length, get_or, take, drop, subst, slice_get, Some, Option, None, leb-true}
use Rattle.std.specs.Prelude.{nat_le}
use Rattle.std.specs.List.{list_any}
use Rattle.std.specs.Option.{option_map_or}
use Rattle.std.proofs.lemmas.Bool.{false≢true, or_left, or_right, or_cases, and_parts, and_from, le-leb}
use Rattle.std.proofs.lemmas.List.{take_all, drop_all, length-take, take-take}
use Rattle.std.proofs.lemmas.Option.{slice_get_within}
use Rattle.graph_model.specs.Graph.{GraphEdge, DetectorGraph, IsGraph, is_in, ends_of, ends_at, incident_edges}
use Rattle.graph_model.proofs.Members.{any_from, any_found, any_at, any_place, any_more, is_in_at, is_in_split}
use Rattle.graph_model.proofs.Incidence.{incident_below, is_in-incident}
use Rattle.graph_model.proofs.Truths.{or_false, same_tests}
use Rattle.window_model.specs.Windows.{home_of, is_reached}
use Rattle.window_plan.specs.Searches.{Grows, IsLevel, is_beside}
use Rattle.window_model.proofs.Plans.{passing}
use Rattle.graph_model.proofs.Edges.{ends_at_get}

-- ---- lists that grow
-- once by p and once by q
pub grows_both : (p q r : ℕ → Bool) (a b c : List ℕ) → Grows p a b → Grows q b c →
    ((x : ℕ) → r x ≡ p x || q x) → Grows r a c
grows_both p q r a b c one two is = record {
  members = λ x. two.members x ∙ ap (λ m. m || q x) (one.members x) ∙ assoc (is_in a x) (p x) (q x)
      ∙ ap (λ m. is_in a x || m) (sym (is x));
  kept =
      let short = ap length one.kept in
      let le : length a ≤ length b = let k = length-take (length a) b in omega (arith, k, short) in
      let kept_two : take (length b) c ≡ b = two.kept in
      sym (take-take (length a) (length b) c le) ∙ ap (take (length a)) kept_two ∙ one.kept;
}
  where
    assoc : (a b c : Bool) → (a || b) || c ≡ a || (b || c)
    assoc true b c = refl
    assoc false b c = refl

shared : (a b m : Bool) → (a || b) && m ≡ (a && m) || (b && m)
shared true b true = refl
shared true b false =
    elim b as (λ b. (true || b) && false ≡ (true && false)
    || (b && false)) [ true ↦ refl | false ↦ refl ]
shared false b m = refl

-- one more element of a list whose elements each add what passes
pub grows_more : (p : ℕ → ℕ → Bool) (m : ℕ → Bool) (before after : ℕ →
    Bool) (u : ℕ) (a b c : List ℕ) → ((x : ℕ) → after x ≡ before x || p u x) →
    Grows (λ x. before x && m x) a b → Grows (λ x. p u x && m x) b c →
    Grows (λ x. after x && m x) a c
grows_more p m before after u a b c is one two =
    grows_both (λ x. before x && m x) (λ x. p u x && m x) (λ x. after x && m x) a b c one two
    (λ x. ap (λ t. t && m x) (is x) ∙ shared (before x) (p u x) (m x))

-- ---- neighbours

pub at_incident : (g : DetectorGraph) (v k : ℕ) → k < length (incident_edges g v) →
    get_or (incident_edges g v) k 0 < length g.edges
at_incident g v k l =
    (incident_below g v (get_or (incident_edges g v) k 0) (is_in_at (incident_edges g v) k l)).0

-- one more edge at a detector
pub beside_more : (g : DetectorGraph) (v i : ℕ) (edge : GraphEdge) (items : List ℕ) (m : ℕ →
    Bool) (a b c : List ℕ) → items ≡ incident_edges g v → i < length items →
    slice_get g.edges (get_or items i 0) ≡ Some edge →
    Grows (λ x. list_any (ends_at g x) (take i (incident_edges g v)) && m x) a b →
    Grows (λ x. is_in (ends_of edge) x && m x) b c →
    Grows (λ x. list_any (ends_at g x) (take (i + 1) (incident_edges g v)) && m x) a c
beside_more g v i edge items m a b c is l at one two =
    let within : i < length (incident_edges g v) = subst (λ xs. i < length xs) is l in
    let read : slice_get g.edges (get_or (incident_edges g v) i 0) ≡ Some edge =
    subst (λ xs. slice_get g.edges (get_or xs i 0) ≡ Some edge) is at in
    grows_both (λ x. list_any (ends_at g x) (take i (incident_edges g v)) && m x)
    (λ x. is_in (ends_of edge) x && m x)
    (λ x. list_any (ends_at g x) (take (i + 1) (incident_edges g v)) && m x) a b c one two
    (λ x. ap (λ t. t && m x) (any_more (ends_at g x) (incident_edges g v) i within
    ∙ ap (λ t. list_any (ends_at g x) (take i (incident_edges g v)) || t)
    (ends_at_get g x (get_or (incident_edges g v) i 0) edge read))
    ∙ shared (list_any (ends_at g x) (take i (incident_edges g v))) (is_in (ends_of edge) x) (m x))

pub longer : (p : ℕ → Bool) (a b : List ℕ) → Grows p a b → length a ≤ length b
longer p a b h = let k = length-take (length a) b in let s = ap length h.kept in omega (arith, k, s)

module _ (g : DetectorGraph) (graph : IsGraph g) where
  -- an edge between them
  pub beside_edge : (u x : ℕ) → is_beside g u x ≡ true → (e : ℕ) × (edge : GraphEdge)
      × (slice_get g.edges e ≡ Some edge) × (is_in (ends_of edge) u ≡ true)
      × (is_in (ends_of edge) x ≡ true)
  beside_edge u x h =
      let f = any_found (ends_at g x) (incident_edges g u) h in
      let k = incident_below g u f.0 f.1 in
      let o = passing (λ edge. is_in (ends_of edge) u) (slice_get g.edges f.0) k.1 in
      (f.0, o.0, o.1, o.2, sym (ends_at_get g x f.0 o.0 o.1) ∙ f.2)

  pub edge_beside : (u x e : ℕ) (edge : GraphEdge) → slice_get g.edges e ≡ Some edge →
      is_in (ends_of edge) u ≡ true → is_in (ends_of edge) x ≡ true → is_beside g u x ≡ true
  edge_beside u x e edge at one two =
      any_from (ends_at g x) (incident_edges g u) e
      (is_in-incident g u e (slice_get_within g.edges e edge at) ∙ ends_at_get g u e edge at
      ∙ one) (ends_at_get g x e edge at ∙ two)

  module _ (homes : List ℕ) (w : ℕ) where
    abbrev spreads : ℕ → List ℕ → ℕ → Bool
    spreads from members x =
        list_any (λ u. is_beside g u x) (drop from members) && nat_le w (home_of homes x)

    module _ (n from : ℕ) (members new : List ℕ) (level : IsLevel g homes w n from members)
        (more : Grows (spreads from members) members new) (below : (x : ℕ) →
        is_in members x ≡ true → x < g.vertices) where
      -- a neighbour of a member
      beside_member : (u x : ℕ) → is_in members u ≡ true → is_beside g u x ≡ true →
          w ≤ home_of homes x → is_in new x ≡ true
      beside_member u x m b le =
          ⊎_elim
          (λ early. more.members x
          ∙ or_left (is_in members x) (spreads from members x) (level.closed u x early b le))
          (λ late. more.members x ∙ or_right (is_in members x) (spreads from members x)
          (and_from (list_any (λ v. is_beside g v x) (drop from members))
          (nat_le w (home_of homes x)) (any_from (λ v. is_beside g v x) (drop from members) u
          late b) (le-leb w (home_of homes x) le)))
          (or_cases (is_in (take from members) u) (is_in (drop from members) u)
          (sym (is_in_split from members u) ∙ m))

      leads : ℕ → GraphEdge → Bool
      leads x edge = is_in (ends_of edge) x && list_any (is_reached g homes w n) (ends_of edge)

      pub level_step : IsLevel g homes w (suc n) (length members) new
      level_step = record { reached = reached; closed = closed; within = within }
        where
          forth : (x : ℕ) → x < g.vertices → is_in new x ≡ true →
              is_reached g homes w (suc n) x ≡ true
          forth x l m =
              ⊎_elim
              (λ old. or_left (is_reached g homes w n x) _ (sym (level.reached x l) ∙ old))
              (λ added.
              let parts = and_parts (list_any (λ u. is_beside g u x) (drop from members))
              (nat_le w (home_of homes x)) added in
              let f = any_found (λ u. is_beside g u x) (drop from members) parts.0 in
              let member : is_in members f.0 ≡ true = is_in_split from members f.0
              ∙ or_right (is_in (take from members) f.0) (is_in (drop from members) f.0) f.1 in
              let e = beside_edge f.0 x f.2 in
              or_right (is_reached g homes w n x) _
              (and_from (nat_le w (home_of homes x)) _ parts.1
              (any_at (λ edge. is_in (ends_of edge) x && list_any (is_reached g homes w n)
              (ends_of edge)) g.edges e.0 e.1 e.2
              (and_from (is_in (ends_of e.1) x) (list_any (is_reached g homes w n) (ends_of e.1))
              e.4
              (any_from (is_reached g homes w n) (ends_of e.1) f.0 e.3
              (sym (level.reached f.0 (below f.0 member)) ∙ member))))))
              (or_cases (is_in members x) (spreads from members x) (sym (more.members x) ∙ m))

          back : (x : ℕ) → x < g.vertices → is_reached g homes w (suc n) x ≡ true →
              is_in new x ≡ true
          back x l h =
              ⊎_elim
              (λ old. more.members x
              ∙ or_left (is_in members x) (spreads from members x) (level.reached x l ∙ old))
              (λ added.
              let parts = and_parts (nat_le w (home_of homes x))
              (list_any (λ edge. is_in (ends_of edge) x && list_any (is_reached g homes w n)
              (ends_of edge)) g.edges) added in
              let p = any_place (λ edge. is_in (ends_of edge) x && list_any (is_reached g homes w n)
              (ends_of edge)) g.edges parts.1 in
              let both = and_parts (is_in (ends_of p.1) x)
              (list_any (is_reached g homes w n) (ends_of p.1)) p.3 in
              let f = any_found (is_reached g homes w n) (ends_of p.1) both.1 in
              let vertex : f.0 < g.vertices =
              graph f.0 p.0 (ends_at_get g f.0 p.0 p.1 p.2 ∙ f.1) in
              beside_member f.0 x (level.reached f.0 vertex
              ∙ f.2) (edge_beside f.0 x p.0 p.1 p.2 f.1 both.0)
              (leb-true w (home_of homes x) parts.0))
              (or_cases (is_reached g homes w n x) (nat_le w (home_of homes x)
              && list_any (λ edge. is_in (ends_of edge) x && list_any (is_reached g homes w n)
              (ends_of edge)) g.edges) h)

          reached : (x : ℕ) → x < g.vertices → is_in new x ≡ is_reached g homes w (suc n) x
          reached x l =
              same_tests (is_in new x) (is_reached g homes w (suc n) x) (forth x l) (back x l)

          closed : (u x : ℕ) → is_in (take (length members) new) u ≡ true → is_beside g u x ≡ true →
              w ≤ home_of homes x → is_in new x ≡ true
          closed u x m b le = beside_member u x (ap (λ ys. is_in ys u) (sym more.kept) ∙ m) b le

          within : length members ≤ length new
          within = let k = length-take (length members) new in let s = ap length more.kept in
              omega (arith, k, s)

    -- where all members' neighbours are members, further levels add nothing
    pub level_done : (n : ℕ) (members : List ℕ) → IsLevel g homes w n (length members) members →
        ((x : ℕ) → is_in members x ≡ true → x < g.vertices) → (k : ℕ) →
        IsLevel g homes w (n + k) (length members) members
    level_done n members level below zero = let e : n ≡ n + 0 = omega arith in
        subst (λ m. IsLevel g homes w m (length members) members) e level
    level_done n members level below (suc k) =
        let e : suc (n + k) ≡ n + suc k = omega arith in
        subst (λ m. IsLevel g homes w m (length members) members) e
        (level_step (n + k) (length members) members members (level_done n members level below k)
        nothing below)
      where
        nothing : Grows (spreads (length members) members) members members
        nothing = record {
          members = λ x. sym
              (ap (λ ys. is_in members x
              || (list_any (λ u. is_beside g u x) ys && nat_le w (home_of homes x)))
              (drop_all (length members) members (omega arith)) ∙ or_false (is_in members x));
          kept = take_all (length members) members (omega arith);
        }
