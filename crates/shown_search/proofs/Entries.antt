-- Where a vertex is found, and by which name.
use Rattle.std.proofs.Common.{◌≡◌, ℕ, ◌<◌, List, [], ◌∷◌, sym, ap, ◌∙◌, subst, ⊎_elim, inl, inr}
use Rattle.std.specs.Prelude.{ℤ}
use Rattle.matching_model.specs.Blossoms.{Side, has}
use Rattle.matching_model.specs.Forests.{Branches, leaf, branch, Mate, Tree, Search, Mark, Outer, Inner, Away, marked, marked_branches, marked_trees, marked_mates}
use Rattle.matching_model.proofs.Events.{Entry, IsAt as Stands, at_split}
use Rattle.matching_model.proofs.AtVertex.{at_vertex}
use Rattle.shown_search.specs.Shown.{Kept, IsAt, AreBranches, AreTrees, ArePaired, Shows}

-- an entry has a name and a vertex that is not mated inside it
abbrev pub IsNamed : Kept → (ℕ → ℤ) → Entry → Type 0
IsNamed k number e = (s : ℕ) × (v : ℕ) × IsAt k number e.0 s e.1 v

named_as : (k : Kept) (number : ℕ → ℤ) (m : Mark) (x : Side) (e : Entry) → (m, x) ≡ e → (s v : ℕ) →
    IsAt k number m s x v → IsNamed k number e
named_as k number m x e same s v at = subst (IsNamed k number) same (s, v, at)

branch_named : (k : Kept) (number : ℕ → ℤ) (r : ℕ) (bs : Branches) → AreBranches k number r bs →
    (e : Entry) → Stands e (marked_branches bs) → IsNamed k number e
branch_named k number r leaf h e at = absurd at
branch_named k number r (branch o i inner u w outer sub rest) h e (inl same) =
    named_as k number Inner inner e same h.0.in_tree.name u h.0.in_tree.at
branch_named k number r (branch o i inner u w outer sub rest) h e (inr (inl same)) =
    named_as k number Outer outer e same h.1.name w h.1.at
branch_named k number r (branch o i inner u w outer sub rest) h e (inr (inr at)) =
    ⊎_elim (λ l. branch_named k number r sub h.3 e l) (λ q. branch_named k number r rest h.4 e q)
    (at_split e (marked_branches sub) (marked_branches rest) at)

tree_named : (k : Kept) (number : ℕ → ℤ) (ts : List Tree) → AreTrees k number ts → (e : Entry) →
    Stands e (marked_trees ts) → IsNamed k number e
tree_named k number [] h e at = absurd at
tree_named k number (t ∷ ts) h e (inl same) =
    named_as k number Outer t.root e same h.0.root.name h.0.free h.0.root.at
tree_named k number (t ∷ ts) h e (inr at) =
    ⊎_elim (λ l. branch_named k number h.0.free t.branches h.0.branches e l)
    (λ q. tree_named k number ts h.1 e q) (at_split e (marked_branches t.branches)
    (marked_trees ts) at)

mate_named : (k : Kept) (number : ℕ → ℤ) (ps : List Mate) → ArePaired k number ps → (e : Entry) →
    Stands e (marked_mates ps) → IsNamed k number e
mate_named k number [] h e at = absurd at
mate_named k number (p ∷ ps) h e (inl same) =
    named_as k number Away p.one e same h.0.0.name p.at_one h.0.0.at
mate_named k number (p ∷ ps) h e (inr (inl same)) =
    named_as k number Away p.two e same h.0.1.name p.at_two h.0.1.at
mate_named k number (p ∷ ps) h e (inr (inr at)) = mate_named k number ps h.1 e at

pub entry_named : (k : Kept) (number : ℕ → ℤ) (s : Search) → Shows k number s → (e : Entry) →
    Stands e (marked s) → IsNamed k number e
entry_named k number s h e at =
    ⊎_elim (λ l. tree_named k number s.trees h.trees e l)
    (λ r. mate_named k number s.mates h.mates e r)
    (at_split e (marked_trees s.trees) (marked_mates s.mates) at)

-- the set of a vertex, with the mark of its name
pub record Found (k : Kept) (number : ℕ → ℤ) (s : Search) (u : ℕ) : Type 0 where
  pub side : Side
  pub stands : Stands (k.mark (k.top u), side) (marked s)
  pub holds : has side u

pub found : (k : Kept) (number : ℕ → ℤ) (s : Search) → Shows k number s → (u : ℕ) →
    u < k.vertices → Found k number s u
found k number s h u low = from (at_vertex k.vertices s h.covers u low)
  where
    from : ((m : Mark) × (x : Side) × Stands (m, x) (marked s) × has x u) → Found k number s u
    from q =
        let n = entry_named k number s h (q.0, q.1) q.2 in
        record {
          side = q.1;
          stands = subst (λ m. Stands (m, q.1) (marked s))
              (sym (ap k.mark (n.2.tops u q.3) ∙ n.2.marked)) q.2;
          holds = q.3;
        }
