-- What is kept shows the search in which an inner set has come apart.
use Rattle.std.specs.Prelude.{◌≡◌, ◌<◌, ◌≤◌, ℕ, ◌%◌, true, false, List, [], ◌∷◌, ◌++◌, length, ℤ, pos}
use Rattle.graph_model.specs.Graph.{is_in}
use Rattle.matching_model.specs.Matchings.{AreApart}
use Rattle.matching_model.specs.Forests.{Search, Mark, Outer, Inner, Away}
use Rattle.shown_search.specs.Shown.{Kept, Shows}
use Rattle.shown_search.specs.Taken.{IsExpanded}

-- the vertex lies in the set: it is the set, or lies in a child of it
pub data LiesIn (n : ℕ) (children : ℕ → List ℕ) (v : ℕ) : ℕ → Type 0 where
  itself : {s : ℕ} → s ≡ v → LiesIn n children v s
  deeper : {s : ℕ} (c : ℕ) → n ≤ s → is_in (children s) c ≡ true → LiesIn n children v c →
      LiesIn n children v s

-- what is written when a set comes apart
pub record Writes : Type 0 where
  pub children : ℕ → List ℕ
  pub top : ℕ → ℕ
  pub mark : ℕ → Mark
  pub label : ℕ → ℕ
  pub link : ℕ → ℕ × ℕ

abbrev pub written : Kept → Writes → Kept
written k w = record {
  vertices = k.vertices;
  children = w.children;
  joint = k.joint;
  top = w.top;
  base = k.base;
  mate = k.mate;
  mark = w.mark;
  label = w.label;
  link = w.link;
}

-- the set is no child, none of its children is outermost, and none of them comes twice
pub record IsTop (k : Kept) (set : ℕ) : Type 0 where
  pub alone : (s c : ℕ) → k.vertices ≤ s → is_in (k.children s) c ≡ true → c ≡ set → ⊥
  pub inside : (v : ℕ) → v < k.vertices → is_in (k.children set) (k.top v) ≡ false
  pub apart : AreApart (k.children set)

-- each vertex of the set is now in the child that it lies in; elsewhere all stays
pub record ComesApart (k : Kept) (set : ℕ) (w : Writes) : Type 0 where
  pub opened : (v : ℕ) → v < k.vertices → k.top v ≡ set → (is_in (k.children set) (w.top v) ≡ true)
      × LiesIn k.vertices k.children v (w.top v)
  pub children : (s : ℕ) → k.vertices ≤ s → (s ≡ set → ⊥) → w.children s ≡ k.children s
  pub tops : (v : ℕ) → v < k.vertices → (k.top v ≡ set → ⊥) → w.top v ≡ k.top v
  pub marks : (c : ℕ) → is_in (k.children set) c ≡ false → w.mark c ≡ k.mark c
  pub labels : (c : ℕ) → is_in (k.children set) c ≡ false → w.label c ≡ k.label c
  pub links : (c : ℕ) → is_in (k.children set) c ≡ false → w.link c ≡ k.link c

-- the set's ring, begun with the child that hangs on the set above, and parted at the child that
-- has the base
pub record Round (k : Kept) (set : ℕ) (top : ℕ → ℕ) : Type 0 where
  pub before : List ℕ
  pub upper : ℕ
  pub behind : List ℕ
  pub whole : k.children set ≡ before ++ upper ∷ behind
  pub hangs : top (k.link set).0 ≡ upper
  pub way : List ℕ
  pub lower : ℕ
  pub beyond : List ℕ
  pub round : upper ∷ (behind ++ before) ≡ way ++ lower ∷ beyond
  pub holds : top (k.base set) ≡ lower

-- ---- which children stay in the tree of the unmatched vertex r
abbrev pub IsPut : Kept → ℕ → Mark → ℕ → Type 0
IsPut k r m c = (k.mark c ≡ m) × (k.label c ≡ r)

-- children that hang on one another in the order of the ring, the first by this pair: a vertex of
-- it and one of the set above; each second one is outer
abbrev pub HangForth : Kept → ℕ → ℕ × ℕ → List ℕ → ℕ → Type 0
HangForth k r tie [] lower = IsPut k r Inner lower × (k.link lower ≡ tie)
HangForth k r tie (c ∷ []) lower = Unit {0}
HangForth k r tie (c ∷ d ∷ way) lower = IsPut k r Inner c × (k.link c ≡ tie) × IsPut k r Outer d
    × HangForth k r ((k.joint d).1, (k.joint d).0) way lower

-- the same, where the ring's order leads from the lower to the upper child
abbrev pub HangBack : Kept → ℕ → ℕ × ℕ → List ℕ → ℕ → Type 0
HangBack k r tie [] upper = IsPut k r Inner upper × (k.link upper ≡ tie)
HangBack k r tie (c ∷ []) upper = Unit {0}
HangBack k r tie (c ∷ d ∷ way) upper = IsPut k r Inner c × (k.link c ≡ k.joint c)
    × IsPut k r Outer d × HangBack k r tie way upper

abbrev pub AreAway : Kept → List ℕ → Type 0
AreAway k [] = Unit {0}
AreAway k (c ∷ cs) = (k.mark c ≡ Away) × AreAway k cs

abbrev pub behind_first : List ℕ → List ℕ
behind_first [] = []
behind_first (c ∷ cs) = cs

-- the way round that has an odd number of children stays in the tree
pub record AreHung (k : Kept) (r : ℕ) (tie : ℕ × ℕ) (way : List ℕ) (lower : ℕ) (beyond : List ℕ)
    (upper : ℕ) : Type 0 where
  pub forth : length way % 2 ≡ 0 → HangForth k r tie way lower × AreAway k beyond
  pub back : (length way % 2 ≡ 0 → ⊥) → HangBack k r tie (lower ∷ beyond) upper
      × AreAway k (behind_first way)

-- where v is in an inner set with children and with the number 0
abbrev pub OpenedLaw : Type 0
OpenedLaw = (k : Kept) (number : ℕ → ℤ) (s : Search) (v : ℕ) → Shows k number s → v < k.vertices →
    k.vertices ≤ k.top v → k.mark (k.top v) ≡ Inner → number (k.top v) ≡ pos 0 →
    IsTop k (k.top v) → (k.link (k.top v)).0 < k.vertices → (w : Writes) →
    ComesApart k (k.top v) w → (q : Round k (k.top v) w.top) →
    AreHung (written k w) (k.label (k.top v)) (k.link (k.top v)) q.way q.lower q.beyond q.upper →
    (s' : Search) × IsExpanded s s' v × Shows (written k w) number s'
