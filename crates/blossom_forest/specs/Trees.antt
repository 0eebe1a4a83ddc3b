-- Alternating trees of outermost sets, after Edmonds. With n vertices, vertex v is the set v, and a
-- set with children has a name from n to below n + n / 2.
use Rattle.std.specs.Prelude.{◌≡◌, Bool, not, unwrap_or, ℕ, zero, suc, ◌+◌, ◌*◌, ◌/◌, ◌-◌, ◌<◌, ◌≤◌, ◌==◌, ◌||◌, cond, List, [], ◌∷◌, ◌++◌, drop, Option, None, Some, All, length, replicate, reverse, slice_index, slice_index_or, slice_set}
use Rattle.blossom_nest.specs.Nests.{IsOutermost, IsShrunk, Nested, children_of, most_vertices, next_in, outermost, parent_of}
use Rattle.std.specs.List.{AllByRecursion, range_with_len}
use Rattle.link_lists.specs.Lists.{IsApart}
use Rattle.blossom_forest.specs.declared.step.Mark.{Mark}
use Rattle.blossom_forest.specs.declared.step.Mark.TheVariants.{Outer, Inner, Away}
use Rattle.blossom_forest.specs.declared.step.Tie.{Tie}

-- how many names there are
abbrev pub names : ℕ → ℕ
names n = n + n / 2

-- what is noted of the sets, by name, and of the vertices
pub record Forested : Type 0 where
  pub vertices : ℕ
  pub trees : ℕ
  pub mark : List Mark
  -- the unmatched vertex of the set's tree
  pub label : List ℕ
  -- the vertex that isn't matched inside the set
  pub base : List ℕ
  -- from an inner set to the outer set above it
  pub link : List Tie
  -- from a child to the next child of its ring
  pub joint : List Tie
  -- an unmatched vertex is its own mate
  pub mate : List ℕ

abbrev pub noted : ℕ → ℕ → List Mark → List ℕ → List ℕ → List Tie → List Tie → List ℕ → Forested
noted n trees mark label base link joint mate = record {
  vertices = n;
  trees = trees;
  mark = mark;
  label = label;
  base = base;
  link = link;
  joint = joint;
  mate = mate;
}

-- both ends are vertices
abbrev pub IsTie : ℕ → Tie → Type 0
IsTie n tie = (tie.here < n) × (tie.there < n)

-- all that is noted names vertices
pub record IsInRange (t : Forested) : Type 0 where
  pub few : t.vertices ≤ most_vertices
  pub marks : length t.mark ≡ names t.vertices
  pub labels : length t.label ≡ names t.vertices
  pub bases : length t.base ≡ names t.vertices
  pub links : length t.link ≡ names t.vertices
  pub joints : length t.joint ≡ names t.vertices
  pub mates : length t.mate ≡ t.vertices
  pub label_below : All (λ v. v < t.vertices) t.label
  pub base_below : All (λ v. v < t.vertices) t.base
  pub link_below : All (IsTie t.vertices) t.link
  pub joint_below : All (IsTie t.vertices) t.joint
  pub mate_below : All (λ v. v < t.vertices) t.mate

-- each vertex at its place, and 0 after them
abbrev pub itself : ℕ → ℕ → List ℕ
itself n places = range_with_len 0 n ++ replicate (places - n) 0

abbrev pub nowhere : Tie
nowhere = record { here = 0; there = 0 }

-- each of n vertices is unmatched, and a tree by itself
abbrev pub unmatched : ℕ → Forested
unmatched n = noted n n (replicate (names n) Outer) (itself n (names n)) (itself n (names n))
    (replicate (names n) nowhere) (replicate (names n) nowhere) (itself n n)

-- a new set whose ring begins at the common set: it is outer, and is matched and in a tree where
-- that one was
abbrev pub ringed : Forested → ℕ → ℕ → Forested
ringed t common set = record t {
  mark = slice_set t.mark set Outer;
  base = slice_set t.base set
      (slice_index t.base common);
  label = slice_set t.label set (slice_index t.label common);
}

-- the mate of a vertex, if there is one
abbrev pub mate_in : Forested → ℕ → Option ℕ
mate_in t v = cond (slice_index t.mate v == v) None (Some (slice_index t.mate v))

-- the unmatched vertex of the tree of a vertex's set
abbrev pub label_of : Forested → Nested → ℕ → ℕ
label_of t s v = slice_index t.label (outermost s v)

-- the outermost set that is matched to the set of a vertex
abbrev pub mate_set : Forested → Nested → ℕ → ℕ
mate_set t s v = outermost s (slice_index t.mate (slice_index t.base (outermost s v)))

-- the set of the vertex `free` hangs on the set of the vertex `outer`, and its mate's set on it
abbrev pub grown : Forested → Nested → ℕ → ℕ → Forested
grown t s outer free = record t {
  mark = slice_set (slice_set t.mark (outermost s free) Inner) (mate_set t s free) Outer;
  label = slice_set (slice_set t.label (outermost s free) (label_of t s outer)) (mate_set t s free)
      (label_of t s outer);
  link = slice_set t.link (outermost s free) (record { here = free; there = outer });
}

-- from a set by its base, which is its own mate at a root, to its mate
abbrev pub base_tie : Forested → ℕ → Tie
base_tie t set = record {
  here = slice_index t.base set;
  there = slice_index t.mate (slice_index t.base set);
}

-- from a set to the set above it in its tree: an inner one has a link, an outer one its mate; a
-- root has itself
abbrev pub tie_by : Mark → Forested → ℕ → Tie
tie_by Inner t set = slice_index_or t.link set nowhere
tie_by Outer t set = base_tie t set
tie_by Away t set = base_tie t set

abbrev pub tie_up : Forested → ℕ → Tie
tie_up t set = tie_by (slice_index_or t.mark set Outer) t set

-- the sets on the way from a set to the root of its tree, at most so many
abbrev pub way_up : ℕ → Nested → Forested → ℕ → List ℕ
way_up zero s t set = []
way_up (suc n) s t set = set ∷ cond ((tie_up t set).here == (tie_up t set).there) []
    (way_up n s t (outermost s (tie_up t set).there))

-- two lists end alike in so many elements, and in no more
pub record EndAlike (one two : List ℕ) (count : ℕ) : Type 0 where
  pub first : count ≤ length one
  pub second : count ≤ length two
  pub same : drop (length one - count) one ≡ drop (length two - count) two
  pub no_more : count < length one → count < length two → slice_index one (length one - 1 - count)
      ≡ slice_index two (length two - 1 - count) → ⊥

-- ---- rings
-- the tie from its other end
abbrev pub turned : Tie → Tie
turned tie = record { here = tie.there; there = tie.here }

-- the joints where this set, and then each set of the way, is joined to the next one down the way
abbrev pub joined_down : Forested → List Tie → ℕ → List ℕ → List Tie
joined_down t joint above [] = joint
joined_down t joint above (c ∷ way) =
    joined_down t (slice_set joint above (turned (tie_up t c))) c way

abbrev pub last_down : ℕ → List ℕ → ℕ
last_down above [] = above
last_down above (c ∷ way) = last_down c way

-- the joints where each set of the way is joined to the one above it
abbrev pub joined_up : Forested → List Tie → List ℕ → List Tie
joined_up t joint [] = joint
joined_up t joint (c ∷ way) = joined_up t (slice_set joint c (tie_up t c)) way

-- two ways up to a common set that the tie between their first sets closes: from the common set
-- down the one, over the tie, and up the other
abbrev pub joined_round : Forested → ℕ → List ℕ → List ℕ → Tie → List Tie
joined_round t common one two tie =
    joined_up t (slice_set (joined_down t t.joint common (reverse one))
    (last_down common (reverse one)) tie) two

abbrev pub ring_over : ℕ → List ℕ → List ℕ → List ℕ
ring_over common one two = common ∷ (reverse one ++ two)

-- the way from the set of a vertex to the root of its tree
abbrev pub way_from : Forested → Nested → ℕ → List ℕ
way_from t s v = way_up t.vertices s t (outermost s v)

-- The ways up from the sets of two vertices, which meet at the common set, have closed a ring that
-- is one set now. Its sets are joined round it, and the new one is outer, and is matched and in a
-- tree where the common set was.
pub record IsClosed (old : Forested) (nest : Nested) (one two : ℕ) (set : ℕ) (new : Forested)
    (next : Nested) : Type 0 where
  pub common : ℕ
  pub first : List ℕ
  pub second : List ℕ
  pub above : List ℕ
  pub first_whole : way_from old nest one ≡ first ++ common ∷ above
  pub second_whole : way_from old nest two ≡ second ++ common ∷ above
  pub apart : IsApart (ring_over common first second)
  pub outermost_each : AllByRecursion (IsOutermost nest) (ring_over common first second)
  pub shrunk : IsShrunk nest (ring_over common first second) set next
  pub after : new ≡ ringed (record old {
    joint = joined_round old common first second (record { here = one; there = two });
  }) common set

-- ---- rings that are opened
-- the child after this one in its ring
abbrev pub child_after : Nested → ℕ → ℕ
child_after s c = unwrap_or (next_in c (children_of s (parent_of s c))) 0

-- Whether it takes an even number of steps round a ring from a child to another, where at most so
-- many are looked at; `even` says it of the steps before.
abbrev pub even_way : ℕ → Nested → (to : ℕ) → (even : Bool) → (here : ℕ) → Bool
even_way zero s to even here = even
even_way (suc n) s to even here =
    cond (here == to) even (even_way n s to (not even) (child_after s here))

-- the sets of two trees, by their unmatched vertices, have left the forest
pub record IsDissolved (old : Forested) (one two : ℕ) (new : Forested) : Type 0 where
  pub same : new ≡ record old { mark = new.mark }
  pub marks : (set : ℕ) → set < names old.vertices → slice_index_or new.mark set Outer
      ≡ cond ((slice_index old.label set == one) || (slice_index old.label set == two)) Away
      (slice_index_or old.mark set Outer)

-- bases and mates alone have changed
abbrev pub IsRematched : Forested → Forested → Type 0
IsRematched old new = new ≡ record old { base = new.base; mate = new.mate }

-- two trees less, by their unmatched vertices: their sets have left the forest, and nothing else
-- has changed but bases and mates
pub record IsAugmented (old : Forested) (one two : ℕ) (new : Forested) : Type 0 where
  pub same : new ≡ record old {
    trees = old.trees - 2;
    mark = new.mark;
    base = new.base;
    mate = new.mate;
  }
  pub marks : (set : ℕ) → set < names old.vertices → slice_index_or new.mark set Outer
      ≡ cond ((slice_index old.label set == one) || (slice_index old.label set == two)) Away
      (slice_index_or old.mark set Outer)

-- room for two ways to a root, and for the ring that they close
pub record HasRoom (n path other ring : ℕ) : Type 0 where
  pub path_room : n ≤ path
  pub other_room : n ≤ other
  pub ring_room : 2 * n ≤ ring
