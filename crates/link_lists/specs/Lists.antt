-- Lists of nodes, by number: what contracts see of them.
use Rattle.std.specs.Prelude.{◌≡◌, ◌≢◌, ℕ, ◌<◌, ◌==◌, true, false, cond, List, [], ◌∷◌, Option, None, Some, All, length, map, replicate, slice_index_or, slice_set}
use Rattle.std.specs.List.{AllByRecursion}
use Rattle.graph_model.specs.Graph.{is_in}

-- how many nodes, and how many lists, there may be
abbrev pub most : ℕ
most = 4000000

-- how many nodes there are, and the nodes of each list in order
pub record Lists : Type 0 where
  pub nodes : ℕ
  pub lists : List (List ℕ)

abbrev pub list_at : Lists → ℕ → List ℕ
list_at s l = slice_index_or s.lists l []

-- with other nodes in one of the lists
abbrev pub with_list : Lists → ℕ → List ℕ → Lists
with_list s l xs = record { nodes = s.nodes; lists = slice_set s.lists l xs }

-- so many lists without a node
abbrev pub bare : ℕ → ℕ → Lists
bare nodes lists = record { nodes = nodes; lists = replicate lists [] }

-- x before the first node that is `place`
abbrev pub put_before : ℕ → ℕ → List ℕ → List ℕ
put_before place x [] = []
put_before place x (y ∷ ys) = cond (y == place) (x ∷ y ∷ ys) (y ∷ put_before place x ys)

-- without the first node that is x
abbrev pub without : ℕ → List ℕ → List ℕ
without x [] = []
without x (y ∷ ys) = cond (y == x) ys (y ∷ without x ys)

abbrev pub first : List ℕ → Option ℕ
first [] = None
first (x ∷ xs) = Some x

-- the node after x
abbrev pub after : ℕ → List ℕ → Option ℕ
after x [] = None
after x (y ∷ ys) = cond (y == x) (first ys) (after x ys)

-- the nodes from this one on
abbrev pub left_from : Option ℕ → List ℕ → List ℕ
left_from None xs = []
left_from (Some x) [] = []
left_from (Some x) (y ∷ ys) = cond (y == x) (y ∷ ys) (left_from (Some x) ys)

-- x isn't among them
abbrev pub Lacks : ℕ → List ℕ → Type 0
Lacks x xs = AllByRecursion (λ y. y ≢ x) xs

-- no node comes twice
abbrev pub IsApart : List ℕ → Type 0
IsApart [] = Unit {0}
IsApart (x ∷ xs) = Lacks x xs × IsApart xs

-- no list has the node
abbrev pub IsFree : Lists → ℕ → Type 0
IsFree s node = (l : ℕ) → is_in (list_at s l) node ≡ false

-- each list holds nodes in range, none of them twice
pub record IsOrderly (s : Lists) : Type 0 where
  pub apart : (l : ℕ) → IsApart (list_at s l)
  pub below : (l v : ℕ) → is_in (list_at s l) v ≡ true → v < s.nodes

-- and no node stands in two lists
pub record AreDisjoint (s : Lists) : Type 0 where
  pub orderly : IsOrderly s
  pub one : (l m v : ℕ) → is_in (list_at s l) v ≡ true → is_in (list_at s m) v ≡ true → l ≡ m

-- the list of each where each has one
abbrev pub firsts_of : List Lists → List (List ℕ)
firsts_of lists = map (λ c. list_at c 0) lists

-- each has one list, over the same nodes
pub record AreSingle (nodes : ℕ) (lists : List Lists) : Type 0 where
  pub each : All (λ (c : Lists). (c.nodes ≡ nodes) × (length c.lists ≡ 1)) lists
  pub orderly : IsOrderly (record { nodes = nodes; lists = firsts_of lists })
