-- Lists kept by the numbers of the next and the previous node. Each list is a ring through a place
-- of its own, after the nodes' places, that stands for its end.
use Rattle.std.specs.Prelude.{◌≡◌, ℕ, zero, suc, ◌+◌, ◌<◌, ◌≤◌, ◌==◌, true, cond, List, [], ◌∷◌, Option, None, Some, length, map, slice_index_or}
use Rattle.std.specs.List.{AllByRecursion, range_with_len}
use Rattle.graph_model.specs.Graph.{is_in}
use Rattle.link_lists.specs.Lists.{Lists, IsApart, most}

abbrev pub at : List ℕ → ℕ → ℕ
at xs i = slice_index_or xs i 0

-- from a over the nodes xs to b, by next and back by prev
abbrev pub Joins : (ℕ → ℕ) → (ℕ → ℕ) → ℕ → List ℕ → ℕ → Type 0
Joins next prev a [] b = (next a ≡ b) × (prev b ≡ a)
Joins next prev a (x ∷ xs) b = (next a ≡ x) × (prev x ≡ a) × Joins next prev x xs b

-- at most so many nodes, from a node on to the end
abbrev pub follow : (ℕ → ℕ) → ℕ → ℕ → ℕ → List ℕ
follow next end zero a = []
follow next end (suc k) a = cond (a == end) [] (a ∷ follow next end k (next a))

-- the nodes of list l
abbrev pub chain : ℕ → List ℕ → ℕ → List ℕ
chain nodes next l = follow (at next) (nodes + l) nodes (at next (nodes + l))

abbrev pub chains : ℕ → ℕ → List ℕ → List (List ℕ)
chains nodes count next = map (chain nodes next) (range_with_len 0 count)

-- what contracts see of the numbers
abbrev pub seen : ℕ → ℕ → List ℕ → Lists
seen nodes count next = record { nodes = nodes; lists = chains nodes count next }

-- the numbers stand for the lists; `home` has each node's list, or another number where it is in
-- none
pub record AreChains (nodes count : ℕ) (next prev home : List ℕ) (list : ℕ → List ℕ) : Type 0 where
  pub joins : (l : ℕ) → l < count → Joins (at next) (at prev) (nodes + l) (list l) (nodes + l)
  pub apart : (l : ℕ) → l < count → IsApart (list l)
  pub below : (l : ℕ) → l < count → AllByRecursion (λ v. v < nodes) (list l)
  pub homes : (l v : ℕ) → l < count → v < nodes → is_in (list l) v ≡ (at home v == l)
  pub next_len : length next ≡ nodes + count
  pub prev_len : length prev ≡ nodes + count
  pub home_len : length home ≡ nodes
  pub few_nodes : nodes ≤ most
  pub few_lists : count ≤ most

-- the node at a place, if it isn't the end
abbrev pub node_or_end : ℕ → ℕ → Option ℕ
node_or_end node end = cond (node == end) None (Some node)

-- a node that was taken from a list, if there is one, is of the list, in which none comes twice
abbrev pub StandsIn : Option ℕ → List ℕ → Type 0
StandsIn None xs = IsApart xs
StandsIn (Some x) xs = IsApart xs × (is_in xs x ≡ true)
