-- One patch of distance 3 on the tile at the origin, read at slot 1 or at slot 2: its graphs, and
-- their plans at blocks of one slot.
use Rattle.std.specs.Prelude.{◌≡◌, ℕ, List, [], ◌∷◌, ◌++◌, None, Some, map, replicate, length, refl}
use Rattle.graph_model.specs.Graph.{GraphEdge, DetectorGraph}
use Rattle.graph_model.specs.declared.Tag.{Tag}
use Rattle.window_model.specs.Windows.{Window, WindowPlan, window_of, places}

abbrev pub single : List ℕ → ℕ → ℕ → GraphEdge
single mask w a = record { first = a; second = None; weight = w; mask = mask }

abbrev pub pair : ℕ → ℕ → ℕ → GraphEdge
pair w a b = record { first = a; second = Some b; weight = w; mask = [] }

-- the errors on the nine qubits that flip the Z checks, whose detectors are a, b, c and d. The
-- first row of qubits flips the observable
abbrev pub row_x : ℕ → ℕ → ℕ → ℕ → ℕ → List GraphEdge
row_x w a b c d =
    single (0 ∷ []) w a ∷ single (0 ∷ []) w a ∷ single (0 ∷ []) w b ∷ pair w a c ∷ pair w a d
    ∷ pair w b d ∷ single [] w c ∷ single [] w d ∷ single [] w d ∷ []

abbrev pub row_z : ℕ → ℕ → ℕ → ℕ → ℕ → List GraphEdge
row_z w a b c d = single [] w a ∷ pair w a b ∷ single [] w b ∷ single [] w c ∷ pair w b c
    ∷ single [] w b ∷ single [] w c ∷ pair w c d ∷ single [] w d ∷ []

abbrev pub read_at_one : ℕ → ℕ → DetectorGraph
read_at_one s t = record {
  vertices = 8;
  edges = row_x s 0 1 2 3 ++ (pair t 0 4 ∷ pair t 1 5 ∷ pair t 2 6 ∷ pair t 3 7 ∷ [])
      ++ row_x s 4 5 6 7;
}

abbrev pub read_at_two : ℕ → ℕ → DetectorGraph
read_at_two s t = record {
  vertices = 16;
  edges = row_x s 0 1 2 3
      ++ (single [] t 4 ∷ pair t 0 5 ∷ single [] t 6 ∷ pair t 1 7 ∷ pair t 2 8 ∷ single [] t 9
      ∷ pair t 3 10 ∷ single [] t 11 ∷ [])
      ++ row_x s 5 7 8 10 ++ row_z s 4 6 9 11
      ++ (single [] t 4 ∷ pair t 5 12 ∷ single [] t 6 ∷ pair t 7 13 ∷ pair t 8 14 ∷ single [] t 9
      ∷ pair t 10 15 ∷ single [] t 11 ∷ [])
      ++ row_x s 12 13 14 15;
}

abbrev pub at_slot : ℕ → Tag
at_slot t = record { slot = t; tile_row = 0; tile_col = 0 }

abbrev pub tags_one : List Tag
tags_one = replicate 4 (at_slot 0) ++ replicate 4 (at_slot 1)

abbrev pub tags_two : List Tag
tags_two = replicate 4 (at_slot 0) ++ replicate 8 (at_slot 1) ++ replicate 4 (at_slot 2)

-- the counts that a plan prints: detectors, edges, owned edges; then the dependencies and the last
-- slot
abbrev pub counts : Window → List ℕ
counts w = length w.detectors ∷ length w.edges ∷ length w.owned ∷ w.last ∷ w.deps

abbrev pub homes_one : List ℕ
homes_one = replicate 4 0 ++ replicate 4 1

-- slot 0, then slot 2, then slot 1
abbrev pub homes_two : List ℕ
homes_two = replicate 4 0 ++ replicate 8 2 ++ replicate 4 1

one_first : counts (window_of (read_at_one 2 3) tags_one homes_one 2 0 0) ≡ 4 ∷ 13 ∷ 13 ∷ 0 ∷ []
one_first = refl

one_second : counts (window_of (read_at_one 2 3) tags_one homes_one 2 0 1) ≡ 4 ∷ 9 ∷ 9 ∷ 1 ∷ 0 ∷ []
one_second = refl

two_first : counts (window_of (read_at_two 2 3) tags_two homes_two 3 0 0) ≡ 4 ∷ 13 ∷ 13 ∷ 0 ∷ []
two_first = refl

two_second : counts (window_of (read_at_two 2 3) tags_two homes_two 3 0 1) ≡ 4 ∷ 13 ∷ 13 ∷ 2 ∷ []
two_second = refl

two_third : counts (window_of (read_at_two 2 3) tags_two homes_two 3 0 2) ≡ 8 ∷ 26 ∷ 26 ∷ 1 ∷ 0 ∷ 1
    ∷ []
two_third = refl

buffered_first : counts (window_of (read_at_two 2 3) tags_two homes_two 3 1 0) ≡ 8 ∷ 26 ∷ 13 ∷ 1
    ∷ []
buffered_first = refl

buffered_second : counts (window_of (read_at_two 2 3) tags_two homes_two 3 1 1) ≡ 8 ∷ 22 ∷ 13 ∷ 2
    ∷ 0 ∷ []
buffered_second = refl

buffered_third : counts (window_of (read_at_two 2 3) tags_two homes_two 3 1 2) ≡ 8 ∷ 26 ∷ 26 ∷ 1 ∷ 0
    ∷ 1 ∷ []
buffered_third = refl

-- ---- the detectors and edges themselves

abbrev lists : Window → List (List ℕ)
lists w = w.detectors ∷ w.edges ∷ w.deps ∷ []

abbrev homes_in_order : List ℕ
homes_in_order = replicate 4 0 ++ replicate 8 1 ++ replicate 4 2

reaching_one : lists (window_of (read_at_two 2 3) tags_two homes_in_order 3 1 0) ≡
    (0 ∷ 1 ∷ 2 ∷ 3 ∷ 5 ∷ 7 ∷ 8 ∷ 10 ∷ [])
    ∷ (0 ∷ 1 ∷ 2 ∷ 3 ∷ 4 ∷ 5 ∷ 6 ∷ 7 ∷ 8 ∷ 10 ∷ 12 ∷ 13 ∷ 15 ∷ 17 ∷ 18 ∷ 19 ∷ 20 ∷ 21 ∷ 22 ∷ 23 ∷ 24
    ∷ 25 ∷ 36 ∷ 38 ∷ 39 ∷ 41 ∷ []) ∷ [] ∷ []
reaching_one = refl

reaching_two : lists (window_of (read_at_two 2 3) tags_two homes_in_order 3 2 0) ≡
    (0 ∷ 1 ∷ 2 ∷ 3 ∷ 5 ∷ 7 ∷ 8 ∷ 10 ∷ 12 ∷ 13 ∷ 14 ∷ 15 ∷ [])
    ∷ (0 ∷ 1 ∷ 2 ∷ 3 ∷ 4 ∷ 5 ∷ 6 ∷ 7 ∷ 8 ∷ 10 ∷ 12 ∷ 13 ∷ 15 ∷ 17 ∷ 18 ∷ 19 ∷ 20 ∷ 21 ∷ 22 ∷ 23 ∷ 24
    ∷ 25 ∷ 36 ∷ 38 ∷ 39 ∷ 41 ∷ 43 ∷ 44 ∷ 45 ∷ 46 ∷ 47 ∷ 48 ∷ 49 ∷ 50 ∷ 51 ∷ []) ∷ [] ∷ []
reaching_two = refl

-- not into a lower cell
not_below : lists (window_of (read_at_two 2 3) tags_two homes_two 3 2 1) ≡
    (5 ∷ 7 ∷ 8 ∷ 10 ∷ 12 ∷ 13 ∷ 14 ∷ 15 ∷ []) ∷ (17 ∷ 18 ∷ 19 ∷ 20 ∷ 21 ∷ 22 ∷ 23 ∷ 24 ∷ 25 ∷ 36
    ∷ 38 ∷ 39 ∷ 41 ∷ 43 ∷ 44 ∷ 45 ∷ 46 ∷ 47 ∷ 48 ∷ 49 ∷ 50 ∷ 51 ∷ []) ∷ (0 ∷ []) ∷ []
not_below = refl

-- ---- five detectors in a row, without a boundary. The homes are 0, 0, 1, 2 and 1

abbrev pub chain : DetectorGraph
chain = record { vertices = 5; edges = pair 1 0 1 ∷ pair 1 1 2 ∷ pair 1 2 3 ∷ pair 1 3 4 ∷ [] }

abbrev pub chain_tags : List Tag
chain_tags = at_slot 3 ∷ at_slot 1 ∷ at_slot 2 ∷ at_slot 5 ∷ at_slot 4 ∷ []

abbrev pub chain_window : ℕ → ℕ → Window
chain_window buffer w = window_of chain chain_tags (0 ∷ 0 ∷ 1 ∷ 2 ∷ 1 ∷ []) 3 buffer w

abbrev pub chain_plan : WindowPlan
chain_plan = record {
  cells = [];
  homes = 0 ∷ 0 ∷ 1 ∷ 2 ∷ 1 ∷ [];
  windows = map (chain_window 1) (0 ∷ 1 ∷ 2 ∷ []);
}

abbrev all_lists : Window → List (List ℕ)
all_lists w = w.detectors ∷ w.edges ∷ w.owned ∷ w.deps ∷ (w.last ∷ []) ∷ []

chain_windows : map all_lists chain_plan.windows ≡
    ((0 ∷ 1 ∷ 2 ∷ []) ∷ (0 ∷ 1 ∷ 2 ∷ []) ∷ (0 ∷ 1 ∷ []) ∷ [] ∷ (3 ∷ []) ∷ [])
    ∷ ((2 ∷ 3 ∷ 4 ∷ []) ∷ (2 ∷ 3 ∷ []) ∷ (2 ∷ 3 ∷ []) ∷ (0 ∷ []) ∷ (5 ∷ []) ∷ [])
    ∷ ((3 ∷ []) ∷ [] ∷ [] ∷ (1 ∷ []) ∷ (5 ∷ []) ∷ []) ∷ []
chain_windows = refl

chain_reach : map (λ buffer. (chain_window buffer 0).detectors) (0 ∷ 1 ∷ 2 ∷ 3 ∷ [])
    ++ (chain_window 3 1).detectors ∷ (chain_window 3 2).detectors ∷ [] ≡
    (0 ∷ 1 ∷ []) ∷ (0 ∷ 1 ∷ 2 ∷ []) ∷ (0 ∷ 1 ∷ 2 ∷ 3 ∷ []) ∷ (0 ∷ 1 ∷ 2 ∷ 3 ∷ 4 ∷ [])
    ∷ (2 ∷ 3 ∷ 4 ∷ []) ∷ (3 ∷ []) ∷ []
chain_reach = refl

chain_places : places chain chain_plan 0 1 ∷ places chain chain_plan 1 2
    ∷ places chain chain_plan 0 2 ∷ [] ≡ (2 ∷ []) ∷ (3 ∷ []) ∷ [] ∷ []
chain_places = refl
