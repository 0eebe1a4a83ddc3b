-- Cells by rank, and a whole plan, by tests that compute.
use Rattle.std.proofs.Common.{◌≡◌, ℕ, zero, suc, ◌==◌, ◌&&◌, ◌||◌, Bool, true, false, List, [], ◌∷◌, ◌++◌, map, flat_map, refl, ap, ◌∙◌, subst, arith, eqb-true, All, Contains, slice_get, slice_index, Some}
use Rattle.std.specs.List.{list_all, range_with_len, AllPairs}
use Rattle.std.specs.Ordering.{nat_cmp, is_lt}
use Rattle.std.specs.Cmp.Lexicographic.{slice_cmp}
use Rattle.std.specs.declared.cmp.Ordering.{Ordering}
use Rattle.std.specs.declared.cmp.Ordering.TheVariants.{Less, Equal, Greater}
use Rattle.std.proofs.lemmas.Bool.{and_parts, false≢true}
use Rattle.std.proofs.lemmas.Option.{none-some, same_Some}
use Rattle.std.proofs.lemmas.List.Elements.{All-cons}
use Rattle.std.proofs.lemmas.List.Kept.{AllPairs-cons}
use Rattle.window_model.specs.Cells.{Cell, CellOrder, Sliding, Parallel, cell_of, rank_key, IsRankedBelow, AreWindowCells}
use Rattle.graph_model.specs.declared.Tag.{Tag}
use Rattle.window_model.specs.Windows.{WindowPlan, window_of, IsPlan}
use Rattle.window_model.proofs.OnePatch.{read_at_two, tags_two, homes_two}

less_from : (o : Ordering) → is_lt o ≡ true → o ≡ Less
less_from Less h = refl
less_from Equal h = absurd (false≢true h)
less_from Greater h = absurd (false≢true h)

abbrev is_below : CellOrder → Cell → Cell → Bool
is_below order one two = is_lt (slice_cmp nat_cmp (rank_key order one) (rank_key order two))

abbrev are_ranked : CellOrder → List Cell → Bool
are_ranked order [] = true
are_ranked order (cell ∷ cells) = list_all (is_below order cell) cells && are_ranked order cells

ranked_below : (order : CellOrder) (cell : Cell) (cells : List Cell) →
    list_all (is_below order cell) cells ≡ true → All (IsRankedBelow order cell) cells
ranked_below order cell [] h = λ k d l. absurd (omega arith)
ranked_below order cell (next ∷ cells) h =
    let both = and_parts (is_below order cell next) (list_all (is_below order cell) cells) h in
    All-cons (IsRankedBelow order cell) next cells (less_from (slice_cmp nat_cmp
    (rank_key order cell) (rank_key order next)) both.0) (ranked_below order cell cells both.1)

ranked : (order : CellOrder) (cells : List Cell) → are_ranked order cells ≡ true →
    AllPairs (IsRankedBelow order) cells
ranked order [] h = λ i j d l m. absurd (omega arith)
ranked order (cell ∷ cells) h =
    let both = and_parts (list_all (is_below order cell) cells) (are_ranked order cells) h in
    AllPairs-cons (IsRankedBelow order) cell cells (ranked_below order cell cells both.0)
    (ranked order cells both.1)

abbrev same_cell : Cell → Cell → Bool
same_cell a b = a.block == b.block && (a.row == b.row && a.column == b.column)

same_from : (a b : Cell) → same_cell a b ≡ true → a ≡ b
same_from a b h =
    let one = and_parts (a.block == b.block) (a.row == b.row && a.column == b.column) h in
    let two = and_parts (a.row == b.row) (a.column == b.column) one.1 in
    λ i. record {
      block = eqb-true a.block b.block one.0 i;
      row = eqb-true a.row b.row two.0 i;
      column = eqb-true a.column b.column two.1 i;
    }

abbrev has : List Cell → Cell → Bool
has [] cell = false
has (next ∷ cells) cell = same_cell next cell || has cells cell

contains : (cells : List Cell) (cell : Cell) → has cells cell ≡ true → Contains cells cell
contains [] cell h = absurd (false≢true h)
contains (next ∷ cells) cell h = by_test (same_cell next cell) refl (contains cells cell)
  where
    by_test : (b : Bool) → same_cell next cell ≡ b → (has cells cell ≡ true → Contains cells cell) →
        Contains (next ∷ cells) cell
    by_test true e others = (0, omega arith, same_from next cell e)
    by_test false e others =
        let rest = others (subst (λ t. (t || has cells cell) ≡ true) e h) in
        (suc rest.0, omega (arith, rest.1), rest.2)

all_contained : {X : Type 0} (cells : List Cell) (f : X → Cell) (xs : List X) →
    list_all (λ x. has cells (f x)) xs ≡ true → All (λ x. Contains cells (f x)) xs
all_contained cells f [] h = λ k d l. absurd (omega arith)
all_contained cells f (x ∷ xs) h =
    let both = and_parts (has cells (f x)) (list_all (λ y. has cells (f y)) xs) h in
    All-cons (λ y. Contains cells (f y)) x xs (contains cells (f x) both.0)
    (all_contained cells f xs both.1)

abbrev are_cells : CellOrder → ℕ → List Tag → List Cell → Bool
are_cells order commit tags cells = are_ranked order cells && (list_all (λ tag.
    has cells (cell_of commit tag)) tags && list_all (has (map (cell_of commit) tags)) cells)

pub window_cells : (order : CellOrder) (commit : ℕ) (tags : List Tag) (cells : List Cell) →
    are_cells order commit tags cells ≡ true → AreWindowCells order commit tags cells
window_cells order commit tags cells h =
    let one = and_parts (are_ranked order cells) (list_all (λ tag. has cells (cell_of commit tag))
    tags && list_all (has (map (cell_of commit) tags)) cells) h in
    let two = and_parts (list_all (λ tag. has cells (cell_of commit tag)) tags)
    (list_all (has (map (cell_of commit) tags)) cells) one.1 in
    record {
      ranked = ranked order cells one.0;
      complete = all_contained cells (cell_of commit) tags two.0;
      inhabited = all_contained (map (cell_of commit) tags) (λ cell. cell) cells two.1;
    }

-- ---- cells of two or four tiles

abbrev cell : ℕ → ℕ → ℕ → Cell
cell block row column = record { block = block; row = row; column = column }

abbrev tag : ℕ → ℕ → ℕ → Tag
tag slot row column = record { slot = slot; tile_row = row; tile_col = column }

-- the first tile until slot 5 and the next until slot 3, with blocks of one slot
abbrev two_tiles : List Tag
two_tiles = flat_map (λ t. tag t 0 0 ∷ tag t 0 1 ∷ []) (range_with_len 0 4) ++ tag 4 0 0 ∷ tag 5 0 0
    ∷ tag 5 0 0 ∷ []

parallel_cells : AreWindowCells Parallel 1 two_tiles
    (cell 0 0 0 ∷ cell 2 0 0 ∷ cell 4 0 0 ∷ cell 0 0 1 ∷ cell 2 0 1 ∷ cell 1 0 0 ∷ cell 3 0 0
    ∷ cell 5 0 0 ∷ cell 1 0 1 ∷ cell 3 0 1 ∷ [])
parallel_cells = window_cells Parallel 1 two_tiles (cell 0 0 0 ∷ cell 2 0 0 ∷ cell 4 0 0 ∷ cell 0 0
    1 ∷ cell 2 0 1 ∷ cell 1 0 0 ∷ cell 3 0 0 ∷ cell 5 0 0 ∷ cell 1 0 1 ∷ cell 3 0 1 ∷ []) refl

-- four tiles for six slots, with blocks of two
abbrev four_tiles : List Tag
four_tiles = flat_map (λ t. tag t 0 0 ∷ tag t 0 1 ∷ tag t 1 0 ∷ tag t 1 1 ∷ []) (range_with_len 0 6)

abbrev by_colour : List Cell
by_colour =
    cell 0 0 0 ∷ cell 0 1 1 ∷ cell 2 0 0 ∷ cell 2 1 1 ∷ cell 0 0 1 ∷ cell 0 1 0 ∷ cell 2 0 1
    ∷ cell 2 1 0
    ∷ cell 1 0 0 ∷ cell 1 1 1 ∷ cell 1 0 1 ∷ cell 1 1 0 ∷ []

abbrev by_block : List Cell
by_block = flat_map (λ b. cell b 0 0 ∷ cell b 0 1 ∷ cell b 1 0 ∷ cell b 1 1 ∷ [])
    (range_with_len 0 3)

coloured : AreWindowCells Parallel 2 four_tiles by_colour
coloured = window_cells Parallel 2 four_tiles by_colour refl

in_blocks : AreWindowCells Sliding 2 four_tiles by_block
in_blocks = window_cells Sliding 2 four_tiles by_block refl

-- not in another order, not with a cell too few, and not with an empty one
refused : are_cells Parallel 2 four_tiles by_block ∷ are_cells Sliding 2 four_tiles by_colour
    ∷ are_cells Sliding 3 four_tiles by_block ∷ are_cells Sliding 2 (tag 6 0 0 ∷ four_tiles)
    by_block
    ∷ are_cells Sliding 2 four_tiles (cell 0 0 0 ∷ by_block) ∷ [] ≡ false ∷ false ∷ false ∷ false
    ∷ false ∷ []
refused = refl

no_empty_cell : AreWindowCells Sliding 1 (tag 0 0 0 ∷ []) (cell 0 0 0 ∷ cell 1 0 0 ∷ []) → ⊥
no_empty_cell cells = empty (cells.inhabited 1 (cell 0 0 0) (omega arith))
  where
    empty : Contains (cell 0 0 0 ∷ []) (cell 1 0 0) → ⊥
    empty (zero, l, e) = false≢true (ap (λ c. c.block == 1) e)
    empty (suc k, l, e) = absurd (omega (arith, l))

-- ---- the parallel plan of one patch that is read at slot 2

abbrev cells_two : List Cell
cells_two = cell 0 0 0 ∷ cell 2 0 0 ∷ cell 1 0 0 ∷ []

-- each detector's home has its cell
abbrev pub fit : ℕ → List Cell → List Tag → List ℕ → Type 0
fit commit cells [] homes = Unit {0}
fit commit cells (t ∷ tags) [] = ⊥
fit commit cells (t ∷ tags) (home ∷ homes) = (slice_get cells home ≡ Some (cell_of commit t))
    × fit commit cells tags homes

pub home_at : (commit : ℕ) (cells : List Cell) (tags : List Tag) (homes : List ℕ) →
    fit commit cells tags homes → (v : ℕ) (t : Tag) → slice_get tags v ≡ Some t →
    slice_get cells (slice_index homes v) ≡ Some (cell_of commit t)
home_at commit cells [] homes h v t e = absurd (none-some t e)
home_at commit cells (u ∷ tags) [] h v t e = absurd h
home_at commit cells (u ∷ tags) (home ∷ homes) h zero t e = h.0
    ∙ ap (λ x. Some (cell_of commit x)) (same_Some u t e)
home_at commit cells (u ∷ tags) (home ∷ homes) h (suc v) t e =
    home_at commit cells tags homes h.1 v t e

abbrev plan_two : WindowPlan
plan_two = record {
  cells = cells_two;
  homes = homes_two;
  windows = map (window_of (read_at_two 2 3) tags_two homes_two 3 1) (range_with_len 0 3);
}

is_plan : IsPlan (read_at_two 2 3) tags_two Parallel 1 1 plan_two
is_plan = record {
  cells = window_cells Parallel 1 tags_two cells_two refl;
  homes = record {
    each_one = refl;
    home = home_at 1 cells_two tags_two homes_two (
      refl,
      (
        refl,
        (
          refl,
          (
            refl,
            (
              refl,
              (
                refl,
                (refl, (refl, (refl, (refl, (refl, (refl, (refl, (refl, (refl, (refl, tt)))))))))),
              ),
            ),
          ),
        ),
      ),
    );
  };
  windows = refl;
}
