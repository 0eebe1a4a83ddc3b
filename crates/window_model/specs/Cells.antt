-- Cells of a window plan. Time is cut into blocks of `commit` slots and space into tiles, one for
-- each place of a patch; a cell is a block at a tile. The windows are the cells that hold a
-- detector, numbered by rank: the order in which their commit regions take over the edges that they
-- share.
use Rattle.std.specs.Prelude.{◌≡◌, ℕ, ◌+◌, ◌/◌, ◌%◌, List, [], ◌∷◌, length, slice_get, slice_index, All, AllPairs, Contains, map, Some}
use Rattle.std.specs.Ordering.{nat_cmp}
use Rattle.std.specs.Cmp.Lexicographic.{slice_cmp}
use Rattle.std.specs.declared.cmp.Ordering.TheVariants.{Less}
use Rattle.graph_model.specs.declared.Tag.{Tag}

-- a block of slots, at the tile of this row and column
pub record Cell : Type 0 where
  pub block : ℕ
  pub row : ℕ
  pub column : ℕ

-- windows one after another in time; or every second block and tile first, so that windows of one
-- colour depend on none of their own
pub data CellOrder : Type 0 where
  Sliding : CellOrder
  Parallel : CellOrder

-- the cell of a detector, where a block has this many slots
abbrev pub cell_of : ℕ → Tag → Cell
cell_of commit tag = record { block = tag.slot / commit; row = tag.tile_row; column = tag.tile_col }

-- what cells are ranked by, the first number first: by block, then tile; or by the block's parity,
-- then the tile's colour, then block and tile. Even comes first.
abbrev pub rank_key : CellOrder → Cell → List ℕ
rank_key Sliding cell = cell.block ∷ cell.row ∷ cell.column ∷ []
rank_key Parallel cell = cell.block % 2 ∷ (cell.row + cell.column) % 2 ∷ cell.block ∷ cell.row
    ∷ cell.column ∷ []

abbrev pub IsRankedBelow : CellOrder → Cell → Cell → Type 0
IsRankedBelow order one two = slice_cmp nat_cmp (rank_key order one) (rank_key order two) ≡ Less

-- the cells that hold a detector, each once and by rank: they rise, they have each detector's cell,
-- and no other
pub record AreWindowCells (order : CellOrder) (commit : ℕ) (tags : List Tag)
    (cells : List Cell) : Type 0 where
  pub ranked : AllPairs (IsRankedBelow order) cells
  pub complete : All (λ tag. Contains cells (cell_of commit tag)) tags
  pub inhabited : All (λ cell. Contains (map (cell_of commit) tags) cell) cells

-- for each detector the number of its cell
pub record AreHomes (commit : ℕ) (tags : List Tag) (cells : List Cell)
    (homes : List ℕ) : Type 0 where
  pub each_one : length homes ≡ length tags
  pub home : (v : ℕ) (tag : Tag) → slice_get tags v ≡ Some tag →
      slice_get cells (slice_index homes v) ≡ Some (cell_of commit tag)
