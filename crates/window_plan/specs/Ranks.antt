-- Cells by their keys: what a cell is ranked by.
use Rattle.std.specs.Prelude.{◌≡◌, ◌+◌, ◌%◌, ℕ, List, AllPairs, Contains, map, slice_get, Some}
use Rattle.std.specs.Ordering.{nat_cmp, on, then_cmp}
use Rattle.std.specs.declared.cmp.Ordering.{Ordering}
use Rattle.std.specs.declared.cmp.Ordering.TheVariants.{Less}
use Rattle.graph_model.specs.declared.Tag.{Tag}
use Rattle.window_model.specs.Cells.{Cell, CellOrder, Sliding, Parallel, cell_of}
use Rattle.window_plan.specs.declared.cells.RankKey.{RankKey}

-- a tag whose slot is a block's number
abbrev pub cell_at : Tag → Cell
cell_at tag = record { block = tag.slot; row = tag.tile_row; column = tag.tile_col }

-- the key of a cell; where the kind of plan doesn't look at parity and colour, both are 0
abbrev pub key_of : CellOrder → Cell → RankKey
key_of Sliding cell = record {
  parity = 0;
  colour = 0;
  block = cell.block;
  row = cell.row;
  col = cell.column;
}
key_of Parallel cell = record {
  parity = cell.block % 2;
  colour = (cell.row + cell.column) % 2;
  block = cell.block;
  row = cell.row;
  col = cell.column;
}

abbrev pub tag_key : CellOrder → ℕ → Tag → RankKey
tag_key order commit tag = key_of order (cell_of commit tag)

-- the first field that differs decides
abbrev pub compare : RankKey → RankKey → Ordering
compare =
    then_cmp (on (λ k. k.parity) nat_cmp)
    (then_cmp (on (λ k. k.colour) nat_cmp)
    (then_cmp (on (λ k. k.block) nat_cmp)
    (then_cmp (on (λ k. k.row) nat_cmp) (on (λ k. k.col) nat_cmp))))

-- each key is below all later ones
abbrev pub AreRising : List RankKey → Type 0
AreRising keys = AllPairs (λ one two. compare one two ≡ Less) keys

-- the keys of these tags, each once and rising
pub record AreRanks (order : CellOrder) (commit : ℕ) (tags : List Tag) (ranks : List RankKey) :
    Type 0 where
  pub rising : AreRising ranks
  pub complete : (key : RankKey) → Contains (map (tag_key order commit) tags) key →
      Contains ranks key
  pub inhabited : (key : RankKey) → Contains ranks key →
      Contains (map (tag_key order commit) tags) key

-- the cell that a key names
abbrev pub key_cell : RankKey → Cell
key_cell key = record { block = key.block; row = key.row; column = key.col }

-- for each tag the place of its key
abbrev pub AreHomesByKey : CellOrder → ℕ → List Tag → List RankKey → List ℕ → Type 0
AreHomesByKey order commit tags ranks homes =
    map (slice_get ranks) homes ≡ map (λ tag. Some (tag_key order commit tag)) tags
