-- The regions and corners that the calls take, and the qubits of a support.
use Rattle.std.specs.Prelude.{ℕ, ◌≤◌, ◌+◌, ◌%◌, ◌≡◌, List, take}
use Rattle.surface_model.specs.Layout.{Place, Region}
use Rattle.patch_layout.specs.declared.types.Support.{Support}

-- the qubits of a support
abbrev pub support_of : Support → List Place
support_of s = take s.count s.qubits

-- More than any row and column of a board, so that sums with them fit into a machine's number.
abbrev pub most_coordinate : ℕ
most_coordinate = 1000

-- an even origin, odd sides of at least 3, and no coordinate too great
pub record IsWellFormed (r : Region) : Type 0 where
  pub even_row : r.row % 2 ≡ 0
  pub even_column : r.column % 2 ≡ 0
  pub odd_height : r.height % 2 ≡ 1
  pub odd_width : r.width % 2 ≡ 1
  pub tall : 3 ≤ r.height
  pub wide : 3 ≤ r.width
  pub bottom : r.row + r.height ≤ most_coordinate
  pub right : r.column + r.width ≤ most_coordinate

-- a place with no coordinate too great
pub record IsNear (p : Place) : Type 0 where
  pub row : p.row ≤ most_coordinate
  pub column : p.column ≤ most_coordinate
