-- A plan as one line of JSON: compact, with the members of each object in the order of their names.
use Rattle.std.specs.Prelude.{◌≡◌, ℕ, List, [], ◌∷◌, ◌++◌, codes, length, map, slice_index, slice_index_or}
use Rattle.std.specs.List.{range_with_len}
use Rattle.serde_json.specs.Data.{Data, array, member, no_members, number, object, string, unsigned}
use Rattle.serde_json.specs.View.{items_of}
use Rattle.serde_json.specs.Written.{compact_text}
use Rattle.graph_model.specs.Graph.{DetectorGraph}
use Rattle.window_model.specs.Cells.{Cell}
use Rattle.window_model.specs.Decoder.{Task}
use Rattle.window_model.specs.Windows.{Window, WindowPlan, window_at, window_count}
use Rattle.release_gate.specs.Gated.{AreGates, GateTable}
use Rattle.plan_report.specs.declared.rows.WindowRow.{WindowRow}

abbrev pub number_data : ℕ → Data
number_data n = number (unsigned n)

abbrev pub numbers_data : List ℕ → Data
numbers_data ns = array (items_of (map number_data ns))

abbrev pub no_cell : Cell
no_cell = record { block = 0; row = 0; column = 0 }

-- the numbers of a window at its cell
abbrev pub row_of : Cell → ℕ → Window → WindowRow
row_of cell w window = record {
  number = w;
  block = cell.block;
  row = cell.row;
  col = cell.column;
  detectors = length window.detectors;
  edges = length window.edges;
  owned = length window.owned;
  last = window.last;
}

abbrev pub row_at : WindowPlan → ℕ → WindowRow
row_at plan w = row_of (slice_index_or plan.cells w no_cell) w (window_at plan w)

-- a window by its numbers and its dependencies
abbrev pub window_data : WindowRow → List ℕ → Data
window_data row deps =
    object (member (codes "block") (number_data row.block)
    (member (codes "col") (number_data row.col)
    (member (codes "deps") (numbers_data deps)
    (member (codes "detectors") (number_data row.detectors)
    (member (codes "edges") (number_data row.edges)
    (member (codes "last") (number_data row.last)
    (member (codes "number") (number_data row.number)
    (member (codes "owned") (number_data row.owned)
    (member (codes "row") (number_data row.row) no_members)))))))))

abbrev pub window_data_at : WindowPlan → ℕ → Data
window_data_at plan w = window_data (row_at plan w) (window_at plan w).deps

abbrev pub windows_data : WindowPlan → Data
windows_data plan =
    array (items_of (map (window_data_at plan) (range_with_len 0 (window_count plan))))

-- an operation by its label, the windows that it needs and its ready round
abbrev pub op_data : List ℕ → List ℕ → ℕ → Data
op_data label needs ready =
    object (member (codes "label") (string label)
    (member (codes "needs") (numbers_data needs)
    (member (codes "ready") (number_data ready) no_members)))

abbrev pub op_data_at : GateTable → List (List ℕ) → ℕ → Data
op_data_at gates labels op =
    op_data (slice_index_or labels op []) (slice_index_or gates.needs op [])
    (slice_index gates.rounds op)

abbrev pub ops_data : GateTable → List (List ℕ) → Data
ops_data gates labels =
    array (items_of (map (op_data_at gates labels) (range_with_len 0 (length labels))))

unfoldable pub plan_data : DetectorGraph → WindowPlan → GateTable → List (List ℕ) → Data
plan_data g plan gates labels =
    object (member (codes "detectors") (number_data g.vertices)
    (member (codes "edges") (number_data (length g.edges))
    (member (codes "ops") (ops_data gates labels)
    (member (codes "windows") (windows_data plan) no_members))))

abbrev pub plan_line : DetectorGraph → WindowPlan → GateTable → List (List ℕ) → List ℕ
plan_line g plan gates labels = compact_text (plan_data g plan gates labels) ++ 10 ∷ []

-- The text is the line of a task's plan, whose operations have these labels: each with the windows
-- that it needs and its ready round.
pub record IsPlanLine (task : Task) (labels : List (List ℕ)) (text : List ℕ) : Type 0 where
  pub gates : GateTable
  pub gated : AreGates task gates
  pub text_is : text ≡ plan_line task.graph task.plan gates labels
