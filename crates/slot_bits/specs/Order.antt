-- The order in which bits stand in a line.
use Rattle.std.specs.Prelude.{◌≡◌, ◌==◌, ◌+◌, ℕ, if◌then◌else◌, ◌&&◌, ◌||◌, nat_lt, Bool, true, false, List, [], ◌∷◌}
use Rattle.std.specs.List.{list_any}
use Rattle.graph_model.specs.Orders.{ComesFirst, Rises}
use Rattle.surface_model.specs.Layout.{Place, Region, has_qubit, is_check}
use Rattle.surface_model.specs.Measurements.{Bit, Readout, Outcome, same_bit}

-- by row, and then by column
abbrev pub precedes : Place → Place → Bool
precedes p q = nat_lt p.row q.row || (p.row == q.row && nat_lt p.column q.column)

-- readouts, and then outcomes
abbrev pub comes_before : Bit → Bit → Bool
comes_before (Readout p) (Readout q) = precedes p q
comes_before (Readout p) (Outcome q) = true
comes_before (Outcome p) (Readout q) = false
comes_before (Outcome p) (Outcome q) = precedes p q

-- the bit comes before each of these
abbrev pub IsBefore : Bit → List Bit → Type 0
IsBefore b xs = ComesFirst comes_before b xs

-- each bit comes before those after it
abbrev pub IsRising : List Bit → Type 0
IsRising xs = Rises comes_before xs

-- whether the bit is one of these
abbrev pub has_bit : List Bit → Bit → Bool
has_bit bits b = list_any (same_bit b) bits

-- how many of the bits at the front come before this one
abbrev pub rank_of : List Bit → Bit → ℕ
rank_of [] b = 0
rank_of (x ∷ xs) b = if comes_before x b then rank_of xs b + 1 else 0

-- whether the bit is the readout of one of the region's qubits, or the outcome of one of its checks
abbrev pub is_readout_in : Region → Bit → Bool
is_readout_in r (Readout q) = has_qubit r q
is_readout_in r (Outcome c) = false

abbrev pub is_outcome_in : Region → Bit → Bool
is_outcome_in r (Readout q) = false
is_outcome_in r (Outcome c) = is_check r c
