-- The line of a plan has no float.
use Rattle.std.proofs.Common.{◌≡◌, ℕ, false, List, [], ◌∷◌, map, refl}
use Rattle.graph_model.specs.Graph.{DetectorGraph}
use Rattle.window_model.specs.Windows.{WindowPlan, window_at}
use Rattle.release_gate.specs.Gated.{GateTable}
use Rattle.serde_json.specs.View.{items_of}
use Rattle.serde_json.specs.Written.{has_float, items_have_float}
use Rattle.std.specs.List.{range_with_len}
use Rattle.std.specs.Prelude.{length, slice_index_or}
use Rattle.window_model.specs.Windows.{window_count}
use Rattle.plan_report.specs.Lines.{number_data, op_data_at, plan_data, window_data_at}

numbers_exact : (ns : List ℕ) → items_have_float (items_of (map number_data ns)) ≡ false
numbers_exact [] = refl
numbers_exact (n ∷ ns) = numbers_exact ns

windows_exact : (plan : WindowPlan) (ws : List ℕ) →
    items_have_float (items_of (map (window_data_at plan) ws)) ≡ false
windows_exact plan [] = refl
windows_exact plan (w ∷ ws) = rw (numbers_exact (window_at plan w).deps) (windows_exact plan ws)

ops_exact : (gates : GateTable) (labels : List (List ℕ)) (ops : List ℕ) →
    items_have_float (items_of (map (op_data_at gates labels) ops)) ≡ false
ops_exact gates labels [] = refl
ops_exact gates labels (op ∷ ops) =
    rw (numbers_exact (slice_index_or gates.needs op [])) (ops_exact gates labels ops)

pub plan_exact : (g : DetectorGraph) (plan : WindowPlan) (gates : GateTable)
    (labels : List (List ℕ)) → has_float (plan_data g plan gates labels) ≡ false
unfolding plan_data
plan_exact g plan gates labels =
    rw (
      ops_exact gates labels (range_with_len 0 (length labels)),
      windows_exact plan (range_with_len 0 (window_count plan)),
    ) refl
