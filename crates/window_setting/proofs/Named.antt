-- The windows that an operation needs, and the slots of its raw values.
use Rattle.std.proofs.Common.{◌≡◌, ◌≤◌, ◌<◌, ℕ, Bool, List, [], length, map, get_or, slice_index, slice_get, Some, sym, ap, ◌∙◌, subst, arith, All}
use Rattle.std.specs.List.{list_any, range_with_len}
use Rattle.std.specs.List.Sorted.{IsStrictlyIncreasing}
use Rattle.std.proofs.lemmas.List.{length-map, get_or-map}
use Rattle.std.proofs.lemmas.List.FromFn.{length-range_with_len}
use Rattle.std.proofs.lemmas.List.Kept.{IsStrictlyIncreasing-filter}
use Rattle.std.proofs.lemmas.Option.{same_Some, slice_get-get_or}
use Rattle.graph_model.proofs.Incidence.{increasing_range}
use Rattle.std.proofs.lemmas.List.Sums.{count_by-le-length, length-filter}
use Rattle.graph_model.specs.Graph.{flips}
use Rattle.graph_model.specs.Parity.{parity}
use Rattle.window_model.specs.Decoder.{Operation, Task, needs, operation_at}
use Rattle.window_model.specs.Windows.{greatest, window_at, window_count}
use Rattle.release_gate.specs.Gated.{AreGates, GateTable}
use Rattle.release_gate.specs.Operations.{TimedOperation, labels_of, operation_of, raw_slots_of}
use Rattle.window_setting.specs.Slots.{last_raw}

pub needs_count : (task : Task) (op : ℕ) → length (needs task op) ≤ window_count task.plan
needs_count task op =
    let p : ℕ → Bool = λ w. list_any (λ e. parity (λ l. flips task.graph l e)
    (operation_at task op).labels) (window_at task.plan w).owned in
    let range = range_with_len 0 (window_count task.plan) in
    let a = length-filter p range in
    let b = count_by-le-length p range in
    let c = length-range_with_len 0 (window_count task.plan) in
    omega (arith, a, b, c)

pub needs_rise : (task : Task) (op : ℕ) → IsStrictlyIncreasing (needs task op)
needs_rise task op = IsStrictlyIncreasing-filter _ (range_with_len 0 (window_count task.plan))
    (increasing_range 0 (window_count task.plan))

-- what the gates have of it
pub needs_read : (task : Task) (gates : GateTable) (op : ℕ) (windows : List ℕ) →
    AreGates task gates → op < length task.operations →
    slice_get gates.needs op ≡ Some windows → windows ≡ needs task op
needs_read task gates op windows gated l is =
    let within : op < length gates.needs = omega (arith, l, gated.each_needs) in
    same_Some windows (get_or gates.needs op []) (sym is
    ∙ slice_get-get_or gates.needs op [] within) ∙ gated.needed op l

-- the greatest of the raw slots that an operation is given with
pub last_raw_is : (task : Task) (ops : List TimedOperation) (op : ℕ) (spec : TimedOperation) →
    task.operations ≡ map operation_of ops →
    All (λ o. map (slice_index task.raw_slots) (labels_of o) ≡ raw_slots_of o) ops →
    op < length task.operations → spec ≡ get_or ops op spec →
    greatest (raw_slots_of spec) ≡ last_raw task op
last_raw_is task ops op spec same raws l is =
    let within : op < length ops = omega (arith, l, ap length same, length-map ops operation_of) in
    let none : Operation = record { slot = 0; labels = [] } in
    let found : operation_at task op ≡ operation_of spec =
    ap (λ os. get_or os op none) same ∙ get_or-map operation_of ops op spec none within
    ∙ ap operation_of (sym is) in
    let slots : map (slice_index task.raw_slots) (labels_of spec) ≡ raw_slots_of spec =
    subst (λ o. map (slice_index task.raw_slots) (labels_of o) ≡ raw_slots_of o) (sym is)
    (raws op spec within) in
    ap greatest (sym slots) ∙ ap (λ (o : Operation). greatest
    (map (slice_index task.raw_slots) o.labels)) (sym found)
