use Rattle.std.proofs.Common.{◌≡◌}
use Rattle.graph_model.specs.Graph.{is_in}
use Rattle.window_model.specs.Decoder.{needs}
use Rattle.window_model.specs.Windows.{all_below}
use Rattle.core_store.proofs.waiting.waiting_for.Given as goal

-- the operations so far
abbrev pub invariant-loop-op : goal.invariant-loop-op
invariant-loop-op l = l.ops.items ≡ all_below l.op (λ op. is_in (needs l.setting op) l.window)
