use Rattle.std.proofs.Common.{◌≡◌, ◌≤◌, ◌*◌, count_by, flat_map, is_some, length, sum_by}
use Rattle.std.specs.List.{range_with_len}
use Rattle.graph_model.specs.Graph.{weight_at}
use Rattle.graph_model.specs.Limits.{most_edges, most_weight}
use Rattle.window_model.specs.Decoder.{kept_of}
use Rattle.run_report.specs.Reports.{decoder_in}
use Rattle.run_report.proofs.totals.committed.Given as goal

abbrev pub invariant-loop-window : goal.invariant-loop-window
invariant-loop-window l = record {
  windows : l.all.windows ≡ count_by (λ w. is_some ((decoder_in l.core).kept w))
      (range_with_len 0 l.window);
  edges : l.all.edges
      ≡ length (flat_map (kept_of (decoder_in l.core)) (range_with_len 0 l.window));
  weight : l.all.weight ≡ sum_by (weight_at l.core.task.graph)
      (flat_map (kept_of (decoder_in l.core)) (range_with_len 0 l.window));
  few_windows : l.all.windows ≤ l.window;
  few_edges : l.all.edges ≤ l.window * most_edges;
  light : l.all.weight ≤ l.window * (most_edges * most_weight);
}
