use Rattle.std.proofs.Common.{is_some, arith}
use Rattle.graph_model.specs.Graph.{weight_at}
use Rattle.window_model.specs.Decoder.{kept_of}
use Rattle.run_report.specs.Reports.{decoder_in}
use Rattle.run_report.proofs.Ranges.{at_most_one, counted_more, length_more, sum_more}
use Rattle.run_report.proofs.totals.committed.Goals as goal

pub loop-window-preserved : goal.loop-window-preserved
loop-window-preserved c =
    let one = c.window_totals-one.ensures in
    let so_far = c.loop-window.invariant in
    let w = c.loop-window.window in
    let d = decoder_in c.args.core.now in
    record {
      windows = counted_more (λ x. is_some (d.kept x)) w _ _ so_far.windows one.windows;
      edges = length_more (kept_of d) w _ _ so_far.edges one.edges;
      weight = sum_more (weight_at c.args.core.now.task.graph) (kept_of d) w _ _ so_far.weight
          one.weight;
      few_windows = omega (
        arith,
        so_far.few_windows,
        one.windows,
        at_most_one (is_some (d.kept w)),
      );
      few_edges = omega (arith, so_far.few_edges, one.few);
      light = omega (arith, so_far.light, one.light);
    }
