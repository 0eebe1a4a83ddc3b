use Rattle.std.proofs.Common.{◌≡◌, None, false, ap, arith}
use Rattle.std.proofs.lemmas.List.Elements.{Contains-get_or}
use Rattle.graph_model.specs.declared.PartEdge.{PartEdge}
use Rattle.detector_graph.proofs.Homes.{close_on, less_on, most_on}
use Rattle.detector_graph.proofs.steps.lower.Goals as goal

blank : PartEdge
blank = record { edge = 0; first = 0; second = None; weight = 0; owned = false }

pub loop-edge-preserved : goal.loop-edge-preserved
unfolding blank
loop-edge-preserved c =
    let n = c.args.places in
    let edges = c.args.edges.now in
    let old = c.args.homes.now.items in
    let cur = c.loop-edge.homes.items in
    let new = c.lower_ends-lowered.new.homes.items in
    let before = c.loop-edge.lowered in
    let now = c.lower_ends-lowered.result in
    let i = c.loop-edge.edge-index in
    let inv = c.loop-edge.invariant in
    let so = c.lower_ends-lowered.ensures in
    let same : now ≡ false → new ≡ cur = λ e. ap (λ v. v.items) (so.same e) in
    record {
      led = so.led edges (Contains-get_or edges i blank (omega arith)) inv.led;
      most = most_on n edges old cur new now so.less same inv.most;
      less = less_on n edges old cur new before now inv.less inv.most so.less same;
      close = close_on n edges old cur new before now i blank (omega arith) inv.close same so.close;
    }
