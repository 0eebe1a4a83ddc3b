use Rattle.std.proofs.Common.{arith, sym}
use Rattle.surface_model.specs.Errors.{mechanisms}
use Rattle.error_map.specs.Seen.{mechanism_of, mechanisms_of}
use Rattle.error_map.proofs.Limits.{edges_all, edges_turn, listed_at, sources_all, sources_turn}
use Rattle.error_map.proofs.building.edges_of.Goals as goal

pub push_edge-requires : goal.push_edge-requires
push_edge-requires c =
    let s = c.args.lookup.now in
    let l = listed_at c.args.listed.now (mechanisms s) c.requires c.loop-number.number
    c.mechanism_at-mechanism.result c.loop-number-test.true c.mechanism_at-mechanism.ensures in
    (c.loop-number.number, l.0, sym l.1)

pub loop-number-preserved : goal.loop-number-preserved
loop-number-preserved c =
    let s = c.args.lookup.now in
    let e = mechanism_of c.mechanism_at-mechanism.result in
    let i = c.loop-number.number in
    let l = listed_at c.args.listed.now (mechanisms s) c.requires i c.mechanism_at-mechanism.result
    c.loop-number-test.true c.mechanism_at-mechanism.ensures in
    record {
      edges = edges_turn s i e l.0 l.1 c.loop-number.edges.items c.push_edge.new.edges.items
          c.loop-number.invariant.edges c.in_ok-push_edge.ensures.edges;
      sources = sources_turn s i e l.0 l.1 (mechanisms_of c.loop-number.sources.items)
          (mechanisms_of c.push_edge.new.sources.items) c.loop-number.invariant.sources
          c.in_ok-push_edge.ensures.sources;
    }

pub returns-clause-edges : goal.returns-clause-edges
returns-clause-edges c =
    edges_all c.args.lookup.now c.args.listed.now c.requires c.loop-number.number (omega arith)
    c.loop-number.edges.items c.loop-number.invariant.edges

pub returns-clause-sources : goal.returns-clause-sources
returns-clause-sources c =
    sources_all c.args.lookup.now c.args.listed.now c.requires c.loop-number.number (omega arith)
    (mechanisms_of c.loop-number.sources.items) c.loop-number.invariant.sources
