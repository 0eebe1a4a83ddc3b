use Rattle.std.proofs.Common.{◌≡◌, get_or, ap, ◌∙◌}
use Rattle.window_model.specs.Parts.{part_edge}
use Rattle.boundary_fold.specs.Folds.{window_with}
use Rattle.boundary_fold.proofs.Fits.{edges_more}
use Rattle.boundary_fold.proofs.Tabled.{below_next}
use Rattle.boundary_fold.proofs.division.part_edges.Goals as goal

pub loop-number-preserved : goal.loop-number-preserved
loop-number-preserved c =
    let g = c.args.graph.now in
    let ds = c.args.located.now.detectors in
    let os = c.args.owned.now in
    let es = c.args.edges.now in
    let i = c.loop-number.number-index in
    let e = get_or es i 0 in
    let is : c.part_edge.result ≡ part_edge (window_with ds os) e c.edge.result.now =
    c.part_edge.ensures ∙ ap (λ b. record (part_edge (window_with ds os) e c.edge.result.now)
    { owned = b }) c.has_at-is_owned.ensures in
    record {
      edges = edges_more g ds os es i c.edge.result.now c.part_edge.result
          c.loop-number.found.items c.push.new.self.items c.loop-number-test.true
          c.edge.ensures.value is c.loop-number.invariant.edges c.in_ok-push.ensures.items;
      within = c.first_from-next.ensures.within;
      below = λ l. below_next os es c.first_from-next.result i c.requires.rising l
          c.first_from-next.ensures.below;
    }
