use Rattle.std.proofs.Common.{◌∙◌, sym, Some, None}
use Rattle.detector_graph.proofs.Searches.{owned_by_find}
use Rattle.detector_graph.proofs.part.Part.owns.Goals as goal

pub returns-in-Some : goal.returns-in-Some
returns-in-Some c = owned_by_find c.args.self.now.edges c.is_part.ensures.ascending c.args.edge
    (Some c.in-Some.found) (sym c.in-Some.is ∙ c.numbered.ensures)

pub returns-in-None : goal.returns-in-None
returns-in-None c = owned_by_find c.args.self.now.edges c.is_part.ensures.ascending c.args.edge
    None (sym c.in-None.is ∙ c.numbered.ensures)
