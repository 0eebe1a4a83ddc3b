use Rattle.window_model.specs.Grounded.{leaves}
use Rattle.boundary_fold.proofs.tests.leaves.Goals as goal

pub returns : goal.returns
returns c = λ tags told. leaves c.unwrap_or-number.result c.edge.result.now c.edge.ensures.value
    (c.leads_out.ensures told)
