use Rattle.std.proofs.Common.{◌∙◌}
use Rattle.graph_model.proofs.Ascending.{found_or_not}
use Rattle.dual_certificate.proofs.sums.holds.Goals as goal

pub returns : goal.returns
returns c = c.is_ok.ensures.value ∙ found_or_not c.args.members.now c.args.member
    c.binary_search.result c.requires c.binary_search.ensures.position
