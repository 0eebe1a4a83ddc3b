use Rattle.std.proofs.Common.{subst}
use Rattle.link_lists.specs.Lists.{AreDisjoint}
use Rattle.link_lists.proofs.Writes.{disjoint}
use Rattle.link_lists.proofs.chains.Chains.are_disjoint.Goals as goal

pub returns : goal.returns
returns c = subst AreDisjoint c.self.view_is (disjoint _ _ _ _ _ c.self.invariant)
