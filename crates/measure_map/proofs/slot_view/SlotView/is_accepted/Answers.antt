use Rattle.std.proofs.Common.{subst}
use Rattle.surface_model.specs.Accepted.{IsAccepted}
use Rattle.measure_map.specs.Seen.{SlotOf}
use Rattle.measure_map.proofs.slot_view.SlotView.is_accepted.Goals as goal

pub returns : goal.returns
returns c = subst (λ (v : SlotOf). IsAccepted v.schedule) c.self.view_is c.self.invariant.accepted
