use Rattle.std.proofs.Common.{◌≡◌, ◌<◌, [], List, Bool, sym, ap, ◌∙◌, subst, get_or}
use Rattle.std.proofs.lemmas.Option.{get_or_from_slice_get}
use Rattle.graph_model.specs.Problems.{Problem}
use Rattle.window_model.specs.Decoder.{Task}
use Rattle.window_model.specs.Parts.{part_of}
use Rattle.window_model.specs.TicketLaws.{problem_of}
use Rattle.window_model.specs.Windows.{window_count}
use Rattle.window_setting.specs.Defects.{AreClaimDefects}
use Rattle.core_store.specs.Tickets.{ClaimBits}
use Rattle.core_state.specs.States.{CoreTable, machine_of}
use Rattle.std.specs.Arc.{arc_value}
use Rattle.window_core.proofs.Awaited.{covered, problem_is}
use Rattle.window_core.proofs.machine.Core.job.Goals as goal

pub part-requires : goal.part-requires
part-requires c =
    let its = covered c.self.inside.state c.is_state.ensures c.args.ticket
    (subst (λ (t : CoreTable). c.args.ticket < (machine_of t).tickets) (sym c.self.view_is)
    c.requires) in
    subst (λ (t : Task). c.claim.inside.window < window_count t.plan)
    (sym c.setting-setting.ensures)
    (subst (λ w. w < window_count c.self.inside.state.task.plan)
    (sym (ap (λ (a : ClaimBits). a.window) c.claim.view_is ∙ c.claim_of-claim.ensures.window))
    its.in_range)

pub write_defects-requires-clause-window : goal.write_defects-requires-clause-window
write_defects-requires-clause-window c =
    let its = covered c.self.inside.state c.is_state.ensures c.args.ticket
    (subst (λ (t : CoreTable). c.args.ticket < (machine_of t).tickets) (sym c.self.view_is)
    c.requires) in
    subst (λ (t : Task). c.claim.inside.window < window_count t.plan)
    (sym c.setting-setting.ensures)
    (subst (λ w. w < window_count c.self.inside.state.task.plan)
    (sym (ap (λ (a : ClaimBits). a.window) c.claim.view_is ∙ c.claim_of-claim.ensures.window))
    its.in_range)

pub returns : goal.returns
returns c = record {
  ticket = λ i. c.args.ticket;
  problem = subst (λ (t : CoreTable). (record {
    part = arc_value c.in_ok-part.part;
    defects = c.write_defects.new.into;
  }) ≡ problem_of t.task (machine_of t) c.args.ticket) c.self.view_is
      (problem_is c.self.inside.state c.is_state.ensures c.args.ticket c.claim.inside.window
      c.claim.inside.bits.items _
      (subst (λ (t : CoreTable). c.args.ticket < (machine_of t).tickets) (sym c.self.view_is)
      c.requires)
      (ap (λ (a : ClaimBits). a.window) c.claim.view_is ∙ c.claim_of-claim.ensures.window)
      (ap (λ (a : ClaimBits). a.bits) c.claim.view_is ∙ c.claim_of-claim.ensures.bits)
      (c.in_ok-part.ensures ∙ ap (λ (t : Task). part_of t.graph t.plan c.claim.inside.window)
      c.setting-setting.ensures)
      (subst (λ (t : Task). AreClaimDefects t c.claim.inside.window c.self.inside.state.kept.values
      c.claim.inside.bits.items c.write_defects.new.into) c.setting-setting.ensures
      (subst (λ values. AreClaimDefects c.setting-setting.result.now c.claim.inside.window values
      c.claim.inside.bits.items c.write_defects.new.into) c.values.ensures
      (subst (λ links. AreClaimDefects c.setting-setting.result.now c.claim.inside.window
      c.values.result.now links c.write_defects.new.into) c.deref-2.ensures.value
      c.write_defects.ensures.claimed))));
}
