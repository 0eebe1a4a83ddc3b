use Rattle.std.proofs.Common.{◌≡◌, ◌<◌, [], List, Bool, sym, ap, ◌∙◌, subst, get_or}
use Rattle.std.proofs.lemmas.Option.{get_or_from_slice_get}
use Rattle.graph_model.specs.Problems.{Problem}
use Rattle.window_model.specs.Decoder.{Task}
use Rattle.window_model.specs.Parts.{part_of}
use Rattle.window_model.specs.TicketLaws.{problem_of}
use Rattle.window_model.specs.Windows.{window_count}
use Rattle.window_setting.specs.Defects.{AreClaimDefects}
use Rattle.core_store.specs.Tickets.{ClaimBits}
use Rattle.core_state.specs.States.{CoreTable, machine_of}
use Rattle.window_core.proofs.Awaited.{covered, problem_is}
use Rattle.window_core.proofs.machine.Core.is_problem.Goals as goal

pub write-requires-clause-window : goal.write-requires-clause-window
write-requires-clause-window c =
    let its = covered c.self.inside.state c.is_state.ensures c.args.ticket
    (subst (λ (t : CoreTable). c.args.ticket < (machine_of t).tickets) (sym c.self.view_is)
    c.requires) in
    subst (λ (t : Task). c.claim.inside.window < window_count t.plan)
    (sym c.setting-setting.ensures)
    (subst (λ w. w < window_count c.self.inside.state.task.plan)
    (sym (ap (λ (a : ClaimBits). a.window) c.claim.view_is ∙ c.claim_of-claim.ensures.window))
    its.in_range)

pub part_of-requires : goal.part_of-requires
part_of-requires c =
    let its = covered c.self.inside.state c.is_state.ensures c.args.ticket
    (subst (λ (t : CoreTable). c.args.ticket < (machine_of t).tickets) (sym c.self.view_is)
    c.requires) in
    subst (λ (t : Task). c.claim.inside.window < window_count t.plan)
    (sym c.setting-setting.ensures)
    (subst (λ w. w < window_count c.self.inside.state.task.plan)
    (sym (ap (λ (a : ClaimBits). a.window) c.claim.view_is ∙ c.claim_of-claim.ensures.window))
    its.in_range)

pub sheet-requires : goal.sheet-requires
sheet-requires c =
    let its = covered c.self.inside.state c.is_state.ensures c.args.ticket
    (subst (λ (t : CoreTable). c.args.ticket < (machine_of t).tickets) (sym c.self.view_is)
    c.requires) in
    subst (λ n. c.claim.inside.window < n) (sym c.write.ensures.sheets.each_window)
    (subst (λ (t : Task). c.claim.inside.window < window_count t.plan)
    (sym c.setting-setting.ensures)
    (subst (λ w. w < window_count c.self.inside.state.task.plan)
    (sym (ap (λ (a : ClaimBits). a.window) c.claim.view_is ∙ c.claim_of-claim.ensures.window))
    its.in_range))

-- the problem of the ticket, as it was put together
made : (c : goal.After-is_made_of) → (the : Problem) →
    the ≡ record { part = c.part_of.result.now; defects = c.sheet.result.now } →
    the ≡ problem_of c.args.self.now.task (machine_of c.args.self.now) c.args.ticket
made c the is = subst (λ (p : Problem). p
    ≡ problem_of c.args.self.now.task (machine_of c.args.self.now) c.args.ticket) (sym is)
    (subst (λ (t : CoreTable). (record {
      part = c.part_of.result.now;
      defects = c.sheet.result.now;
    }) ≡ problem_of t.task (machine_of t) c.args.ticket) c.self.view_is
    (problem_is c.self.inside.state c.is_state.ensures c.args.ticket c.claim.inside.window
    c.claim.inside.bits.items _
    (subst (λ (t : CoreTable). c.args.ticket < (machine_of t).tickets) (sym c.self.view_is)
    c.requires)
    (ap (λ (a : ClaimBits). a.window) c.claim.view_is ∙ c.claim_of-claim.ensures.window)
    (ap (λ (a : ClaimBits). a.bits) c.claim.view_is ∙ c.claim_of-claim.ensures.bits)
    (c.part_of.ensures ∙ ap (λ (t : Task). part_of t.graph t.plan c.claim.inside.window)
    c.setting-setting.ensures)
    (subst (λ (t : Task). AreClaimDefects t c.claim.inside.window c.self.inside.state.kept.values
    c.claim.inside.bits.items c.sheet.result.now) c.setting-setting.ensures
    (subst (λ values. AreClaimDefects c.setting-setting.result.now c.claim.inside.window values
    c.claim.inside.bits.items c.sheet.result.now) c.values.ensures
    (subst (λ links. AreClaimDefects c.setting-setting.result.now c.claim.inside.window
    c.values.result.now links c.sheet.result.now) c.deref.ensures.value
    (subst (λ sheet. AreClaimDefects c.setting-setting.result.now c.claim.inside.window
    c.values.result.now c.deref.result.now sheet)
    (get_or_from_slice_get c.write.new.self c.claim.inside.window c.sheet.result.now []
    c.sheet.ensures) c.write.ensures.defects))))))

pub returns-clause-yes : goal.returns-clause-yes
returns-clause-yes c same = made c _ (c.is_made_of.ensures.yes same)

pub returns-clause-no : goal.returns-clause-no
returns-clause-no c differs is =
    c.is_made_of.ensures.no differs (is ∙ sym (made c _ (λ i. record {
      part = c.part_of.result.now;
      defects = c.sheet.result.now;
    })))
