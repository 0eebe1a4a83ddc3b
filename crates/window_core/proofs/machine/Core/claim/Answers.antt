use Rattle.std.proofs.Common.{◌≡◌, ◌<◌, Bool, List, Some, sym, ap, ◌∙◌, subst}
use Rattle.std.specs.Arc.{arc_value}
use Rattle.window_model.specs.Decoder.{Task}
use Rattle.window_model.specs.Speculation.{Claimed, MayClaim}
use Rattle.window_model.specs.Windows.{window_at, window_count}
use Rattle.window_setting.specs.Defects.{AreClaimDefects}
use Rattle.cascade_laws.specs.Turns.{IsClaimTurn}
use Rattle.core_journal.specs.declared.event.Event.TheVariants as entry
use Rattle.core_store.specs.Tickets.{ClaimBits, links_in}
use Rattle.core_state.specs.States.{CoreTable, HasHappened, machine_of}
use Rattle.claim_drafts.specs.Drafts.{Draft, IsDraftOf}
use Rattle.window_core.specs.Claims.{HasPlaces}
use Rattle.window_core.specs.Turned.{IsJobOf}
use Rattle.window_core.proofs.Claiming.{draft_in_plan, draft_last, draft_places, equipped, filled_in_plan, in_drafts, is_filled_draft, is_job, may_claim, some_left}
use Rattle.window_core.proofs.machine.Core.claim.Goals as goal

pub take-draft-requires-clause-window : goal.take-draft-requires-clause-window
take-draft-requires-clause-window g c =
    in_drafts _ c.is_state.ensures _ _ c.self.invariant c.args.window
    (subst (λ (t : CoreTable). IsClaimTurn t.task t.retries (machine_of t) (Some c.args.window))
    (sym c.self.view_is) c.requires)

pub take-draft-requires-clause-left : goal.take-draft-requires-clause-left
take-draft-requires-clause-left g c =
    some_left _ c.is_state.ensures _ _ c.self.invariant c.args.window
    (subst (λ (t : CoreTable). IsClaimTurn t.task t.retries (machine_of t) (Some c.args.window))
    (sym c.self.view_is) c.requires)

pub fill-requires-clause-window : goal.fill-requires-clause-window
fill-requires-clause-window g c =
    subst (λ (d : Draft). d.claim.window < window_count c.self.inside.state.task.plan)
    (sym c.draft.view_is) (draft_in_plan _ c.is_state.ensures _ _ c.self.invariant c.args.window
    (subst (λ (t : CoreTable). IsClaimTurn t.task t.retries (machine_of t) (Some c.args.window))
    (sym c.self.view_is) c.requires) _ _ c.take-draft.ensures)

pub fill-requires-clause-last : goal.fill-requires-clause-last
fill-requires-clause-last g c =
    subst (λ (d : Draft). (window_at c.self.inside.state.task.plan d.claim.window).last
    < (machine_of c.self.inside.state).arrived) (sym c.draft.view_is)
    (draft_last _ c.is_state.ensures _ _ c.self.invariant c.args.window
    (subst (λ (t : CoreTable). IsClaimTurn t.task t.retries (machine_of t) (Some c.args.window))
    (sym c.self.view_is) c.requires) _ _ c.take-draft.ensures)

pub fill-requires-clause-blank : goal.fill-requires-clause-blank
fill-requires-clause-blank g c =
    subst (λ (d : Draft). HasPlaces c.self.inside.state.task d.claim) (sym c.draft.view_is)
    (draft_places _ c.is_state.ensures _ _ c.self.invariant c.args.window
    (subst (λ (t : CoreTable). IsClaimTurn t.task t.retries (machine_of t) (Some c.args.window))
    (sym c.self.view_is) c.requires) _ _ c.take-draft.ensures)

pub finish-claim-requires-clause-window : goal.finish-claim-requires-clause-window
finish-claim-requires-clause-window g c =
    subst (λ (t : Task). c.fill.new.claim.window < window_count t.plan) (sym c.setting.ensures)
    (filled_in_plan _ c.is_state.ensures _ _ c.self.invariant c.args.window
    (subst (λ (t : CoreTable). IsClaimTurn t.task t.retries (machine_of t) (Some c.args.window))
    (sym c.self.view_is) c.requires) _ _ c.take-draft.ensures
    (g.Q.Predictor.may_guess c.args.predictor.now) c.draft.inside.claim c.fill.new.claim
    (ap (λ (d : Draft). d.claim) c.draft.view_is) c.fill.ensures.window c.fill.ensures.filled)

pub finish-claim-requires-clause-draft : goal.finish-claim-requires-clause-draft
finish-claim-requires-clause-draft g c =
    subst (λ (t : Task). IsDraftOf t c.fill.new.claim.window (record {
      claim = c.fill.new.claim;
      part = arc_value c.draft.inside.part;
      defects = c.draft.inside.defects;
    })) (sym c.setting.ensures)
    (subst (λ (d : Draft). IsDraftOf c.self.inside.state.task c.fill.new.claim.window
    (record d { claim = c.fill.new.claim })) (sym c.draft.view_is)
    (is_filled_draft _ c.is_state.ensures _ _ c.self.invariant c.args.window
    (subst (λ (t : CoreTable). IsClaimTurn t.task t.retries (machine_of t) (Some c.args.window))
    (sym c.self.view_is) c.requires) _ _ c.take-draft.ensures
    (g.Q.Predictor.may_guess c.args.predictor.now) c.draft.inside.claim c.fill.new.claim
    (ap (λ (d : Draft). d.claim) c.draft.view_is) c.fill.ensures.window c.fill.ensures.filled))

pub claim-ticket-requires-clause-may : goal.claim-ticket-requires-clause-may
claim-ticket-requires-clause-may g c =
    subst (λ (a : ClaimBits). MayClaim c.self.inside.state.task c.self.inside.state.retries
    (machine_of c.self.inside.state) (machine_of c.self.inside.state).tickets a.window
    (links_in c.self.inside.state.task.plan a)) (sym c.finish-claim.ensures.claim)
    (may_claim _ c.is_state.ensures _ _ c.self.invariant c.args.window
    (subst (λ (t : CoreTable). IsClaimTurn t.task t.retries (machine_of t) (Some c.args.window))
    (sym c.self.view_is) c.requires) _ _ c.take-draft.ensures
    (g.Q.Predictor.may_guess c.args.predictor.now) c.draft.inside.claim c.fill.new.claim
    (ap (λ (d : Draft). d.claim) c.draft.view_is) c.fill.ensures.window c.fill.ensures.filled)

pub invariant_of-self : goal.invariant_of-self
invariant_of-self g c =
    equipped _ c.is_state.ensures _ _ c.self.invariant c.args.window
    (subst (λ (t : CoreTable). IsClaimTurn t.task t.retries (machine_of t) (Some c.args.window))
    (sym c.self.view_is) c.requires) _ _ c.take-draft.ensures
    (g.Q.Predictor.may_guess c.args.predictor.now) c.draft.inside.claim c.fill.new.claim
    (ap (λ (d : Draft). d.claim) c.draft.view_is) c.fill.ensures.window c.fill.ensures.filled _ _
    c.claim-ticket.ensures.number
    (subst (λ (a : ClaimBits). HasHappened c.self.inside.state
    (entry.Claimed c.claim-ticket.result a.window) (Claimed c.claim-ticket.result a.window
    (links_in c.self.inside.state.task.plan a)) c.claim-ticket.new.self)
    c.finish-claim.ensures.claim c.claim-ticket.ensures.happened)

pub returns : goal.returns
returns g c =
    subst (λ (t : CoreTable). IsJobOf (g.Q.Predictor.may_guess c.args.predictor.now) t
    c.claim-ticket.new.self (record {
      ticket = c.claim-ticket.result;
      problem = c.finish-claim.result.1;
    })) c.self.view_is
    (is_job _ c.is_state.ensures _ _ c.self.invariant c.args.window
    (subst (λ (t : CoreTable). IsClaimTurn t.task t.retries (machine_of t) (Some c.args.window))
    (sym c.self.view_is) c.requires) _ _ c.take-draft.ensures
    (g.Q.Predictor.may_guess c.args.predictor.now) c.draft.inside.claim c.fill.new.claim
    (ap (λ (d : Draft). d.claim) c.draft.view_is) c.fill.ensures.window c.fill.ensures.filled _ _
    c.claim-ticket.ensures.number
    (subst (λ (a : ClaimBits). HasHappened c.self.inside.state
    (entry.Claimed c.claim-ticket.result a.window) (Claimed c.claim-ticket.result a.window
    (links_in c.self.inside.state.task.plan a)) c.claim-ticket.new.self)
    c.finish-claim.ensures.claim c.claim-ticket.ensures.happened) c.finish-claim.result.1
    (c.finish-claim.ensures.part ∙ ap (λ (d : Draft). d.part) c.draft.view_is)
    (subst (λ (t : Task). AreClaimDefects t c.fill.new.claim.window c.self.inside.state.kept.values
    c.fill.new.claim.bits c.finish-claim.result.1.defects) c.setting.ensures
    (subst (λ values. AreClaimDefects c.setting.result.now c.fill.new.claim.window values
    c.fill.new.claim.bits c.finish-claim.result.1.defects) c.values.ensures
    c.finish-claim.ensures.defects)))
