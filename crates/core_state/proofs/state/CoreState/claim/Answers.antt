use Rattle.std.proofs.Common.{◌≡◌, length, sym, ap, ◌∙◌, subst}
use Rattle.window_model.specs.Speculation.{Claimed, MayClaim}
use Rattle.window_model.specs.Windows.{window_at}
use Rattle.core_store.specs.Tickets.{ClaimBits, links_in}
use Rattle.core_state.specs.States.{CoreTable, HasBits, machine_of}
use Rattle.core_state.proofs.Follows.{has_room}
use Rattle.core_state.proofs.Ticketed.{claim_goes, claim_room, claim_taken, from_claim}
use Rattle.core_state.proofs.state.CoreState.claim.Goals as goal

pub claim-ticket-requires : goal.claim-ticket-requires
claim-ticket-requires c =
    let may = (subst (λ (t : CoreTable). MayClaim t.task t.retries (machine_of t)
    (machine_of t).tickets c.args.asked.window (links_in t.task.plan c.args.asked))
    (sym c.self.view_is) c.requires.may) in
    let each = (subst (λ (t : CoreTable). length c.args.asked.origins ≡ length (window_at
    t.task.plan c.args.asked.window).deps) (sym c.self.view_is) c.requires.origins) in
    rw (
      (ap (λ (a : ClaimBits). a.window) c.asked.view_is),
      (c.deref.ensures.value ∙ ap (λ (a : ClaimBits). a.origins) c.asked.view_is),
    )
    (claim_taken _ c.self.invariant c.args.asked may each)

pub take-requires : goal.take-requires
take-requires c =
    let may = (subst (λ (t : CoreTable). MayClaim t.task t.retries (machine_of t)
    (machine_of t).tickets c.args.asked.window (links_in t.task.plan c.args.asked))
    (sym c.self.view_is) c.requires.may) in
    claim_room _ c.self.invariant c.args.asked _ may

pub note-requires : goal.note-requires
note-requires c =
    let may = (subst (λ (t : CoreTable). MayClaim t.task t.retries (machine_of t)
    (machine_of t).tickets c.args.asked.window (links_in t.task.plan c.args.asked))
    (sym c.self.view_is) c.requires.may) in
    has_room _ c.self.invariant (Claimed _ c.args.asked.window _) may

pub invariant_of-self : goal.invariant_of-self
invariant_of-self c =
    let may = (subst (λ (t : CoreTable). MayClaim t.task t.retries (machine_of t)
    (machine_of t).tickets c.args.asked.window (links_in t.task.plan c.args.asked))
    (sym c.self.view_is) c.requires.may) in
    let each = (subst (λ (t : CoreTable). length c.args.asked.origins ≡ length (window_at
    t.task.plan c.args.asked.window).deps) (sym c.self.view_is) c.requires.origins) in
    let full = subst (λ (t : CoreTable). HasBits t.task c.args.asked) (sym c.self.view_is)
    c.requires.bits in
    rw (
      c.claim-ticket.ensures.table,
      c.take.ensures,
      c.note.ensures,
      (ap (λ (a : ClaimBits). a.window) c.asked.view_is),
      (c.deref.ensures.value ∙ ap (λ (a : ClaimBits). a.origins) c.asked.view_is),
    )
    (claim_goes _ c.self.invariant c.args.asked may each full c.claim-ticket.result
    c.claim-ticket.ensures.number).parts

pub returns-clause-happened : goal.returns-clause-happened
returns-clause-happened c =
    let may = (subst (λ (t : CoreTable). MayClaim t.task t.retries (machine_of t)
    (machine_of t).tickets c.args.asked.window (links_in t.task.plan c.args.asked))
    (sym c.self.view_is) c.requires.may) in
    let each = (subst (λ (t : CoreTable). length c.args.asked.origins ≡ length (window_at
    t.task.plan c.args.asked.window).deps) (sym c.self.view_is) c.requires.origins) in
    let full = subst (λ (t : CoreTable). HasBits t.task c.args.asked) (sym c.self.view_is)
    c.requires.bits in
    let went = claim_goes _ c.self.invariant c.args.asked may each full c.claim-ticket.result
    c.claim-ticket.ensures.number in
    from_claim _ _ _ _ _ _ c.self.view_is (rw (
      c.take.ensures,
      c.note.ensures,
      (ap (λ (a : ClaimBits). a.window) c.asked.view_is),
    ) went.happened)
