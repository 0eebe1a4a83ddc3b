use Rattle.std.proofs.Common.{◌≡◌, ◌<◌, sym, subst}
use Rattle.core_state.specs.States.{CoreTable, HasBits, machine_of}
use Rattle.cascade_laws.specs.Store.{bits_of}
use Rattle.core_journal.specs.Entries.{links_of}
use Rattle.core_store.specs.Tickets.{links_in}
use Rattle.core_state.proofs.Told.{claim_bits, claim_fits, claim_links, claim_window}
use Rattle.core_state.proofs.Ticketed.{taken_claims}
use Rattle.core_state.proofs.state.CoreState.claim_of.Goals as goal

pub claim-requires : goal.claim-requires
claim-requires c =
    taken_claims _ c.self.invariant c.args.ticket
    (subst (λ (t : CoreTable). c.args.ticket < (machine_of t).tickets) (sym c.self.view_is)
    c.requires)

pub returns-clause-window : goal.returns-clause-window
returns-clause-window c =
    subst (λ (t : CoreTable). c.claim.result.now.window
    ≡ ((machine_of t).claim c.args.ticket).window) c.self.view_is
    (claim_window _ c.self.invariant c.args.ticket c.claim.result.now
    (subst (λ (t : CoreTable). c.args.ticket < (machine_of t).tickets) (sym c.self.view_is)
    c.requires) c.claim.ensures)

pub returns-clause-links : goal.returns-clause-links
returns-clause-links c =
    subst (λ (t : CoreTable). links_in t.task.plan c.claim.result.now
    ≡ links_of t.kept c.args.ticket) c.self.view_is
    (claim_links _ c.self.invariant c.args.ticket c.claim.result.now c.claim.ensures)

pub returns-clause-bits : goal.returns-clause-bits
returns-clause-bits c =
    subst (λ (t : CoreTable). c.claim.result.now.bits
    ≡ bits_of ((machine_of t).claim c.args.ticket).links) c.self.view_is
    (claim_bits _ c.self.invariant c.args.ticket c.claim.result.now
    (subst (λ (t : CoreTable). c.args.ticket < (machine_of t).tickets) (sym c.self.view_is)
    c.requires) c.claim.ensures)

pub returns-clause-each_place : goal.returns-clause-each_place
returns-clause-each_place c =
    subst (λ (t : CoreTable). HasBits t.task c.claim.result.now) c.self.view_is
    (claim_fits _ c.self.invariant c.args.ticket c.claim.result.now c.claim.ensures)
