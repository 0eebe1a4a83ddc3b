use Rattle.std.proofs.Common.{refl, subst, ◌∙◌, ap}
use Rattle.window_model.specs.Speculation.{Returned}
use Rattle.core_journal.specs.declared.event.Event.TheVariants as entry
use Rattle.core_state.specs.States.{CoreTable, HasHappened, MayHappen}
use Rattle.window_core.specs.Cores.{current_of}
use Rattle.window_core.specs.Turned.{IsSetAside}
use Rattle.window_core.proofs.machine.Core.report.Goals as goal

pub returns-then-is_awaited : goal.returns-then-is_awaited
returns-then-is_awaited c = (
  c.is_awaited.ensures.yes c.if-is_awaited.true,
  subst (λ (t : CoreTable). MayHappen t (Returned c.args.finished.ticket
      c.args.finished.decoded.set)) c.is_awaited.ensures.same c.hold.ensures.may,
  subst (λ (t : CoreTable). HasHappened t (entry.Held c.args.finished.ticket)
      (Returned c.args.finished.ticket c.args.finished.decoded.set) c.hold.new.self)
      c.is_awaited.ensures.same c.hold.ensures.happened,
)

pub returns : goal.returns
returns c = (
  λ is. c.is_awaited.ensures.no c.if-is_awaited.false is,
  refl,
  c.set_aside-current.ensures.current ∙ ap (λ (t : CoreTable). current_of t
      c.args.finished.ticket) c.is_awaited.ensures.same,
  subst (λ (t : CoreTable). IsSetAside t c.set_aside-current.new.self c.args.finished.ticket
      c.set_aside-current.result) c.is_awaited.ensures.same c.set_aside-current.ensures.aside,
)
