use Rattle.std.proofs.Common.{◌<◌, Bool, false, List, All, length, get_or, sym, ap, ◌∙◌, subst}
use Rattle.graph_model.specs.Parity.{◌⊕◌, parity}
use Rattle.window_model.specs.Decoder.{Operation, Task, operation_at}
use Rattle.window_model.specs.Speculation.{Released}
use Rattle.window_model.specs.TurnLaws.{CanRelease}
use Rattle.release_gate.specs.Operations.{labels_of}
use Rattle.core_state.specs.States.{CoreTable, MayHappen, machine_of}
use Rattle.core_state.proofs.Arrived.{released_goes}
use Rattle.core_state.proofs.Bits.{labels_in, may_release, op_in}
use Rattle.core_state.proofs.Follows.{from_view, has_room}
use Rattle.core_state.proofs.state.CoreState.release.Goals as goal

pub operation-spec-requires : goal.operation-spec-requires
operation-spec-requires c =
    let can = (subst (λ (t : CoreTable). CanRelease t.task (machine_of t) c.args.op)
    (sym c.self.view_is) c.requires) in
    subst (λ (t : Task). c.args.op < length t.operations) (sym c.setting.ensures)
    (op_in _ c.self.invariant c.args.op can)

pub bit_of-bit-requires-clause-raws : goal.bit_of-bit-requires-clause-raws
bit_of-bit-requires-clause-raws c =
    let can = (subst (λ (t : CoreTable). CanRelease t.task (machine_of t) c.args.op)
    (sym c.self.view_is) c.requires) in
    subst (λ (o : Operation). All (λ l. l < length c.self.inside.raws) o.labels)
    (sym (c.operation-spec.ensures ∙ ap (λ t. operation_at t c.args.op) c.setting.ensures))
    (labels_in _ c.self.invariant c.args.op can (length c.self.inside.raws)
    c.self.invariant.each_raw)

pub bit_of-bit-requires-clause-flips : goal.bit_of-bit-requires-clause-flips
bit_of-bit-requires-clause-flips c =
    let can = (subst (λ (t : CoreTable). CanRelease t.task (machine_of t) c.args.op)
    (sym c.self.view_is) c.requires) in
    subst (λ (o : Operation). All (λ l. l < length c.frame.result.now) o.labels)
    (sym (c.operation-spec.ensures ∙ ap (λ t. operation_at t c.args.op) c.setting.ensures))
    (labels_in _ c.self.invariant c.args.op can (length c.frame.result.now)
    (ap length c.frame.ensures ∙ c.self.invariant.each_flip))

pub note-requires : goal.note-requires
note-requires c =
    let can = (subst (λ (t : CoreTable). CanRelease t.task (machine_of t) c.args.op)
    (sym c.self.view_is) c.requires) in
    has_room _ c.self.invariant (Released c.args.op c.bit_of-bit.result)
    (may_release _ c.self.invariant c.args.op can c.bit_of-bit.result (c.bit_of-bit.ensures
    ∙ ap (λ (f : List Bool). parity (λ l. get_or c.self.inside.raws l false ⊕ get_or f l false)
    (labels_of c.operation-spec.result.now)) c.frame.ensures
    ∙ ap (λ (o : Operation). parity (λ l. get_or c.self.inside.raws l false
    ⊕ get_or c.self.inside.releases.frame l false) o.labels)
    (c.operation-spec.ensures ∙ ap (λ t. operation_at t c.args.op) c.setting.ensures)))

pub invariant_of-self : goal.invariant_of-self
invariant_of-self c =
    let can = (subst (λ (t : CoreTable). CanRelease t.task (machine_of t) c.args.op)
    (sym c.self.view_is) c.requires) in
    rw (c.release.ensures, c.note.ensures)
    (released_goes _ c.self.invariant c.args.op c.bit_of-bit.result
    (may_release _ c.self.invariant c.args.op can c.bit_of-bit.result (c.bit_of-bit.ensures
    ∙ ap (λ (f : List Bool). parity (λ l. get_or c.self.inside.raws l false ⊕ get_or f l false)
    (labels_of c.operation-spec.result.now)) c.frame.ensures
    ∙ ap (λ (o : Operation). parity (λ l. get_or c.self.inside.raws l false
    ⊕ get_or c.self.inside.releases.frame l false) o.labels)
    (c.operation-spec.ensures ∙ ap (λ t. operation_at t c.args.op) c.setting.ensures)))).parts

pub returns-clause-may : goal.returns-clause-may
returns-clause-may c =
    let can = (subst (λ (t : CoreTable). CanRelease t.task (machine_of t) c.args.op)
    (sym c.self.view_is) c.requires) in
    subst (λ (t : CoreTable). MayHappen t (Released c.args.op c.bit_of-bit.result)) c.self.view_is
    (may_release _ c.self.invariant c.args.op can c.bit_of-bit.result (c.bit_of-bit.ensures
    ∙ ap (λ (f : List Bool). parity (λ l. get_or c.self.inside.raws l false ⊕ get_or f l false)
    (labels_of c.operation-spec.result.now)) c.frame.ensures
    ∙ ap (λ (o : Operation). parity (λ l. get_or c.self.inside.raws l false
    ⊕ get_or c.self.inside.releases.frame l false) o.labels)
    (c.operation-spec.ensures ∙ ap (λ t. operation_at t c.args.op) c.setting.ensures)))

pub returns-clause-happened : goal.returns-clause-happened
returns-clause-happened c =
    let can = (subst (λ (t : CoreTable). CanRelease t.task (machine_of t) c.args.op)
    (sym c.self.view_is) c.requires) in
    from_view _ _ _ _ _ c.self.view_is
    (rw c.note.ensures
    (released_goes _ c.self.invariant c.args.op c.bit_of-bit.result
    (may_release _ c.self.invariant c.args.op can c.bit_of-bit.result (c.bit_of-bit.ensures
    ∙ ap (λ (f : List Bool). parity (λ l. get_or c.self.inside.raws l false ⊕ get_or f l false)
    (labels_of c.operation-spec.result.now)) c.frame.ensures
    ∙ ap (λ (o : Operation). parity (λ l. get_or c.self.inside.raws l false
    ⊕ get_or c.self.inside.releases.frame l false) o.labels)
    (c.operation-spec.ensures ∙ ap (λ t. operation_at t c.args.op) c.setting.ensures)))).happened)
