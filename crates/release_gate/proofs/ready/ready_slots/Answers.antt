use Rattle.std.proofs.Common.{◌<◌, ◌++◌, ◌∷◌, [], length, sym, ap, ◌∙◌, subst, arith}
use Rattle.window_model.specs.Windows.{window_at}
use Rattle.graph_model.proofs.Members.{all_within}
use Rattle.window_model.specs.Gates.{AreReadySlots, latest}
use Rattle.release_gate.specs.Slots.{ready_below}
use Rattle.release_gate.proofs.Waits.{are_ready, length-ready_below, none_ready, one_more_ready}
use Rattle.release_gate.proofs.ready.ready_slots.Goals as goal

pub loop-window-init : goal.loop-window-init
loop-window-init c = c.in_ok-slots.ensures.items ∙ none_ready c.args.plan.now.plan

pub latest-slot-requires-clause-deps : goal.latest-slot-requires-clause-deps
latest-slot-requires-clause-deps c =
    let plan = c.args.plan.now.plan in
    let w = c.loop-window.window in
    let long = ap length (c.deref.ensures.value ∙ c.loop-window.invariant)
    ∙ length-ready_below plan w in
    all_within (λ x. x < length c.deref.result.now) (window_at plan w).deps (λ x m.
    let low = c.requires w x m in omega (arith, low, long))

pub loop-window-preserved : goal.loop-window-preserved
loop-window-preserved c =
    let plan = c.args.plan.now.plan in
    let w = c.loop-window.window in
    c.in_ok-push.ensures.items
    ∙ ap (λ xs. xs ++ c.latest-slot.result ∷ []) c.loop-window.invariant
    ∙ ap (λ x. ready_below plan w ++ x ∷ []) (c.latest-slot.ensures
    ∙ ap (λ xs. latest plan xs w) (c.deref.ensures.value ∙ c.loop-window.invariant))
    ∙ sym (one_more_ready plan w)

pub returns-clause-value : goal.returns-clause-value
returns-clause-value c =
    c.loop-window.invariant
    ∙ ap (ready_below c.args.plan.now.plan) (omega (
      arith,
      c.loop-window-test.false,
      c.loop-window.auto.window-end,
      c.windows-window-end.ensures,
    ))

pub returns-clause-few : goal.returns-clause-few
returns-clause-few c =
    let long = ap length c.loop-window.invariant
    ∙ length-ready_below c.args.plan.now.plan c.loop-window.window in
    omega (arith, long, c.loop-window.auto.window-end, c.windows-window-end.type_inv)

pub returns-clause-ready : goal.returns-clause-ready
returns-clause-ready c = subst (AreReadySlots c.args.plan.now.plan) (sym (returns-clause-value c))
    (are_ready c.args.plan.now.plan c.requires)
