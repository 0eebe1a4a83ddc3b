use Rattle.std.proofs.Common.{◌≡◌, ◌<◌, length, sym, ◌∙◌, subst, arith}
use Rattle.core_state.specs.States.{CoreTable, machine_of}
use Rattle.core_state.proofs.state.CoreState.released.Goals as goal

pub released-requires : goal.released-requires
released-requires c =
    let l = subst (λ (t : CoreTable). c.args.op < length t.task.operations) (sym c.self.view_is)
    c.requires in
    let each = c.self.invariant.releases.each_bit in
    omega (arith, l, each)

pub returns : goal.returns
returns c =
    subst (λ (t : CoreTable). c.released.result ≡ (machine_of t).released c.args.op) c.self.view_is
    (c.released.ensures ∙ c.self.invariant.releases.bit c.args.op
    (subst (λ (t : CoreTable). c.args.op < length t.task.operations) (sym c.self.view_is)
    c.requires))
