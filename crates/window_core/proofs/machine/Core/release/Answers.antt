use Rattle.std.proofs.Common.{◌≡◌, Some, refl, sym, subst}
use Rattle.window_model.specs.Speculation.{Released}
use Rattle.core_state.specs.States.{CoreTable, IsReleaseFound, MayHappen, machine_of}
use Rattle.window_core.proofs.Equipped.{turned}
use Rattle.window_core.proofs.machine.Core.release.Goals as goal

pub release-requires : goal.release-requires
release-requires c =
    let found = subst (λ (t : CoreTable). IsReleaseFound t.task t.retries (machine_of t)
    (Some c.args.op)) (sym c.self.view_is) c.requires in
    (found.0, found.1)

pub invariant_of-self : goal.invariant_of-self
invariant_of-self c =
    (turned _ _ _ _ _ _ _ c.self.view_is c.self.invariant (record {
      may = subst (λ (t : CoreTable). MayHappen t (Released c.args.op c.release.result))
          c.self.view_is c.release.ensures.may;
      first = c.requires.2;
    }) (λ w. refl) c.release.ensures.happened).0

pub returns : goal.returns
returns c =
    (turned _ _ _ _ _ _ _ c.self.view_is c.self.invariant (record {
      may = subst (λ (t : CoreTable). MayHappen t (Released c.args.op c.release.result))
          c.self.view_is c.release.ensures.may;
      first = c.requires.2;
    }) (λ w. refl) c.release.ensures.happened).1
