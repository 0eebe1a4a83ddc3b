use Rattle.std.proofs.Common.{◌≡◌}
use Rattle.core_state.specs.States.{machine_of}
use Rattle.window_core.specs.Claims.{AreFilled}
use Rattle.window_core.proofs.links.fill.Given as goal

-- the links so far
abbrev pub invariant-loop-at : goal.invariant-loop-at
invariant-loop-at g l = record {
  window : l.claim-inside.window ≡ l.window;
  filled : AreFilled (g.Q.Predictor.may_guess l.predictor) l.state.task (machine_of l.state)
      (record {
        window = l.claim-inside.window;
        origins = l.claim-inside.origins.items;
        bits = l.claim-inside.bits.items;
      }) l.at;
}
