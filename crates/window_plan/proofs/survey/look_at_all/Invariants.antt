use Rattle.std.proofs.Common.{◌≡◌}
use Rattle.window_plan.specs.Layouts.{IsSurvey}
use Rattle.window_plan.proofs.survey.look_at_all.Given as goal

abbrev pub invariant-loop-window : goal.invariant-loop-window
invariant-loop-window l = record {
  windows : l.scratch.windows ≡ record {
    graph = l.graph;
    homes = l.layout.homes.items;
    count = l.layout.windows;
    buffer = l.buffer;
  };
  buffer : l.survey.buffer ≡ l.buffer;
  survey : IsSurvey l.graph l.layout.homes.items l.layout.windows l.buffer l.window
      l.survey.detectors l.survey.deps l.survey.links l.survey.larger;
}
