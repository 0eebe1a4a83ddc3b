use Rattle.std.proofs.Common.{◌≡◌}
use Rattle.window_plan.specs.Contents.{AreContents}
use Rattle.window_plan.proofs.contents.fill.Given as goal

abbrev pub invariant-loop-window : goal.invariant-loop-window
invariant-loop-window l = record {
  scratch : l.scratch ≡ record {
    windows = record {
      graph = l.graph;
      homes = l.layout.homes.items;
      count = l.layout.windows;
      buffer = l.survey.buffer;
    };
    tags = l.tags;
  };
  contents : AreContents l.graph l.tags l.layout.homes.items l.layout.windows l.survey.buffer
      l.window l.contents.edges l.contents.lasts.items l.contents.places;
}
