use Rattle.std.proofs.Common.{◌≡◌, ◌<◌, ◌≤◌, ◌∙◌, ap, subst, sym, arith, length}
use Rattle.window_model.specs.Windows.{detectors_of}
use Rattle.window_plan.specs.Layouts.{AllWindows, IsSurvey, deps_at, deps_in, detectors_in}
use Rattle.window_plan.specs.Limits.{most_windows}
use Rattle.window_plan.proofs.Surveyed.{deps_few, survey_more}
use Rattle.window_plan.proofs.survey.look_at_all.Goals as goal

pub loop-window-init : goal.loop-window-init
loop-window-init c = record {
  windows = c.in_ok-scratch.ensures;
  buffer = c.in_ok-survey.ensures.buffer;
  survey = c.in_ok-survey.ensures.survey c.args.graph.now c.args.layout.now.homes.items
      c.args.layout.now.windows;
}

pub look_at-requires : goal.look_at-requires
look_at-requires c =
    subst (λ n. c.loop-window.window < n)
    (sym (ap (λ (ws : AllWindows). ws.count) c.loop-window.invariant.windows))
    c.loop-window-test.true

pub add-requires : goal.add-requires
add-requires c =
    let g = c.args.graph.now in
    let homes = c.args.layout.now.homes.items in
    let count = c.args.layout.now.windows in
    let buffer = c.args.buffer in
    let w = c.loop-window.window in
    let deps_is : c.deps.result.now ≡ deps_at g homes count buffer w =
    c.deps.ensures ∙ c.in_ok-look_at.ensures.deps
    ∙ ap (λ (ws : AllWindows). deps_in ws w) c.loop-window.invariant.windows in
    let few = c.requires.few in
    let short : length c.deps.result.now ≤ most_windows =
    let e = ap length deps_is in let f = deps_few g homes count buffer w in
    omega (arith, e, f, few) in
    record {
      room = (
        c.loop-window.invariant.survey.bound,
        omega (arith, few, c.loop-window-test.true),
        short,
      );
    }

pub loop-window-preserved : goal.loop-window-preserved
loop-window-preserved c =
    let g = c.args.graph.now in
    let homes = c.args.layout.now.homes.items in
    let count = c.args.layout.now.windows in
    let buffer = c.args.buffer in
    let w = c.loop-window.window in
    let found_is : c.detectors.result.now ≡ detectors_of g homes buffer w =
    c.detectors.ensures ∙ c.in_ok-look_at.ensures.detectors
    ∙ ap (λ (ws : AllWindows). detectors_in ws w) c.loop-window.invariant.windows in
    let deps_is : c.deps.result.now ≡ deps_at g homes count buffer w =
    c.deps.ensures ∙ c.in_ok-look_at.ensures.deps
    ∙ ap (λ (ws : AllWindows). deps_in ws w) c.loop-window.invariant.windows in
    let few = c.requires.few in
    let short : length c.deps.result.now ≤ most_windows =
    let e = ap length deps_is in let f = deps_few g homes count buffer w in
    omega (arith, e, f, few) in
    let old = c.loop-window.survey in
    let new = c.add.new.self in
    record {
      windows = c.in_ok-look_at.ensures.windows ∙ c.loop-window.invariant.windows;
      buffer = c.in_ok-add.ensures.buffer ∙ c.loop-window.invariant.buffer;
      survey =
          survey_more g homes count buffer w old.detectors old.deps old.links old.larger
          c.loop-window.invariant.survey c.detectors.result.now c.deps.result.now
          new.detectors new.deps new.links new.larger found_is deps_is short
          c.in_ok-add.ensures.links c.in_ok-add.ensures.larger c.in_ok-add.ensures.detectors
          c.in_ok-add.ensures.deps;
    }

pub returns-clause-survey : goal.returns-clause-survey
returns-clause-survey c =
    let survey = c.loop-window.survey in
    subst (λ n. IsSurvey c.args.graph.now c.args.layout.now.homes.items
    c.args.layout.now.windows c.args.buffer n survey.detectors survey.deps survey.links
    survey.larger) (omega arith) c.loop-window.invariant.survey
