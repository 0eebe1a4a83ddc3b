use Rattle.std.proofs.Common.{◌≡◌, ◌&&◌, ◌∙◌, ap, count_by, nat_lt, arith}
use mir.Val.{bool_byte}
use Rattle.std.specs.List.{range_with_len}
use Rattle.graph_model.specs.Graph.{DetectorGraph}
use Rattle.window_model.specs.Decoder.{Task}
use Rattle.window_model.specs.Windows.{slot_of}
use Rattle.core_state.specs.States.{machine_of}
use Rattle.run_report.proofs.Ranges.{at_most_one, byte_is, counted_more}
use Rattle.run_report.proofs.summary.defects.Goals as goal

pub loop-detector-preserved : goal.loop-detector-preserved
loop-detector-preserved c =
    let core = c.args.core.now in
    let v = c.loop-detector.detector in
    record {
      counted = λ s fits.
          counted_more (λ v. s.value v && nat_lt (slot_of core.task.tags v)
          (machine_of core).arrived) v _ _ (c.loop-detector.invariant.counted s fits)
          (c.from-count.ensures ∙ ap bool_byte (c.is_defect.ensures s fits)
          ∙ byte_is (s.value v && nat_lt (slot_of core.task.tags v) (machine_of core).arrived));
      few = omega (
        arith,
        c.loop-detector.invariant.few,
        c.from-count.ensures,
        byte_is c.is_defect.result,
        at_most_one c.is_defect.result,
      );
    }

pub returns : goal.returns
returns c s fits =
    let core = c.args.core.now in
    let vertices = c.vertices-detector-end.ensures
    ∙ ap (λ (g : DetectorGraph). g.vertices) (c.graph.ensures
    ∙ ap (λ (t : Task). t.graph) c.setting.ensures) in
    let all : c.loop-detector.detector ≡ core.task.graph.vertices = omega (
      arith,
      c.loop-detector-test.false,
      c.loop-detector.auto.detector-end,
      vertices,
    ) in
    c.loop-detector.invariant.counted s fits
    ∙ ap (λ n. count_by (λ v. s.value v && nat_lt (slot_of core.task.tags v)
    (machine_of core).arrived) (range_with_len 0 n)) all
