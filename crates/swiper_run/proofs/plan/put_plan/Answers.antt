use Rattle.std.proofs.Common.{◌≡◌, ◌∙◌, [], List, ℕ, Some, inl, inr, length, map, refl, sym, ap, subst, arith, append-nil}
use Rattle.port_io.specs.Traffic.{taken}
use Rattle.port_io.proofs.Traffic.{goes_nothing}
use Rattle.graph_model.specs.Graph.{DetectorGraph}
use Rattle.plan_report.specs.Lines.{IsPlanLine, plan_line}
use Rattle.release_gate.specs.Gated.{AreGates, GateTable}
use Rattle.report_model.specs.Tasks.{labels_of, task_of}
use Rattle.surface_model.specs.Parse.{schedule_of}
use Rattle.surface_model.specs.Schedules.{CondLine, Schedule}
use Rattle.window_model.specs.Decoder.{Task}
use Rattle.window_model.specs.Windows.{WindowPlan}
use Rattle.swiper_run.specs.Answers.{IsAnswerTo, guesses_of}
use Rattle.swiper_run.specs.declared.top.Status.TheVariants as ends
use Rattle.swiper_run.specs.declared.words.Asked.TheVariants.{Plan}
use Rattle.swiper_run.proofs.Concluding.{accepted_or_cut, nothing_put, put_answer, was_read}
use Rattle.swiper_run.proofs.plan.put_plan.Goals as goal

pub plan_text-requires-clause-needs : goal.plan_text-requires-clause-needs
plan_text-requires-clause-needs g c =
    let d = c.setting.inside in
    c.setting.invariant.gated.each_needs ∙ ap (λ (t : Task). length t.operations) c.setting.view_is
    ∙ sym c.requires ∙ sym (ap (λ l. length l) c.conds_of-conds.ensures)

pub plan_text-requires-clause-rounds : goal.plan_text-requires-clause-rounds
plan_text-requires-clause-rounds g c =
    c.setting.invariant.gated.each_round ∙ ap (λ (t : Task). length t.operations) c.setting.view_is
    ∙ sym c.requires ∙ sym (ap (λ l. length l) c.conds_of-conds.ensures)

pub plan_text-requires-clause-few : goal.plan_text-requires-clause-few
plan_text-requires-clause-few g c =
    let long = ap (λ (t : Task). length t.operations) c.setting.view_is ∙ sym c.requires
    ∙ sym (ap (λ l. length l) c.conds_of-conds.ensures) in
    omega (arith, long, c.setting.invariant.few_operations)

line_said : (s : Schedule) (task : Task) (plan : WindowPlan) (gates : GateTable)
    (labels : List (List ℕ))
    (text : List ℕ) → task ≡ task_of s plan → AreGates task gates → labels ≡ labels_of s →
    text ≡ plan_line task.graph task.plan gates labels →
    IsPlanLine (task_of s plan) (labels_of s) text
line_said s task plan gates labels text task_is gated labels_are text_is = record {
  gates = gates;
  gated = subst (λ t. AreGates t gates) task_is gated;
  text_is = text_is ∙ ap (λ (t : Task). plan_line t.graph t.plan gates labels) task_is
      ∙ ap (plan_line (task_of s plan).graph (task_of s plan).plan gates) labels_are;
}

pub returns-in-Ok-clause-answer : goal.returns-in-Ok-clause-answer
returns-in-Ok-clause-answer g c sizes header measured is opened =
    let d = c.setting.inside in
    let view = c.setting.view_is in
    let s = schedule_of header in
    let labels = ap (λ l. map (λ (k : CondLine). k.label) l) (c.conds_of-conds.ensures) in
    let named : map (λ (k : CondLine). k.label) c.args.program.now.conds ≡ labels_of s =
    ap labels_of opened.program_is in
    let text_is = c.as_bytes.ensures.value ∙ c.in-Ok.ensures
    ∙ ap (λ (g : DetectorGraph). plan_line g d.plan.plan d.gates
    (map (λ (k : CondLine). k.label) c.conds_of-conds.result.now)) c.graph.ensures
    ∙ ap (λ (t : Task). plan_line c.args.setting.now.graph t.plan d.gates
    (map (λ (k : CondLine). k.label) c.conds_of-conds.result.now)) view
    ∙ ap (plan_line c.args.setting.now.graph c.args.setting.now.plan d.gates) labels in
    put_answer (guesses_of (Some (Plan sizes))) (Some (Plan sizes))
    (g.P.Port.read_faults c.args.port.now)
    (g.P.Port.read_faults c.conclude.new.port) ends.Ok c.conclude.result (taken header)
    c.as_bytes.result.now _ _ _ _ c.conclude.ensures.left (λ e. absurd cc) c.conclude.ensures.done
    (record {
      header = header;
      is_header = is;
      plan = opened.plan;
      accepted = opened.accepted;
      text = c.as_bytes.result.now;
      line = line_said s c.args.setting.now opened.plan d.gates
          (map (λ (k : CondLine). k.label) c.args.program.now.conds) c.as_bytes.result.now
          opened.task_is (subst (λ (t : Task). AreGates t d.gates) view c.setting.invariant.gated)
          named text_is;
      ran_is = refl;
    })

pub returns-in-Err-clause-answer : goal.returns-in-Err-clause-answer
returns-in-Err-clause-answer g c sizes header measured is opened =
    let left = g.P.Port.left c.args.port.now in
    let reads = g.P.Port.read_faults c.args.port.now in (
      [],
      goes_nothing _ _,
      subst (IsAnswerTo (Some (Plan sizes)) left reads reads ends.Memory)
          (sym (append-nil (taken header))) (nothing_put (guesses_of (Some (Plan sizes)))
          (Plan sizes) left reads reads header),
    )

pub returns-in-Ok-clause-accepted : goal.returns-in-Ok-clause-accepted
returns-in-Ok-clause-accepted g c =
    accepted_or_cut ends.Ok c.conclude.result c.conclude.ensures.same refl

pub returns-in-Ok-clause-no_read_fault : goal.returns-in-Ok-clause-no_read_fault
returns-in-Ok-clause-no_read_fault g c e =
    let no : ends.Ok ≡ ends.ReadFault = was_read ends.Ok c.conclude.result c.conclude.ensures.same e
    in cc

pub returns-in-Ok-clause-write_fault : goal.returns-in-Ok-clause-write_fault
returns-in-Ok-clause-write_fault g c e =
    elim (c.conclude.ensures.cause e) [
      | inl is ↦ absurd (let no : ends.Ok ≡ ends.WriteFault = is in cc)
      | inr rose ↦ rose
    ]
