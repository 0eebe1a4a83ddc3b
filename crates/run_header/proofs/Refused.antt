-- A schedule is accepted or refused for one reason, and never both.
use Rattle.std.proofs.Common.{◌≡◌, ℕ, ◌<◌, ◌≤◌, ⊎_elim, List, [], refl, sym, ap, ◌∙◌, subst, arith, length, Option, Some, None}
use Rattle.std.specs.Prelude.{nat_lt, if◌then◌else◌, slice_index_or}
use Rattle.std.proofs.lemmas.Bool.{cases_lt, lt-ltb, le-ltb}
use Rattle.std.proofs.lemmas.List.{length-map}
use Rattle.std.proofs.lemmas.Option.{none-some, same_Some}
use Rattle.window_model.specs.Windows.{WindowPlan}
use Rattle.window_model.specs.Decoder.{Task}
use Rattle.window_model.specs.Gates.{IsFirstTooEarly, IsReadyRound, PlanFault, plan_fault}
use Rattle.window_model.proofs.ReadyRounds.{one_round_law}
use Rattle.surface_model.specs.Text.{Fault as TextFault, text_fault}
use Rattle.surface_model.specs.Rules.{RuleBroken, rule_fault}
use Rattle.surface_model.specs.Parse.{schedule_of}
use Rattle.surface_model.specs.Measurements.{detectors}
use Rattle.surface_model.specs.Errors.{graph_of}
use Rattle.surface_model.specs.Tags.{tags_of}
use Rattle.report_model.specs.Faults.{Fault, OfLine, OfRule, TooLarge, OfPlan, TooEarly}
use Rattle.run_header.specs.declared.sizes.PlanSizes.{PlanSizes}
use Rattle.report_model.specs.Tasks.{labels_of, operation_of, task_of}
use Rattle.run_header.specs.Refusals.{IsRefused, IsAcceptedAs, IsEarly, IsSound, IsPlanOf, commit_of, buffer_of, most_detectors}
use Rattle.run_header.proofs.Unique.{plan_unique}
use Rattle.window_plan.specs.Kinds.{order_of}

-- the refusal that comes before any plan is made, by what is found: the fault of a line, the rule
-- that is broken, and the number of detectors
abbrev settled : Option TextFault → Option RuleBroken → ℕ → Option Fault
settled (Some fault) broken count = Some (OfLine fault.kind fault.line)
settled None (Some broken) count = Some (OfRule broken.kind broken.line)
settled None None count = if nat_lt most_detectors count then Some (TooLarge count) else None

abbrev count_of : List ℕ → ℕ
count_of text = length (detectors (schedule_of text))

abbrev settled_of : List ℕ → Option Fault
settled_of text = settled (text_fault text) (rule_fault (schedule_of text)) (count_of text)

when_sound : (text : List ℕ) → IsSound text → settled_of text ≡ settled None None (count_of text)
when_sound text is =
    ap (λ fault. settled fault (rule_fault (schedule_of text)) (count_of text)) is.faultless
    ∙ ap (λ broken. settled None broken (count_of text)) is.ruled

when_few : (text : List ℕ) → IsSound text → count_of text ≤ most_detectors → settled_of text ≡ None
when_few text is l = when_sound text is ∙ ap (λ many. if many then Some (TooLarge (count_of text))
    else None) (le-ltb most_detectors (count_of text) l)

when_many : (text : List ℕ) → IsSound text → most_detectors < count_of text →
    settled_of text ≡ Some (TooLarge (count_of text))
when_many text is l = when_sound text is ∙ ap (λ many. if many then Some (TooLarge (count_of text))
    else None) (lt-ltb most_detectors (count_of text) l)

-- refused for its plan alone: for a limit, or for a condition
record IsOverLimit (sizes : PlanSizes) (text : List ℕ) (fault : Fault) : Type 0 where
  limit : PlanFault
  fault_is : fault ≡ OfPlan limit
  settled_not : settled_of text ≡ None
  plan : WindowPlan
  planned : IsPlanOf sizes (schedule_of text) plan
  beyond : plan_fault plan ≡ Some limit

record IsTooSoon (sizes : PlanSizes) (text : List ℕ) (fault : Fault) : Type 0 where
  label : List ℕ
  ready : ℕ
  fault_is : fault ≡ TooEarly label ready
  settled_not : settled_of text ≡ None
  early : IsEarly sizes (schedule_of text) label ready

data Stage (sizes : PlanSizes) (text : List ℕ) (fault : Fault) : Type 0 where
  before_plan : settled_of text ≡ Some fault → Stage sizes text fault
  by_limit : IsOverLimit sizes text fault → Stage sizes text fault
  by_condition : IsTooSoon sizes text fault → Stage sizes text fault

stage_of : (sizes : PlanSizes) (text : List ℕ) (fault : Fault) → IsRefused sizes text fault →
    Stage sizes text fault
stage_of sizes text (OfLine kind number) is =
    before_plan (ap (λ fault. settled fault (rule_fault (schedule_of text)) (count_of text)) is)
stage_of sizes text (OfRule kind number) is =
    before_plan (ap (λ fault. settled fault (rule_fault (schedule_of text)) (count_of text)) is.0
    ∙ ap (λ broken. settled None broken (count_of text)) is.1)
stage_of sizes text (TooLarge count) is =
    let more : most_detectors < count_of text = omega (arith, is.1, is.2) in
    before_plan (when_many text is.0 more ∙ ap (λ n. Some (TooLarge n)) (sym is.1))
stage_of sizes text (OfPlan limit) is = by_limit (record {
  limit = limit;
  fault_is = refl;
  settled_not = when_few text is.0 is.1;
  plan = is.2.0;
  planned = is.2.1;
  beyond = is.2.2;
})
stage_of sizes text (TooEarly label ready) is = by_condition (record {
  label = label;
  ready = ready;
  fault_is = refl;
  settled_not = when_few text is.0 is.1;
  early = is.2;
})
stage_of sizes text _ is = absurd is

-- a schedule has one plan of these sizes
pub same_plan : (sizes : PlanSizes) (text : List ℕ) (one two : WindowPlan) →
    IsPlanOf sizes (schedule_of text) one → IsPlanOf sizes (schedule_of text) two → one ≡ two
same_plan sizes text one two is also =
    plan_unique (graph_of (schedule_of text)) (tags_of (schedule_of text)) (order_of sizes.kind)
    (commit_of sizes (schedule_of text)) (buffer_of sizes (schedule_of text)) one two is also

-- a task has one first operation that is too early, with one round
one_first : (task : Task) (a b m n : ℕ) → IsFirstTooEarly task a m → IsFirstTooEarly task b n →
    (a ≡ b) × (m ≡ n)
one_first task a b m n is also =
    ⊎_elim (λ (low : a < b). absurd (also.first a m low is.too_early))
    (λ (high : b ≤ a). ⊎_elim (λ (less : b < a). absurd (is.first b n less also.too_early))
    (λ (le : a ≤ b).
    let same : a ≡ b = omega (arith, high, le) in (
      same,
      one_round_law task b m n (subst (λ op. IsReadyRound task op m) same is.too_early.ready)
          also.too_early.ready,
    ))
    (cases_lt b a))
    (cases_lt a b)

pub never_both : (sizes : PlanSizes) (text : List ℕ) (plan : WindowPlan) (fault : Fault) →
    IsAcceptedAs sizes text plan → IsRefused sizes text fault → ⊥
never_both sizes text plan fault is refused = by (stage_of sizes text fault refused)
  where
    by : Stage sizes text fault → ⊥
    by (before_plan early) = none-some fault (sym (when_few text is.sound is.few) ∙ early)
    by (by_limit late) = none-some late.limit (sym is.within
        ∙ ap plan_fault (same_plan sizes text plan late.plan is.planned late.planned) ∙ late.beyond)
    by (by_condition late) =
        let same = same_plan sizes text late.early.plan plan late.early.planned is.planned in
        let first = subst (λ p. IsFirstTooEarly (task_of (schedule_of text) p) late.early.op
        late.ready) same late.early.first in
        let long = length-map (schedule_of text).conds operation_of in
        is.timely late.early.op late.ready (omega (arith, first.in_range, long)) first.too_early

pub one_refusal : (sizes : PlanSizes) (text : List ℕ) (f g : Fault) → IsRefused sizes text f →
    IsRefused sizes text g → f ≡ g
one_refusal sizes text f g is also = by (stage_of sizes text f is) (stage_of sizes text g also)
  where
    limits : (late : IsOverLimit sizes text f) (soon : IsTooSoon sizes text g) → ⊥
    limits late soon = none-some late.limit (sym soon.early.within ∙ ap plan_fault (same_plan sizes
        text soon.early.plan late.plan soon.early.planned late.planned) ∙ late.beyond)

    limits_too : (late : IsOverLimit sizes text g) (soon : IsTooSoon sizes text f) → ⊥
    limits_too late soon = none-some late.limit (sym soon.early.within ∙ ap plan_fault (same_plan
        sizes text soon.early.plan late.plan soon.early.planned late.planned) ∙ late.beyond)

    conditions : (one : IsTooSoon sizes text f) (two : IsTooSoon sizes text g) → f ≡ g
    conditions one two =
        let same = same_plan sizes text one.early.plan two.early.plan one.early.planned
        two.early.planned in
        let first = subst (λ p. IsFirstTooEarly (task_of (schedule_of text) p) one.early.op
        one.ready) same one.early.first in
        let k = one_first (task_of (schedule_of text) two.early.plan) one.early.op two.early.op
        one.ready two.ready first two.early.first in
        let labels : one.label ≡ two.label = one.early.label_is
        ∙ ap (λ op. slice_index_or (labels_of (schedule_of text)) op []) k.0
        ∙ sym two.early.label_is in
        one.fault_is ∙ ap (λ label. TooEarly label one.ready) labels ∙ ap (TooEarly two.label) k.1
        ∙ sym two.fault_is

    by : Stage sizes text f → Stage sizes text g → f ≡ g
    by (before_plan a) (before_plan b) = same_Some f g (sym a ∙ b)
    by (before_plan a) (by_limit b) = absurd (none-some f (sym b.settled_not ∙ a))
    by (before_plan a) (by_condition b) = absurd (none-some f (sym b.settled_not ∙ a))
    by (by_limit a) (before_plan b) = absurd (none-some g (sym a.settled_not ∙ b))
    by (by_limit a) (by_limit b) =
        let limit : Some a.limit ≡ Some b.limit = sym a.beyond
        ∙ ap plan_fault (same_plan sizes text a.plan b.plan a.planned b.planned) ∙ b.beyond in
        a.fault_is ∙ ap OfPlan (same_Some a.limit b.limit limit) ∙ sym b.fault_is
    by (by_limit a) (by_condition b) = absurd (limits a b)
    by (by_condition a) (before_plan b) = absurd (none-some g (sym a.settled_not ∙ b))
    by (by_condition a) (by_limit b) = absurd (limits_too b a)
    by (by_condition a) (by_condition b) = conditions a b
