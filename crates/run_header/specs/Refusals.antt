-- Which schedules are decoded, and why the others are refused: a line that is at fault, a rule of
-- the whole that is broken, too many detectors, a plan that goes beyond a limit, or a condition
-- that comes too early; the first of these, in this order.
use Rattle.std.specs.Prelude.{◌≡◌, ◌≤◌, ◌<◌, ◌+◌, ℕ, List, [], length, Some, None, IfSome, slice_index_or, unwrap_or}
use Rattle.window_model.specs.Windows.{WindowPlan, IsPlan}
use Rattle.window_model.specs.Gates.{IsFirstTooEarly, IsTooEarly, PlanFault, plan_fault}
pub use Rattle.surface_model.specs.Limits.{most_detectors, most_slots}
use Rattle.surface_model.specs.Schedules.{Schedule}
use Rattle.surface_model.specs.Text.{text_fault}
use Rattle.surface_model.specs.Rules.{rule_fault}
use Rattle.surface_model.specs.Parse.{schedule_of}
use Rattle.surface_model.specs.Measurements.{detectors}
use Rattle.surface_model.specs.Errors.{graph_of}
use Rattle.surface_model.specs.Tags.{tags_of}
use Rattle.report_model.specs.Faults.{Fault, Usage, OfLine, OfRule, TooLarge, OfPlan, TooEarly, OfRow, Ended, Read, Script}
use Rattle.report_model.specs.Tasks.{labels_of, task_of}
use Rattle.run_header.specs.declared.sizes.PlanSizes.{PlanSizes}
use Rattle.window_plan.specs.Kinds.{order_of}

-- where no size is given, a block has one slot more than the distance, and a buffer as many edges
-- as the distance
abbrev pub commit_of : PlanSizes → Schedule → ℕ
commit_of sizes s = unwrap_or sizes.commit (s.distance + 1)

abbrev pub buffer_of : PlanSizes → Schedule → ℕ
buffer_of sizes s = unwrap_or sizes.buffer s.distance

-- the edges of a buffer
abbrev pub most_buffer : ℕ
most_buffer = 4096

-- the sizes that may be given
pub record AreInRange (sizes : PlanSizes) : Type 0 where
  pub commit : IfSome sizes.commit (λ slots. (1 ≤ slots) × (slots ≤ most_slots))
  pub buffer : IfSome sizes.buffer (λ edges. edges ≤ most_buffer)

-- the plan of a schedule's graph, of these sizes
abbrev pub IsPlanOf : PlanSizes → Schedule → WindowPlan → Type 0
IsPlanOf sizes s plan =
    IsPlan (graph_of s) (tags_of s) (order_of sizes.kind) (commit_of sizes s) (buffer_of sizes s)
    plan

-- the text's lines are good, and its schedule breaks no rule
pub record IsSound (text : List ℕ) : Type 0 where
  pub faultless : text_fault text ≡ None
  pub ruled : rule_fault (schedule_of text) ≡ None

-- under this plan each condition's ready round is below its slot
abbrev pub IsTimely : Schedule → WindowPlan → Type 0
IsTimely s plan = (op round : ℕ) → op < length s.conds → ¬ IsTooEarly (task_of s plan) op round

-- the schedule's plan goes beyond this limit
abbrev pub IsBeyond : PlanSizes → Schedule → PlanFault → Type 0
IsBeyond sizes s fault = (plan : WindowPlan) × IsPlanOf sizes s plan
    × (plan_fault plan ≡ Some fault)

-- under the schedule's plan, which goes beyond no limit, the condition of this label is the first
-- whose ready round, which is this one, isn't below its slot
pub record IsEarly (sizes : PlanSizes) (s : Schedule) (label : List ℕ) (ready : ℕ) : Type 0 where
  pub plan : WindowPlan
  pub planned : IsPlanOf sizes s plan
  pub within : plan_fault plan ≡ None
  pub op : ℕ
  pub first : IsFirstTooEarly (task_of s plan) op ready
  pub label_is : label ≡ slice_index_or (labels_of s) op []

-- the schedule of this text is decoded, under this plan
pub record IsAcceptedAs (sizes : PlanSizes) (text : List ℕ) (plan : WindowPlan) : Type 0 where
  pub sound : IsSound text
  pub few : length (detectors (schedule_of text)) ≤ most_detectors
  pub planned : IsPlanOf sizes (schedule_of text) plan
  pub within : plan_fault plan ≡ None
  pub timely : IsTimely (schedule_of text) plan

-- the schedule of this text is refused with this fault
abbrev pub IsRefused : PlanSizes → List ℕ → Fault → Type 0
IsRefused sizes text (OfLine kind number) =
    text_fault text ≡ Some (record { line = number; kind = kind })
IsRefused sizes text (OfRule kind number) =
    (text_fault text ≡ None)
    × (rule_fault (schedule_of text) ≡ Some (record { line = number; kind = kind }))
IsRefused sizes text (TooLarge count) =
    IsSound text × (count ≡ length (detectors (schedule_of text))) × (most_detectors < count)
IsRefused sizes text (OfPlan fault) =
    IsSound text × (length (detectors (schedule_of text)) ≤ most_detectors)
    × IsBeyond sizes (schedule_of text) fault
IsRefused sizes text (TooEarly label ready) =
    IsSound text × (length (detectors (schedule_of text)) ≤ most_detectors)
    × IsEarly sizes (schedule_of text) label ready
IsRefused sizes text Usage = ⊥
IsRefused sizes text (OfRow kind number) = ⊥
IsRefused sizes text (Ended number) = ⊥
IsRefused sizes text Read = ⊥
IsRefused sizes text (Script number) = ⊥

-- A schedule that is accepted isn't refused.
abbrev pub NeverBothLaw : Type 0
NeverBothLaw =
    (sizes : PlanSizes) (text : List ℕ) (plan : WindowPlan) (fault : Fault) →
    IsAcceptedAs sizes text plan → IsRefused sizes text fault → ⊥

-- It is refused with one fault.
abbrev pub OneRefusalLaw : Type 0
OneRefusalLaw =
    (sizes : PlanSizes) (text : List ℕ) (f g : Fault) → IsRefused sizes text f →
    IsRefused sizes text g → f ≡ g
