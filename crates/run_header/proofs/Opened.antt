-- What was found of a text's schedule, as it is reported.
use Rattle.std.proofs.Common.{◌≡◌, ℕ, ◌≤◌, List, Option, length, ◌∙◌, ap, subst}
use Rattle.window_model.specs.Decoder.{Task}
use Rattle.surface_model.specs.Schedules.{Schedule}
use Rattle.surface_model.specs.Parse.{schedule_of}
use Rattle.surface_model.specs.Measurements.{detectors}
use Rattle.measure_map.specs.Placed.{Placed, map_of}
use Rattle.report_model.specs.Faults.{Fault, Usage, OfLine, OfRule, TooLarge, OfPlan, TooEarly, OfRow, Ended, Read, Script}
use Rattle.run_header.specs.declared.sizes.PlanSizes.{PlanSizes}
use Rattle.run_header.specs.declared.refusal.OpeningError.{OpeningError}
use Rattle.run_header.specs.declared.refusal.OpeningError.TheVariants as error
use Rattle.run_header.specs.Openings.{IsHeader, IsNoSchedule, IsNoTask, IsNotOpened, IsOpened, IsTaskOf, IsUnplanned, fault_of}
use Rattle.run_header.specs.Refusals.{IsPlanOf, IsRefused, IsSound, IsTimely, most_detectors}
use Rattle.report_model.specs.Tasks.{task_of}

-- a header after which the schedule is refused
pub not_opened : (sizes : PlanSizes) (text : List ℕ) (left : Option (List ℕ)) (why : OpeningError) →
    IsHeader text → IsNoSchedule sizes text why → IsNotOpened sizes text left why
not_opened sizes text left (error.Refused why) is none = (is, none)
not_opened sizes text left (error.Ended line) is none = absurd none
not_opened sizes text left error.ReadFault is none = absurd none
not_opened sizes text left error.Memory is none = tt

module _ (sizes : PlanSizes) (text : List ℕ) (s : Schedule) (is : s ≡ schedule_of text)
    (sound : IsSound text) (few : length (detectors s) ≤ most_detectors) where
  few_of_text : length (detectors (schedule_of text)) ≤ most_detectors
  few_of_text = subst (λ x. length (detectors x) ≤ most_detectors) is few

  -- a schedule that has no plan within the limits, or a condition that is too early
  pub without_task : (e : OpeningError) → IsNoTask sizes s e → IsNoSchedule sizes text e
  without_task e refused = by_case e (subst (λ x. IsNoTask sizes x e) is refused)
    where
      by_fault : (fault : Fault) → IsUnplanned sizes (schedule_of text) fault →
          IsRefused sizes text fault
      by_fault (OfPlan limit) h = (sound, few_of_text, h)
      by_fault (TooEarly label ready) h = (sound, few_of_text, h)
      by_fault Usage h = absurd h
      by_fault (OfLine kind number) h = absurd h
      by_fault (OfRule kind number) h = absurd h
      by_fault (TooLarge count) h = absurd h
      by_fault (OfRow kind number) h = absurd h
      by_fault (Ended number) h = absurd h
      by_fault Read h = absurd h
      by_fault (Script number) h = absurd h

      by_case : (e : OpeningError) → IsNoTask sizes (schedule_of text) e → IsNoSchedule sizes text e
      by_case (error.Refused why) h = by_fault (fault_of why) h
      by_case (error.Ended line) h = absurd h
      by_case error.ReadFault h = absurd h
      by_case error.Memory h = tt

  pub opened : (measured : Placed) (task : Task) → measured ≡ map_of s → IsTaskOf sizes s task →
      IsOpened sizes text s measured task
  opened measured task map_is planned = record {
    program_is = is;
    map_is = map_is ∙ ap map_of is;
    plan = planned.plan;
    accepted = record {
      sound = sound;
      few = few_of_text;
      planned = subst (λ x. IsPlanOf sizes x planned.plan) is planned.planned;
      within = planned.within;
      timely = subst (λ x. IsTimely x planned.plan) is planned.timely;
    };
    task_is = planned.task_is ∙ ap (λ x. task_of x planned.plan) is;
  }
