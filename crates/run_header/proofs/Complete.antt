-- Of an input that begins with a header, what is answered follows from that header alone, but for a
-- failed read and want of memory.
use Rattle.std.proofs.Common.{◌≡◌, ℕ, List, ◌++◌, Some, sym, ◌∙◌, ap, subst}
use Rattle.std.proofs.lemmas.List.{append-nil}
use Rattle.window_model.specs.Decoder.{Task}
use Rattle.window_model.specs.Windows.{WindowPlan}
use Rattle.surface_model.specs.Schedules.{Schedule}
use Rattle.measure_map.specs.Placed.{Placed}
use Rattle.report_model.specs.Faults.{Fault}
use Rattle.run_header.specs.declared.sizes.PlanSizes.{PlanSizes}
use Rattle.run_header.specs.declared.refusal.OpeningError.{OpeningError}
use Rattle.run_header.specs.declared.refusal.OpeningError.TheVariants as error
use Rattle.run_header.specs.Openings.{IsHeader, IsNotOpened, IsOpened, fault_of}
use Rattle.run_header.specs.Refusals.{IsAcceptedAs, IsRefused}
use Rattle.run_header.proofs.Heads.{one_header, header_stands}
use Rattle.run_header.proofs.Refused.{never_both, one_refusal}

-- reading failed, or memory was wanting
abbrev pub IsFailure : OpeningError → Type 0
IsFailure error.ReadFault = Unit {0}
IsFailure error.Memory = Unit {0}
IsFailure _ = ⊥

-- this fault is reported; or reading failed, or memory was wanting
abbrev pub TellsOrFails : Fault → OpeningError → Type 0
TellsOrFails fault (error.Refused why) = fault_of why ≡ fault
TellsOrFails fault (error.Ended line) = ⊥
TellsOrFails fault error.ReadFault = Unit {0}
TellsOrFails fault error.Memory = Unit {0}

-- the input is this header and a rest; these bytes of it were taken, and those are left
module _ (sizes : PlanSizes) (text rest bytes left : List ℕ) (is : IsHeader text) (input : text
    ++ rest ≡ bytes ++ left) where
  ended_not : (line : ℕ) → IsNotOpened sizes bytes (Some left) (error.Ended line) → ⊥
  ended_not line none = header_stands text bytes rest line is none.1 (input
      ∙ ap (λ more. bytes ++ more) none.0 ∙ append-nil bytes)

  -- where the schedule is accepted, it is opened
  pub accepted_opens : (plan : WindowPlan) (why : OpeningError) → IsAcceptedAs sizes text plan →
      IsNotOpened sizes bytes (Some left) why → IsFailure why
  accepted_opens plan (error.Refused why) accepted none =
      never_both sizes text plan (fault_of why) accepted (subst (λ t. IsRefused sizes t
      (fault_of why)) (sym (one_header text bytes rest left is none.0 input)) none.1)
  accepted_opens plan (error.Ended line) accepted none = ended_not line none
  accepted_opens plan error.ReadFault accepted none = tt
  accepted_opens plan error.Memory accepted none = tt

  -- where it is refused, its fault is reported
  pub refused_tells : (fault : Fault) (why : OpeningError) → IsRefused sizes text fault →
      IsNotOpened sizes bytes (Some left) why → TellsOrFails fault why
  refused_tells fault (error.Refused why) refused none =
      one_refusal sizes text (fault_of why) fault (subst (λ t. IsRefused sizes t (fault_of why))
      (sym (one_header text bytes rest left is none.0 input)) none.1) refused
  refused_tells fault (error.Ended line) refused none = ended_not line none
  refused_tells fault error.ReadFault refused none = tt
  refused_tells fault error.Memory refused none = tt

  -- and it is not opened
  pub refused_stays : (fault : Fault) (program : Schedule) (measured : Placed) (task : Task) →
      IsRefused sizes text fault → IsHeader bytes → IsOpened sizes bytes program measured task → ⊥
  refused_stays fault program measured task refused also opened =
      never_both sizes bytes opened.plan fault opened.accepted (subst (λ t. IsRefused sizes t fault)
      (one_header text bytes rest left is also input) refused)
