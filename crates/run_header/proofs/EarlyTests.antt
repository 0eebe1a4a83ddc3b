-- A condition that comes too early, by its label and ready round.
use Rattle.std.proofs.Common.{◌≡◌, [], codes, refl, ap, ◌∙◌, arith, Some, slice_index, slice_index_or}
use Rattle.report_model.specs.Tasks.{labels_of}
use Rattle.report_model.proofs.TooSoon.{schedule, plan, planned, within, first}
use Rattle.run_header.specs.Refusals.{IsEarly}
use Rattle.run_header.specs.declared.sizes.PlanSizes.{PlanSizes}
use Rattle.window_plan.specs.declared.kinds.PlanKind.TheVariants as kind

-- both slots in one block, and no buffer
abbrev sizes : PlanSizes
sizes = record { kind = kind.Sliding; commit = Some 2; buffer = Some 0 }

-- the reading of slot 1 is needed in slot 1
too_soon : IsEarly sizes (schedule 1) (codes "c") 1
too_soon = record {
  plan = plan;
  planned = planned 1;
  within = within;
  op = 0;
  first = first;
  label_is = refl;
}

-- another label isn't that of the condition
other_label : (early : IsEarly sizes (schedule 1) (codes "d") 1) → early.op ≡ 0 → ⊥
other_label early is = by (early.label_is ∙ ap (λ op. slice_index_or (labels_of (schedule 1)) op [])
    is)
  where
    by : codes "d" ≡ codes "c" → ⊥
    by e = let k : 100 ≡ 99 = ap (λ xs. slice_index xs 0) e in omega (arith, k)
