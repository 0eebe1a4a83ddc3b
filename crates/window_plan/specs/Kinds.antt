-- The order of cells that a kind of plan ranks by.
use Rattle.window_model.specs.Cells.{CellOrder, Sliding, Parallel}
use Rattle.window_plan.specs.declared.kinds.PlanKind.{PlanKind}
use Rattle.window_plan.specs.declared.kinds.PlanKind.TheVariants as kind

abbrev pub order_of : PlanKind → CellOrder
order_of kind.Sliding = Sliding
order_of kind.Parallel = Parallel
