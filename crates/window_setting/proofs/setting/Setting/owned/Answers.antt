use Rattle.std.specs.List.Sorted.{IsStrictlyIncreasing}
use Rattle.std.proofs.Common.{sym, subst}
use Rattle.window_setting.proofs.setting.Setting.owned.Goals as goal

pub returns-clause-ascending : goal.returns-clause-ascending
returns-clause-ascending c = subst IsStrictlyIncreasing (sym c.owned.ensures)
    (c.is_plan.ensures.owned_rise c.args.window)
