use Rattle.std.proofs.Common.{sym, ◌∙◌}
use Rattle.window_model.specs.declared.Origin.TheVariants.{Guess}
use Rattle.poison_cascade.proofs.Windows.{least_source}
use Rattle.poison_cascade.proofs.book.Book.unverified_source.Goals as goal

pub returns-then-is_comparable : goal.returns-then-is_comparable
returns-then-is_comparable c =
    least_source c.args.self.now c.args.window c.supports-support-items.result.now
    c.loop-support.support-index (record { source = 0; origin = Guess })
    c.supports-support-items.ensures.value
    c.supports-support-items.ensures.rising c.loop-support-test.true c.loop-support.invariant
    (sym c.is_comparable.ensures ∙ c.if-is_comparable.true)
