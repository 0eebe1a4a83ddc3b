use Rattle.window_core.proofs.Equipped.{none_left}
use Rattle.window_core.proofs.Resting.{no_claim, no_comparison, no_commit, no_drop, no_release}
use Rattle.window_core.proofs.quiet.has_turn.Goals as goal

pub returns-clause-no : goal.returns-clause-no
returns-clause-no c _ =
    none_left _ _ _ (c.in_default.ensures) (c.in_default-next_comparison.ensures)
    (c.in_default-next_commit.ensures) (c.in_default-next_release.ensures)
    (c.in_default-next_claim.ensures)

pub returns-in-Some-clause-yes : goal.returns-in-Some-clause-yes
returns-in-Some-clause-yes c _ none = no_drop c.args.state.now none _ (c.in-Some.ensures)

pub returns-in-Some-next_comparison-clause-yes : goal.returns-in-Some-next_comparison-clause-yes
returns-in-Some-next_comparison-clause-yes c _ none =
    no_comparison c.args.state.now none _ (c.in-Some-next_comparison.ensures)

pub returns-in-Some-next_commit-clause-yes : goal.returns-in-Some-next_commit-clause-yes
returns-in-Some-next_commit-clause-yes c _ none =
    no_commit c.args.state.now none _ (c.in-Some-next_commit.ensures)

pub returns-in-Some-next_release-clause-yes : goal.returns-in-Some-next_release-clause-yes
returns-in-Some-next_release-clause-yes c _ none =
    no_release c.args.state.now none _ (c.in-Some-next_release.ensures)

pub returns-in-Some-next_claim-clause-yes : goal.returns-in-Some-next_claim-clause-yes
returns-in-Some-next_claim-clause-yes c _ none =
    no_claim c.args.state.now none _ (c.in-Some-next_claim.ensures)
