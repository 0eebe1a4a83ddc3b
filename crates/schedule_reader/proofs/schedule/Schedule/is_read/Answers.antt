use Rattle.std.proofs.Common.{subst}
use Rattle.schedule_reader.specs.Accepted.{IsRead}
use Rattle.schedule_reader.proofs.Finished.{facts}
use Rattle.schedule_reader.proofs.schedule.Schedule.is_read.Goals as goal

pub returns-clause-ranges : goal.returns-clause-ranges
returns-clause-ranges c =
    (facts c.args.self.now (subst IsRead c.self.view_is c.self.invariant)).ranges

pub returns-clause-weights : goal.returns-clause-weights
returns-clause-weights c =
    (facts c.args.self.now (subst IsRead c.self.view_is c.self.invariant)).weights

pub returns-clause-patches : goal.returns-clause-patches
returns-clause-patches c =
    (facts c.args.self.now (subst IsRead c.self.view_is c.self.invariant)).patches

pub returns-clause-last_line : goal.returns-clause-last_line
returns-clause-last_line c =
    (facts c.args.self.now (subst IsRead c.self.view_is c.self.invariant)).last_line

pub returns-clause-conds : goal.returns-clause-conds
returns-clause-conds c =
    (facts c.args.self.now (subst IsRead c.self.view_is c.self.invariant)).named
