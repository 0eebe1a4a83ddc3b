use Rattle.std.proofs.Common.{arith}
use Rattle.timetable.proofs.Lined.{few_spans}
use Rattle.timetable.proofs.lines.count_of.Goals as goal

pub overflow_cast-result : goal.overflow_cast-result
overflow_cast-result c =
    let few = few_spans c.args.schedule.now c.args.kind c.requires.ranges c.requires.patches in
    omega (arith, few, c.length_of.ensures)

pub returns-clause-few : goal.returns-clause-few
returns-clause-few c =
    let few = few_spans c.args.schedule.now c.args.kind c.requires.ranges c.requires.patches in
    omega (arith, few, c.length_of.ensures)
