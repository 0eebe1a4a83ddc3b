use Rattle.std.proofs.Common.{◌∙◌}
use Rattle.timetable.proofs.Lined.{alive_spread, inits_spread, merges_spread, reads_spread, splits_spread, starts_spread, times_made}
use Rattle.timetable.proofs.table.Timetable.spread.Goals as goal

pub invariant_of-result : goal.invariant_of-result
invariant_of-result c =
    let s = c.args.schedule.now in
    let n = c.args.slots in
    (times_made s n (record {
      inits = c.in_ok-spread.field-0.rows;
      reads = c.in_ok-spread-2.field-0.rows;
      starts = c.in_ok-spread-3.field-0.rows;
      splits = c.in_ok-spread-4.field-0.rows;
      alive = c.in_ok-spread-5.field-0.rows;
      merges = c.in_ok-spread-6.field-0.rows;
    })
    c.requires.slots
    (c.in_ok-spread.ensures ∙ inits_spread s n)
    (c.in_ok-spread-2.ensures ∙ reads_spread s n)
    (c.in_ok-spread-3.ensures ∙ starts_spread s n)
    (c.in_ok-spread-4.ensures ∙ splits_spread s n)
    (c.in_ok-spread-5.ensures ∙ alive_spread s n)
    (c.in_ok-spread-6.ensures ∙ merges_spread s n)).1

pub returns : goal.returns
returns c =
    let s = c.args.schedule.now in
    let n = c.args.slots in
    (times_made s n (record {
      inits = c.in_ok-spread.field-0.rows;
      reads = c.in_ok-spread-2.field-0.rows;
      starts = c.in_ok-spread-3.field-0.rows;
      splits = c.in_ok-spread-4.field-0.rows;
      alive = c.in_ok-spread-5.field-0.rows;
      merges = c.in_ok-spread-6.field-0.rows;
    })
    c.requires.slots
    (c.in_ok-spread.ensures ∙ inits_spread s n)
    (c.in_ok-spread-2.ensures ∙ reads_spread s n)
    (c.in_ok-spread-3.ensures ∙ starts_spread s n)
    (c.in_ok-spread-4.ensures ∙ splits_spread s n)
    (c.in_ok-spread-5.ensures ∙ alive_spread s n)
    (c.in_ok-spread-6.ensures ∙ merges_spread s n)).0
