use Rattle.std.proofs.Common.{◌≡◌, rules, ap, Err}
use Rattle.syndrome_source.specs.Rows.{is_last}
use Rattle.syndrome_source.proofs.Bits.{row_ended, no_end}
use Rattle.syndrome_source.proofs.rows.take_row.Goals as goal

pub returns-clause-row : goal.returns-clause-row
returns-clause-row g c =
    row_ended c.in_ok-row.row _ _ _ _ _ _ _ _ c.in_ok-row.ensures.size c.in_ok-row.ensures.row
    c.in_ok-take_end.ensures.end

pub returns-in_err-row-clause-refused : goal.returns-in_err-row-clause-refused
returns-in_err-row-clause-refused g c =
    let is : c.from_residual.result ≡ Err c.in_err-row.field-0.0 = search rules in
    let none = c.in_err-row.ensures.refused in
    rw is (none.0, none.1, none.2 (is_last c.args.end))

pub returns-in_err-take_end-clause-refused : goal.returns-in_err-take_end-clause-refused
returns-in_err-take_end-clause-refused g c =
    let is : c.from_residual-in_err-take_end.result ≡ Err c.in_err-take_end.field-0.0 =
    search rules in
    rw is (no_end c.in_ok-row.row _ _ _ _ _ _ _ _ _ _ c.in_ok-row.ensures.size
    (λ same. c.in_err-take_end.ensures.memory (ap Err same)) c.in_ok-row.ensures.row
    c.in_err-take_end.ensures.refused)
