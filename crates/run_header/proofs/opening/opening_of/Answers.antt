use Rattle.std.proofs.Common.{rules, ◌≡◌, Err}
use Rattle.run_header.proofs.Opened.{without_task, opened}
use Rattle.run_header.proofs.opening.opening_of.Goals as goal

pub returns-in_err-program-clause-refused : goal.returns-in_err-program-clause-refused
returns-in_err-program-clause-refused c =
    let is : c.from_residual.result ≡ Err c.in_err-program.field-0.0 = search rules in
    rw is (c.in_err-program.ensures.refused c.args.sizes)

pub returns-in_err-setting-clause-refused : goal.returns-in_err-setting-clause-refused
returns-in_err-setting-clause-refused c =
    let is : c.from_residual-in_err-setting.result ≡ Err c.in_err-setting.field-0.0 =
    search rules in
    rw is (without_task c.args.sizes c.args.text.now c.in_ok-program.program
    c.in_ok-program.ensures.program c.in_ok-program.ensures.sound c.in_ok-map.ensures.few
    c.in_err-setting.field-0.0 c.in_err-setting.ensures.refused)

pub returns-clause-opened : goal.returns-clause-opened
returns-clause-opened c =
    opened c.args.sizes c.args.text.now c.in_ok-program.program c.in_ok-program.ensures.program
    c.in_ok-program.ensures.sound c.in_ok-map.ensures.few c.in_ok-map.map
    c.in_ok-setting.setting c.in_ok-map.ensures.given c.in_ok-setting.ensures.task
