use Rattle.std.proofs.Common.{◌≡◌, ◌<◌, ◌++◌, [], ◌∷◌, Err, length, take, get_or, refl, sym, subst, arith, rules}
use Rattle.std.proofs.lemmas.List.{take_more}
use Rattle.port_io.specs.Traffic.{Moves, taken}
use Rattle.port_io.proofs.Takings.{bytes_joined}
use Rattle.port_io.proofs.Traffic.{goes_nothing}
use Rattle.replay_model.specs.Scripts.{due_line}
use Rattle.script_reader.proofs.Due.{not_due_after}
use Rattle.script_reader.proofs.taking.take_due.Goals as goal

pub loop-due-init : goal.loop-due-init
loop-due-init g c = record {
  items = refl;
  taken_so_far = goes_nothing _ _;
  counts = (omega arith, omega arith);
}

pub returns-in_err-take_byte-clause-refused : goal.returns-in_err-take_byte-clause-refused
returns-in_err-take_byte-clause-refused g c =
    let is : c.from_residual.result ≡ Err c.in_err-take_byte.field-0.0 = search rules in
    let i = c.loop-due.due-index in
    let within : c.loop-due.due-index < length due_line = omega arith in
    let t = c.in_err-take_byte.ensures.refused in
    rw is (
      take i due_line ++ t.0,
      bytes_joined (take i due_line) t.0 _ _ _ _ _ _ c.loop-due.invariant.taken_so_far t.1,
      not_due_after due_line i 0 c.args.line t.0 _ _ within t.2,
    )

pub loop-due-preserved : goal.loop-due-preserved
loop-due-preserved g c =
    let i = c.loop-due.due-index in
    let within : c.loop-due.due-index < length due_line = omega arith in
    let joined = bytes_joined (take i due_line) (get_or due_line i 0 ∷ []) _ _ _ _ _ _
    c.loop-due.invariant.taken_so_far c.in_ok-take_byte.ensures.due in
    record {
      items = refl;
      taken_so_far = subst (λ t. Moves g.P.Port c.args.port.now c.take_byte.new.port (taken t))
          (sym (take_more due_line i 0 within)) joined;
      counts = (search rules, search rules);
    }
