use Rattle.std.proofs.Common.{◌≡◌, ◌-◌, length, get_or, subst, rules}
use Rattle.std.proofs.lemmas.Bool.{ltb-true}
use Rattle.log_reader.proofs.Read.{above_all}
use Rattle.log_reader.proofs.step_line.is_above.Goals as goal

pub returns-in-Some-clause-above : goal.returns-in-Some-clause-above
returns-in-Some-clause-above c = λ e.
    let xs = c.as_slice.result.now in
    let at : c.in-Some.last.now ≡
    get_or c.as_slice.result.now (length c.as_slice.result.now - 1) 0 = search rules in
    let rising = c.as_slice.ensures.ascending in
    let value = c.as_slice.ensures.value in
    above_all c.args.edges.now c.in-Some.last.now c.args.edge rising
    (subst (λ ys. c.in-Some.last.now ≡ get_or ys (length ys - 1) 0) value at) (ltb-true _ _ e)
