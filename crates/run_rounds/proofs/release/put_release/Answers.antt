use Rattle.std.proofs.Common.{◌∙◌, subst, take}
use Rattle.std.proofs.lemmas.Result.{err_from_is_err_and}
use Rattle.port_io.specs.Port.{sent}
use Rattle.port_io.specs.Traffic.{Goes}
use Rattle.port_io.proofs.Traffic.{goes_cut, goes_nothing, goes_put}
use Rattle.run_rounds.proofs.release.put_release.Goals as goal

pub returns-in_err-line-clause-cut : goal.returns-in_err-line-clause-cut
returns-in_err-line-clause-cut g c = let p = err_from_is_err_and c.from_residual.result
    c.from_residual.ensures.1 in rw (p.1, p.2) (goes_nothing _ _)

pub returns-in-Done-clause-put : goal.returns-in-Done-clause-put
returns-in-Done-clause-put g c =
    subst (λ text. Goes (sent text) (g.P.Port.left c.args.port.now) (g.P.Port.left c.put.new.self)
    (g.P.Port.tape c.args.port.now) (g.P.Port.tape c.put.new.self)) (c.as_slice.ensures.value
    ∙ c.in_ok-line.ensures)
    (goes_put c.as_slice.result.now _ _ _ _ c.in-Done.ensures.left c.in-Done.ensures.tape)

pub returns-clause-cut : goal.returns-clause-cut
returns-clause-cut g c =
    let cut = goes_cut c.as_slice.result.now _ _ _ _ c.in-Failed.ensures.left
    c.in-Failed.ensures.tape in (
      cut.0,
      subst (λ text. Goes (sent (take cut.0 text)) (g.P.Port.left c.args.port.now)
          (g.P.Port.left c.put.new.self) (g.P.Port.tape c.args.port.now)
          (g.P.Port.tape c.put.new.self)) (c.as_slice.ensures.value ∙ c.in_ok-line.ensures) cut.2,
    )
