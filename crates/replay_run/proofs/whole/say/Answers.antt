use Rattle.std.proofs.Common.{[], refl, ◌∙◌}
use Rattle.std.proofs.lemmas.Result.{err_from_is_err_and}
use Rattle.port_io.proofs.Traffic.{goes_cut, goes_nothing, goes_put}
use Rattle.replay_run.proofs.whole.say.Goals as goal

pub returns-in_err-write_fault-clause-said : goal.returns-in_err-write_fault-clause-said
returns-in_err-write_fault-clause-said g c reads cause =
    let p = err_from_is_err_and c.from_residual.result c.from_residual.ensures.1 in
    rw (p.1, p.2) ([], goes_nothing _ _)

pub returns-in-Done-clause-said : goal.returns-in-Done-clause-said
returns-in-Done-clause-said g c reads cause = (
  [],
  c.as_bytes.result.now,
  goes_put c.as_bytes.result.now _ _ _ _ c.in-Done.ensures.left c.in-Done.ensures.tape,
  (refl, refl, c.as_bytes.ensures.value ∙ c.in_ok-write_fault.ensures),
)

pub returns-clause-said : goal.returns-clause-said
returns-clause-said g c reads cause =
    let cut = goes_cut c.as_bytes.result.now _ _ _ _ c.in-Failed.ensures.left
    c.in-Failed.ensures.tape in (
      c.args.end,
      [],
      c.as_bytes.result.now,
      cut.0,
      cut.2,
      (refl, refl, c.as_bytes.ensures.value ∙ c.in_ok-write_fault.ensures),
      cause,
    )
