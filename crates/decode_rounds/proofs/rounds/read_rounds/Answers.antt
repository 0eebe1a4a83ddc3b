use Rattle.std.proofs.Common.{rules}
use Rattle.std.proofs.lemmas.Result.{err_from_is_err_and}
use Rattle.decode_rounds.proofs.AllRows.{broken_start}
use Rattle.decode_rounds.proofs.rounds.read_rounds.Goals as goal

pub returns-in_err-decoder-clause-broken : goal.returns-in_err-decoder-clause-broken
returns-in_err-decoder-clause-broken g c =
    let p = err_from_is_err_and c.from_residual.result c.from_residual.ensures.1 in
    rw (p.1, p.2) (λ input told. broken_start c.args.setting c.args.rows.schedule
    (g.P.Port.left c.args.port.now) (g.P.Port.tape c.args.port.now))
