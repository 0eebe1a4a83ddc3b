use Rattle.std.proofs.Common.{◌≡◌, ◌<◌, ℕ, Bool, [], length, map, refl, sym, ap, ◌∙◌, subst, All}
use Rattle.std.specs.Prelude.{is_none}
use Rattle.std.proofs.lemmas.Result.{err_from_is_err_and}
use Rattle.std.proofs.lemmas.List.Elements.{All-filter}
use Rattle.port_io.proofs.Traffic.{goes_nothing}
use Rattle.window_table.specs.Readings.{told_at}
use Rattle.decode_rounds.specs.Seats.{untold}
use Rattle.decode_rounds.proofs.rest.put_left.Goals as goal

pub returns-in_err-left-clause-partly : goal.returns-in_err-left-clause-partly
returns-in_err-left-clause-partly g c =
    let p = err_from_is_err_and c.from_residual.result c.from_residual.ensures.1 in
    rw (p.1, p.2) ([], untold c.args.readings.now c.args.releases.now, refl, goes_nothing _ _)

pub put_releases-requires : goal.put_releases-requires
put_releases-requires g c =
    subst (All (λ (q : ℕ × Bool). q.0 < length c.args.conds.now))
    (sym (c.deref.ensures.value ∙ c.in_ok-left.ensures))
    (All-filter (λ (q : ℕ × Bool). is_none (told_at c.args.readings.now q.0))
    (λ (q : ℕ × Bool). q.0 < length c.args.conds.now) c.args.releases.now c.requires.in_range)
