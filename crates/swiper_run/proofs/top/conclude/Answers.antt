use Rattle.std.proofs.Common.{inl, inr, refl}
use Rattle.port_io.proofs.Traffic.{goes_put, goes_cut}
use Rattle.swiper_run.proofs.top.conclude.Goals as goal

pub returns-in-Done-clause-done : goal.returns-in-Done-clause-done
returns-in-Done-clause-done g c =
    inl (refl, goes_put c.args.text.now _ _ _ _ c.in-Done.ensures.left c.in-Done.ensures.tape)

pub returns-in-Failed-clause-done : goal.returns-in-Failed-clause-done
returns-in-Failed-clause-done g c =
    let cut = goes_cut c.args.text.now _ _ _ _ c.in-Failed.ensures.left c.in-Failed.ensures.tape in
    inr (refl, (cut.0, cut.2))
