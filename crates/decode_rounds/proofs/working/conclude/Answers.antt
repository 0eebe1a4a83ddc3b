use Rattle.std.proofs.Common.{◌≡◌, ℕ, List, IfOk, sym, ap, ◌∙◌, subst, rules}
use Rattle.std.proofs.lemmas.Result.{err_from_is_err_and}
use Rattle.std.specs.declared.option.Option.{Option}
use Rattle.port_io.specs.declared.port.TapeByte.{TapeByte}
use Rattle.window_model.specs.Speculation.{start}
use Rattle.core_state.specs.States.{events_of}
use Rattle.slot_decoder.specs.Histories.{AreAllGuessed, DecoderView}
use Rattle.decode_rounds.specs.Courses.{IsReadThrough}
use Rattle.decode_rounds.specs.Seats.{HasEnded, HasStopped}
use Rattle.decode_rounds.proofs.Concluded.{guessed_also, of_decoder, of_end, of_rounds}
use Rattle.decode_rounds.proofs.Meeting.{broken_after, broken_by, come}
use Rattle.decode_rounds.proofs.working.conclude.Goals as goal

pub returns-in_err-decoder-in-Rows-clause-broken :
    goal.returns-in_err-decoder-in-Rows-clause-broken
returns-in_err-decoder-in-Rows-clause-broken g c =
    let task = g.Z.NamesSetting.setting in
    let s = c.args.seat.now.rows.schedule in
    let r = c.args.seat.now.readings in
    let now = g.P.Port.left c.args.port.now in
    let tape_now = g.P.Port.tape c.args.port.now in
    let p = err_from_is_err_and c.from_residual.result c.from_residual.ensures.1 in
    rw (p.1, p.2) (λ left tape stopped.
    broken_after task r c.args.core c.is_core.ensures
    c.requires.named c.requires.given
    c.requires.released s c.in-Rows.end left now tape tape_now
    (subst (λ stop. HasStopped task s stop left now tape tape_now r) c.in-Rows.is stopped))

pub end_by-requires-clause-come : goal.end_by-requires-clause-come
end_by-requires-clause-come g c =
    come g.Z.NamesSetting.setting c.args.seat.now.readings c.args.core
    c.is_core.ensures c.requires.named c.requires.given
    c.requires.released c.in_ok-decoder-in-Rows.decoder
    c.in_ok-decoder-in-Rows.ensures.come c.is_progress.ensures.progress c.is_history.ensures

pub returns-in-Broken-clause-broken : goal.returns-in-Broken-clause-broken
returns-in-Broken-clause-broken g c left tape stopped =
    let task = g.Z.NamesSetting.setting in
    let s = c.args.seat.now.rows.schedule in
    let r = c.args.seat.now.readings in
    let now = g.P.Port.left c.args.port.now in
    let tape_now = g.P.Port.tape c.args.port.now in
    broken_by task r c.args.core c.is_core.ensures
    c.requires.named c.requires.given
    c.requires.released s c.in-Broken.error left now tape tape_now
    (subst (λ stop. HasStopped task s stop left now tape tape_now r) c.in-Broken.is stopped)

pub returns-in_ok-decoder-in-Rows-clause-end : goal.returns-in_ok-decoder-in-Rows-clause-end
returns-in_ok-decoder-in-Rows-clause-end g c =
    rw c.in-Rows.is (of_end c.end_by.result c.in-Rows.end c.end_by.ensures.end)

pub returns-in_ok-decoder-in-Rows-clause-read : goal.returns-in_ok-decoder-in-Rows-clause-read
returns-in_ok-decoder-in-Rows-clause-read g c =
    let task = g.Z.NamesSetting.setting in
    let s = c.args.seat.now.rows.schedule in
    let r = c.args.seat.now.readings in
    rw c.in-Rows.is (of_rounds (λ v end. (left : Option (List ℕ)) (tape : Option (List TapeByte)) →
    HasEnded task s left (g.P.Port.left c.args.port.now) tape (g.P.Port.tape c.args.port.now) r
    c.in-Rows.end → IsReadThrough {A = Unit {0}} s task left (g.P.Port.left c.end_by.new.port) tape
    (g.P.Port.tape c.end_by.new.port) v.progress end) c.end_by.result
    c.in_ok-decoder-in-Rows.decoder c.in-Rows.end c.end_by.ensures.decoder c.end_by.ensures.end
    c.end_by.ensures.read)

pub returns-in_ok-decoder-in-Rows-clause-task : goal.returns-in_ok-decoder-in-Rows-clause-task
returns-in_ok-decoder-in-Rows-clause-task g c =
    of_decoder (λ v. v.progress.task ≡ g.Z.NamesSetting.setting) c.end_by.result
    c.in_ok-decoder-in-Rows.decoder c.end_by.ensures.decoder
    (c.in_ok-decoder-in-Rows.ensures.come.task ∙ c.requires.named)

pub returns-in_ok-decoder-in-Rows-clause-retries :
    goal.returns-in_ok-decoder-in-Rows-clause-retries
returns-in_ok-decoder-in-Rows-clause-retries g c =
    of_decoder (λ v. v.retries ≡ g.Z.NamesSetting.retries) c.end_by.result
    c.in_ok-decoder-in-Rows.decoder c.end_by.ensures.decoder
    (c.in_ok-decoder-in-Rows.ensures.come.retries ∙ c.requires.allowed)

pub returns-in_ok-decoder-in-Rows-clause-guessed :
    goal.returns-in_ok-decoder-in-Rows-clause-guessed
returns-in_ok-decoder-in-Rows-clause-guessed g c =
    let may_guess = g.Q.Predictor.may_guess c.args.crew.now.predictor.now in
    let core = c.args.core in
    of_decoder (AreAllGuessed may_guess) c.end_by.result c.in_ok-decoder-in-Rows.decoder
    c.end_by.ensures.decoder
    (c.in_ok-decoder-in-Rows.ensures.guessed
    (guessed_also g.Z.NamesSetting.may_guess may_guess c.requires.within.all core.task start
    (events_of core) c.requires.guesses))

pub returns-in_ok-decoder-in-Rows-clause-broken : goal.returns-in_ok-decoder-in-Rows-clause-broken
returns-in_ok-decoder-in-Rows-clause-broken g c = rw c.in-Rows.is c.end_by.ensures.broken
