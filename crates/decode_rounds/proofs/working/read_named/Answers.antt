use Rattle.std.proofs.Common.{◌≡◌, inl, inr, ℕ, List, Err, ap, ◌∙◌, sym, subst, rules}
use Rattle.std.proofs.lemmas.Result.{err_from_is_err_and}
use Rattle.std.specs.Prelude.{Some}
use Rattle.std.specs.declared.option.Option.{Option}
use Rattle.port_io.specs.Port.{Rose}
use Rattle.port_io.specs.declared.port.TapeByte.{TapeByte}
use Rattle.syndrome_source.specs.declared.error.RowError.TheVariants.{ReadFault}
use Rattle.report_model.specs.Tasks.{HasTask}
use Rattle.run_rounds.specs.Slots.{At}
use Rattle.decode_rounds.specs.Courses.{IsBrokenOff, IsReadThrough}
use Rattle.decode_rounds.specs.Seats.{HasStopped}
use Rattle.decode_rounds.specs.declared.reading.Stop.TheVariants.{Rows}
use Rattle.decode_rounds.proofs.AllRows.{broken_start}
use Rattle.decode_rounds.proofs.Concluded.{err_so, ok_so}
use Rattle.decode_rounds.proofs.Courses.{rose_since, rose_until}
use Rattle.decode_rounds.proofs.working.read_named.Goals as goal

pub returns-in_err-office-clause-broken : goal.returns-in_err-office-clause-broken
returns-in_err-office-clause-broken g c =
    let p = err_from_is_err_and c.from_residual.result c.from_residual.ensures.1 in
    rw (p.1, p.2) (λ input told. broken_start g.Z.NamesSetting.setting c.args.rows.schedule
    (g.P.Port.left c.args.port.now) (g.P.Port.tape c.args.port.now))

pub conclude-requires-clause-task : goal.conclude-requires-clause-task
conclude-requires-clause-task g c =
    subst (λ s. HasTask s g.Z.NamesSetting.setting)
    (sym (c.meet-stop.ensures.schedule ∙ ap (λ (at : At). at.schedule) c.in_ok-office.ensures.rows))
    c.requires.begun.task_is

pub returns-clause-read : goal.returns-clause-read
returns-clause-read g c =
    let task = g.Z.NamesSetting.setting in
    let s = c.meet-stop.new.office.seat.rows.schedule in
    let stop = c.meet-stop.result in
    let r = c.meet-stop.new.office.seat.readings in
    let first = g.P.Port.left c.args.port.now in
    let begin = g.P.Port.tape c.args.port.now in
    let met = g.P.Port.left c.meet-stop.new.port in
    let met_tape = g.P.Port.tape c.meet-stop.new.port in
    let left = g.P.Port.left c.conclude.new.port in
    let tape = g.P.Port.tape c.conclude.new.port in
    ok_so (λ r'. (a : Option (List ℕ)) (t : Option (List TapeByte)) →
    HasStopped task s stop a met t met_tape r →
    IsReadThrough {A = Unit {0}} s task a left t tape r'.decoder.progress r'.end)
    (λ r'. (input : List ℕ) → first ≡ Some input →
    IsReadThrough {A = Unit {0}} c.args.rows.schedule task first left begin tape
    r'.decoder.progress r'.end) c.conclude.result
    (λ r' so input told.
    subst (λ k.
    IsReadThrough {A = Unit {0}} k task first left begin tape r'.decoder.progress r'.end)
    (c.meet-stop.ensures.schedule ∙ ap (λ (at : At). at.schedule) c.in_ok-office.ensures.rows)
    (so first begin (subst (λ k. HasStopped task k stop first met begin met_tape r)
    (sym c.meet-stop.ensures.schedule) (c.meet-stop.ensures.read.so input told))))
    c.conclude.ensures.read

pub returns-clause-fault : goal.returns-clause-fault
returns-clause-fault g c =
    let reads = g.P.Port.read_faults c.args.port.now in
    let reads_now = g.P.Port.read_faults c.conclude.new.port in
    ok_so (λ r. c.meet-stop.result ≡ Rows r.end) (λ r. r.end ≡ Err ReadFault → Rose reads reads_now)
    c.conclude.result
    (λ r stop is. rose_until reads (g.P.Port.read_faults c.meet-stop.new.port) reads_now
    (c.meet-stop.ensures.fault (stop ∙ ap Rows is)) c.conclude.ensures.counts.0)
    c.conclude.ensures.end

pub returns-clause-broken : goal.returns-clause-broken
returns-clause-broken g c =
    let task = g.Z.NamesSetting.setting in
    let s = c.meet-stop.new.office.seat.rows.schedule in
    let stop = c.meet-stop.result in
    let r = c.meet-stop.new.office.seat.readings in
    let first = g.P.Port.left c.args.port.now in
    let begin = g.P.Port.tape c.args.port.now in
    let met = g.P.Port.left c.meet-stop.new.port in
    let met_tape = g.P.Port.tape c.meet-stop.new.port in
    let left = g.P.Port.left c.conclude.new.port in
    let tape = g.P.Port.tape c.conclude.new.port in
    err_so (λ error. (a : Option (List ℕ)) (t : Option (List TapeByte)) →
    HasStopped task s stop a met t met_tape r → IsBrokenOff s task error a left t tape)
    (λ error. (input : List ℕ) → first ≡ Some input →
    IsBrokenOff c.args.rows.schedule task error first left begin tape) c.conclude.result
    (λ error so input told.
    subst (λ k. IsBrokenOff k task error first left begin tape)
    (c.meet-stop.ensures.schedule ∙ ap (λ (at : At). at.schedule) c.in_ok-office.ensures.rows)
    (so first begin (subst (λ k. HasStopped task k stop first met begin met_tape r)
    (sym c.meet-stop.ensures.schedule) (c.meet-stop.ensures.read.so input told))))
    c.conclude.ensures.broken

pub returns-clause-write_fault : goal.returns-clause-write_fault
returns-clause-write_fault g c failed =
    let writes = g.P.Port.write_faults c.args.port.now in
    let met = g.P.Port.write_faults c.meet-stop.new.port in
    let writes_now = g.P.Port.write_faults c.conclude.new.port in
    elim (c.conclude.ensures.write_fault failed) [
      | inl stopped ↦ rose_until writes met writes_now (c.meet-stop.ensures.write_fault stopped)
          c.conclude.ensures.counts.1
      | inr rose ↦ rose_since writes met writes_now c.meet-stop.ensures.counts.1 rose
    ]
