use Rattle.std.proofs.Common.{◌≡◌, ◌≢◌, ◌≤◌, ◌+◌, ℕ, List, Err, Some, ◌∙◌, refl, sym, ap, subst, arith, rules, length, map, flat_map}
use Rattle.std.proofs.lemmas.Result.{err_from_is_err_and}
use Rattle.port_io.specs.Port.{Rose}
use Rattle.measure_map.specs.Placed.{before_slot}
use Rattle.syndrome_source.specs.declared.error.RowError.TheVariants.{Memory, ReadFault}
use Rattle.surface_model.specs.Layout.{last_slot}
use Rattle.surface_model.specs.Schedules.{CondLine, Schedule}
use Rattle.window_setting.specs.Slots.{at_slot, detector_slots}
use Rattle.report_model.specs.Tasks.{HasTask, labels_of}
use Rattle.port_io.specs.Traffic.{Goes}
use Rattle.report_model.specs.Tapes.{bytes_of}
use Rattle.run_rounds.specs.Moves.{put_moves}
use Rattle.run_rounds.specs.Releases.{ArePutPartly}
use Rattle.run_rounds.specs.Slots.{At, IsSlotUnread}
use Rattle.run_rounds.specs.declared.release.PutError.TheVariants as stop
use Rattle.slot_decoder.specs.Histories.{AreAllGuessed, AreGuessedFrom}
use Rattle.window_model.specs.Speculation.{start}
use Rattle.decode_rounds.specs.Courses.{IsBrokenOff, IsDecodedTo, IsReadThrough}
use Rattle.decode_rounds.proofs.Courses.{broken_arrive, broken_put, broken_row, brought, decoded_more, decoded_start, due_named, ended, releases_stay, rose_since, stopped_by, stopped_is, stopped_through, told_after}
use Rattle.run_rounds.proofs.Values.{raws_long, values_long}
use Rattle.decode_rounds.proofs.rounds.read_alone.Goals as goal

pub loop-slot-init : goal.loop-slot-init
loop-slot-init g c = record {
  so_far = subst (λ at. IsDecodedTo c.args.decoder.progress.task at (g.P.Port.left c.args.port.now)
      (g.P.Port.left c.args.port.now) (g.P.Port.tape c.args.port.now)
      (g.P.Port.tape c.args.port.now) c.args.decoder.progress) (sym c.requires.begun.at_start)
      (decoded_start c.args.reader.now.schedule _ _ c.args.decoder.progress c.requires.none.begun
      c.is_progress.ensures.setting c.is_progress.ensures.progress);
  schedule = refl;
  slot = ap (λ (at : At). at.slot) c.requires.begun.at_start;
  retries = refl;
  guessed = subst (AreGuessedFrom (g.Q.Predictor.may_guess c.args.predictor.now)
      c.args.decoder.progress.task start) (sym c.requires.none.none) tt;
  counts = (omega arith, omega arith);
}

pub returns-in-Err-clause-read : goal.returns-in-Err-clause-read
returns-in-Err-clause-read g c =
    let last = ap last_slot c.loop-slot.invariant.schedule in
    let within : c.loop-slot.reader.slot ≤ last_slot c.loop-slot.reader.schedule = omega (
      arith,
      last,
      c.loop-slot.invariant.slot,
      c.loop-slot-test.true,
      c.slots-slot-end.ensures,
    ) in
    let unread = c.in-Err.ensures.refused in
    stopped_is c.stopped.result (λ r. r.decoder) (λ r. r.end) c.loop-slot.decoder
    (Err c.in-Err.error) (c.in-Err.error ≢ Memory)
    (λ decoder end. (input : List ℕ) → g.P.Port.left c.args.port.now ≡ Some input →
    IsReadThrough {A = Unit {0}} c.args.reader.now.schedule c.args.decoder.progress.task
    (g.P.Port.left c.args.port.now) (g.P.Port.left c.next.new.port)
    (g.P.Port.tape c.args.port.now) (g.P.Port.tape c.next.new.port) decoder.progress end)
    c.stopped.ensures.decoder c.stopped.ensures.end c.stopped.ensures.other
    (λ other input told.
    subst (λ s. IsReadThrough {A = Unit {0}} s c.args.decoder.progress.task
    (g.P.Port.left c.args.port.now)
    (g.P.Port.left c.next.new.port) (g.P.Port.tape c.args.port.now) (g.P.Port.tape
    c.next.new.port) c.loop-slot.decoder.progress (Err c.in-Err.error))
    c.loop-slot.invariant.schedule
    (stopped_through c.args.decoder.progress.task c.loop-slot.reader _ _ _ _ _ _
    c.loop-slot.decoder.progress unread.0
    c.loop-slot.invariant.so_far unread.1 c.in-Err.error within unread.2 other))

pub returns-in-Err-clause-broken : goal.returns-in-Err-clause-broken
returns-in-Err-clause-broken g c =
    let last = ap last_slot c.loop-slot.invariant.schedule in
    let within : c.loop-slot.reader.slot ≤ last_slot c.loop-slot.reader.schedule = omega (
      arith,
      last,
      c.loop-slot.invariant.slot,
      c.loop-slot-test.true,
      c.slots-slot-end.ensures,
    ) in
    let unread = c.in-Err.ensures.refused in
    stopped_by c.stopped.result c.in-Err.error stop.Memory Memory
    (λ error. IsBrokenOff c.args.reader.now.schedule
    c.args.decoder.progress.task error (g.P.Port.left c.args.port.now)
    (g.P.Port.left c.next.new.port)
    (g.P.Port.tape c.args.port.now) (g.P.Port.tape c.next.new.port))
    c.stopped.ensures.memory
    (λ e.
    subst (λ s. IsBrokenOff s c.args.decoder.progress.task stop.Memory
    (g.P.Port.left c.args.port.now)
    (g.P.Port.left c.next.new.port) (g.P.Port.tape c.args.port.now)
    (g.P.Port.tape c.next.new.port)) c.loop-slot.invariant.schedule
    (broken_row c.args.decoder.progress.task c.loop-slot.reader
    _ _ _ _ _ _ c.loop-slot.decoder.progress unread.0 c.loop-slot.invariant.so_far unread.1 within
    (subst
    (IsSlotUnread c.loop-slot.reader (g.P.Port.left c.next.new.port) unread.0) e unread.2)))

pub returns-in-Err-clause-fault : goal.returns-in-Err-clause-fault
returns-in-Err-clause-fault g c =
    stopped_is c.stopped.result (λ r. r.decoder) (λ r. r.end) c.loop-slot.decoder
    (Err c.in-Err.error) (c.in-Err.error ≢ Memory)
    (λ decoder end. end ≡ Err ReadFault →
    Rose (g.P.Port.read_faults c.args.port.now) (g.P.Port.read_faults c.next.new.port))
    c.stopped.ensures.decoder c.stopped.ensures.end c.stopped.ensures.other
    (λ other e. rose_since _ (g.P.Port.read_faults c.loop-slot.port) _
    c.loop-slot.invariant.counts.0 (c.in-Err.ensures.fault (let same : c.in-Err.error
    ≡ ReadFault = cc in ap (λ x. Err x) same)))

pub returns-in-Err-clause-retries : goal.returns-in-Err-clause-retries
returns-in-Err-clause-retries g c =
    stopped_is c.stopped.result (λ r. r.decoder) (λ r. r.end) c.loop-slot.decoder
    (Err c.in-Err.error) (c.in-Err.error ≢ Memory)
    (λ decoder end. decoder.retries ≡ c.args.decoder.retries)
    c.stopped.ensures.decoder c.stopped.ensures.end c.stopped.ensures.other
    (λ other. c.loop-slot.invariant.retries)

pub returns-in-Err-clause-guessed : goal.returns-in-Err-clause-guessed
returns-in-Err-clause-guessed g c =
    stopped_is c.stopped.result (λ r. r.decoder) (λ r. r.end) c.loop-slot.decoder
    (Err c.in-Err.error) (c.in-Err.error ≢ Memory)
    (λ decoder end. AreAllGuessed (g.Q.Predictor.may_guess c.args.predictor.now) decoder)
    c.stopped.ensures.decoder c.stopped.ensures.end c.stopped.ensures.other
    (λ other. c.loop-slot.invariant.guessed)

pub arrive-requires-clause-in_range : goal.arrive-requires-clause-in_range
arrive-requires-clause-in_range g c =
    let last = ap last_slot c.loop-slot.invariant.schedule in
    let task_last = ap (λ task. task.last_slot) (c.loop-slot.invariant.so_far.task_is
    ∙ c.requires.begun.task_is.1) in
    omega (
      arith,
      last,
      task_last,
      c.loop-slot.invariant.so_far.arrived,
      c.loop-slot.invariant.slot,
      c.loop-slot-test.true,
      c.slots-slot-end.ensures,
    )

pub arrive-requires-clause-values : goal.arrive-requires-clause-values
arrive-requires-clause-values g c =
    let so_far = c.loop-slot.invariant.so_far in
    let read = c.in-Ok.ensures.read in
    let at = c.loop-slot.reader in
    let is : HasTask at.schedule c.loop-slot.decoder.progress.task =
    subst (λ s. HasTask s c.loop-slot.decoder.progress.task) (sym c.loop-slot.invariant.schedule)
    (subst (HasTask c.args.reader.now.schedule) (sym so_far.task_is) c.requires.begun.task_is) in
    subst (λ k. length c.in-Ok.folded.defects
    ≡ length (at_slot (detector_slots c.loop-slot.decoder.progress.task) k)) (sym so_far.arrived)
    (values_long at.schedule c.loop-slot.decoder.progress.task
    at.slot at.before read.row c.in-Ok.folded.defects is (λ e. so_far.so_far.before_is
    ∙ ap (before_slot so_far.so_far.rows) e) (λ rows b r. (read.folds rows b r).0))

pub arrive-requires-clause-raws : goal.arrive-requires-clause-raws
arrive-requires-clause-raws g c =
    let so_far = c.loop-slot.invariant.so_far in
    let read = c.in-Ok.ensures.read in
    let at = c.loop-slot.reader in
    let is : HasTask at.schedule c.loop-slot.decoder.progress.task =
    subst (λ s. HasTask s c.loop-slot.decoder.progress.task) (sym c.loop-slot.invariant.schedule)
    (subst (HasTask c.args.reader.now.schedule) (sym so_far.task_is) c.requires.begun.task_is) in
    subst (λ k. length c.in-Ok.folded.raws ≡ length (at_slot
    c.loop-slot.decoder.progress.task.raw_slots k))
    (sym so_far.arrived)
    (raws_long at.schedule c.loop-slot.decoder.progress.task at.slot at.before read.row
    c.in-Ok.folded.raws
    is (λ e. so_far.so_far.before_is ∙ ap (before_slot so_far.so_far.rows) e) (λ rows b r.
    (read.folds rows b r).1))

pub returns-in_err-decoder-clause-broken : goal.returns-in_err-decoder-clause-broken
returns-in_err-decoder-clause-broken g c =
    let last = ap last_slot c.loop-slot.invariant.schedule in
    let within : c.loop-slot.reader.slot ≤ last_slot c.loop-slot.reader.schedule = omega (
      arith,
      last,
      c.loop-slot.invariant.slot,
      c.loop-slot-test.true,
      c.slots-slot-end.ensures,
    ) in
    let at = c.loop-slot.reader in
    let is : HasTask at.schedule c.args.decoder.progress.task = subst
    (λ s. HasTask s c.args.decoder.progress.task)
    (sym c.loop-slot.invariant.schedule) c.requires.begun.task_is in
    let p = err_from_is_err_and c.from_residual.result c.from_residual.ensures.1 in
    rw (p.1, p.2) (subst (λ s. IsBrokenOff s c.args.decoder.progress.task stop.Memory (g.P.Port.left
    c.args.port.now) (g.P.Port.left c.next.new.port) (g.P.Port.tape c.args.port.now)
    (g.P.Port.tape c.next.new.port)) c.loop-slot.invariant.schedule
    (broken_arrive c.args.decoder.progress.task at c.next.new.self _ _ _ _ _ _
    c.loop-slot.decoder.progress _ _ c.loop-slot.invariant.so_far is within c.in-Ok.ensures.read))

pub arrive-requires-clause-slot : goal.arrive-requires-clause-slot
arrive-requires-clause-slot g c = c.in-Ok.ensures.slot ∙ sym c.loop-slot.invariant.so_far.arrived

pub later-due-requires : goal.later-due-requires
later-due-requires g c =
    releases_stay _ _ _ _ c.in_ok-decoder.ensures.arrival _ _ c.releases-before.ensures.value
    c.releases.ensures.value

pub put_releases-requires : goal.put_releases-requires
put_releases-requires g c =
    let task = c.in_ok-decoder.ensures.arrival.task ∙ c.loop-slot.invariant.so_far.task_is in
    let schedule = ap (λ (a : At). a.schedule) c.in-Ok.ensures.read.next
    ∙ c.loop-slot.invariant.schedule in
    due_named c.args.reader.now.schedule c.in_ok-decoder.decoder.progress.task
    (subst (HasTask c.args.reader.now.schedule) (sym task) c.requires.begun.task_is)
    c.conds.result.now
    (c.conds.ensures ∙ ap (λ (s : Schedule). s.conds) schedule) _ _ _
    c.releases.ensures.in_range c.later-due.ensures

pub returns-in_err-put_releases-clause-broken : goal.returns-in_err-put_releases-clause-broken
returns-in_err-put_releases-clause-broken g c =
    let last = ap last_slot c.loop-slot.invariant.schedule in
    let within : c.loop-slot.reader.slot ≤ last_slot c.loop-slot.reader.schedule = omega (
      arith,
      last,
      c.loop-slot.invariant.slot,
      c.loop-slot-test.true,
      c.slots-slot-end.ensures,
    ) in
    let at = c.loop-slot.reader in
    let read = c.in-Ok.ensures.read in
    let is : HasTask at.schedule c.args.decoder.progress.task = subst
    (λ s. HasTask s c.args.decoder.progress.task)
    (sym c.loop-slot.invariant.schedule) c.requires.begun.task_is in
    let error = c.in_err-put_releases.field-0.0 in
    let result_is : c.from_residual-in_err-put_releases.result ≡ Err error = search rules in
    let labels = ap (λ (s : Schedule). labels_of s) (ap (λ (a : At). a.schedule) read.next) in
    let conds = ap (λ l. map (λ (line : CondLine). line.label) l) c.conds.ensures ∙ labels in
    let partly = subst (λ rs. ArePutPartly (labels_of at.schedule) rs error
    (g.P.Port.left c.next.new.port) (g.P.Port.left c.put_releases.new.port)
    (g.P.Port.tape c.next.new.port) (g.P.Port.tape c.put_releases.new.port))
    (brought _ _ _ _ c.in_ok-decoder.ensures.arrival _ _ _ c.releases-before.ensures.value
    c.releases.ensures.value c.later-due.ensures)
    (subst (λ l. ArePutPartly l c.later-due.result.now error (g.P.Port.left c.next.new.port)
    (g.P.Port.left c.put_releases.new.port) (g.P.Port.tape c.next.new.port)
    (g.P.Port.tape c.put_releases.new.port)) conds c.in_err-put_releases.ensures.partly) in
    rw result_is (subst (λ s. IsBrokenOff s c.args.decoder.progress.task error (g.P.Port.left
    c.args.port.now) (g.P.Port.left c.put_releases.new.port) (g.P.Port.tape c.args.port.now)
    (g.P.Port.tape c.put_releases.new.port)) c.loop-slot.invariant.schedule
    (broken_put c.args.decoder.progress.task at c.next.new.self _ _
    _ _ _ _ c.loop-slot.decoder.progress _ _ c.loop-slot.invariant.so_far is within read
    c.in_ok-decoder.decoder.progress c.in_ok-decoder.ensures.arrival
    c.is_progress-in-loop-slot.ensures.setting
    c.is_progress-in-loop-slot.ensures.progress _ _ c.in_err-put_releases.ensures.left error
    partly))

pub loop-slot-preserved : goal.loop-slot-preserved
loop-slot-preserved g c =
    let last = ap last_slot c.loop-slot.invariant.schedule in
    let within : c.loop-slot.reader.slot ≤ last_slot c.loop-slot.reader.schedule = omega (
      arith,
      last,
      c.loop-slot.invariant.slot,
      c.loop-slot-test.true,
      c.slots-slot-end.ensures,
    ) in
    let at = c.loop-slot.reader in
    let read = c.in-Ok.ensures.read in
    let is : HasTask at.schedule c.args.decoder.progress.task = subst
    (λ s. HasTask s c.args.decoder.progress.task)
    (sym c.loop-slot.invariant.schedule) c.requires.begun.task_is in
    let schedule = ap (λ (a : At). a.schedule) read.next in
    let labels = ap (λ (s : Schedule). labels_of s) schedule in
    let conds = ap (λ l. map (λ (line : CondLine). line.label) l) c.conds.ensures ∙ labels in
    let put_ = subst (λ rs. Goes (flat_map (bytes_of (labels_of at.schedule)) (put_moves rs))
    (g.P.Port.left c.next.new.port) (g.P.Port.left c.put_releases.new.port)
    (g.P.Port.tape c.next.new.port) (g.P.Port.tape c.put_releases.new.port))
    (brought _ _ _ _ c.in_ok-decoder.ensures.arrival _ _ _ c.releases-before.ensures.value
    c.releases.ensures.value c.later-due.ensures)
    (subst (λ l. Goes (flat_map (bytes_of l) (put_moves c.later-due.result.now))
    (g.P.Port.left c.next.new.port) (g.P.Port.left c.put_releases.new.port) (g.P.Port.tape
    c.next.new.port) (g.P.Port.tape c.put_releases.new.port)) conds
    c.in_ok-put_releases.ensures.put) in
    record {
      so_far = decoded_more c.args.decoder.progress.task at c.next.new.self
          _ _ _ _ _ _ c.loop-slot.decoder.progress _ _ c.loop-slot.invariant.so_far is within read
          c.in_ok-decoder.decoder.progress c.in_ok-decoder.ensures.arrival
          c.is_progress-in-loop-slot.ensures.setting
          c.is_progress-in-loop-slot.ensures.progress _ _ c.in_ok-put_releases.ensures.left put_;
      schedule = schedule ∙ c.loop-slot.invariant.schedule;
      slot = ap (λ (a : At). a.slot) read.next ∙ ap (λ k. k + 1) c.loop-slot.invariant.slot;
      retries = c.in_ok-decoder.ensures.retries ∙ c.loop-slot.invariant.retries;
      guessed = c.in_ok-decoder.ensures.guessed c.loop-slot.invariant.guessed;
      counts = (
        let a = c.loop-slot.invariant.counts.0 in let b = c.in-Ok.ensures.counts.0 in
            let d = c.in_ok-put_releases.ensures.counts.0 in omega (arith, a, b, d),
        let a = c.loop-slot.invariant.counts.1 in let b = c.in-Ok.ensures.counts.1 in
            let d = c.in_ok-put_releases.ensures.counts.1 in omega (arith, a, b, d),
      );
    }

pub returns-clause-read : goal.returns-clause-read
returns-clause-read g c input told =
    let last = ap last_slot c.loop-slot.invariant.schedule in
    let all : c.loop-slot.reader.slot ≡ last_slot c.loop-slot.reader.schedule + 1 =
    omega (
      arith,
      last,
      c.loop-slot.invariant.slot,
      c.loop-slot-test.false,
      c.loop-slot.auto._slot-end,
      c.slots-slot-end.ensures,
    ) in
    let so_far = c.loop-slot.invariant.so_far in
    let rest = told_after input _ _ _ _ _ so_far.so_far.goes told in
    subst (λ s. IsReadThrough s c.args.decoder.progress.task (g.P.Port.left c.args.port.now)
    (g.P.Port.left
    c.finish-end.new.port) (g.P.Port.tape c.args.port.now) (g.P.Port.tape c.finish-end.new.port)
    c.loop-slot.decoder.progress c.finish-end.result) c.loop-slot.invariant.schedule
    (ended c.args.decoder.progress.task c.loop-slot.reader _ _ _ _ _ _ c.loop-slot.decoder.progress
    rest.0
    c.finish-end.result so_far all rest.1 c.finish-end.ensures.end c.finish-end.ensures.refused)
