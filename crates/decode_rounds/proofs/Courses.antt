-- The course of a run: from its start, over one more slot with its releases, to its end, or to
-- where it breaks off.
use Rattle.std.proofs.Common.{◌≡◌, ◌≢◌, ◌≤◌, ◌<◌, ⊎_elim, inl, ℕ, ◌+◌, Bool, true, List, [], ◌∷◌, ◌++◌, None, Some, Ok, Err, length, map, take, drop, flat_map, filter_map, refl, sym, ap, ◌∙◌, arith, subst, append_assoc, append-nil, length-append, slice_index_or, All, IsSome}
use Rattle.std.specs.declared.option.Option.{Option}
use Rattle.std.specs.declared.result.Result.{Result}
use Rattle.std.specs.Result.{IfErr, IfOk}
use Rattle.std.proofs.lemmas.List.{length-map, map-append}
use Rattle.std.proofs.lemmas.Bool.{cases_lt}
use Rattle.std.proofs.lemmas.List.Elements.{All-cons, All-drop, All-nil, filter_map-append}
use Rattle.std.proofs.Math.Seq.{drop-append_seam}
use Rattle.port_io.specs.Port.{Rose, sent}
use Rattle.port_io.specs.Traffic.{Goes, IsAtEnd, Takes, taken, takings}
use Rattle.port_io.specs.declared.port.TapeByte.{TapeByte}
use Rattle.port_io.proofs.Traffic.{goes_both, goes_takes}
use Rattle.surface_model.specs.Schedules.{CondLine, Schedule}
use Rattle.surface_model.specs.Layout.{last_slot}
use Rattle.syndrome_source.specs.Rows.{IsNoEnd}
use Rattle.syndrome_source.specs.declared.error.RowError.{RowError}
use Rattle.syndrome_source.specs.declared.error.RowError.TheVariants as ends
use Rattle.window_model.specs.Decoder.{Task, Syndrome, Step, Arrive, Commit, Release, Decoder, start, after, after_all, operation_at, IsRun, IsRunFrom, MayArrive}
use Rattle.window_model.specs.Progress.{Progress, Fits, IsBeginning, IsProgress}
use Rattle.window_model.proofs.Sums.{at_set, some_not_none}
use Rattle.window_setting.specs.Settings.{IsSetting}
use Rattle.window_setting.specs.Slots.{at_slot, detector_slots}
use Rattle.slot_decoder.specs.Slots.{IsArrival, releases_in}
use Rattle.measure_map.specs.Placed.{before_slot, defects_at, raws_at}
use Rattle.report_model.specs.Tapes.{Move, Take, Put, AreInTime, IsTimed, bytes_of, take_of}
use Rattle.report_model.specs.Tasks.{HasTask, labels_of, operation_of, syndrome_of}
use Rattle.report_model.specs.Texts.{release_line}
use Rattle.run_rounds.specs.Courses.{IsReadTo}
use Rattle.run_rounds.specs.Moves.{begun_after, put_moves, puts_of, release_in, releases_of}
use Rattle.run_rounds.specs.Releases.{ArePutPartly}
use Rattle.run_rounds.specs.Rounds.{AreRead, AreRounds, AreSoFar}
use Rattle.run_rounds.specs.Slots.{At, IsSlotRead, IsSlotUnread, line_of, next_at}
use Rattle.run_rounds.specs.declared.release.PutError.{PutError}
use Rattle.run_rounds.specs.declared.release.PutError.TheVariants.{WriteFault, Memory}
use Rattle.run_rounds.proofs.Courses.{before_stays, read_end, read_no_end, read_put, read_row, read_start, read_stopped, row_stays, so_far_read, unread_so_far}
use Rattle.run_rounds.proofs.Moving.{moves_more, moves_put, puts_more, puts_put, takes_more, takes_put, timed_more, timed_put}
use Rattle.run_rounds.proofs.Putting.{all_in_time, all_put, front_all, in_time}
use Rattle.decode_rounds.specs.Courses.{IsBrokenOff, IsDecodedTo, IsPartWay, IsReadThrough}
use Rattle.run_rounds.proofs.Values.{detectors_chosen, observables_chosen}

-- ---- the start

pub decoded_start : (s : Schedule) (left : Option (List ℕ)) (tape : Option (List TapeByte))
    (decoder : Progress) → IsBeginning decoder.task decoder → IsSetting decoder.task →
    IsProgress decoder →
    IsDecodedTo decoder.task (record { schedule = s; slot = 0; before = [] }) left left tape tape
    decoder
decoded_start s left tape decoder begun setting progress = record {
  so_far = read_start (labels_of s) s left tape;
  task_is = refl;
  setting = setting;
  progress = progress;
  arrived = begun.arrived;
  fits = λ more. record {
    values = record { value = λ v in_range below. absurd (omega (arith, below, begun.arrived)) };
    raws = record { raw = λ l in_range below. absurd (omega (arith, below, begun.arrived)) };
  };
  puts = ap releases_of (sym begun.steps);
  timed = tt;
}

-- ---- one more slot

-- the releases of some steps
pub same_releases : (steps : List Step) → releases_in steps ≡ releases_of steps
same_releases [] = refl
same_releases (Arrive slot ∷ steps) = same_releases steps
same_releases (Commit window set ∷ steps) = same_releases steps
same_releases (Release op bit ∷ steps) = ap (λ l. (op, bit) ∷ l) (same_releases steps)

releases_more : (old new : Progress) (values raws : List Bool)
    (arrival : IsArrival old values raws new) →
    releases_of new.steps ≡ releases_of old.steps ++ releases_of arrival.later
releases_more old new values raws arrival =
    ap releases_of arrival.steps
    ∙ filter_map-append release_in old.steps (Arrive old.arrived ∷ arrival.later)

-- after those of the old steps stand those that the arrival brings
releases_since : (old new : Progress) (values raws : List Bool)
    (arrival : IsArrival old values raws new) →
    drop (length (releases_in old.steps)) (releases_in new.steps) ≡ releases_of arrival.later
releases_since old new values raws arrival =
    ap (λ rs. drop (length rs) (releases_in new.steps)) (same_releases old.steps)
    ∙ ap (drop (length (releases_of old.steps)))
    (same_releases new.steps ∙ releases_more old new values raws arrival)
    ∙ drop-append_seam (releases_of old.steps) (releases_of arrival.later)

-- so those that are put are the ones that the arrival brings
pub brought : (old new : Progress) (values raws : List Bool) (arrival : IsArrival old values raws
    new) (was now due : List (ℕ × Bool)) → was ≡ releases_in old.steps →
    now ≡ releases_in new.steps → due ≡ drop (length was) now → due ≡ releases_of arrival.later
brought old new values raws arrival was now due was_is now_is due_is =
    due_is ∙ ap (λ rs. drop (length rs) now) was_is
    ∙ ap (drop (length (releases_in old.steps))) now_is
    ∙ releases_since old new values raws arrival

-- none of the old releases is gone
pub releases_stay : (old new : Progress) (values raws : List Bool) →
    IsArrival old values raws new → (was now : List (ℕ × Bool)) → was ≡ releases_in old.steps →
    now ≡ releases_in new.steps → length was ≤ length now
releases_stay old new values raws arrival was now was_is now_is =
    let one = ap (λ rs. length rs) (was_is ∙ same_releases old.steps) in
    let two = ap (λ rs. length rs)
    (now_is ∙ same_releases new.steps ∙ releases_more old new values raws arrival) in
    let sum = length-append (releases_of old.steps) (releases_of arrival.later) in
    omega (arith, one, two, sum)

-- each operation that is released has a line of the schedule
pub due_named : (s : Schedule) (task : Task) → HasTask s task → (conds : List CondLine) →
    conds ≡ s.conds → (now due : List (ℕ × Bool)) (n : ℕ) →
    All (λ (r : ℕ × Bool). r.0 < length task.operations) now → due ≡ drop n now →
    All (λ (r : ℕ × Bool). r.0 < length conds) due
due_named s task is conds conds_are now due n all due_is =
    let each : length task.operations ≡ length conds =
    ap (λ (t : Task). length t.operations) is.1 ∙ length-map s.conds operation_of
    ∙ sym (ap (λ lines. length lines) conds_are) in
    subst (λ (rs : List (ℕ × Bool)). All (λ (r : ℕ × Bool). r.0 < length conds) rs) (sym due_is)
    (All-drop (λ (r : ℕ × Bool). r.0 < length conds) n now
    (subst (λ k. All (λ (r : ℕ × Bool). r.0 < k) now) each all))

fits_more : (s : Schedule) (rows : List (List Bool)) (before row values raws : List Bool)
    (slot : ℕ) (old new : Progress) → HasTask s old.task → length rows ≡ slot →
    before ≡ before_slot rows slot → old.arrived ≡ slot →
    ((more : List (List Bool)) → Fits (syndrome_of s (rows ++ more)) old) →
    ((all : List (List Bool)) → before ≡ before_slot all slot → row ≡ slice_index_or all slot [] →
    (values ≡ defects_at s all slot) × (raws ≡ raws_at s all slot)) →
    IsArrival old values raws new → (more : List (List Bool)) →
    Fits (syndrome_of s ((rows ++ row ∷ []) ++ more)) new
fits_more s rows before row values raws slot old new is each before_is arrived fits folds arrival
    more =
    let all = rows ++ row ∷ more in
    let f = folds all (before_is ∙ before_stays rows (row ∷ more) slot each)
    (row_stays rows more row slot each) in
    subst (λ l. Fits (syndrome_of s l) new) (sym (append_assoc rows (row ∷ []) more))
    (arrival.fits (syndrome_of s all) (fits (row ∷ more))
    (subst (λ t. values ≡ map (syndrome_of s all).value (at_slot (detector_slots old.task) t))
    (sym arrived) (f.0 ∙ detectors_chosen s all slot old.task is))
    (subst (λ t. raws ≡ map (syndrome_of s all).raw (at_slot old.task.raw_slots t)) (sym arrived)
    (f.1 ∙ observables_chosen s all slot old.task is)))

-- each operation of a slot below this number is released
abbrev AreReleasedBelow : Task → ℕ → Decoder → Type 0
AreReleasedBelow task n d = (op : ℕ) → op < length task.operations → (operation_at task op).slot
    < n → IsSome (d.released op)

-- then those that are released later have no such slot
later_slots : (task : Task) (s : Syndrome) (d : Decoder) (n : ℕ) (steps : List Step) →
    AreReleasedBelow task n d → IsRunFrom task s d steps →
    All (λ (r : ℕ × Bool). n ≤ (operation_at task r.0).slot) (releases_of steps)
later_slots task s d n [] low run = All-nil (λ (r : ℕ × Bool). n ≤ (operation_at task r.0).slot)
later_slots task s d n (Arrive slot ∷ steps) low run =
    later_slots task s (after d (Arrive slot)) n steps low run.1
later_slots task s d n (Commit window set ∷ steps) low run =
    later_slots task s (after d (Commit window set)) n steps low run.1
later_slots task s d n (Release op bit ∷ steps) low run =
    All-cons (λ (r : ℕ × Bool). n ≤ (operation_at task r.0).slot) (op, bit) (releases_of steps)
    (⊎_elim (λ (early : (operation_at task op).slot < n).
    absurd (some_not_none (d.released op) (low op run.0.in_range early) run.0.open_))
    (λ (late : n ≤ (operation_at task op).slot). late) (cases_lt (operation_at task op).slot n))
    (later_slots task s (after d (Release op bit)) n steps
    (λ o within early. at_set (λ (b : Option Bool). IsSome b) d.released op (Some bit) o
    (λ here. refl) (inl (low o within early))) run.1)

-- the later steps of a run
run_behind : (task : Task) (s : Syndrome) (d : Decoder) (front steps : List Step) →
    IsRunFrom task s d (front ++ steps) → IsRunFrom task s (after_all d front) steps
run_behind task s d [] steps run = run
run_behind task s d (step ∷ front) steps run = run_behind task s (after d step) front steps run.1

-- the slot was read, and its values were handed on
module _ (task : Task) (at next_of : At) (a b c : Option (List ℕ))
    (t u v : Option (List TapeByte)) (old : Progress) (values raws : List Bool)
    (before : IsDecodedTo task at a b t u old) (is : HasTask at.schedule task) (within : at.slot
    ≤ last_slot at.schedule) (read : IsSlotRead at next_of values raws b c u v) where
  abbrev labels : List (List ℕ)
  labels = labels_of at.schedule

  abbrev behind : IsReadTo (labels_of at.schedule) (next_at at read.row) a c t v
  behind = read_row (labels_of at.schedule) at read.row read.bytes a b c t u v before.so_far within
      read.goes read.is_row

  timed_behind : IsTimed task 0 true behind.moves
  timed_behind = timed_more task before.so_far.moves read.bytes before.timed

  -- the decoder found no memory
  pub broken_arrive : IsBrokenOff at.schedule task Memory a c t v
  broken_arrive =
      let run = subst (λ k. IsRun k (syndrome_of at.schedule behind.rows) old.steps)
      before.task_is (before.progress.runs (syndrome_of at.schedule behind.rows)
      (before.fits (read.row ∷ []))) in (
        behind.moves,
        record {
          rows = behind.rows;
          read = inl (so_far_read labels (next_at at read.row) a c t v behind);
          steps = old.steps;
          run = run;
          arrived = let e = before.progress.arrived ∙ before.arrived in let l = behind.each_slot in
              omega (arith, e, l);
          in_time = all_in_time task (syndrome_of at.schedule behind.rows) old.steps behind.moves
              run (puts_more before.so_far.moves read.bytes ∙ before.puts) timed_behind;
        },
        behind.goes,
      )

  module _ (new : Progress) (arrival : IsArrival old values raws new) (setting : IsSetting new.task)
      (progress : IsProgress new) (d : Option (List ℕ)) (w : Option (List TapeByte)) (same : d
      ≡ c) where
    abbrev due : List (ℕ × Bool)
    due = releases_of arrival.later

    task_is : new.task ≡ task
    task_is = arrival.task ∙ before.task_is

    fits_now : (more : List (List Bool)) → Fits (syndrome_of at.schedule (behind.rows ++ more)) new
    fits_now more =
        fits_more at.schedule before.so_far.rows at.before read.row values raws at.slot old new
        (subst (HasTask at.schedule) (sym before.task_is) is) before.so_far.each_slot
        before.so_far.before_is before.arrived before.fits read.folds arrival more

    releases_now : releases_of new.steps ≡ puts_of behind.moves ++ due
    releases_now =
        releases_more old new values raws arrival
        ∙ ap (λ l. l ++ due) (sym (puts_more before.so_far.moves read.bytes ∙ before.puts))

    arrived_now : new.arrived ≡ at.slot + 1
    arrived_now = arrival.arrived ∙ ap (λ k. k + 1) before.arrived

    run_now : IsRun task (syndrome_of at.schedule behind.rows) new.steps
    run_now = subst (λ k. IsRun k (syndrome_of at.schedule behind.rows) new.steps) task_is
        (progress.runs (syndrome_of at.schedule behind.rows) (subst (λ l.
        Fits (syndrome_of at.schedule l) new) (append-nil behind.rows) (fits_now [])))

    later : All (λ (r : ℕ × Bool). begun_after 0 true behind.moves ≤ (operation_at task r.0).slot)
        (releases_of arrival.later)
    later =
        let s = syndrome_of at.schedule behind.rows in
        let d = after_all start old.steps in
        let rest = run_behind task s start old.steps (Arrive old.arrived ∷ arrival.later)
        (subst (IsRun task s) arrival.steps run_now) in
        let may : MayArrive task d old.arrived = rest.0 in
        let begun = behind.begun in
        later_slots task s (after d (Arrive old.arrived)) (begun_after 0 true behind.moves)
        arrival.later (λ op within early.
        may.released op within (omega (arith, early, begun, before.arrived))) rest.1

    -- all its releases were put
    pub decoded_more : Goes (flat_map (bytes_of (labels_of at.schedule))
        (put_moves (releases_of arrival.later))) c d v w → IsDecodedTo task next_of a d t w new
    decoded_more goes =
        subst (λ n. IsDecodedTo task n a d t w new) (sym read.next)
        (record {
          so_far = read_put labels (next_at at read.row) due a c d t v w behind same goes;
          task_is = task_is;
          setting = setting;
          progress = progress;
          arrived = arrived_now;
          fits = fits_now;
          puts = puts_put behind.moves due ∙ sym releases_now;
          timed = timed_put task behind.moves due timed_behind later;
        })

    -- some of them were put
    abbrev part_way : (done rest : List (ℕ × Bool)) → releases_of arrival.later ≡ done ++ rest →
        IsPartWay at.schedule task d (behind.moves ++ put_moves done)
    part_way done rest split = record {
      rows = behind.rows;
      read =
          inl (subst (λ l. AreSoFar at.schedule l d behind.rows) (sym (takes_put behind.moves done))
          (subst (λ left. AreSoFar at.schedule (filter_map take_of behind.moves) left behind.rows)
          (sym same) (so_far_read labels (next_at at read.row) a c t v behind)));
      steps = new.steps;
      run = run_now;
      arrived = let e = progress.arrived ∙ arrived_now in let l = behind.each_slot in
          omega (arith, e, l);
      in_time = in_time task (syndrome_of at.schedule behind.rows) new.steps (behind.moves
          ++ put_moves done) rest run_now
          (releases_now ∙ ap (λ l. puts_of behind.moves ++ l) split
          ∙ sym (append_assoc (puts_of behind.moves) done rest)
          ∙ ap (λ l. l ++ rest) (sym (puts_put behind.moves done)))
          (timed_put task behind.moves
          done timed_behind (front_all (λ (r : ℕ × Bool). begun_after 0 true behind.moves
          ≤ (operation_at task r.0).slot) done rest (subst (All (λ (r : ℕ × Bool).
          begun_after 0 true behind.moves ≤ (operation_at task r.0).slot)) split later)));
    }

    one_more : (done : List (ℕ × Bool)) (op : ℕ) (bit : Bool) → behind.moves
        ++ put_moves (done ++ (op, bit) ∷ []) ≡ (behind.moves ++ put_moves done) ++ Put op bit ∷ []
    one_more done op bit =
        ap (λ l. behind.moves ++ l) (map-append (λ (r : ℕ × Bool). Put r.0 r.1) done ((op, bit)
        ∷ []))
        ∙ sym (append_assoc behind.moves (put_moves done) (Put op bit ∷ []))

    pub broken_put : (error : PutError) → ArePutPartly (labels_of at.schedule)
        (releases_of arrival.later) error c d v w → IsBrokenOff at.schedule task error a d t w
    broken_put WriteFault (done, op, bit, rest, count, split, goes) =
        let line = sent (take count (release_line labels op bit)) in
        let way = part_way (done ++ (op, bit) ∷ []) rest (split
        ∙ sym (append_assoc done ((op, bit) ∷ []) rest)) in
        record {
          moves = behind.moves ++ put_moves done;
          operation = op;
          bit = bit;
          count = count;
          goes = subst (λ items. Goes items a d t w)
              (sym (append_assoc (flat_map (bytes_of labels) behind.moves)
              (flat_map (bytes_of labels) (put_moves done)) line)
              ∙ ap (λ l. l ++ line) (sym (moves_put labels behind.moves done)))
              (goes_both (flat_map (bytes_of labels) behind.moves) (flat_map (bytes_of labels)
              (put_moves done) ++ line) a c d t v w behind.goes goes);
          due = record {
            rows = way.rows;
            read = subst (λ l. AreRead at.schedule (filter_map take_of l) d way.rows)
                (one_more done op bit) way.read;
            steps = way.steps;
            run = way.run;
            arrived = way.arrived;
            in_time = subst (AreInTime task way.steps) (one_more done op bit) way.in_time;
          };
          all_arrived = progress.arrived ∙ arrived_now ∙ sym behind.each_slot;
        }
    broken_put Memory (done, rest, split, goes) = (
      behind.moves ++ put_moves done,
      part_way done rest split,
      subst (λ items. Goes items a d t w) (sym (moves_put labels behind.moves done))
          (goes_both (flat_map (bytes_of labels) behind.moves)
          (flat_map (bytes_of labels) (put_moves done)) a c d t v w behind.goes goes),
    )

-- ---- no slot was read

module _ (task : Task) (at : At) (a b c : Option (List ℕ)) (t u v : Option (List TapeByte))
    (decoder : Progress) (bytes : List ℕ) (before : IsDecodedTo task at a b t u decoder)
    (goes : Goes (taken bytes) b c u v) where
  abbrev more : List Move
  more = before.so_far.moves ++ map Take bytes

  goes_now : Goes (flat_map (bytes_of (labels_of at.schedule)) more) a c t v
  goes_now =
      subst (λ items. Goes items a c t v)
      (sym (moves_more (labels_of at.schedule) before.so_far.moves bytes))
      (goes_both (flat_map (bytes_of (labels_of at.schedule)) before.so_far.moves) (taken bytes) a b
      c t u v before.so_far.goes goes)

  puts_here : puts_of more ≡ releases_of decoder.steps
  puts_here = puts_more before.so_far.moves bytes ∙ before.puts

  run_here : IsRun task (syndrome_of at.schedule before.so_far.rows) decoder.steps
  run_here =
      let rows = before.so_far.rows in
      subst (λ k. IsRun k (syndrome_of at.schedule rows) decoder.steps) before.task_is
      (before.progress.runs (syndrome_of at.schedule rows)
      (subst (λ l. Fits (syndrome_of at.schedule l) decoder) (append-nil rows) (before.fits [])))

  -- the reading has ended
  pub through : {A : Type 0} (end : Result A RowError) → AreRounds
      at.schedule (filter_map take_of before.so_far.moves ++ bytes) c before.so_far.rows end →
      IsReadThrough at.schedule task a c t v decoder end
  through end rounds = record {
    moves = more;
    rows = before.so_far.rows;
    goes = goes_now;
    rounds = subst (λ l. AreRounds at.schedule l c before.so_far.rows end)
        (sym (takes_more before.so_far.moves bytes)) rounds;
    arrived = before.arrived ∙ sym before.so_far.each_slot;
    fits = subst (λ l. Fits (syndrome_of at.schedule l) decoder) (append-nil before.so_far.rows)
        (before.fits []);
    in_time = all_in_time task (syndrome_of at.schedule before.so_far.rows) decoder.steps more
        run_here puts_here (timed_more task before.so_far.moves bytes before.timed);
    all_put = all_put decoder.steps more puts_here;
  }

  pub stopped_through : (error : RowError) →
      at.slot ≤ last_slot at.schedule → IsSlotUnread at c bytes error → error ≢ ends.Memory →
      IsReadThrough {A = Unit {0}} at.schedule task a c t v decoder (Err error)
  stopped_through error within unread other = through (Err error) (read_stopped
      (labels_of at.schedule) at bytes error a b c t u before.so_far within unread other)

  -- no memory was found
  pub broken_row : at.slot ≤ last_slot at.schedule → IsSlotUnread at c bytes ends.Memory →
      IsBrokenOff at.schedule task Memory a c t v
  broken_row within unread =
      let k = unread_so_far (labels_of at.schedule) at bytes a b c t u v before.so_far within goes
      unread in
      let rows = before.so_far.rows ++ k.0 in
      let run = subst (λ k. IsRun k (syndrome_of at.schedule rows) decoder.steps) before.task_is
      (before.progress.runs (syndrome_of at.schedule rows) (before.fits k.0)) in (
        more,
        record {
          rows = rows;
          read = inl k.1;
          steps = decoder.steps;
          run = run;
          arrived = let e = before.progress.arrived ∙ before.arrived in let l =
              length-append before.so_far.rows k.0 in omega (arith, e, l, before.so_far.each_slot);
          in_time = all_in_time task (syndrome_of at.schedule rows) decoder.steps
              more run (puts_more before.so_far.moves bytes
              ∙ before.puts) (timed_more task before.so_far.moves bytes before.timed);
        },
        goes_now,
      )

-- what is answered to the question for the end of input
pub ended : (task : Task) (at : At) (a b c : Option (List ℕ)) (t u v : Option (List TapeByte))
    (decoder : Progress) (rest : List ℕ) (end : Result (Unit {0}) RowError) →
    IsDecodedTo task at a b t u decoder →
    at.slot ≡ last_slot at.schedule + 1 → b ≡ Some rest →
    IfOk end (λ _. Goes [] b c u v × IsAtEnd c) → IfErr end (λ error. (bytes : List ℕ)
    × Goes (taken bytes) b c u v × IsNoEnd (line_of at) bytes error) →
    IsReadThrough at.schedule task a c t v decoder end
ended task at a b c t u v decoder rest (Ok tt) before all told good bad =
    through task at a b c t u v decoder [] before good.0 (Ok tt)
    (read_end (labels_of at.schedule) at a b c t u before.so_far all good.1)
ended task at a b c t u v decoder rest (Err error) before all told good bad =
    through task at a b c t u v decoder bad.0 before bad.1 (Err error) (read_no_end
    (labels_of at.schedule) at bad.0 rest error a b c t u v before.so_far all told bad.1 bad.2)

-- ---- ends by an error

-- what holds of the decoder and the error holds of what is answered
pub stopped_is : {X D R E : Type 0} (r : Result X E) (decoder_of : X → D) (end_of : X →
    R) (decoder : D) (end : R) (Q : Type 0) (P : D → R → Type 0) →
    IfOk r (λ x. decoder_of x ≡ decoder) → IfOk r (λ x. end_of x ≡ end) → IfOk r (λ x. Q) →
    (Q → P decoder end) → IfOk r (λ x. P (decoder_of x) (end_of x))
stopped_is (Ok x) decoder_of end_of decoder end Q P one two other go =
    subst (λ d. P d (end_of x)) (sym one) (subst (λ e. P decoder e) (sym two) (go other))
stopped_is (Err e) decoder_of end_of decoder end Q P one two other go = tt

-- likewise of what stops a run
pub stopped_by : {X E F : Type 0} (r : Result X E) (error : F) (stop : E) (memory : F) (P : E →
    Type 0) → IfErr r (λ e. (e ≡ stop) × (error ≡ memory)) → (error ≡ memory → P stop) → IfErr r P
stopped_by (Ok x) error stop memory P why go = tt
stopped_by (Err e) error stop memory P why go = subst P (sym why.0) (go why.1)

pub rose_since : (a b c : ℕ) → a ≤ b → Rose b c → Rose a c
rose_since a b c l rose = omega (arith, l, rose)

pub rose_until : (a b c : ℕ) → Rose a b → b ≤ c → Rose a c
rose_until a b c rose l = omega (arith, rose, l)

-- where it is reported what is left, it is reported after bytes were taken and put
pub told_after : (input : List ℕ) (items : List TapeByte) (before after : Option (List ℕ))
    (t v : Option (List TapeByte)) → Goes items before after t v → before ≡ Some input →
    (rest : List ℕ) × (after ≡ Some rest)
told_after input items before after t v goes told = by after
    (goes_takes items (Some input) after t v (subst (λ b. Goes items b after t v) told goes))
  where
    by : (o : Option (List ℕ)) → Takes (takings items) (Some input) o → (rest : List ℕ)
        × (o ≡ Some rest)
    by None takes = absurd takes
    by (Some rest) takes = (rest, refl)
