-- The row of one slot is read and brought, or isn't whole.
use Rattle.std.proofs.Common.{◌≡◌, ◌≢◌, ◌≤◌, ◌<◌, ⊎_elim, inl, inr, ℕ, ◌+◌, Bool, true, List, [], ◌∷◌, ◌++◌, None, Some, Ok, Err, length, map, flat_map, filter_map, refl, sym, ap, ◌∙◌, arith, subst, append_assoc, append-nil, length-append, slice_index_or, All, AllPairs, Contains, IsSome}
use Rattle.std.specs.Prelude.{IsNone}
use Rattle.std.specs.declared.option.Option.{Option}
use Rattle.std.proofs.lemmas.Bool.{cases_lt}
use Rattle.std.proofs.lemmas.List.Elements.{All-append, All-cons, All-nil, All-weaker, Contains-append_left, filter_map-append}
use Rattle.port_io.specs.Traffic.{Goes, taken}
use Rattle.port_io.specs.declared.port.TapeByte.{TapeByte}
use Rattle.port_io.proofs.Traffic.{goes_both}
use Rattle.detector_graph.specs.declared.folded.Folded.{Folded}
use Rattle.surface_model.specs.Layout.{last_slot}
use Rattle.surface_model.specs.Schedules.{Schedule}
use Rattle.syndrome_source.specs.declared.error.RowError.{RowError}
use Rattle.syndrome_source.specs.declared.error.RowError.TheVariants as row
use Rattle.measure_map.specs.Placed.{before_slot, defects_at, raws_at}
use Rattle.window_model.specs.Decoder.{Task, operation_at}
use Rattle.window_model.specs.Speculation.{count_in}
use Rattle.window_setting.specs.Slots.{at_slot, detector_slots}
use Rattle.core_state.specs.Arrivals.{FitsSlot}
use Rattle.core_state.proofs.Arrived.{count_slot}
use Rattle.window_table.specs.Readings.{AreTold, MayBring, Readings, told_at, with_slot}
use Rattle.report_model.specs.Tapes.{Move, Take, Put, bytes_of, put_of, take_of}
use Rattle.report_model.specs.Tasks.{HasTask, labels_of, syndrome_of}
use Rattle.run_rounds.specs.Courses.{IsReadTo}
use Rattle.run_rounds.specs.Moves.{begun_after, fresh_after}
use Rattle.run_rounds.specs.Rounds.{AreRounds}
use Rattle.run_rounds.specs.Slots.{At, IsSlotRead, IsSlotUnread, next_at}
use Rattle.run_rounds.proofs.Courses.{before_stays, read_row, read_stopped, row_stays, unread_so_far}
use Rattle.run_rounds.proofs.Moving.{begun_append, moves_more, takes_more, timed_more}
use Rattle.run_rounds.proofs.Values.{detectors_chosen, observables_chosen, raws_long, values_long}
use Rattle.decode_rounds.specs.Seats.{ArePutAsTold, AreToldPut, HasBrought, HasEnded, HasStopped, IsAtSlot, IsGiven, IsLeft, IsOnWay, IsSeated, IsToldAs}
use Rattle.decode_rounds.specs.Stops.{stop_of}
use Rattle.decode_rounds.proofs.Tellings.{IsOther, some_none}
use Rattle.decode_rounds.proofs.Unread.{unread_begins}

-- ---- bytes that are taken

none_put : (bytes : List ℕ) → filter_map put_of (map Take bytes) ≡ []
none_put [] = refl
none_put (byte ∷ bytes) = none_put bytes

takes_told : (r : Readings) (bytes : List ℕ) → All (IsToldAs r) (map Take bytes)
takes_told r [] = All-nil (IsToldAs r)
takes_told r (byte ∷ bytes) =
    All-cons (IsToldAs r) (Take byte) (map Take bytes) tt (takes_told r bytes)

module _ (r : Readings) (moves : List Move) (bytes : List ℕ) where
  pub put_taken : ArePutAsTold r moves → ArePutAsTold r (moves ++ map Take bytes)
  put_taken put_ = record {
    each = All-append (IsToldAs r) moves (map Take bytes) put_.each (takes_told r bytes);
    once = subst (AllPairs IsOther) (sym (filter_map-append put_of moves (map Take bytes)
        ∙ ap (λ l. filter_map put_of moves ++ l) (none_put bytes)
        ∙ append-nil (filter_map put_of moves))) put_.once;
  }

  pub all_taken : AreToldPut r moves → AreToldPut r (moves ++ map Take bytes)
  all_taken all op bit told =
      Contains-append_left moves (map Take bytes) (Put op bit) (all op bit told)

-- ---- a row that isn't whole

module _ (task : Task) (at : At) (r : Readings) (at_slot_ : IsAtSlot task at r)
    (told : AreTold task r at.slot) (within : at.slot ≤ last_slot at.schedule)
    (b c : Option (List ℕ)) (u v : Option (List TapeByte)) (bytes : List ℕ)
    (goes : Goes (taken bytes) b c u v) (first : Option (List ℕ))
    (begin : Option (List TapeByte)) (is : IsSeated task at first b begin u r) where
  abbrev labels : List (List ℕ)
  labels = labels_of at.schedule

  abbrev more : List Move
  more = is.so_far.moves ++ map Take bytes

  goes_now : Goes (flat_map (bytes_of labels) more) first c begin v
  goes_now =
      subst (λ items. Goes items first c begin v)
      (sym (moves_more labels is.so_far.moves bytes))
      (goes_both (flat_map (bytes_of labels) is.so_far.moves) (taken bytes) first b c begin u v
      is.so_far.goes goes)

  left_off : IsSlotUnread at c bytes row.Memory → HasStopped task at.schedule (stop_of row.Memory)
      first c begin v r
  left_off unread =
      let k = unread_so_far labels at bytes first b c begin u v is.so_far within goes unread in (
        more,
        record {
          rows = is.so_far.rows ++ k.0;
          read = inl k.1;
          given = is.given k.0;
          brought = let e = at_slot_.each_slot in let l = is.so_far.each_slot in
              let n = length-append is.so_far.rows k.0 in omega (arith, e, l, n);
          put = put_taken r is.so_far.moves bytes is.put;
          timed = timed_more task is.so_far.moves bytes is.timed;
        },
        goes_now,
      )

  module _ (error : RowError) (unread : IsSlotUnread at c bytes error)
      (other : error ≢ row.Memory) where
    late : (op : ℕ) → op < length task.operations → IsNone (told_at r op) →
        begun_after 0 true more ≤ (operation_at task op).slot
    late op l none =
        ⊎_elim
        (λ early.
        let clock = begun_append 0 true is.so_far.moves (map Take bytes) in
        let one = unread_begins at c bytes error (begun_after 0 true is.so_far.moves)
        (fresh_after true is.so_far.moves) unread other in
        let begun = is.so_far.begun in
        omega (arith, clock, one, begun, early))
        (λ here. absurd (some_none (told_at r op) (told op l here) none))
        (cases_lt at.slot (operation_at task op).slot)

    pub ended_so : HasEnded {A = Unit {0}} task at.schedule first c begin v r (Err error)
    ended_so = record {
      moves = more;
      rows = is.so_far.rows;
      goes = goes_now;
      rounds = subst (λ l. AreRounds {A = Unit {0}} at.schedule l c is.so_far.rows (Err error))
          (sym (takes_more is.so_far.moves bytes))
          (read_stopped labels at bytes error first b c begin u is.so_far within unread other);
      given = subst (λ rows. All (IsGiven task (syndrome_of at.schedule rows)) r.given)
          (append-nil is.so_far.rows) (is.given []);
      brought = at_slot_.each_slot ∙ sym is.so_far.each_slot;
      put = put_taken r is.so_far.moves bytes is.put;
      all_put = all_taken r is.so_far.moves bytes is.all_put;
      timed = timed_more task is.so_far.moves bytes is.timed;
      late = late;
    }

  pub unread_stops : (error : RowError) → IsSlotUnread at c bytes error →
      HasStopped task at.schedule (stop_of error) first c begin v r
  unread_stops row.Memory unread = left_off unread
  unread_stops (row.Fault line kind) unread =
      ended_so (row.Fault line kind) unread (λ (e : row.Fault line kind ≡ row.Memory). cc)
  unread_stops (row.Ended line) unread =
      ended_so (row.Ended line) unread (λ (e : row.Ended line ≡ row.Memory). cc)
  unread_stops row.ReadFault unread =
      ended_so row.ReadFault unread (λ (e : row.ReadFault ≡ row.Memory). cc)

-- ---- a row that is whole

module _ (task : Task) (at at' : At) (r : Readings) (folded : Folded)
    (at_slot_ : IsAtSlot task at r) (told : AreTold task r at.slot)
    (within : at.slot ≤ last_slot at.schedule) (is_task : HasTask at.schedule task)
    (b c : Option (List ℕ)) (u v : Option (List TapeByte))
    (read : IsSlotRead at at' folded.defects folded.raws b c u v)
    (slot : folded.slot ≡ at.slot) where
  pub fits : FitsSlot task folded
  fits = record {
    values =
        values_long at.schedule task at.slot at.before read.row folded.defects is_task
        at_slot_.before (λ rows before_is row_is. (read.folds rows before_is row_is).0)
        ∙ sym (count_slot (detector_slots task) at.slot)
        ∙ ap (λ t. count_in (detector_slots task) t) (sym slot);
    raws =
        raws_long at.schedule task at.slot at.before read.row folded.raws is_task
        at_slot_.before (λ rows before_is row_is. (read.folds rows before_is row_is).1)
        ∙ sym (count_slot task.raw_slots at.slot)
        ∙ ap (λ t. count_in task.raw_slots t) (sym slot);
  }

  pub may_bring : MayBring task r folded.slot
  may_bring = record {
    next = slot ∙ sym at_slot_.each_slot;
    in_range = let last = ap (λ (t : Task). t.last_slot) is_task.1 in
        omega (arith, last, slot, within);
    told = subst (AreTold task r) (sym slot) told;
  }

  pub stops_after : (first : Option (List ℕ)) (begin : Option (List TapeByte)) →
      IsSeated task at first b begin u r →
      HasStopped task at.schedule (stop_of row.Memory) first c begin v r
  stops_after first begin is =
      unread_stops task at r at_slot_ told within b c u v read.bytes read.goes first begin is
      row.Memory (inr (read.row, read.is_row))

  given_here : (rows more : List (List Bool)) → length rows ≡ at.slot →
      at.before ≡ before_slot rows at.slot →
      IsGiven task (syndrome_of at.schedule (rows ++ read.row ∷ more)) folded
  given_here rows more each before_is =
      let s = at.schedule in
      let all = rows ++ read.row ∷ more in
      let f = read.folds all (before_is ∙ before_stays rows (read.row ∷ more) at.slot each)
      (row_stays rows more read.row at.slot each) in (
        f.0 ∙ detectors_chosen s all at.slot task is_task
            ∙ ap (λ t. map (syndrome_of s all).value (at_slot (detector_slots task) t)) (sym slot),
        f.1 ∙ observables_chosen s all at.slot task is_task
            ∙ ap (λ t. map (syndrome_of s all).raw (at_slot task.raw_slots t)) (sym slot),
      )

  module _ (first : Option (List ℕ)) (begin : Option (List TapeByte))
      (is : IsSeated task at first b begin u r) where
    abbrev rows : List (List Bool)
    rows = is.so_far.rows

    given_now : (more : List (List Bool)) →
        All (IsGiven task (syndrome_of at.schedule ((rows ++ read.row ∷ []) ++ more)))
        (r.given ++ folded ∷ [])
    given_now more =
        subst (λ l. All (IsGiven task (syndrome_of at.schedule l)) (r.given ++ folded ∷ []))
        (sym (append_assoc rows (read.row ∷ []) more))
        (All-append (IsGiven task (syndrome_of at.schedule (rows ++ read.row ∷ more))) r.given
        (folded ∷ []) (is.given (read.row ∷ more))
        (All-cons (IsGiven task (syndrome_of at.schedule (rows ++ read.row ∷ more))) folded []
        (given_here rows more is.so_far.each_slot is.so_far.before_is)
        (All-nil (IsGiven task (syndrome_of at.schedule (rows ++ read.row ∷ more))))))

    same_told : (move : Move) → IsToldAs r move → IsToldAs (with_slot r folded) move
    same_told (Take byte) is_ = tt
    same_told (Put op bit) is_ = is_

    told_same : All (IsToldAs (with_slot r folded)) (is.so_far.moves ++ map Take read.bytes)
    told_same = All-weaker (IsToldAs r) (IsToldAs (with_slot r folded)) same_told
        (is.so_far.moves ++ map Take read.bytes)
        (put_taken r is.so_far.moves read.bytes is.put).each

    seated_now : IsSeated task (next_at at read.row) first c begin v (with_slot r folded)
    seated_now = record {
      so_far = read_row (labels_of at.schedule) at read.row read.bytes first b c begin u v
          is.so_far within read.goes read.is_row;
      given = given_now;
      put = record {
        each = told_same;
        once = (put_taken r is.so_far.moves read.bytes is.put).once;
      };
      all_put = λ op bit told_. all_taken r is.so_far.moves read.bytes is.all_put op bit told_;
      timed = timed_more task is.so_far.moves read.bytes is.timed;
    }

  pub brought : HasBrought task at at' r (with_slot r folded) b c u v
  brought = record {
    schedule = ap (λ (a : At). a.schedule) read.next;
    slot = ap (λ (a : At). a.slot) read.next;
    at_slot = record {
      each_slot = let n = length-append r.given (folded ∷ []) in
          let e = at_slot_.each_slot in let s = ap (λ (a : At). a.slot) read.next in
          omega (arith, n, e, s);
      before = λ none. let s = ap (λ (a : At). a.slot) read.next in
          absurd (omega (arith, none, s));
      told = λ op l early. told op l (let s = ap (λ (a : At). a.slot) read.next in
          omega (arith, early, s));
    };
    seated = λ first begin is. subst (λ a. IsSeated task a first c begin v (with_slot r folded))
        (sym read.next) (seated_now first begin is);
  }
