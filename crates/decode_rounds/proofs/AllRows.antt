-- From the first row to the end of the rows.
use Rattle.std.proofs.Common.{◌≡◌, ◌<◌, ◌≤◌, inl, ℕ, zero, suc, ◌+◌, Bool, true, List, [], ◌∷◌, ◌++◌, None, Some, Ok, Err, length, map, flat_map, filter_map, replicate, refl, sym, ap, ◌∙◌, arith, subst, append-nil, slice_index_or, All, IsSome}
use Rattle.std.specs.Prelude.{IsNone}
use Rattle.std.specs.Result.{IfErr, IfOk}
use Rattle.std.specs.declared.option.Option.{Option}
use Rattle.std.specs.declared.result.Result.{Result}
use Rattle.std.proofs.lemmas.List.Elements.{All-nil}
use Rattle.port_io.specs.Traffic.{Goes, IsAtEnd, taken}
use Rattle.port_io.specs.declared.port.TapeByte.{TapeByte}
use Rattle.port_io.proofs.Traffic.{goes_both, goes_nothing}
use Rattle.surface_model.specs.Layout.{last_slot}
use Rattle.surface_model.specs.Schedules.{Schedule}
use Rattle.syndrome_source.specs.Rows.{IsNoEnd}
use Rattle.syndrome_source.specs.declared.error.RowError.{RowError}
use Rattle.window_model.specs.Decoder.{Task, operation_at}
use Rattle.window_setting.specs.Settings.{IsSetting}
use Rattle.window_table.specs.Readings.{Readings, no_readings, told_at}
use Rattle.report_model.specs.Tapes.{Move, Take, IsPut, bytes_of, take_of}
use Rattle.report_model.specs.Tasks.{HasTask, labels_of, syndrome_of}
use Rattle.run_rounds.specs.Courses.{IsReadTo}
use Rattle.run_rounds.specs.Moves.{begun_after}
use Rattle.run_rounds.specs.Rounds.{AreRounds}
use Rattle.run_rounds.specs.Slots.{At, at_first, line_of}
use Rattle.run_rounds.specs.declared.release.PutError.TheVariants.{Memory}
use Rattle.run_rounds.proofs.Courses.{read_end, read_no_end, read_start, so_far_read}
use Rattle.run_rounds.proofs.Moving.{moves_more, takes_more, timed_more}
use Rattle.decode_rounds.specs.Courses.{IsBrokenOff}
use Rattle.decode_rounds.specs.Seats.{ArePutAsTold, HasEnded, IsAtSlot, IsGiven, IsSeated, IsToldAs}
use Rattle.decode_rounds.proofs.Brought.{all_taken, put_taken}
use Rattle.decode_rounds.proofs.Courses.{told_after}
use Rattle.decode_rounds.proofs.Tellings.{IsOther, none_some, some_none}

-- ---- the start

none_told : (n op : ℕ) → IsNone (slice_index_or (replicate {A = Option Bool} n None) op None)
none_told zero op = refl
none_told (suc n) zero = refl
none_told (suc n) (suc op) = none_told n op

pub seated_start : (task : Task) (s : Schedule) (left : Option (List ℕ))
    (tape : Option (List TapeByte)) →
    IsSeated task (at_first s) left left tape tape (no_readings task)
seated_start task s left tape = record {
  so_far = read_start (labels_of s) s left tape;
  given = λ more. All-nil (IsGiven task (syndrome_of s more));
  put = record {
    each = All-nil (IsToldAs (no_readings task));
    once = λ i j d l m. absurd (omega (arith, m));
  };
  all_put = λ op bit told. absurd (none_some (told_at (no_readings task) op) bit
      (none_told (length task.operations) op) told);
  timed = tt;
}

pub at_slot_start : (task : Task) (s : Schedule) → IsAtSlot task (at_first s) (no_readings task)
at_slot_start task s = record {
  each_slot = refl;
  before = λ e. refl;
  told = λ op l early. absurd (omega (arith, early));
}

-- for want of memory, before anything was read
pub broken_start : (task : Task) (s : Schedule) (left : Option (List ℕ))
    (tape : Option (List TapeByte)) → IsBrokenOff s task Memory left left tape tape
broken_start task s left tape = (
  [],
  record {
    rows = [];
    read = inl (so_far_read (labels_of s) (at_first s) left left tape tape
        (read_start (labels_of s) s left tape));
    steps = [];
    run = tt;
    arrived = omega arith;
    in_time = record {
      released = All-nil (IsPut []);
      once = λ i j d l m. absurd (omega (arith, m));
      timed = tt;
    };
  },
  goes_nothing left tape,
)

-- ---- the end

module _ (task : Task) (setting : IsSetting task) (at : At) (is_task : HasTask at.schedule task)
    (r : Readings) (at_slot : IsAtSlot task at r) (all : at.slot ≡ last_slot at.schedule + 1)
    (a b c : Option (List ℕ)) (t u v : Option (List TapeByte))
    (is : IsSeated task at a b t u r) where
  abbrev labels : List (List ℕ)
  labels = labels_of at.schedule

  all_told : (op : ℕ) → op < length task.operations → IsSome (told_at r op)
  all_told op l =
      let last = ap (λ (k : Task). k.last_slot) is_task.1 in
      let low = setting.fit.operations.in_slots op l in
      at_slot.told op l (omega (arith, last, low, all))

  ended_with : {A : Type 0} (end : Result A RowError) (bytes : List ℕ) →
      Goes (taken bytes) b c u v →
      AreRounds at.schedule (filter_map take_of is.so_far.moves ++ bytes) c is.so_far.rows end →
      HasEnded task at.schedule a c t v r end
  ended_with end bytes goes rounds = record {
    moves = is.so_far.moves ++ map Take bytes;
    rows = is.so_far.rows;
    goes = subst (λ items. Goes items a c t v) (sym (moves_more labels is.so_far.moves bytes))
        (goes_both (flat_map (bytes_of labels) is.so_far.moves) (taken bytes) a b c t u v
        is.so_far.goes goes);
    rounds = subst (λ l. AreRounds at.schedule l c is.so_far.rows end)
        (sym (takes_more is.so_far.moves bytes)) rounds;
    given = subst (λ rows. All (IsGiven task (syndrome_of at.schedule rows)) r.given)
        (append-nil is.so_far.rows) (is.given []);
    brought = at_slot.each_slot ∙ sym is.so_far.each_slot;
    put = put_taken r is.so_far.moves bytes is.put;
    all_put = all_taken r is.so_far.moves bytes is.all_put;
    timed = timed_more task is.so_far.moves bytes is.timed;
    late = λ op l none. absurd (some_none (told_at r op) (all_told op l) none);
  }

  pub ended_all : (input : List ℕ) → a ≡ Some input → (end : Result (Unit {0}) RowError) →
      IfOk end (λ _. Goes [] b c u v × IsAtEnd c) →
      IfErr end (λ error. (bytes : List ℕ) × Goes (taken bytes) b c u v
      × IsNoEnd (line_of at) bytes error) → HasEnded task at.schedule a c t v r end
  ended_all input told (Ok tt) good bad =
      ended_with (Ok tt) [] good.0 (read_end labels at a b c t u is.so_far all good.1)
  ended_all input told (Err error) good bad =
      let rest = told_after input _ a b t u is.so_far.goes told in
      ended_with (Err error) bad.0 bad.1
      (read_no_end labels at bad.0 rest.0 error a b c t u v is.so_far all rest.1 bad.1 bad.2)
