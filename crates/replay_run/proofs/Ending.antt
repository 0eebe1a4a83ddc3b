-- How a script ends: after its last line, at a line that is at fault, or where a take fails.
use Rattle.std.proofs.Common.{◌≡◌, ◌⊎◌, inl, inr, ◌+◌, ◌++◌, ℕ, List, [], ◌∷◌, length, Some, None, refl, sym, ap, subst, ◌∙◌, append_assoc, append-nil, slice_get}
use Rattle.std.specs.declared.option.Option.{Option}
use Rattle.port_io.specs.declared.port.TapeByte.{TapeByte}
use Rattle.window_model.specs.Speculation.{happen_all, start}
use Rattle.core_state.specs.States.{machine_of}
use Rattle.replay_model.specs.declared.ScriptLine.{ScriptLine}
use Rattle.replay_model.specs.Replays.{IsReplay, MayDo, Stage, StopsAt}
use Rattle.replay_model.specs.Scripts.{Complete as IsComplete, FaultAt, Script as Reading, Whole, ends, line_within, most_line_bytes, most_lines, script_of, whole_lines, with_command}
use Rattle.script_reader.specs.Lines.{At, IsBad, IsLine, IsNoLine, IsRead, IsTooLong, behind}
use Rattle.script_reader.specs.Laws.{EndedLaw, LastLaw, ReadOnLaw, ReadsSo, StoppedLaw, reads}
use Rattle.script_reader.specs.declared.error.ScriptError.{ScriptError}
use Rattle.script_reader.specs.declared.error.ScriptError.TheVariants as error
use Rattle.script_reader.specs.declared.found.Found.TheVariants.{Line, Last, End as NoMore}
use Rattle.script_run.specs.Plays.{IsDone, Playing}
use Rattle.replay_run.specs.declared.end.End.{End}
use Rattle.replay_run.specs.declared.end.End.TheVariants.{Complete, ReadFault, Script}
use Rattle.replay_run.specs.Playings.{IsPlayedSo, IsPlayedTo, IsStepped, with_commands}
use Rattle.replay_run.specs.Readings.{end_of_due}
use Rattle.replay_run.specs.Replies.{IsJudged, IsReplayOf, IsReplayedTo}
use Rattle.replay_run.proofs.Feeds.{begun_not_whole, nothing_more}
use Rattle.replay_run.proofs.Lines.{replayed}
use Rattle.replay_run.proofs.Playing.{command_behind, done_same, machine_is, plays_on, same_still}

one_line : (at : At) (bytes : List ℕ) (left : Option (List ℕ)) → IsBad at bytes left →
    IsTooLong bytes ⊎ ((text : List ℕ) × IsLine text bytes left)
one_line at bytes left (inl long) = inl long
one_line at bytes left (inr (text, line, why)) = inr (text, line)

read_line : (at : At) (c : ScriptLine) (bytes : List ℕ) (left : Option (List ℕ)) →
    IsRead at (Line c) bytes left ⊎ IsRead at (Last c) bytes left →
    IsTooLong bytes ⊎ ((text : List ℕ) × IsLine text bytes left)
read_line at c bytes left (inl (text, some, fed, spelled, may)) = inr (text, (some, inl fed))
read_line at c bytes left (inr (text, some, last, spelled, may)) = inr (text, (some, inr last))

-- A script that was played so far, and these bytes after it
module _ (stage : Stage) (first at : At) (a b left : Option (List ℕ))
    (t u v : Option (List TapeByte)) (old mid new : Playing) (bytes : List ℕ)
    (room : first.room ≡ most_lines) (task_is : stage.task ≡ old.core.task)
    (so : IsPlayedSo stage first at a b t u old mid) where
  -- a script from the first line on
  from_first : (all : List ℕ) → script_of first.line all ≡ reads first all
  from_first all = ap (λ n. reads (record { line = first.line; room = n }) all) (sym room)

  before : machine_of mid.core ≡ happen_all stage.task start so.events
  before = machine_is stage.task mid so.events (so.same.task ∙ sym task_is) so.events_are

  -- what stands after the lines so far
  reads_behind : (more : List ℕ) (tail : Reading) → reads at more ≡ tail →
      script_of first.line (so.bytes ++ more) ≡ with_commands so.commands tail
  reads_behind more tail is =
      from_first (so.bytes ++ more) ∙ so.reads_on more ∙ ap (with_commands so.commands) is

  reads_lines : script_of first.line so.bytes ≡ with_commands so.commands (ends IsComplete)
  reads_lines = ap (script_of first.line) (sym (append-nil so.bytes))
      ∙ reads_behind [] (ends IsComplete) (nothing_more at.room at.line)

  -- the next line is judged
  judged : (line : ℕ) → line ≡ at.line →
      IsTooLong bytes ⊎ ((text : List ℕ) × IsLine text bytes left) →
      IsJudged first.line (so.bytes ++ bytes) left line
  judged line is one = record {
    lines = so.bytes;
    last = bytes;
    bytes_are = refl;
    sound = ap (λ (r : Reading). r.ending) reads_lines;
    number = is ∙ so.line ∙ ap (λ l. first.line + length l)
        (sym (ap (λ (r : Reading). r.commands) reads_lines ∙ append-nil so.commands));
    one = one;
  }

  stops_at : (script tail : Reading) (fault : Option ℕ) →
      script ≡ with_commands so.commands tail →
      StopsAt stage (happen_all stage.task start so.events) tail.ending at.line
      (slice_get tail.commands 0) fault →
      IsReplay stage script first.line so.events so.printed fault
  stops_at script tail fault is stops =
      replayed stage script first.line so.commands tail so.events so.printed fault is so.plays
      (subst (λ n. StopsAt stage (happen_all stage.task start so.events) tail.ending n
      (slice_get tail.commands 0) fault) so.line stops)

  -- the script is complete
  pub ended_here : EndedLaw → IsRead at NoMore bytes left → new ≡ mid →
      IsPlayedTo stage first.line (so.bytes ++ bytes) left old new Complete
  ended_here law read same = subst (λ p. IsPlayedTo stage first.line (so.bytes ++ bytes) left old p
      Complete) (sym same) (
      let end = law at bytes left read in record {
        events = so.events;
        printed = so.printed;
        replayed = (
          end.0,
          stops_at (script_of first.line (so.bytes ++ bytes)) (ends IsComplete) None
              (reads_behind bytes (ends IsComplete) end.1) refl,
        );
        events_are = so.events_are;
        text_is = so.text_is;
        same = so.same;
      })

  -- the script is complete after one line more
  pub ended_in : LastLaw → (c : ScriptLine) → IsRead at (Last c) bytes left →
      IsDone stage c mid new → IsPlayedTo stage first.line (so.bytes ++ bytes) left old new Complete
  ended_in law c read d =
      let end = law at c bytes left read in record {
        events = so.events ++ d.events;
        printed = so.printed ++ d.told;
        replayed = (
          end.0,
          replayed stage (script_of first.line (so.bytes ++ bytes)) first.line
              (so.commands ++ c ∷ []) (ends IsComplete) (so.events ++ d.events)
              (so.printed ++ d.told) None
              (reads_behind bytes (with_command c (ends IsComplete)) end.1
              ∙ command_behind so.commands c (ends IsComplete))
              (plays_on stage so.commands so.events so.printed c mid new so.plays
              (so.same.task ∙ sym task_is) so.events_are d) refl,
        );
        events_are = d.events_are ∙ ap (λ e. e ++ d.events) so.events_are;
        text_is = d.text_is ∙ ap (λ e. e ++ d.told) so.text_is;
        same = same_still old mid new so.same (done_same stage c mid new d);
      }

  -- nothing more was done, and the script ends so
  stopped_so : (end : End) →
      IsReplayedTo stage first.line (so.bytes ++ bytes) left so.events so.printed end →
      new ≡ mid → IsPlayedTo stage first.line (so.bytes ++ bytes) left old new end
  stopped_so end how same =
      subst (λ p. IsPlayedTo stage first.line (so.bytes ++ bytes) left old p end) (sym same)
      (record {
        events = so.events;
        printed = so.printed;
        replayed = how;
        events_are = so.events_are;
        text_is = so.text_is;
        same = so.same;
      })

  whole_before : (rest : List ℕ) (tail : Reading) → reads at (bytes ++ rest) ≡ tail →
      script_of first.line ((so.bytes ++ bytes) ++ rest) ≡ with_commands so.commands tail
  whole_before rest tail is = ap (script_of first.line) (append_assoc so.bytes bytes rest)
      ∙ reads_behind (bytes ++ rest) tail is

  -- the next line is at fault
  fault_here : (line : ℕ) → line ≡ at.line → ReadsSo at bytes left (ends (FaultAt line)) →
      IsReplayOf stage first.line (so.bytes ++ bytes) left so.events so.printed (Some line)
  fault_here line is (inl always) = inl (λ rest.
      stops_at (script_of first.line ((so.bytes ++ bytes) ++ rest)) (ends (FaultAt line))
      (Some line) (whole_before rest (ends (FaultAt line)) (always rest)) refl)
  fault_here line is (inr last) = inr (
    last.0,
    stops_at (script_of first.line (so.bytes ++ bytes)) (ends (FaultAt line)) (Some line)
        (reads_behind bytes (ends (FaultAt line)) last.1) refl,
  )

  -- the next line may not be done
  refused_here : ReadOnLaw → LastLaw → (c : ScriptLine) →
      IsRead at (Line c) bytes left ⊎ IsRead at (Last c) bytes left →
      ¬ MayDo stage (machine_of mid.core) c →
      IsReplayOf stage first.line (so.bytes ++ bytes) left so.events so.printed (Some at.line)
  refused_here on last_law c (inl read) may_not = inl (λ rest.
      stops_at (script_of first.line ((so.bytes ++ bytes) ++ rest))
      (with_command c (reads (behind at) rest)) (Some at.line)
      (whole_before rest (with_command c (reads (behind at) rest)) (on at c bytes left read rest))
      (subst (λ m. ¬ MayDo stage m c) before may_not, refl))
  refused_here on last_law c (inr read) may_not =
      let end = last_law at c bytes left read in inr (
        end.0,
        stops_at (script_of first.line (so.bytes ++ bytes)) (with_command c (ends IsComplete))
            (Some at.line) (reads_behind bytes (with_command c (ends IsComplete)) end.1)
            (subst (λ m. ¬ MayDo stage m c) before may_not, refl),
      )

  -- a take failed
  failed_here : line_within most_line_bytes bytes ≡ Whole bytes [] →
      IsReplayedTo stage first.line (so.bytes ++ bytes) left so.events so.printed ReadFault
  failed_here begun =
      let whole : whole_lines (so.bytes ++ bytes) ≡ so.bytes = so.whole bytes
      ∙ ap (λ l. so.bytes ++ l) (begun_not_whole most_line_bytes bytes begun)
      ∙ append-nil so.bytes in (
        (bytes, ap (λ l. l ++ bytes) (sym whole), begun),
        stops_at (script_of first.line (whole_lines (so.bytes ++ bytes))) (ends IsComplete) None
            (ap (script_of first.line) whole ∙ reads_lines) refl,
      )

  by_error : StoppedLaw → (e : ScriptError) → IsNoLine at bytes left e → new ≡ mid →
      IsPlayedTo stage first.line (so.bytes ++ bytes) left old new (end_of_due e)
  by_error law (error.Fault line) why same =
      stopped_so (Script line) (
        judged line why.0 (one_line at bytes left why.1),
        fault_here line why.0 (law at bytes left line why),
      ) same
  by_error law (error.Ended line) why same = absurd why
  by_error law error.ReadFault why same = stopped_so ReadFault (failed_here why) same

  -- the script ends here
  pub stops_here : ReadOnLaw → LastLaw → EndedLaw → StoppedLaw → (at' : At) (end : End) →
      IsStepped stage at at' left bytes mid new (Some end) →
      IsPlayedTo stage first.line (so.bytes ++ bytes) left old new end
  stops_here on last_law end_law stop at' end (inl (same, inl (is, read))) =
      subst (λ e. IsPlayedTo stage first.line (so.bytes ++ bytes) left old new e) (sym is)
      (ended_here end_law read same)
  stops_here on last_law end_law stop at' end (inl (same, inr (e, is, why))) =
      subst (λ k. IsPlayedTo stage first.line (so.bytes ++ bytes) left old new k) (sym is)
      (by_error stop e why same)
  stops_here on last_law end_law stop at' end (inr (inl (c, read, is, d))) =
      subst (λ k. IsPlayedTo stage first.line (so.bytes ++ bytes) left old new k) (sym is)
      (ended_in last_law c read d)
  stops_here on last_law end_law stop at' end (inr (inr (c, read, is, may_not, same))) =
      subst (λ k. IsPlayedTo stage first.line (so.bytes ++ bytes) left old new k) (sym is)
      (stopped_so (Script at.line) (
        judged at.line refl (read_line at c bytes left read),
        refused_here on last_law c read may_not,
      ) same)
