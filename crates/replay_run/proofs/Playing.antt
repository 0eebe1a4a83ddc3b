-- The course of a script: from its first line, over one line more.
use Rattle.std.proofs.Common.{◌≡◌, ◌+◌, ◌++◌, ℕ, Bool, List, [], ◌∷◌, refl, sym, ap, subst, ◌∙◌, append_assoc, length-append, arith}
use Rattle.std.specs.declared.option.Option.{Option}
use Rattle.port_io.specs.Traffic.{Goes, taken}
use Rattle.port_io.specs.declared.port.TapeByte.{TapeByte}
use Rattle.port_io.proofs.Traffic.{goes_nothing}
use Rattle.port_io.proofs.Takings.{bytes_joined}
use Rattle.window_model.specs.declared.GuessView.{GuessView}
use Rattle.window_model.specs.Decoder.{Task, Syndrome}
use Rattle.window_model.specs.Speculation.{Event, happen_all, start}
use Rattle.core_state.specs.States.{events_of, machine_of}
use Rattle.replay_model.specs.declared.ScriptLine.{ScriptLine}
use Rattle.replay_model.specs.Replays.{Does, MayDo, Plays, Stage}
use Rattle.replay_model.specs.Scripts.{Script as Reading, most_line_bytes, whole_lines, with_command}
use Rattle.script_reader.specs.Lines.{At, IsRead, behind}
use Rattle.script_reader.specs.Laws.{ReadOnLaw, reads}
use Rattle.script_reader.specs.declared.found.Found.TheVariants.{Line}
use Rattle.script_run.specs.Plays.{AreMeasured, IsDone, Playing, stage_of}
use Rattle.replay_run.specs.Playings.{IsPlayedSo, IsSamePlay, IsUnplayed, with_commands}
use Rattle.replay_run.proofs.Feeds.{line_whole}
use Rattle.replay_run.proofs.Lines.{plays_more}

abbrev pub same_play : (p : Playing) → IsSamePlay p p
same_play p = record { task = refl; retries = refl; rows = refl; labels = refl }

abbrev pub same_still : (p q r : Playing) → IsSamePlay p q → IsSamePlay q r → IsSamePlay p r
same_still p q r one two = record {
  task = two.task ∙ one.task;
  retries = two.retries ∙ one.retries;
  rows = two.rows ∙ one.rows;
  labels = two.labels ∙ one.labels;
}

abbrev pub done_same : (stage : Stage) (c : ScriptLine) (p q : Playing) → IsDone stage c p q →
    IsSamePlay p q
done_same stage c p q d =
    record { task = d.task; retries = d.retries; rows = d.rows; labels = d.labels }

-- the stage doesn't change
abbrev stage_with : (GuessView → Bool → Type 0) → Syndrome → Task → ℕ → List (List ℕ) → Stage
stage_with g s task retries labels = record {
  task = task;
  retries = retries;
  may_guess = g;
  syndrome = s;
  labels = labels;
}

pub stage_still : (g : GuessView → Bool → Type 0) (s : Syndrome) (old now : Playing) →
    IsSamePlay old now → (P : Stage → Type 0) → P (stage_of g s now.labels now.core) →
    P (stage_of g s old.labels old.core)
stage_still g s old now same P h =
    subst (λ l. P (stage_with g s old.core.task old.core.retries l)) same.labels
    (subst (λ r. P (stage_with g s old.core.task r now.labels)) same.retries
    (subst (λ t. P (stage_with g s t now.core.retries now.labels)) same.task h))

pub measured_still : (s : Syndrome) (old now : Playing) → IsSamePlay old now →
    AreMeasured old.core.task s old.rows → AreMeasured now.core.task s now.rows
measured_still s old now same h =
    subst (λ t. AreMeasured t s now.rows) (sym same.task)
    (subst (λ r. AreMeasured old.core.task s r) (sym same.rows) h)

-- the machine that some events led to
pub machine_is : (task : Task) (p : Playing) (events : List Event) → p.core.task ≡ task →
    events_of p.core ≡ events → machine_of p.core ≡ happen_all task start events
machine_is task p events is events_are =
    ap (λ k. happen_all k start (events_of p.core)) is ∙ ap (happen_all task start) events_are

-- ---- the start

abbrev pub played_start : (stage : Stage) (first : At) (left : Option (List ℕ))
    (tape : Option (List TapeByte)) (p : Playing) → IsUnplayed p →
    IsPlayedSo stage first first left left tape tape p p
played_start stage first left tape p none = record {
  bytes = [];
  commands = [];
  events = [];
  printed = [];
  goes = goes_nothing left tape;
  reads_on = λ rest. refl;
  whole = λ rest. refl;
  plays = (refl, refl);
  line = let k : first.line ≡ first.line + 0 = omega arith in k;
  events_are = none.events;
  text_is = none.text;
  same = same_play p;
}

-- ---- one line more

-- a command after others
pub command_behind : (commands : List ScriptLine) (c : ScriptLine) (script : Reading) →
    with_commands commands (with_command c script) ≡ with_commands (commands ++ c ∷ []) script
command_behind commands c script = ap (λ l. record { commands = l; ending = script.ending })
    (sym (append_assoc commands (c ∷ []) script.commands))

-- what was played, and one line more
pub plays_on : (stage : Stage) (commands : List ScriptLine) (events : List Event)
    (printed : List ℕ) (c : ScriptLine) (mid new : Playing) →
    Plays stage start commands events printed → mid.core.task ≡ stage.task →
    events_of mid.core ≡ events → (d : IsDone stage c mid new) →
    Plays stage start (commands ++ c ∷ []) (events ++ d.events) (printed ++ d.told)
plays_on stage commands events printed c mid new plays task_is events_are d =
    let here = machine_is stage.task mid events task_is events_are in
    plays_more stage start commands events printed c d.events d.told plays
    (subst (λ m. MayDo stage m c) here d.may)
    (subst (λ m. Does stage m c d.events d.told) here d.does)

abbrev pub played_more : ReadOnLaw → (stage : Stage) (first at at' : At) (bytes : List ℕ)
    (c : ScriptLine) (a b left : Option (List ℕ)) (t u v : Option (List TapeByte))
    (old mid new : Playing) → stage.task ≡ old.core.task →
    IsPlayedSo stage first at a b t u old mid → Goes (taken bytes) b left u v →
    IsRead at (Line c) bytes left → at' ≡ behind at → IsDone stage c mid new →
    IsPlayedSo stage first at' a left t v old new
played_more law stage first at at' bytes c a b left t u v old mid new task_is so goes read next d =
    record {
      bytes = so.bytes ++ bytes;
      commands = so.commands ++ c ∷ [];
      events = so.events ++ d.events;
      printed = so.printed ++ d.told;
      goes = bytes_joined so.bytes bytes _ _ _ _ _ _ so.goes goes;
      reads_on = λ rest.
          ap (reads first) (append_assoc so.bytes bytes rest)
          ∙ so.reads_on (bytes ++ rest)
          ∙ ap (with_commands so.commands) (law at c bytes left read rest)
          ∙ command_behind so.commands c (reads (behind at) rest)
          ∙ ap (λ p. with_commands (so.commands ++ c ∷ []) (reads p rest)) (sym next);
      whole = λ rest.
          ap whole_lines (append_assoc so.bytes bytes rest)
          ∙ so.whole (bytes ++ rest)
          ∙ ap (λ l. so.bytes ++ l) (line_whole most_line_bytes bytes read.0 read.2 rest)
          ∙ sym (append_assoc so.bytes bytes (whole_lines rest));
      plays = plays_on stage so.commands so.events so.printed c mid new so.plays
          (so.same.task ∙ sym task_is) so.events_are d;
      line =
          let one = ap (λ (p : At). p.line) next in
          let long = length-append so.commands (c ∷ []) in
          omega (arith, one, long, so.line);
      events_are = d.events_are ∙ ap (λ e. e ++ d.events) so.events_are;
      text_is = d.text_is ∙ ap (λ e. e ++ d.told) so.text_is;
      same = same_still old mid new so.same (done_same stage c mid new d);
    }
