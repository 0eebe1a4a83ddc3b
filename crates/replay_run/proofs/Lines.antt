-- The lines of a script, played one after another.
use Rattle.std.proofs.Common.{◌≡◌, ◌+◌, ◌++◌, ℕ, true, List, [], ◌∷◌, length, inl, inr, refl, sym, ap, subst, ◌∙◌, append_assoc, append-nil, slice_get, All}
use Rattle.std.specs.declared.option.Option.{Option}
use Rattle.std.proofs.Math.Seq.{take-append_seam}
use Rattle.std.proofs.lemmas.List.Elements.{All-append, All-cons, All-nil}
use Rattle.window_model.specs.Decoder.{Task, Syndrome}
use Rattle.window_model.specs.Speculation.{Arrived, Claimed, Returned, Stale, Verified, Poisoned, Dropped, Committed, Released, Event, Machine, IsBrought, IsTurn, happen_all, start}
use Rattle.window_model.specs.TicketLaws.{closes}
use Rattle.window_model.proofs.Histories.{happen_all-append}
use Rattle.replay_model.specs.declared.ScriptLine.{ScriptLine}
use Rattle.replay_model.specs.declared.ScriptLine.TheVariants.{Arrive, Turn, Finish}
use Rattle.replay_model.specs.Replays.{Does, IsReplay, MayDo, Plays, Stage, StopsAt}
use Rattle.replay_model.specs.Scripts.{Script as Reading}
use Rattle.replay_run.specs.Playings.{with_commands}
use Rattle.replay_run.proofs.Items.{first_behind}

-- ---- one line more

pub plays_more : (stage : Stage) (m : Machine) (commands : List ScriptLine) (events : List Event)
    (printed : List ℕ) (c : ScriptLine) (now : List Event) (told : List ℕ) →
    Plays stage m commands events printed → MayDo stage (happen_all stage.task m events) c →
    Does stage (happen_all stage.task m events) c now told →
    Plays stage m (commands ++ c ∷ []) (events ++ now) (printed ++ told)
plays_more stage m [] events printed c now told (none, nothing) may does = (
  now,
  [],
  told,
  [],
  ap (λ e. e ++ now) none ∙ sym (append-nil now),
  ap (λ t. t ++ told) nothing ∙ sym (append-nil told),
  subst (λ e. MayDo stage (happen_all stage.task m e) c) none may,
  subst (λ e. Does stage (happen_all stage.task m e) c now told) none does,
  (refl, refl),
)
plays_more stage m (d ∷ commands) events printed c now told
    (first, later, said, more, events_are, text_is, may_d, does_d, others) may does =
    let there : happen_all stage.task m events
    ≡ happen_all stage.task (happen_all stage.task m first) later =
    ap (happen_all stage.task m) events_are ∙ happen_all-append stage.task m first later in (
      first,
      later ++ now,
      said,
      more ++ told,
      ap (λ e. e ++ now) events_are ∙ append_assoc first later now,
      ap (λ t. t ++ told) text_is ∙ append_assoc said more told,
      may_d,
      does_d,
      plays_more stage (happen_all stage.task m first) commands later more c now told others
          (subst (λ k. MayDo stage k c) there may)
          (subst (λ k. Does stage k c now told) there does),
    )

-- ---- the whole

replayed_so : (stage : Stage) (first : ℕ) (commands : List ScriptLine) (tail : Reading)
    (events : List Event) (printed : List ℕ) (fault : Option ℕ) →
    Plays stage start commands events printed →
    StopsAt stage (happen_all stage.task start events) tail.ending (first + length commands)
    (slice_get tail.commands 0) fault →
    IsReplay stage (with_commands commands tail) first events printed fault
replayed_so stage first commands tail events printed fault plays stops = record {
  count = length commands;
  plays = subst (λ l. Plays stage start l events printed)
      (sym (take-append_seam commands tail.commands)) plays;
  stops = subst (λ o. StopsAt stage (happen_all stage.task start events) tail.ending
      (first + length commands) o fault) (sym (first_behind commands tail.commands)) stops;
}

-- these commands were played, and then the script stops
pub replayed : (stage : Stage) (script : Reading) (first : ℕ) (commands : List ScriptLine)
    (tail : Reading) (events : List Event) (printed : List ℕ) (fault : Option ℕ) →
    script ≡ with_commands commands tail → Plays stage start commands events printed →
    StopsAt stage (happen_all stage.task start events) tail.ending (first + length commands)
    (slice_get tail.commands 0) fault → IsReplay stage script first events printed fault
replayed stage script first commands tail events printed fault is plays stops =
    subst (λ k. IsReplay stage k first events printed fault) (sym is)
    (replayed_so stage first commands tail events printed fault plays stops)

-- ---- what arrives

turn_brings : (task : Task) (s : Syndrome) (event : Event) → IsTurn event → IsBrought task s event
turn_brings task s (Arrived t values raws) turn = absurd (turn refl)
turn_brings task s (Claimed k w links) turn = tt
turn_brings task s (Returned k set) turn = tt
turn_brings task s (Stale k) turn = tt
turn_brings task s (Verified x w) turn = tt
turn_brings task s (Poisoned x w) turn = tt
turn_brings task s (Dropped w) turn = tt
turn_brings task s (Committed k w) turn = tt
turn_brings task s (Released op bit) turn = tt

closed_brings : (task : Task) (s : Syndrome) (k : ℕ) (event : Event) → closes k event ≡ true →
    IsBrought task s event
closed_brings task s k (Arrived t values raws) e = absurd cc
closed_brings task s k (Claimed j w links) e = tt
closed_brings task s k (Returned j set) e = tt
closed_brings task s k (Stale j) e = tt
closed_brings task s k (Verified x w) e = tt
closed_brings task s k (Poisoned x w) e = tt
closed_brings task s k (Dropped w) e = tt
closed_brings task s k (Committed j w) e = tt
closed_brings task s k (Released op bit) e = tt

one_brought : (task : Task) (s : Syndrome) (event : Event) (events : List Event) →
    events ≡ event ∷ [] → IsBrought task s event → All (IsBrought task s) events
one_brought task s event events is brought =
    subst (All (IsBrought task s)) (sym is)
    (All-cons (IsBrought task s) event [] brought (All-nil (IsBrought task s)))

line_brings : (stage : Stage) (m : Machine) (c : ScriptLine) (now : List Event) (told : List ℕ) →
    Does stage m c now told → All (IsBrought stage.task stage.syndrome) now
line_brings stage m Arrive now told does =
    one_brought stage.task stage.syndrome (Arrived m.arrived does.values does.raws) now
    does.told.events_are does.brought
line_brings stage m Turn now told (inl taken) =
    one_brought stage.task stage.syndrome taken.event now taken.told.events_are
    (turn_brings stage.task stage.syndrome taken.event taken.turn)
line_brings stage m Turn now told (inr resting) =
    subst (All (IsBrought stage.task stage.syndrome)) (sym resting.events_are)
    (All-nil (IsBrought stage.task stage.syndrome))
line_brings stage m (Finish k) now told does =
    one_brought stage.task stage.syndrome does.event now does.told.events_are
    (closed_brings stage.task stage.syndrome k does.event does.closed)

-- each arrival of what was played brought what was measured
pub all_brought : (stage : Stage) (m : Machine) (commands : List ScriptLine) (events : List Event)
    (printed : List ℕ) → Plays stage m commands events printed →
    All (IsBrought stage.task stage.syndrome) events
all_brought stage m [] events printed (none, nothing) =
    subst (All (IsBrought stage.task stage.syndrome)) (sym none)
    (All-nil (IsBrought stage.task stage.syndrome))
all_brought stage m (c ∷ commands) events printed
    (now, later, told, more, events_are, text_is, may, does, others) =
    subst (All (IsBrought stage.task stage.syndrome)) (sym events_are)
    (All-append (IsBrought stage.task stage.syndrome) now later
    (line_brings stage m c now told does)
    (all_brought stage (happen_all stage.task m now) commands later more others))
