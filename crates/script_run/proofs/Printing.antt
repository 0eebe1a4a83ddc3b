-- What is printed of a line.
use Rattle.std.proofs.Common.{◌≡◌, ◌<◌, ◌≤◌, Result, IfOk, ◌+◌, ◌&&◌, ℕ, zero, suc, Bool, true, false, List, [], ◌∷◌, ◌++◌, refl, sym, ap, ◌∙◌, subst, length, codes, inl, inr, ⊎_elim, arith, is_some, if◌then◌else◌}
use Rattle.std.specs.List.{list_all, range_with_len}
use Rattle.std.proofs.lemmas.Bool.{cases_eq, false≢true}
use Rattle.std.proofs.lemmas.List.{append-nil}
use Rattle.std.proofs.lemmas.Result.{IfOk-weaker}
use Rattle.detector_graph.specs.declared.folded.Folded.{Folded}
use Rattle.window_model.specs.declared.GuessView.{GuessView}
use Rattle.window_model.specs.Decoder.{Syndrome}
use Rattle.window_model.specs.Speculation.{Event, done}
use Rattle.window_model.specs.Windows.{window_count}
use Rattle.replay_model.specs.declared.ScriptLine.{ScriptLine}
use Rattle.replay_model.specs.declared.ScriptLine.TheVariants.{Arrive, Turn, Finish}
use Rattle.replay_model.specs.Replays.{Does, IsTold, Stage, is_all_done, rest_line}
use Rattle.report_model.specs.Texts.{event_line, line}
use Rattle.core_state.specs.States.{CoreTable, MayHappen, events_of, machine_of}
use Rattle.window_core.specs.Cores.{IsAllDone, NoTurn}
use Rattle.script_run.specs.declared.act.Act.{Act}
use Rattle.script_run.specs.declared.act.Act.TheVariants as act
use Rattle.script_run.specs.declared.player.Played.{Played}
use Rattle.script_run.specs.Plays.{AreMeasured, HasActed, HasMoved, IsDone, IsEventOf, IsLastTold, IsLinePlayed, IsPrinted, Playing, stage_of}

-- ---- whether all is done

split : (a b : Bool) → (a && b) ≡ true → (a ≡ true) × (b ≡ true)
split true b e = (refl, e)
split false b e = absurd (false≢true e)

both : (a b : Bool) → a ≡ true → b ≡ true → (a && b) ≡ true
both true b ea eb = eb
both false b ea eb = absurd (false≢true ea)

each_in : (p : ℕ → Bool) (from n : ℕ) →
    ((w : ℕ) → from ≤ w → w < from + n → p w ≡ true) → list_all p (range_with_len from n) ≡ true
each_in p from zero each = refl
each_in p from (suc n) each = both (p from) (list_all p (range_with_len (from + 1) n))
    (each from (omega arith) (omega arith))
    (each_in p (from + 1) n (λ w l h. each w (omega (arith, l)) (omega (arith, h))))

in_each : (p : ℕ → Bool) (from n : ℕ) → list_all p (range_with_len from n) ≡ true → (w : ℕ) →
    from ≤ w → w < from + n → p w ≡ true
in_each p from zero all w l h = absurd (omega (arith, l, h))
in_each p from (suc n) all w l h =
    let parts : (p from ≡ true) × (list_all p (range_with_len (from + 1) n) ≡ true) =
    split (p from) (list_all p (range_with_len (from + 1) n)) all in
    ⊎_elim (λ (e : w ≡ from). subst (λ x. p x ≡ true) (sym e) parts.0)
    (λ (ne : w ≡ from → ⊥). in_each p (from + 1) n parts.1 w (omega (arith, l, ne))
    (omega (arith, h))) (cases_eq w from)

module _ (c : CoreTable) where
  committed : ℕ → Bool
  committed w = is_some (done ((machine_of c).phase w))

  pub is_done_all : IsAllDone c → is_all_done c.task (machine_of c) ≡ true
  is_done_all h = both
      (list_all (λ w. is_some (done ((machine_of c).phase w))) (range_with_len 0 (window_count
      c.task.plan)))
      (list_all (λ op. is_some ((machine_of c).released op)) (range_with_len 0 (length
      c.task.operations)))
      (each_in (λ w. is_some (done ((machine_of c).phase w))) 0 (window_count c.task.plan)
      (λ w l h1. h.windows w (omega (arith, h1))))
      (each_in (λ op. is_some ((machine_of c).released op)) 0 (length c.task.operations)
      (λ op l h1. h.operations op (omega (arith, h1))))

  pub all_done_is : is_all_done c.task (machine_of c) ≡ true → IsAllDone c
  all_done_is e =
      let parts = split
      (list_all (λ w. is_some (done ((machine_of c).phase w))) (range_with_len 0 (window_count
      c.task.plan)))
      (list_all (λ op. is_some ((machine_of c).released op)) (range_with_len 0 (length
      c.task.operations))) e in
      record {
        windows = λ w l. in_each (λ w. is_some (done ((machine_of c).phase w))) 0 (window_count
            c.task.plan) parts.0 w (omega arith) (omega (arith, l));
        operations = λ op l. in_each (λ op. is_some ((machine_of c).released op)) 0 (length
            c.task.operations) parts.1 op (omega arith) (omega (arith, l));
      }

  not_done : ¬ IsAllDone c → is_all_done c.task (machine_of c) ≡ false
  not_done not = by (is_all_done c.task (machine_of c)) refl
    where
      by : (b : Bool) → is_all_done c.task (machine_of c) ≡ b →
          is_all_done c.task (machine_of c) ≡ false
      by true e = absurd (not (all_done_is e))
      by false e = e

-- ---- a line

abbrev pub playing : CoreTable → List ℕ → List Folded → List (List ℕ) → Playing
playing core text rows labels = record { core = core; text = text; rows = rows; labels = labels }

module _ (may_guess : GuessView → Bool → Type 0) (s : Syndrome) (old new : Playing) where
  abbrev stage : Stage
  stage = stage_of may_guess s old.labels old.core

  told : (event : Event) → MayHappen old.core event →
      IsTold stage (machine_of old.core) event (event ∷ [])
      (event_line old.core.task old.labels (machine_of old.core) event)
  told event may = record { enabled = may; events_are = refl; text_is = refl }

  does : (line_ : ScriptLine) (event : Event) → IsEventOf stage old.core line_ event →
      MayHappen old.core event →
      Does stage (machine_of old.core) line_ (event ∷ [])
      (event_line old.core.task old.labels (machine_of old.core) event)
  does Arrive event is_of may = record {
    values = is_of.0;
    raws = is_of.1;
    brought = is_of.3;
    told = subst (λ e. IsTold stage (machine_of old.core) e (event ∷ [])
        (event_line old.core.task old.labels (machine_of old.core) event)) is_of.2 (told event may);
  }
  does Turn event is_of may = inl (record {
    event = event;
    turn = is_of.0;
    first = is_of.1;
    guessed = is_of.2;
    told = told event may;
  })
  does (Finish k) event is_of may = record { event = event; closed = is_of; told = told event may }

  -- an event happened, and its line is printed
  pub moved_done : (line_ : ScriptLine) → HasMoved stage line_ old.core new.core →
      IsLastTold old.labels new.core old.text new.text → new.rows ≡ old.rows →
      new.labels ≡ old.labels → IsDone stage line_ old new
  moved_done line_ h last rows labels = record {
    events = h.event ∷ [];
    told = event_line old.core.task old.labels (machine_of old.core) h.event;
    may = h.may_do;
    does = does line_ h.event h.is_of h.may;
    events_are = h.happened.events;
    text_is = last old.core h.entry_ h.event h.happened
        ∙ ap (λ t. old.text ++ event_line t old.labels (machine_of old.core) h.event)
        h.happened.task;
    task = h.happened.task;
    retries = h.happened.retries;
    rows = rows;
    labels = labels;
  }

  rested : (word : List ℕ) → NoTurn old.core →
      rest_line old.core.task (machine_of old.core) ≡ word →
      new.core ≡ old.core → new.text ≡ old.text ++ word → new.rows ≡ old.rows →
      new.labels ≡ old.labels → IsDone stage Turn old new
  rested word none word_is same text rows labels = record {
    events = [];
    told = word;
    may = tt;
    does = inr (record { no_turn = none; events_are = refl; text_is = sym word_is });
    events_are = ap events_of same ∙ sym (append-nil (events_of old.core));
    text_is = text;
    task = ap (λ (c : CoreTable). c.task) same;
    retries = ap (λ (c : CoreTable). c.retries) same;
    rows = rows;
    labels = labels;
  }

  pub idle_done : NoTurn old.core → ¬ IsAllDone old.core → new.core ≡ old.core →
      new.text ≡ old.text ++ line (codes "idle" ∷ []) → new.rows ≡ old.rows →
      new.labels ≡ old.labels → IsDone stage Turn old new
  idle_done none not = rested (line (codes "idle" ∷ [])) none (ap (λ b. line ((if b then codes
      "done" else codes "idle") ∷ [])) (not_done old.core not))

  pub all_done : NoTurn old.core → IsAllDone old.core → new.core ≡ old.core →
      new.text ≡ old.text ++ line (codes "done" ∷ []) → new.rows ≡ old.rows →
      new.labels ≡ old.labels → IsDone stage Turn old new
  all_done none all = rested (line (codes "done" ∷ [])) none (ap (λ b. line ((if b then codes
      "done" else codes "idle") ∷ [])) (is_done_all old.core all))

  -- the same, whatever the line did
  pub printed : (line_ : ScriptLine) (a : Act) (result : Played) →
      HasActed stage line_ old.core new.core a →
      IsPrinted old.labels new.core a result old.text new.text → new.rows ≡ old.rows →
      new.labels ≡ old.labels → IsLinePlayed stage line_ old new result
  printed line_ act.Moved result h p rows labels =
      subst (λ r. IsLinePlayed stage line_ old new r) (sym p.0)
      (moved_done line_ h p.1 rows labels)
  printed line_ act.Idle result h p rows labels =
      subst (λ r. IsLinePlayed stage line_ old new r) (sym p.0)
      (subst (λ l. IsDone stage l old new) (sym h.0) (idle_done h.2 h.3 h.1 p.1 rows labels))
  printed line_ act.Done result h p rows labels =
      subst (λ r. IsLinePlayed stage line_ old new r) (sym p.0)
      (subst (λ l. IsDone stage l old new) (sym h.0) (all_done h.2 h.3 h.1 p.1 rows labels))
  printed line_ act.Refused result h p rows labels =
      subst (λ r. IsLinePlayed stage line_ old new r) (sym p.0) (h.0, same)
    where
      same : new ≡ old
      same =
          let core : new.core ≡ old.core = h.1 in
          let text : new.text ≡ old.text = p.1 in
          let made : playing new.core new.text new.rows new.labels
          ≡ playing old.core old.text old.rows old.labels = cc in
          made

-- a line was played, where these are the player's parts
pub line_played : (may_guess : GuessView → Bool → Type 0) (seen old : Playing) (core : CoreTable)
    (text : List ℕ) (line_ line' : ScriptLine) (a : Act) {E : Type 0} (result : Result Played E) →
    seen ≡ old → line_ ≡ line' →
    ((s : Syndrome) → AreMeasured seen.core.task s seen.rows →
    HasActed (stage_of may_guess s seen.labels seen.core) line' seen.core core a) →
    IfOk result (λ p. IsPrinted seen.labels core a p seen.text text) →
    IfOk result (λ p. (s : Syndrome) → AreMeasured old.core.task s old.rows →
    IsLinePlayed (stage_of may_guess s old.labels old.core) line_ old
    (playing core text seen.rows seen.labels) p)
line_played may_guess seen old core text line_ line' a result is line_is acted =
    IfOk-weaker result (λ p. IsPrinted seen.labels core a p seen.text text)
    (λ p. (s : Syndrome) → AreMeasured old.core.task s old.rows →
    IsLinePlayed (stage_of may_guess s old.labels old.core) line_ old
    (playing core text seen.rows seen.labels) p)
    (λ p told. subst (λ o. (s : Syndrome) → AreMeasured o.core.task s o.rows →
    IsLinePlayed (stage_of may_guess s o.labels o.core) line_ o
    (playing core text seen.rows seen.labels) p) is
    (λ s m. subst (λ l. IsLinePlayed (stage_of may_guess s seen.labels seen.core) l seen
    (playing core text seen.rows seen.labels) p) (sym line_is)
    (printed may_guess s seen (playing core text seen.rows seen.labels) line' a p (acted s m) told
    refl refl)))
