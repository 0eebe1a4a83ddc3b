-- What a line does to a core, from what the core's calls say.
use Rattle.std.proofs.Common.{◌≡◌, ℕ, Bool, List, refl, sym, ap, ◌∙◌, subst, length, map, inl, inr, Option}
use Rattle.std.proofs.lemmas.Bool.{eq-eqb}
use Rattle.std.proofs.lemmas.List.{length-map}
use Rattle.detector_graph.specs.declared.folded.Folded.{Folded}
use Rattle.window_model.specs.declared.GuessView.{GuessView}
use Rattle.window_model.specs.Decoder.{MayArrive, Syndrome}
use Rattle.window_model.specs.Speculation.{Event, Arrived, Returned, Stale, at_slot, count_in, decoder_of, detector_slots}
use Rattle.window_model.specs.TicketLaws.{problem_of}
use Rattle.replay_model.specs.declared.ScriptLine.TheVariants.{Arrive, Finish}
use Rattle.replay_model.specs.Replays.{Stage}
use Rattle.core_journal.specs.declared.event.Event.{Event as Entry}
use Rattle.core_journal.specs.declared.event.Event.TheVariants as entry
use Rattle.core_state.specs.States.{CoreTable, HasHappened, MayHappen, machine_of}
use Rattle.core_state.proofs.Arrived.{count_slot}
use Rattle.window_core.specs.Cores.{IsAwaited, IsOpen}
use Rattle.window_core.specs.Turned.{IsReported, IsSetAside}
use Rattle.window_core.specs.declared.turn.Finished.{Finished}
use Rattle.window_core.specs.declared.turn.Reported.{Reported}
use Rattle.window_core.specs.declared.turn.Reported.TheVariants as reported
use Rattle.script_run.specs.declared.act.Act.{Act}
use Rattle.script_run.specs.declared.act.Act.TheVariants as act
use Rattle.script_run.specs.Plays.{Brings, HasActed, HasMoved, IsEventOf, bare, stage_of}

-- ---- arrivals

module _ (c : CoreTable) (s : Syndrome) (row : Folded) (b : Brings c.task s (machine_of c).arrived
    row) where
  abbrev pub came : Event
  came = Arrived row.slot row.defects row.raws

  counted : (slots : List ℕ) (f : ℕ → Bool) (bits : List Bool) →
      bits ≡ map f (at_slot slots (machine_of c).arrived) → length bits ≡ count_in slots row.slot
  counted slots f bits are =
      ap length are ∙ length-map (at_slot slots (machine_of c).arrived) f
      ∙ sym (count_slot slots (machine_of c).arrived) ∙ ap (count_in slots) (sym b.slot)

  pub arrival_may : MayArrive c.task (decoder_of c.task (machine_of c)) (machine_of c).arrived →
      MayHappen c came
  arrival_may may = (
    subst (λ t. MayArrive c.task (decoder_of c.task (machine_of c)) t) (sym b.slot) may,
    counted (detector_slots c.task) s.value row.defects b.values,
    counted c.task.raw_slots s.raw row.raws b.raws,
  )

  pub arrived_moved : (new : CoreTable) →
      MayArrive c.task (decoder_of c.task (machine_of c)) (machine_of c).arrived →
      HasHappened c (entry.Arrived row.slot) came new →
      HasMoved (bare s c) Arrive c new
  arrived_moved new may happened = record {
    event = came;
    entry_ = entry.Arrived row.slot;
    may_do = may;
    is_of = (
      row.defects,
      row.raws,
      ap (λ t. Arrived t row.defects row.raws) b.slot,
      (b.values, b.raws),
    );
    may = arrival_may may;
    happened = happened;
  }

-- ---- answers

module _ (s : Syndrome) (old new : CoreTable) where
  abbrev stage : Stage
  stage = bare s old

  module _ (finished : Finished) (open_ : IsOpen old finished.ticket)
      (problem : finished.decoded.problem ≡ problem_of old.task (machine_of old) finished.ticket)
    where
      closed : (entry_ : Entry) (event : Event) →
          IsEventOf stage old (Finish finished.ticket) event →
          MayHappen old event → HasHappened old entry_ event new →
          HasMoved stage (Finish finished.ticket) old new
      closed entry_ event is_of may happened = record {
        event = event;
        entry_ = entry_;
        may_do = record { claimed = open_.taken; open_ = open_.open_ };
        is_of = is_of;
        may = may;
        happened = happened;
      }

      aside : (current : Option ℕ) → ¬ IsAwaited old finished.ticket finished.decoded →
          IsSetAside old new finished.ticket current →
          HasMoved stage (Finish finished.ticket) old new
      aside current not (inl h) =
          closed (entry.Stale finished.ticket current) (Stale finished.ticket)
          (eq-eqb finished.ticket finished.ticket refl) h.0 h.1
      aside current not (inr h) = absurd (h.0 (record {
        taken = open_.taken;
        open_ = open_.open_;
        other = λ running. not (record {
          taken = open_.taken;
          running = running;
          problem = problem;
        });
      }))

      pub reported_moved : (result : Reported) → IsReported old new finished result →
          HasMoved stage (Finish finished.ticket) old new
      reported_moved reported.Held h =
          closed (entry.Held finished.ticket) (Returned finished.ticket finished.decoded.set)
          (eq-eqb finished.ticket finished.ticket refl) h.1 h.2
      reported_moved (reported.Stale ticket current) h =
          aside current h.0 (subst (λ k. IsSetAside old new k current) h.1 h.3)

-- ---- with guesses and labels

module _ (may_guess : GuessView → Bool → Type 0) (s : Syndrome) (labels : List (List ℕ))
    (old new : CoreTable) where
  pub arrive_with : HasMoved (bare s old) Arrive old new →
      HasMoved (stage_of may_guess s labels old) Arrive old new
  arrive_with h = record {
    event = h.event;
    entry_ = h.entry_;
    may_do = h.may_do;
    is_of = h.is_of;
    may = h.may;
    happened = h.happened;
  }

  pub finish_with : (k : ℕ) → HasMoved (bare s old) (Finish k) old new →
      HasMoved (stage_of may_guess s labels old) (Finish k) old new
  finish_with k h = record {
    event = h.event;
    entry_ = h.entry_;
    may_do = h.may_do;
    is_of = h.is_of;
    may = h.may;
    happened = h.happened;
  }

  pub arrive_acted : (a : Act) → HasActed (bare s old) Arrive old new a →
      HasActed (stage_of may_guess s labels old) Arrive old new a
  arrive_acted act.Moved h = arrive_with h
  arrive_acted act.Idle h = h
  arrive_acted act.Done h = h
  arrive_acted act.Refused h = h

  pub finish_acted : (k : ℕ) (a : Act) → HasActed (bare s old) (Finish k) old new a →
      HasActed (stage_of may_guess s labels old) (Finish k) old new a
  finish_acted k act.Moved h = finish_with k h
  finish_acted k act.Idle h = h
  finish_acted k act.Done h = h
  finish_acted k act.Refused h = h
