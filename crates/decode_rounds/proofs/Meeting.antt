-- What the one who reads and the workers made together: the core that is left when all have gone,
-- and the decoder that comes to rest from it.
use Rattle.std.proofs.Common.{◌≡◌, ◌≤◌, ◌+◌, ◌⊎◌, ⊎_elim, inl, inr, ℕ, zero, suc, Bool, true, List, [], ◌∷◌, ◌++◌, None, Some, length, refl, sym, ap, ◌∙◌, arith, subst, append-nil, All, Contains}
use Rattle.std.specs.declared.option.Option.{Option}
use Rattle.std.specs.declared.result.Result.{Result}
use Rattle.std.proofs.lemmas.List.Elements.{All-cons, All-head, All-nil, All-tail, All-weaker, Contains-append_left, filter_map-append}
use Rattle.port_io.specs.declared.port.TapeByte.{TapeByte}
use Rattle.detector_graph.specs.declared.folded.Folded.{Folded}
use Rattle.surface_model.specs.Schedules.{Schedule}
use Rattle.syndrome_source.specs.declared.error.RowError.{RowError}
use Rattle.window_model.specs.Decoder.{Task, Syndrome, Step, Arrive, Commit, Release, Decoder, start as begun, after, after_all, owned_part, IsRun}
use Rattle.window_model.specs.Progress.{IsProgress}
use Rattle.window_model.specs.Speculation.{Event, Arrived, Claimed, Returned, Stale, Verified, Poisoned, Dropped, Committed, Released, Machine, happens, result_of, start, visible, visible_from, IsBrought}
use Rattle.window_model.proofs.Arrivals.{brought_law}
use Rattle.window_model.proofs.Simulation.{simulation_law}
use Rattle.window_model.proofs.Updates.{set_cases}
use Rattle.core_state.specs.Arrivals.{arrivals_in, brought_by}
use Rattle.core_state.specs.States.{CoreTable, IsState, events_of, machine_of}
use Rattle.core_state.proofs.Brought.{made}
use Rattle.window_core.specs.Cores.{IsCore}
use Rattle.window_table.specs.Readings.{AreReleased, Readings, told_at}
use Rattle.slot_decoder.specs.Answers.{HasComeToRest}
use Rattle.slot_decoder.specs.Histories.{DecoderView, IsHistoryOf}
use Rattle.slot_decoder.specs.Slots.{BringsNoSlot}
use Rattle.slot_decoder.proofs.Going.{visible_append}
use Rattle.slot_decoder.proofs.Resting.{laws, shown}
use Rattle.report_model.specs.Tapes.{Move, Take, Put, AreInTime, IsPut}
use Rattle.report_model.specs.Tasks.{syndrome_of}
use Rattle.run_rounds.specs.declared.release.PutError.{PutError}
use Rattle.run_rounds.specs.declared.release.PutError.TheVariants.{WriteFault, Memory}
use Rattle.decode_rounds.specs.Courses.{IsBrokenOff, IsPartWay}
use Rattle.decode_rounds.specs.Seats.{HasCome, HasEnded, IsGiven, IsLeft, IsOnWay, IsToldAs}
use Rattle.decode_rounds.proofs.Tellings.{none_some}

-- ---- a bit that is released was released by a step

found : (d : Decoder) (steps : List Step) (op : ℕ) (bit : Bool) →
    (after_all d steps).released op ≡ Some bit →
    (d.released op ≡ Some bit) ⊎ Contains steps (Release op bit)
found d [] op bit e = inl e
found d (Arrive slot ∷ steps) op bit e =
    ⊎_elim (λ before. inl before)
    (λ has. inr (suc has.0, (let l = has.1 in omega (arith, l)), has.2))
    (found (after d (Arrive slot)) steps op bit e)
found d (Commit window set ∷ steps) op bit e =
    ⊎_elim (λ before. inl before)
    (λ has. inr (suc has.0, (let l = has.1 in omega (arith, l)), has.2))
    (found (after d (Commit window set)) steps op bit e)
found d (Release o b ∷ steps) op bit e =
    ⊎_elim
    (λ now. ⊎_elim
    (λ here. inr (
      0,
      omega arith,
      (let same = here.1 in let bits : b ≡ bit = cc in
          ap (λ n. Release n b) (sym here.0) ∙ ap (Release op) bits),
    ))
    (λ there. inl there.1)
    (set_cases (λ (v : Option Bool). v ≡ Some bit) d.released o (Some b) op now))
    (λ has. inr (suc has.0, (let l = has.1 in omega (arith, l)), has.2))
    (found (after d (Release o b)) steps op bit e)

-- ---- slots that events bring

-- they bring a syndrome's values where the slots that they bring have them
brings_given : (task : Task) (s : Syndrome) (events : List Event) →
    All (IsGiven task s) (arrivals_in events) → All (IsBrought task s) events
brings_given task s [] all = All-nil (IsBrought task s)
brings_given task s (Arrived t values raws ∷ events) all =
    All-cons (IsBrought task s) (Arrived t values raws) events
    (All-head (IsGiven task s) (made t values raws) (arrivals_in events) all)
    (brings_given task s events
    (All-tail (IsGiven task s) (made t values raws) (arrivals_in events) all))
brings_given task s (Claimed k w links ∷ events) all =
    All-cons (IsBrought task s) (Claimed k w links) events tt (brings_given task s events all)
brings_given task s (Returned k set ∷ events) all =
    All-cons (IsBrought task s) (Returned k set) events tt (brings_given task s events all)
brings_given task s (Stale k ∷ events) all =
    All-cons (IsBrought task s) (Stale k) events tt (brings_given task s events all)
brings_given task s (Verified x w ∷ events) all =
    All-cons (IsBrought task s) (Verified x w) events tt (brings_given task s events all)
brings_given task s (Poisoned x w ∷ events) all =
    All-cons (IsBrought task s) (Poisoned x w) events tt (brings_given task s events all)
brings_given task s (Dropped w ∷ events) all =
    All-cons (IsBrought task s) (Dropped w) events tt (brings_given task s events all)
brings_given task s (Committed k w ∷ events) all =
    All-cons (IsBrought task s) (Committed k w) events tt (brings_given task s events all)
brings_given task s (Released op bit ∷ events) all =
    All-cons (IsBrought task s) (Released op bit) events tt (brings_given task s events all)

none_come : (events : List Event) → All BringsNoSlot events → arrivals_in events ≡ []
none_come [] none = refl
none_come (Arrived t values raws ∷ events) none =
    absurd (All-head BringsNoSlot (Arrived t values raws) events none)
none_come (Claimed k w links ∷ events) none =
    none_come events (All-tail BringsNoSlot (Claimed k w links) events none)
none_come (Returned k set ∷ events) none =
    none_come events (All-tail BringsNoSlot (Returned k set) events none)
none_come (Stale k ∷ events) none = none_come events (All-tail BringsNoSlot (Stale k) events none)
none_come (Verified x w ∷ events) none =
    none_come events (All-tail BringsNoSlot (Verified x w) events none)
none_come (Poisoned x w ∷ events) none =
    none_come events (All-tail BringsNoSlot (Poisoned x w) events none)
none_come (Dropped w ∷ events) none =
    none_come events (All-tail BringsNoSlot (Dropped w) events none)
none_come (Committed k w ∷ events) none =
    none_come events (All-tail BringsNoSlot (Committed k w) events none)
none_come (Released op bit ∷ events) none =
    none_come events (All-tail BringsNoSlot (Released op bit) events none)

-- as many slots have arrived in what shows as the events bring
count_shown : (task : Task) (m : Machine) (d : Decoder) (events : List Event) →
    (after_all d (visible_from task m events)).arrived ≡ d.arrived + length (arrivals_in events)
count_shown task m d [] = omega arith
count_shown task m d (Arrived t values raws ∷ events) =
    let rest = count_shown task (happens task m (Arrived t values raws)) (after d (Arrive t)) events
    in omega (arith, rest)
count_shown task m d (Claimed k w links ∷ events) =
    count_shown task (happens task m (Claimed k w links)) d events
count_shown task m d (Returned k set ∷ events) =
    count_shown task (happens task m (Returned k set)) d events
count_shown task m d (Stale k ∷ events) = count_shown task (happens task m (Stale k)) d events
count_shown task m d (Verified x w ∷ events) =
    count_shown task (happens task m (Verified x w)) d events
count_shown task m d (Poisoned x w ∷ events) =
    count_shown task (happens task m (Poisoned x w)) d events
count_shown task m d (Dropped w ∷ events) = count_shown task (happens task m (Dropped w)) d events
count_shown task m d (Committed k w ∷ events) =
    count_shown task (happens task m (Committed k w))
    (after d (Commit w (owned_part task w (result_of m k)))) events
count_shown task m d (Released op bit ∷ events) =
    count_shown task (happens task m (Released op bit)) (after d (Release op bit)) events

-- ---- the core

module _ (task : Task) (r : Readings) (c : CoreTable) (core : IsCore c) (named : c.task ≡ task)
    (given : arrivals_in (events_of c) ≡ r.given) (told : AreReleased c r) where
  abbrev state : IsState c
  state = core.state

  abbrev steps : List Step
  steps = visible c.task (events_of c)

  runs : (s : Syndrome) → All (IsGiven task s) r.given → IsRun task s steps
  runs s all =
      subst (λ k. IsRun k s steps) named
      (simulation_law c.task c.retries (events_of c) s (laws c state) state.history
      (brought_law c.task c.retries (events_of c) s (laws c state) state.history
      (brings_given c.task s (events_of c)
      (subst (λ k. All (IsGiven k s) (arrivals_in (events_of c))) (sym named)
      (subst (All (IsGiven task s)) (sym given) all)))))

  many : (after_all begun steps).arrived ≡ length r.given
  many =
      let n = count_shown c.task start begun (events_of c) in
      let g = ap length given in
      omega (arith, n, g)

  released : (op : ℕ) (bit : Bool) → told_at r op ≡ Some bit → Contains steps (Release op bit)
  released op bit is =
      ⊎_elim (λ none. absurd (none_some (begun.released op) bit refl none)) (λ has. has)
      (found begun steps op bit
      (ap (λ (d : Decoder). d.released op) (shown c state) ∙ told op bit is))

  is_put : (move : Move) → IsToldAs r move → IsPut steps move
  is_put (Take byte) is = tt
  is_put (Put op bit) is = released op bit is

  in_time : (s : Schedule) (left : Option (List ℕ)) (moves : List Move) →
      IsOnWay task s left r moves → AreInTime task steps moves
  in_time s left moves way = record {
    released = All-weaker (IsToldAs r) (IsPut steps) is_put moves way.put.each;
    once = way.put.once;
    timed = way.timed;
  }

  few : (s : Schedule) (left : Option (List ℕ)) (moves : List Move)
      (way : IsOnWay task s left r moves) → (after_all begun steps).arrived ≤ length way.rows
  few s left moves way = let n = many in let b = way.brought in omega (arith, n, b)

  abbrev part_way : (s : Schedule) (left : Option (List ℕ)) (moves : List Move) →
      IsOnWay task s left r moves → IsPartWay s task left moves
  part_way s left moves way = record {
    rows = way.rows;
    read = way.read;
    steps = steps;
    run = runs (syndrome_of s way.rows) way.given;
    arrived = few s left moves way;
    in_time = in_time s left moves way;
  }

  pub broken_by : (s : Schedule) (error : PutError) (a b : Option (List ℕ))
      (t v : Option (List TapeByte)) → IsLeft task s error a b t v r →
      IsBrokenOff s task error a b t v
  broken_by s WriteFault a b t v is = record {
    moves = is.moves;
    operation = is.operation;
    bit = is.bit;
    count = is.count;
    goes = is.goes;
    due = part_way s b (is.moves ++ Put is.operation is.bit ∷ []) is.due;
    all_arrived = many ∙ is.all_brought;
  }
  broken_by s Memory a b t v is = (is.0, part_way s b is.0 is.1, is.2)

  -- for want of memory when the rows have ended
  pub broken_after : (s : Schedule) (end : Result (Unit {0}) RowError) (a b : Option (List ℕ))
      (t v : Option (List TapeByte)) → HasEnded task s a b t v r end →
      IsBrokenOff s task Memory a b t v
  broken_after s end a b t v is = (
    is.moves,
    part_way s b is.moves (record {
      rows = is.rows;
      read = inr (end, is.rounds);
      given = is.given;
      brought = let e = is.brought in omega (arith, e);
      put = is.put;
      timed = is.timed;
    }),
    is.goes,
  )

  -- ---- the decoder that comes to rest

  module _ (d : DecoderView) (rest : HasComeToRest c d) (progress : IsProgress d.progress)
      (history : IsHistoryOf d) where
    same_task : d.progress.task ≡ task
    same_task = rest.task ∙ named

    steps_are : d.progress.steps ≡ steps ++ visible_from c.task (machine_of c) rest.more
    steps_are =
        history.shown ∙ ap (λ k. visible k d.events) rest.task ∙ ap (visible c.task) rest.events
        ∙ visible_append c.task start (events_of c) rest.more

    arrivals_are : arrivals_in d.events ≡ r.given
    arrivals_are =
        ap arrivals_in rest.events ∙ filter_map-append brought_by (events_of c) rest.more
        ∙ ap (λ l. arrivals_in (events_of c) ++ l) (none_come rest.more rest.none_brings)
        ∙ append-nil (arrivals_in (events_of c)) ∙ given

    arrived : d.progress.arrived ≡ length r.given
    arrived =
        let n = count_shown d.progress.task start begun d.events in
        let p = progress.arrived in
        let sh = ap (λ l. (after_all begun l).arrived) history.shown in
        let g = ap length arrivals_are in
        omega (arith, n, p, sh, g)

    pub come : HasCome task r d.progress
    come = record {
      task_is = same_task;
      arrived = arrived;
      fits = λ s all. history.fits s (brings_given d.progress.task s d.events
          (subst (λ k. All (IsGiven k s) (arrivals_in d.events)) (sym same_task)
          (subst (All (IsGiven task s)) (sym arrivals_are) all)));
      released = λ op bit is. subst (λ l. Contains l (Release op bit)) (sym steps_are)
          (Contains-append_left steps (visible_from c.task (machine_of c) rest.more)
          (Release op bit) (released op bit is));
    }
