-- Turn by turn, with the answer of each claim, until no turn is left.
use Rattle.std.proofs.Common.{◌≡◌, ◌<◌, ◌-◌, ℕ, Bool, List, [], ◌∷◌, ◌++◌, refl, sym, ap, ◌∙◌, subst, append_assoc, append-nil, arith, length}
use Rattle.std.proofs.lemmas.List.{length-append}
use Rattle.std.proofs.lemmas.List.Elements.{All-append, All-cons, All-nil, filter_map-append}
use Rattle.window_model.specs.declared.GuessView.{GuessView}
use Rattle.window_model.specs.Guesses.{AreGuessed}
use Rattle.window_model.specs.Speculation.{Event, Arrived, Claimed, Returned, Link, happens, happen_all, start, visible, visible_from, visible_step}
use Rattle.window_model.specs.SpeculationLaws.{most_events}
use Rattle.window_model.proofs.Histories.{happen_all-append}
use Rattle.window_model.proofs.Lengths.{length_law}
use Rattle.core_journal.specs.declared.event.Event.{Event as Entry}
use Rattle.core_state.specs.States.{CoreTable, HasHappened, IsState, events_of, machine_of}
use Rattle.slot_decoder.specs.Histories.{AreGuessedFrom, IsGuessedBy}
use Rattle.slot_decoder.specs.Slots.{AllAnswered, AllQuiet, AreReleases, BringsNoSlot, HasGoneOn, HasStepped, IsIdle, NoneRuns, NoTurn, released_by, releases_in}
use Rattle.slot_decoder.proofs.Going.{EachAnswered, IsStill, NoneRunning, answered_none, arrival_answered, arrival_none, claim_answered, still_answered, still_brings, still_guesses, still_none, visible_append}
use Rattle.window_core.proofs.Histories.{guessed_append}
use Rattle.slot_decoder.proofs.Resting.{laws}

-- ---- one more event

module _ (old new : CoreTable) (entry_ : Entry) (event : Event)
    (h : HasHappened old entry_ event new) where
  pub machine_now : machine_of new ≡ happens old.task (machine_of old) event
  machine_now =
      ap (λ task. happen_all task start (events_of new)) h.task
      ∙ ap (happen_all old.task start) h.events
      ∙ happen_all-append old.task start (events_of old) (event ∷ [])

  visible_now : visible new.task (events_of new)
      ≡ visible old.task (events_of old) ++ visible_step old.task (machine_of old) event
  visible_now =
      ap (λ task. visible_from task start (events_of new)) h.task
      ∙ ap (visible_from old.task start) h.events
      ∙ visible_append old.task start (events_of old) (event ∷ [])
      ∙ ap (λ l. visible old.task (events_of old) ++ l)
      (append-nil (visible_step old.task (machine_of old) event))

  pub releases_more : (releases : List (ℕ × Bool)) → AreReleases old releases →
      AreReleases new (releases ++ releases_in (visible_step old.task (machine_of old) event))
  releases_more releases are =
      ap (λ l. l ++ releases_in (visible_step old.task (machine_of old) event)) are
      ∙ sym (filter_map-append released_by (visible old.task (events_of old))
      (visible_step old.task (machine_of old) event))
      ∙ ap releases_in (sym visible_now)

  abbrev pub gone_one : (may_guess : GuessView → Bool → Type 0) → BringsNoSlot event →
      IsGuessedBy may_guess old.task (machine_of old) event → HasGoneOn may_guess old new
  gone_one may_guess none guessed = record {
    task = h.task;
    retries = h.retries;
    more = event ∷ [];
    events = h.events;
    none_brings = All-cons BringsNoSlot event [] none (All-nil BringsNoSlot);
    guessed = (guessed, tt);
  }

  -- a turn that is no claim
  pub stepped : (may_guess : GuessView → Bool → Type 0) → IsStill event → IsIdle old →
      (releases : List (ℕ × Bool)) → AreReleases old releases → HasStepped may_guess old new
      (releases ++ releases_in (visible_step old.task (machine_of old) event))
  stepped may_guess still idle releases are = record {
    on = gone_one may_guess (still_brings event still)
        (still_guesses may_guess old.task (machine_of old) event still);
    some = omega arith;
    idle = record {
      none_runs = subst NoneRunning (sym machine_now)
          (still_none old.task (machine_of old) event still idle.none_runs);
      answered = subst EachAnswered (sym machine_now)
          (still_answered old.task (machine_of old) event still idle.answered);
    };
    releases_are = releases_more releases are;
  }

-- and where it releases nothing
pub stepped_quietly : (may_guess : GuessView → Bool → Type 0) (old new : CoreTable)
    (entry_ : Entry) (event : Event) → HasHappened old entry_ event new → IsStill event →
    IsIdle old → releases_in (visible_step old.task (machine_of old) event) ≡ [] →
    (releases : List (ℕ × Bool)) → AreReleases old releases → HasStepped may_guess old new releases
stepped_quietly may_guess old new entry_ event h still idle nothing releases are =
    subst (HasStepped may_guess old new)
    (ap (λ l. releases ++ l) nothing ∙ append-nil releases)
    (stepped old new entry_ event h may_guess still idle releases are)

-- ---- a slot

module _ (old new : CoreTable) (entry_ : Entry) (t : ℕ) (values raws : List Bool)
    (h : HasHappened old entry_ (Arrived t values raws) new) where
  pub idle_at_arrival : NoneRuns old → AllAnswered old → IsIdle new
  idle_at_arrival none answered = record {
    none_runs = subst NoneRunning (sym (machine_now old new entry_ (Arrived t values raws) h))
        (arrival_none old.task (machine_of old) t values raws none);
    answered = subst EachAnswered (sym (machine_now old new entry_ (Arrived t values raws) h))
        (arrival_answered old.task (machine_of old) t values raws answered);
  }

  pub none_released : (releases : List (ℕ × Bool)) → AreReleases old releases →
      AreReleases new releases
  none_released releases are =
      sym (append-nil releases)
      ∙ releases_more old new entry_ (Arrived t values raws) h releases are

-- ---- a claim, and then its answer

pub stepped_by_claim : (may_guess : GuessView → Bool → Type 0) (old mid new : CoreTable)
    (one two : Entry) (k w : ℕ) (links : List Link) (set : List ℕ) → k ≡ (machine_of old).tickets →
    AreGuessed may_guess old.task (machine_of old) w links →
    HasHappened old one (Claimed k w links) mid → HasHappened mid two (Returned k set) new →
    IsIdle old → (releases : List (ℕ × Bool)) → AreReleases old releases →
    HasStepped may_guess old new releases
stepped_by_claim may_guess old mid new one two k w links set next guessed claimed held idle releases
    are = record {
      on = record {
        task = held.task ∙ claimed.task;
        retries = held.retries ∙ claimed.retries;
        more = Claimed k w links ∷ Returned k set ∷ [];
        events = held.events ∙ ap (λ l. l ++ Returned k set ∷ []) claimed.events
            ∙ append_assoc (events_of old) (Claimed k w links ∷ []) (Returned k set ∷ []);
        none_brings = All-cons BringsNoSlot (Claimed k w links) (Returned k set ∷ []) tt
            (All-cons BringsNoSlot (Returned k set) [] tt (All-nil BringsNoSlot));
        guessed = (guessed, (tt, tt));
      };
      some = omega arith;
      idle = record {
        none_runs = subst NoneRunning (sym after)
            (answered_none old.task (machine_of old) k w links set idle.none_runs);
        answered = subst EachAnswered (sym after)
            (claim_answered old.task (machine_of old) k w links set next idle.answered);
      };
      releases_are =
          sym (append-nil releases)
          ∙ releases_more mid new two (Returned k set) held releases
          (sym (append-nil releases)
          ∙ releases_more old mid one (Claimed k w links) claimed releases are);
    }
  where
    after : machine_of new ≡ happens old.task (happens old.task (machine_of old)
        (Claimed k w links)) (Returned k set)
    after =
        machine_now mid new two (Returned k set) held
        ∙ ap (λ task. happens task (machine_of mid) (Returned k set)) claimed.task
        ∙ ap (λ m. happens old.task m (Returned k set))
        (machine_now old mid one (Claimed k w links) claimed)

-- ---- again and again

pub gone_none : (may_guess : GuessView → Bool → Type 0) (c : CoreTable) → HasGoneOn may_guess c c
gone_none may_guess c = record {
  task = refl;
  retries = refl;
  more = [];
  events = sym (append-nil (events_of c));
  none_brings = All-nil BringsNoSlot;
  guessed = tt;
}

pub gone_further : (may_guess : GuessView → Bool → Type 0) (old mid new : CoreTable) →
    HasGoneOn may_guess old mid → HasGoneOn may_guess mid new → HasGoneOn may_guess old new
gone_further may_guess old mid new one two = record {
  task = two.task ∙ one.task;
  retries = two.retries ∙ one.retries;
  more = one.more ++ two.more;
  events = two.events ∙ ap (λ l. l ++ two.more) one.events
      ∙ append_assoc (events_of old) one.more two.more;
  none_brings = All-append BringsNoSlot one.more two.more one.none_brings two.none_brings;
  guessed = guessed_append may_guess old.task (machine_of old) one.more two.more one.guessed
      (subst (λ m. AreGuessedFrom may_guess old.task m two.more) between
      (subst (λ task. AreGuessedFrom may_guess task (machine_of mid) two.more) one.task
      two.guessed));
}
  where
    between : machine_of mid ≡ happen_all old.task (machine_of old) one.more
    between =
        ap (λ task. happen_all task start (events_of mid)) one.task
        ∙ ap (happen_all old.task start) one.events
        ∙ happen_all-append old.task start (events_of old) one.more

-- how many events there is room for
abbrev pub room_left : CoreTable → ℕ
room_left c = most_events c.task c.retries - length (events_of c)

pub less_room : (may_guess : GuessView → Bool → Type 0) (old new : CoreTable)
    (releases : List (ℕ × Bool)) → HasStepped may_guess old new releases → IsState new →
    room_left new < room_left old
less_room may_guess old new releases step state =
    let most = length_law new.task new.retries (events_of new) (laws new state) state.history in
    let long = ap length step.on.events ∙ length-append (events_of old) step.on.more in
    let some = step.some in
    let same : most_events new.task new.retries ≡ most_events old.task old.retries =
    ap (λ task. most_events task new.retries) step.on.task
    ∙ ap (most_events old.task) step.on.retries in
    omega (arith, most, long, some, same)

pub quiet_now : (c : CoreTable) → NoneRuns c → NoTurn c → AllQuiet c
quiet_now c none no_turn = record { none_running = none; no_turn = no_turn }
