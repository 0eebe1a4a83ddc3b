-- A core after one more event.
use Rattle.std.proofs.Common.{◌≡◌, ℕ, ◌+◌, ◌-◌, ◌<◌, ◌≤◌, false, true, Bool, List, [], ◌∷◌, ◌++◌, refl, sym, ap, ◌∙◌, subst, length, arith, count_by}
use Rattle.window_model.specs.Decoder.{Task}
use Rattle.window_model.specs.Speculation.{Event, Arrived, Claimed, Returned, Stale, Verified, Poisoned, Dropped, Committed, Released, IsEnabled, IsFirstTurn, IsOrderedFrom, IsTurn, Machine, start, turn_key}
use Rattle.window_model.specs.TurnLaws.{NoClaim, NoCommit, NoComparison, NoDrop, NoRelease}
use Rattle.window_model.specs.SpeculationLaws.{is_claim_of}
use Rattle.window_model.specs.Windows.{window_count}
use Rattle.window_model.proofs.FirstTurns.{one_more_law}
use Rattle.cascade_laws.proofs.Entries.{claims_more, tally}
use Rattle.core_journal.specs.declared.event.Event.{Event as Entry}
use Rattle.core_journal.specs.Entries.{history_of}
use Rattle.core_state.specs.States.{CoreTable, HasHappened, IsBegun, MayHappen, events_of, machine_of}
use Rattle.claim_drafts.specs.Drafts.{AreDrafts, AreSheets, Draft}
use Rattle.window_core.specs.Cores.{HasTurned, IsEquipped, IsNext, claims_left}

-- where as many are left, the drafts are the same
pub drafts_stay : (task : Task) (left rest : ℕ → ℕ) (drafts : List (List Draft)) →
    ((w : ℕ) → left w ≡ rest w) → AreDrafts task left drafts → AreDrafts task rest drafts
drafts_stay task left rest drafts same h = record {
  each_window = h.each_window;
  left_are = λ w l. h.left_are w l ∙ same w;
  fit = h.fit;
}

module _ (old new : CoreTable) (entry_ : Entry) (event : Event)
    (went : HasHappened old entry_ event new) where
  pub ordered : IsOrderedFrom old.task old.retries start (events_of old) → MayHappen old event →
      (IsTurn event → IsFirstTurn old.task old.retries (machine_of old) event) →
      IsOrderedFrom new.task new.retries start (events_of new)
  ordered h may first =
      subst (λ (t : Task). IsOrderedFrom t new.retries start (events_of new)) (sym went.task)
      (subst (λ r. IsOrderedFrom old.task r start (events_of new)) (sym went.retries)
      (subst (λ es. IsOrderedFrom old.task old.retries start es) (sym went.events)
      (one_more_law old.task old.retries (events_of old) event h may first)))

  pub left : (w : ℕ) → claims_left new w
      ≡ (old.retries + 1) - (count_by (is_claim_of w) (events_of old) + tally (is_claim_of w event))
  left w =
      ap (λ r. (r + 1) - count_by (is_claim_of w) (events_of new)) went.retries
      ∙ ap (λ n. (old.retries + 1) - n) (ap (count_by (is_claim_of w)) went.events
      ∙ claims_more w (events_of old) event)

  -- an event that is no claim leaves the drafts and the sheets as they are
  pub stays : (drafts : List (List Draft)) (sheets : List (List Bool)) →
      IsEquipped old drafts sheets → MayHappen old event →
      (IsTurn event → IsFirstTurn old.task old.retries (machine_of old) event) →
      ((w : ℕ) → is_claim_of w event ≡ false) → IsEquipped new drafts sheets
  stays drafts sheets h may first no_claim = record {
    ordered = ordered h.ordered may first;
    drafts_are =
        subst (λ (t : Task). AreDrafts t (claims_left new) drafts) (sym went.task)
        (drafts_stay old.task (claims_left old) (claims_left new) drafts
        (λ w. sym (left w ∙ same w)) h.drafts_are);
    sheets_are = subst (λ (t : Task). AreSheets t sheets) (sym went.task) h.sheets_are;
  }
    where
      same : (w : ℕ) →
          (old.retries + 1) - (count_by (is_claim_of w) (events_of old)
          + tally (is_claim_of w event)) ≡ claims_left old w
      same w =
          ap (λ b. (old.retries + 1) - (count_by (is_claim_of w) (events_of old) + tally b))
          (no_claim w) ∙ ap (λ n. (old.retries + 1) - n) (omega arith)

-- a turn that is no claim, where the core is seen from outside
pub turned : (seen old new : CoreTable) (drafts : List (List Draft)) (sheets : List (List Bool))
    (entry_ : Entry) (event : Event) → seen ≡ old → IsEquipped seen drafts sheets →
    IsNext old event → ((w : ℕ) → is_claim_of w event ≡ false) →
    HasHappened seen entry_ event new →
    IsEquipped new drafts sheets × HasTurned old entry_ event new
turned seen old new drafts sheets entry_ event e h next none went =
    let here : IsNext seen event = subst (λ (t : CoreTable). IsNext t event) (sym e) next in (
      stays seen new entry_ event went drafts sheets h here.may (λ _. here.first) none,
      record {
        next = next;
        happened = subst (λ (t : CoreTable). HasHappened t entry_ event new) e went;
      },
    )

-- an event that is no turn and no claim, likewise
pub moved : (seen old new : CoreTable) (drafts : List (List Draft)) (sheets : List (List Bool))
    (entry_ : Entry) (event : Event) → seen ≡ old → IsEquipped seen drafts sheets →
    MayHappen seen event → turn_key event ≡ [] → ((w : ℕ) → is_claim_of w event ≡ false) →
    HasHappened seen entry_ event new →
    IsEquipped new drafts sheets × HasHappened old entry_ event new
moved seen old new drafts sheets entry_ event e h may plain none went = (
  stays seen new entry_ event went drafts sheets h may (λ turn. absurd (turn plain)) none,
  subst (λ (t : CoreTable). HasHappened t entry_ event new) e went,
)

-- the next turn, from outside
pub next_is : (seen old : CoreTable) (event : Event) → seen ≡ old → IsNext old event →
    IsNext seen event
next_is seen old event e next = subst (λ (t : CoreTable). IsNext t event) (sym e) next

-- before anything has happened
pub begun : (task : Task) (retries : ℕ) (c : CoreTable) (drafts : List (List Draft))
    (sheets : List (List Bool)) → IsBegun task retries c →
    AreDrafts task (λ w. retries + 1) drafts →
    AreSheets task sheets → IsEquipped c drafts sheets
begun task retries c drafts sheets is are_drafts are_sheets = record {
  ordered = subst (λ es. IsOrderedFrom c.task c.retries start es) (sym none) tt;
  drafts_are = subst (λ (t : Task). AreDrafts t (claims_left c) drafts) (sym is.task_is)
      (drafts_stay task (λ w. retries + 1) (claims_left c) drafts all are_drafts);
  sheets_are = subst (λ (t : Task). AreSheets t sheets) (sym is.task_is) are_sheets;
}
  where
    none : events_of c ≡ []
    none = ap (history_of c.task c.kept) is.journal

    all : (w : ℕ) → retries + 1 ≡ claims_left c w
    all w =
        let same : retries + 1 ≡ (retries + 1) - 0 = omega arith in
        same ∙ ap (λ r. (r + 1) - 0) (sym is.retries_are)
        ∙ ap (λ es. (c.retries + 1) - count_by (is_claim_of w) es) (sym none)

-- where no turn of any kind can be made, none can
pub none_left : (task : Task) (retries : ℕ) (m : Machine) → NoDrop m → NoComparison task m →
    NoCommit task m → NoRelease task m → NoClaim task retries m → (event : Event) → IsTurn event →
    ¬ IsEnabled task retries m event
none_left task retries m drop compare commit release claim (Arrived t values raws) turn may =
    turn refl
none_left task retries m drop compare commit release claim (Claimed k w links) turn may =
    claim w (k, links, may)
none_left task retries m drop compare commit release claim (Returned k set) turn may = turn refl
none_left task retries m drop compare commit release claim (Stale k) turn may = turn refl
none_left task retries m drop compare commit release claim (Verified x w) turn may =
    compare x w (may.0, may.0, may.1)
none_left task retries m drop compare commit release claim (Poisoned x w) turn may =
    compare x w (may.0, may.1, may.2)
none_left task retries m drop compare commit release claim (Dropped w) turn may = drop w may
none_left task retries m drop compare commit release claim (Committed k w) turn may =
    commit w (k, may)
none_left task retries m drop compare commit release claim (Released op bit) turn may =
    release op (bit, may)
