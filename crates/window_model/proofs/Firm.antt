-- A claim whose dependencies were all done is never given up.
use Rattle.std.proofs.Common.{◌≡◌, ℕ, ◌||◌, ⊎_elim, Bool, false, List, [], ◌∷◌, refl, sym, ap, ◌∙◌, subst, arith, Some, None, All}
use Rattle.std.specs.List.{list_any}
use Rattle.std.proofs.lemmas.Bool.{ne_eqb}
use Rattle.std.proofs.lemmas.Option.{same_Some, none-some}
use Rattle.window_model.specs.Decoder.{Task}
use Rattle.window_model.specs.Laws.{PlanLaws}
use Rattle.window_model.specs.Speculation.{Link, Claim, Phase, Waiting, Running, Held, Done, Machine, Event, Arrived, Claimed, Returned, Stale, Verified, Poisoned, Dropped, Committed, Released, pending, done, start, give_up, happens, happen_all, MayClaim, MayReturn, Compares, MayCommitTicket, IsEnabled, IsHistoryFrom}
use Rattle.window_model.specs.TicketLaws.{IsSound, gives_up, FirmLaw}
use Rattle.window_model.proofs.Updates.{set_same, set_other, set_cases, set_part}
use Rattle.window_model.proofs.Soundness.{sound_all, sound_step, start_sound, pending_held, verified, verified_is, verified_links}
use Rattle.window_model.proofs.Histories.{history_front, history_back}
use Rattle.window_model.proofs.Claims.{IsBased, all_found, guess_named, based_later, done_stays, compared_unbased, orphan_unbased, claim_based}

-- the window has a ticket, and while that may still be given up, each of its links names the ticket
-- of a done window
record IsFirm (m : Machine) (w : ℕ) : Type 0 where
  taken : m.phase w ≡ Waiting → ⊥
  based : (j : ℕ) → pending (m.phase w) ≡ Some j → All (IsBased m) (m.claim j).links

runs : (k : ℕ) → Running k ≡ Waiting → ⊥
runs k e = cc

holds : (k : ℕ) → Held k ≡ Waiting → ⊥
holds k e = cc

finished : (k : ℕ) → Done k ≡ Waiting → ⊥
finished k e = cc

-- ---- each event

firm_claimed : (task : Task) (retries : ℕ) (m : Machine) (k x : ℕ) (links : List Link) →
    MayClaim task retries m k x links → IsSound task m → (w : ℕ) → IsFirm m w →
    IsFirm (happens task m (Claimed k x links)) w
firm_claimed task retries m k x links may s w firm =
    record { taken = λ e. firm.taken (sym other ∙ e); based = based }
  where
    n : Machine
    n = happens task m (Claimed k x links)

    other : n.phase w ≡ m.phase w
    other = set_other m.phase x (Running k) w (λ same. firm.taken (ap m.phase same ∙ may.waiting))

    based : (j : ℕ) → pending (n.phase w) ≡ Some j → All (IsBased n) (n.claim j).links
    based j e =
        let old : pending (m.phase w) ≡ Some j = ap pending (sym other) ∙ e in
        let c = s.current w j (pending_held (m.phase w) j old) in
        subst (All (IsBased n)) (sym (ap (λ (d : Claim). d.links) (set_other m.claim k _ j (λ same.
        let number = may.number in omega (arith, same, number, c.0)))))
        (based_later m n (done_stays m.phase x (Running k) (ap done may.waiting)) (m.claim j).links
        (firm.based j old))

firm_returned : (task : Task) (m : Machine) (k : ℕ) (set : List ℕ) → MayReturn task m k set →
    (w : ℕ) → IsFirm m w → IsFirm (happens task m (Returned k set)) w
firm_returned task m k set may w firm = record { taken = taken; based = based }
  where
    n : Machine
    n = happens task m (Returned k set)

    taken : n.phase w ≡ Waiting → ⊥
    taken e = ⊎_elim (λ here. holds k here.1) (λ old. firm.taken old.1)
        (set_cases (λ p. p ≡ Waiting) m.phase (m.claim k).window (Held k) w e)

    before : (j : ℕ) → pending (n.phase w) ≡ Some j → pending (m.phase w) ≡ Some j
    before j e =
        ⊎_elim (λ here. ap (λ y. pending (m.phase y)) here.0 ∙ ap pending may.running
        ∙ here.1) (λ old. old.1)
        (set_cases (λ p. pending p ≡ Some j) m.phase (m.claim k).window (Held k) w e)

    based : (j : ℕ) → pending (n.phase w) ≡ Some j → All (IsBased n) (n.claim j).links
    based j e =
        subst (All (IsBased n)) (sym (set_part (λ (c : Claim). c.links) m.claim k _ refl j))
        (based_later m n (done_stays m.phase (m.claim k).window (Held k) (ap done may.running))
        (m.claim j).links (firm.based j (before j e)))

firm_verified : (task : Task) (m : Machine) (x y : ℕ) (bits : List Bool) (may : Compares task m x y
    bits bits) (s : IsSound task m) (w : ℕ) → IsFirm m w → IsFirm (verified task m x y bits may s) w
unfolding verified
firm_verified task m x y bits may s w firm = record { taken = firm.taken; based = based }
  where
    guessing : (j : ℕ) → j ≡ may.own → All (IsBased m) (m.claim j).links → ⊥
    guessing j same based =
        let b = all_found (IsBased m) x _ (m.claim may.own).links may.guessed
        (subst (λ i. All (IsBased m) (m.claim i).links) same based) in guess_named b.0 b.1

    based : (j : ℕ) → pending (m.phase w) ≡ Some j → All (IsBased (verified task m x y bits may s))
        ((verified task m x y bits may s).claim j).links
    based j e =
        ⊎_elim (λ here. absurd (guessing j here.0 (firm.based j e))) (λ same.
        subst (All (IsBased (verified task m x y bits may s))) (sym same) (firm.based j e))
        (verified_links task m x y bits may s j)

-- another window is given up
firm_given_up : (m : Machine) (x k : ℕ) → pending (m.phase x) ≡ Some k → (w : ℕ) → (w ≡ x → ⊥) →
    IsFirm m w → IsFirm (give_up m x) w
firm_given_up m x k was w ne firm = record {
  taken = λ e. firm.taken (sym other ∙ e);
  based = λ j e. based_later m (give_up m x) (done_stays m.phase x Waiting (open_ (m.phase x) was))
      (m.claim j).links (firm.based j (ap pending (sym other) ∙ e));
}
  where
    other : (give_up m x).phase w ≡ m.phase w
    other = set_other m.phase x Waiting w ne

    open_ : (p : Phase) → pending p ≡ Some k → done p ≡ None
    open_ Waiting e = refl
    open_ (Running j) e = refl
    open_ (Held j) e = refl
    open_ (Done j) e = absurd (none-some k e)

firm_committed : (task : Task) (m : Machine) (k x : ℕ) → MayCommitTicket task m k x → (w : ℕ) →
    IsFirm m w → IsFirm (happens task m (Committed k x)) w
firm_committed task m k x may w firm = record {
  taken = λ e. ⊎_elim (λ here. finished k here.1) (λ old. firm.taken old.1)
      (set_cases (λ p. p ≡ Waiting) m.phase x (Done k) w e);
  based = λ j e.
      ⊎_elim (λ here. absurd (none-some j here.1))
      (λ old. based_later m (happens task m (Committed k x))
      (done_stays m.phase x (Done k) (ap done may.held)) (m.claim j).links (firm.based j old.1))
      (set_cases (λ p. pending p ≡ Some j) m.phase x (Done k) w e);
}

abbrev StaysFirm : Task → Machine → Event → ℕ → Type 0
StaysFirm task m event w = (gives_up w event ≡ false) × IsFirm (happens task m event) w

firm_compared : (task : Task) (m : Machine) (x y : ℕ) (guess flips : List Bool) →
    Compares task m x y guess flips → (w : ℕ) → IsFirm m w → w ≡ y → ⊥
firm_compared task m x y guess flips may w firm same =
    compared_unbased task m x y guess flips may may.own may.is_pending
    (firm.based may.own (ap (λ z. pending (m.phase z)) same ∙ may.is_pending))

firm_step : (task : Task) (retries : ℕ) (m : Machine) (event : Event) → IsSound task m →
    IsEnabled task retries m event → (w : ℕ) → IsFirm m w → StaysFirm task m event w
firm_step task retries m (Arrived t values raws) s may w firm =
    (refl, record { taken = firm.taken; based = firm.based })
firm_step task retries m (Claimed k x links) s may w firm =
    (refl, firm_claimed task retries m k x links may s w firm)
firm_step task retries m (Returned k set) s may w firm =
    (refl, firm_returned task m k set may w firm)
firm_step task retries m (Stale k) s may w firm = (
  refl,
  record {
    taken = firm.taken;
    based = λ j e. subst (All (IsBased (happens task m (Stale k))))
        (sym (set_part (λ (c : Claim). c.links) m.claim k _ refl j)) (firm.based j e);
  },
)
firm_step task retries m (Verified x y) s may w firm = (
  refl,
  subst (λ n. IsFirm n w) (sym (verified_is task m x y may.0 may.1 s))
      (firm_verified task m x y may.0 may.1 s w firm),
)
firm_step task retries m (Poisoned x y) s may w firm =
    let ne = firm_compared task m x y may.0 may.1 may.2 w firm in
    (ne_eqb y w (λ e. ne (sym e)), firm_given_up m y may.2.own may.2.is_pending w ne firm)
firm_step task retries m (Dropped y) s may w firm =
    (ne_eqb y w (λ e. ne (sym e)), firm_given_up m y may.own may.is_pending w ne firm)
  where
    ne : w ≡ y → ⊥
    ne same = orphan_unbased m y may may.own may.is_pending
        (firm.based may.own (ap (λ z. pending (m.phase z)) same ∙ may.is_pending))
firm_step task retries m (Committed k x) s may w firm = (refl, firm_committed task m k x may w firm)
firm_step task retries m (Released op bit) s may w firm =
    (refl, record { taken = firm.taken; based = firm.based })

firm_all : (task : Task) (retries : ℕ) → PlanLaws task.graph task.tags task.plan →
    (m : Machine) (events : List Event) (w : ℕ) → IsSound task m → IsFirm m w →
    IsHistoryFrom task retries m events → list_any (gives_up w) events ≡ false
firm_all task retries laws m [] w s firm h = refl
firm_all task retries laws m (event ∷ events) w s firm h =
    let one = firm_step task retries m event s h.0 w firm in
    ap (λ b. b || list_any (gives_up w) events) one.0 ∙ firm_all task retries laws
    (happens task m event) events w (sound_step task retries laws m event s h.0) one.1 h.1

pub firm_law : FirmLaw
firm_law task retries before later k w links laws h all_done =
    firm_all task retries laws (happens task m (Claimed k w links)) later w
    (sound_step task retries laws m (Claimed k w links) sound rest.0)
    (record { taken = λ e. runs k (sym (set_same m.phase w (Running k)) ∙ e); based = based })
    rest.1
  where
    m : Machine
    m = happen_all task start before

    sound : IsSound task m
    sound = sound_all task retries laws start before (start_sound task)
        (history_front task retries start before (Claimed k w links ∷ later) h)

    rest : IsHistoryFrom task retries m (Claimed k w links ∷ later)
    rest = history_back task retries start before (Claimed k w links ∷ later) h

    based : (j : ℕ) → pending ((happens task m (Claimed k w links)).phase w) ≡ Some j → All (IsBased
        (happens task m (Claimed k w links))) ((happens task m (Claimed k w links)).claim j).links
    based j e =
        let same : k ≡ j = same_Some k j (sym (ap pending (set_same m.phase w (Running k))) ∙ e) in
        let at : ((happens task m (Claimed k w links)).claim j).links ≡ links =
        ap (λ i. ((happens task m (Claimed k w links)).claim i).links) (sym same)
        ∙ ap (λ (c : Claim). c.links) (set_same m.claim k (record {
          window = w;
          links = links;
          result = None;
          closed = false;
        })) in
        subst (All (IsBased (happens task m (Claimed k w links)))) (sym at)
        (claim_based task retries m k w links rest.0 all_done)
