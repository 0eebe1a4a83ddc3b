-- What the links of committed windows name.
use Rattle.std.proofs.Common.{◌≡◌, ℕ, ⊎_elim, Bool, List, [], ◌∷◌, refl, sym, ap, subst, arith, Some, None, All}
use Rattle.std.proofs.lemmas.Option.{none-some}
use Rattle.window_model.specs.Decoder.{Task}
use Rattle.window_model.specs.Laws.{PlanLaws}
use Rattle.window_model.specs.Speculation.{Link, Claim, Phase, Waiting, Running, Held, Done, Machine, Event, Arrived, Claimed, Returned, Stale, Verified, Poisoned, Dropped, Committed, Released, pending, done, held_by, start, give_up, happens, happen_all, MayClaim, MayReturn, Compares, MayCommitTicket, IsEnabled, IsHistoryFrom}
use Rattle.window_model.specs.TicketLaws.{IsSound}
use Rattle.window_model.proofs.Updates.{set_other, set_cases, set_part}
use Rattle.window_model.proofs.Soundness.{start_sound, sound_step, verified, verified_is, verified_links, pending_not_done}
use Rattle.window_model.proofs.Claims.{IsBased, all_found, guess_named, based_later, done_stays}
use Rattle.cascade_laws.specs.MirrorLaws.{BasedLaw}

-- each link of a committed window names the ticket of a committed one
record AreBased (m : Machine) : Type 0 where
  based : (w k : ℕ) → m.phase w ≡ Done k → All (IsBased m) (m.claim k).links

running_done : (k j : ℕ) → Running k ≡ Done j → ⊥
running_done k j e = cc

held_done : (k j : ℕ) → Held k ≡ Done j → ⊥
held_done k j e = cc

waiting_done : (j : ℕ) → Waiting ≡ Done j → ⊥
waiting_done j e = cc

done_number : (k j : ℕ) → Done k ≡ Done j → k ≡ j
done_number k j e = cc

based_claimed : (task : Task) (retries : ℕ) (m : Machine) (k x : ℕ) (links : List Link) →
    MayClaim task retries m k x links → IsSound task m → AreBased m →
    AreBased (happens task m (Claimed k x links))
based_claimed task retries m k x links may s g = record {
  based = λ w j e. ⊎_elim (λ here. absurd (running_done k j here.1)) (λ old. before w j old.1)
      (set_cases (λ p. p ≡ Done j) m.phase x (Running k) w e);
}
  where
    n : Machine
    n = happens task m (Claimed k x links)

    before : (w j : ℕ) → m.phase w ≡ Done j → All (IsBased n) (n.claim j).links
    before w j e =
        let c = s.current w j (ap held_by e) in
        subst (All (IsBased n)) (sym (ap (λ (d : Claim). d.links) (set_other m.claim k _ j (λ same.
        let number = may.number in omega (arith, same, number, c.0)))))
        (based_later m n (done_stays m.phase x (Running k) (ap done may.waiting)) (m.claim j).links
        (g.based w j e))

based_returned : (task : Task) (m : Machine) (k : ℕ) (set : List ℕ) → MayReturn task m k set →
    AreBased m → AreBased (happens task m (Returned k set))
based_returned task m k set may g = record {
  based = λ w j e. ⊎_elim (λ here. absurd (held_done k j here.1)) (λ old. before w j old.1)
      (set_cases (λ p. p ≡ Done j) m.phase (m.claim k).window (Held k) w e);
}
  where
    n : Machine
    n = happens task m (Returned k set)

    before : (w j : ℕ) → m.phase w ≡ Done j → All (IsBased n) (n.claim j).links
    before w j e =
        subst (All (IsBased n)) (sym (set_part (λ (c : Claim). c.links) m.claim k _ refl j))
        (based_later m n (done_stays m.phase (m.claim k).window (Held k) (ap done may.running))
        (m.claim j).links (g.based w j e))

based_verified : (task : Task) (m : Machine) (x y : ℕ) (bits : List Bool) (may : Compares task m x y
    bits bits) (s : IsSound task m) → AreBased m → AreBased (verified task m x y bits may s)
unfolding verified
based_verified task m x y bits may s g = record { based = based }
  where
    guessing : (j : ℕ) → j ≡ may.own → All (IsBased m) (m.claim j).links → ⊥
    guessing j same all =
        let b = all_found (IsBased m) x _ (m.claim may.own).links may.guessed
        (subst (λ i. All (IsBased m) (m.claim i).links) same all) in guess_named b.0 b.1

    based : (w j : ℕ) → m.phase w ≡ Done j → All (IsBased (verified task m x y bits may s))
        ((verified task m x y bits may s).claim j).links
    based w j e =
        ⊎_elim (λ here. absurd (guessing j here.0 (g.based w j e))) (λ same.
        subst (All (IsBased (verified task m x y bits may s))) (sym same) (g.based w j e))
        (verified_links task m x y bits may s j)

based_given_up : (m : Machine) (x k : ℕ) → pending (m.phase x) ≡ Some k → AreBased m →
    AreBased (give_up m x)
based_given_up m x k was g = record {
  based = λ w j e.
      ⊎_elim (λ here. absurd (waiting_done j here.1))
      (λ old. based_later m (give_up m x) (done_stays m.phase x Waiting
      (pending_not_done (m.phase x) k was)) (m.claim j).links (g.based w j old.1))
      (set_cases (λ p. p ≡ Done j) m.phase x Waiting w e);
}

based_committed : (task : Task) (m : Machine) (k x : ℕ) → MayCommitTicket task m k x → AreBased m →
    AreBased (happens task m (Committed k x))
based_committed task m k x may g = record {
  based = λ w j e.
      ⊎_elim (λ here. subst (λ i. All (IsBased n) (m.claim i).links) (done_number k j here.1)
      (later (m.claim k).links may.based)) (λ old. later (m.claim j).links (g.based w j old.1))
      (set_cases (λ p. p ≡ Done j) m.phase x (Done k) w e);
}
  where
    n : Machine
    n = happens task m (Committed k x)

    later : (links : List Link) → All (IsBased m) links → All (IsBased n) links
    later links all = based_later m n (done_stays m.phase x (Done k) (ap done may.held)) links all

based_step : (task : Task) (retries : ℕ) (m : Machine) (event : Event) → IsSound task m →
    IsEnabled task retries m event → AreBased m → AreBased (happens task m event)
based_step task retries m (Arrived t values raws) s may g = record { based = g.based }
based_step task retries m (Claimed k x links) s may g =
    based_claimed task retries m k x links may s g
based_step task retries m (Returned k set) s may g = based_returned task m k set may g
based_step task retries m (Stale k) s may g = record {
  based = λ w j e. subst (All (IsBased (happens task m (Stale k))))
      (sym (set_part (λ (c : Claim). c.links) m.claim k _ refl j)) (g.based w j e);
}
based_step task retries m (Verified x y) s may g = subst AreBased
    (sym (verified_is task m x y may.0 may.1 s)) (based_verified task m x y may.0 may.1 s g)
based_step task retries m (Poisoned x y) s may g = based_given_up m y may.2.own may.2.is_pending g
based_step task retries m (Dropped y) s may g = based_given_up m y may.own may.is_pending g
based_step task retries m (Committed k x) s may g = based_committed task m k x may g
based_step task retries m (Released op bit) s may g = record { based = g.based }

based_all : (task : Task) (retries : ℕ) → PlanLaws task.graph task.tags task.plan →
    (m : Machine) (events : List Event) → IsSound task m → AreBased m →
    IsHistoryFrom task retries m events → AreBased (happen_all task m events)
based_all task retries laws m [] s g h = g
based_all task retries laws m (event ∷ events) s g h =
    based_all task retries laws (happens task m event) events
    (sound_step task retries laws m event s h.0) (based_step task retries m event s h.0 g) h.1

pub based_law : BasedLaw
based_law task retries events w k laws h e = (based_all task retries laws start events
    (start_sound task) (record { based = λ x j d. absurd (waiting_done j d) }) h).based w k e
