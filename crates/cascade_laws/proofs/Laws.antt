-- The laws, for the book of a history.
use Rattle.std.proofs.Common.{◌≡◌, ℕ, ◌+◌, ◌<◌, ◌==◌, List, [], ◌∷◌, ◌++◌, refl, sym, ap, ◌∙◌, subst, length, get_or, arith, Some, count_by, eq-eqb}
use Rattle.std.proofs.lemmas.List.{get_or-map, length-map}
use Rattle.std.proofs.lemmas.List.FromFn.{get_or-map-range_with_len, length-map-range_with_len}
use Rattle.window_model.specs.Decoder.{Task}
use Rattle.window_model.specs.Laws.{PlanLaws}
use Rattle.window_model.specs.Windows.{window_at, window_count}
use Rattle.window_model.specs.Speculation.{Claim, Done, Event, Arrived, Claimed, Returned, Stale, Verified, Poisoned, Dropped, Committed, Released, held_by, start, give_up, happens, IsHistory}
use Rattle.window_model.specs.SpeculationLaws.{is_claim_of}
use Rattle.window_model.specs.TicketLaws.{IsSound}
use Rattle.window_model.proofs.Updates.{set_part}
use Rattle.window_model.proofs.Soundness.{sound_law, verified_is}
use Rattle.window_model.proofs.Tickets.{covered_law}
use Rattle.window_model.proofs.Claims.{claim_law}
use Rattle.window_model.proofs.Histories.{history_push}
use Rattle.poison_cascade.specs.Books.{WindowEntry, fresh, opened, entry_at, confirmed, vanished}
use Rattle.cascade_laws.specs.Mirror.{Mirrors, live_of}
use Rattle.cascade_laws.specs.MirrorLaws.{reached, OpenedLaw, ClaimedLaw, ReturnedLaw, VerifiedLaw, GivenUpLaw, LeftLaw, OrphanLaw, ComparedLaw}
use Rattle.cascade_laws.proofs.Committed.{based_law}
use Rattle.cascade_laws.proofs.Entries.{tally, claims_more, follows, same_book, live_same}
use Rattle.cascade_laws.proofs.Events.{may_take, after_claim, return_within, runs_still, after_return, pending_within, is_live, after_give_up, after_verify}
use Rattle.cascade_laws.proofs.Scans.{orphan_to, orphan_from, compare_to, compare_from}

-- ---- the beginning

pub opened_law : OpenedLaw
opened_law task retries lists e = record {
  each_window = length-map lists fresh ∙ many;
  retries_are = refl;
  numbered = refl;
  deps = λ w l. ap (λ (x : WindowEntry). x.deps) (entry w l) ∙ ap (λ ls. get_or ls w []) e
      ∙ get_or-map-range_with_len (λ x. (window_at task.plan x).deps) 0 (window_count task.plan) w w
      [] l (omega arith);
  live = λ w l. ap (λ (x : WindowEntry). x.live) (entry w l);
  claimed = λ w l. ap (λ (x : WindowEntry). x.taken) (entry w l);
}
  where
    many : length lists ≡ window_count task.plan
    many = ap length e
        ∙ length-map-range_with_len (λ x. (window_at task.plan x).deps) 0 (window_count task.plan)

    entry : (w : ℕ) → w < window_count task.plan → entry_at (opened lists retries) w
        ≡ fresh (get_or lists w [])
    entry w l = get_or-map fresh lists w [] _ (omega (arith, l, many))

-- ---- what holds of a history

module _ (task : Task) (retries : ℕ) (events : List Event)
    (laws : PlanLaws task.graph task.tags task.plan) (h : IsHistory task retries events) where
  pub sound : IsSound task (reached task events)
  sound = sound_law task retries events laws h

  -- only windows of the plan have tickets
  pub inside : (w k : ℕ) → held_by ((reached task events).phase w) ≡ Some k →
      w < window_count task.plan
  inside w k e =
      let c = sound.current w k e in
      subst (λ y. y < window_count task.plan) c.1 (covered_law task retries events k laws h
      c.0).in_range

abbrev pub claims_of : List Event → ℕ → ℕ
claims_of events w = count_by (is_claim_of w) events

-- ---- events

pub claimed_law : ClaimedLaw
claimed_law task retries events book k w links laws h is may = (
  may_take task retries (reached task events) (claims_of events) book
      (sound task retries events laws h) (inside task retries events laws h) is k w links may few,
  follows task retries events (Claimed k w links) _ (after_claim task retries (reached task events)
      (claims_of events) book (sound task retries events laws h) (inside task retries events laws h)
      is k w links may),
)
  where
    few : claims_of events w < retries + 1
    few =
        let bound = claim_law task retries (events ++ Claimed k w links ∷ []) w laws
        (history_push task retries start events (Claimed k w links) h may) in
        let more = claims_more w events (Claimed k w links) in
        let one : tally (w == w) ≡ 1 = ap tally (eq-eqb w w refl) in
        omega (arith, bound, more, one)

pub returned_law : ReturnedLaw
returned_law task retries events book k set laws h is may = (
  (let same = is.each_window in let l = return_within task retries (reached task events)
      (claims_of events) book (sound task retries events laws h) (inside task retries events laws h)
      is k set may in omega (arith, same, l)),
  runs_still task retries (reached task events) (claims_of events) book
      (sound task retries events laws h) (inside task retries events laws h) is k set may,
  follows task retries events (Returned k set) _ (after_return task retries (reached task events)
      (claims_of events) book (sound task retries events laws h) (inside task retries events laws h)
      is k set may),
)

pub verified_law : VerifiedLaw
verified_law task retries events book x w laws h is may =
    follows task retries events (Verified x w) _
    (subst (λ n. Mirrors task retries n (λ y. claims_of events y + 0) (confirmed book x w)) (sym
    (verified_is task (reached task events) x w may.0 may.1 (sound task retries events laws h)))
    (after_verify task retries (reached task events) (claims_of events) book
    (sound task retries events laws h) (inside task retries events laws h) is x w may.0 may.1))

pub given_up_law : GivenUpLaw
given_up_law task retries events book w k laws h is was = (
  (let same = is.each_window in let l = pending_within task retries (reached task events)
      (claims_of events) book (sound task retries events laws h) (inside task retries events laws h)
      is w k was in omega (arith, same, l)),
  is_live task retries (reached task events) (claims_of events) book
      (sound task retries events laws h) (inside task retries events laws h) is w k was,
  follows task retries events (Dropped w) _ gone,
  λ x. follows task retries events (Poisoned x w) _ gone,
)
  where
    gone : Mirrors task retries (give_up (reached task events) w) (λ y. claims_of events y + 0)
        (vanished book w)
    gone = after_give_up task retries (reached task events) (claims_of events) book
        (sound task retries events laws h) (inside task retries events laws h) is w k was

pub left_law : LeftLaw
left_law task retries events book (Arrived t values raws) is may left =
    follows task retries events (Arrived t values raws) book
    (same_book task retries (reached task events) _ (claims_of events) (λ y. claims_of events y
    + 0) book is refl (λ y. refl) (λ y. omega arith))
left_law task retries events book (Stale k) is may left =
    follows task retries events (Stale k) book
    (same_book task retries (reached task events) (happens task (reached task events) (Stale k))
    (claims_of events) (λ y. claims_of events y + 0) book is refl
    (λ y. live_same (reached task events).claim
    (happens task (reached task events) (Stale k)).claim ((reached task events).phase y) (λ j e.
    set_part (λ (c : Claim). c.links) (reached task events).claim k _ refl j))
    (λ y. omega arith))
left_law task retries events book (Committed k w) is may left =
    follows task retries events (Committed k w) book
    (same_book task retries (reached task events) (happens task (reached task events)
    (Committed k w)) (claims_of events) (λ y. claims_of events y + 0) book is refl
    (λ y. set_part (live_of (reached task events).claim) (reached task events).phase w (Done k)
    (sym (ap (live_of (reached task events).claim) may.held)) y)
    (λ y. omega arith))
left_law task retries events book (Released op bit) is may left =
    follows task retries events (Released op bit) book (same_book task retries (reached task events)
    _ (claims_of events) (λ y. claims_of events y + 0) book is refl (λ y. refl) (λ y.
    omega arith))
left_law task retries events book (Claimed k w links) is may left = absurd left
left_law task retries events book (Returned k set) is may left = absurd left
left_law task retries events book (Verified x w) is may left = absurd left
left_law task retries events book (Poisoned x w) is may left = absurd left
left_law task retries events book (Dropped w) is may left = absurd left

-- ---- scans

pub orphan_law : OrphanLaw
orphan_law task retries events book w laws h is = (
  orphan_to task retries laws (reached task events) (claims_of events)
      book (sound task retries events laws h) (inside task retries events laws h) is (λ y k e.
      based_law task retries events y k laws h e) w,
  orphan_from task retries laws (reached task events) (claims_of events) book
      (sound task retries events laws h) (inside task retries events laws h) is (λ y k e.
      based_law task retries events y k laws h e) w,
)

pub compared_law : ComparedLaw
compared_law task retries events book w x laws h is = (
  compare_to task retries laws (reached task events) (claims_of events) book
      (sound task retries events laws h) (inside task retries events laws h) is (λ y k e.
      based_law task retries events y k laws h e) w x,
  compare_from task retries laws (reached task events) (claims_of events) book
      (sound task retries events laws h) (inside task retries events laws h) is (λ y k e.
      based_law task retries events y k laws h e) w x,
)
