-- The first turn, by kinds and numbers; and ordered histories.
use Rattle.std.proofs.Common.{◌≡◌, ℕ, ◌<◌, ◌≤◌, ◌⊎◌, ⊎_elim, inl, inr, List, [], ◌∷◌, ◌++◌, refl, sym, ap, ◌∙◌, arith}
use Rattle.std.proofs.lemmas.Bool.{cases_eq, cases_lt, false≢true}
use Rattle.std.specs.Ordering.{nat_cmp, ordering_then, is_lt}
use Rattle.std.specs.Cmp.{nat_cmp_is}
use Rattle.std.specs.Cmp.Lexicographic.{slice_cmp}
use Rattle.std.specs.declared.cmp.Ordering.{Ordering}
use Rattle.std.specs.declared.cmp.Ordering.TheVariants.{Less, Equal, Greater}
use Rattle.window_model.specs.Decoder.{Task}
use Rattle.window_model.specs.Speculation.{Machine, Event, Arrived, Claimed, Returned, Stale, Verified, Poisoned, Dropped, Committed, Released, start, happens, happen_all, IsOrphan, turn_key, IsTurn, IsEnabled, IsFirstTurn, IsHistoryFrom, IsOrderedFrom}
use Rattle.window_model.specs.TurnLaws.{CanCompare, CanCommit, CanRelease, CanClaim, NoDrop, NoComparison, NoCommit, NoRelease, NoClaim, NoComparisonBefore, NoneBefore, FirstTurnLaw, IdleLaw, OrderedLaw, OneMoreLaw}

-- ---- keys

first_less : (a b : ℕ) (rest : Ordering) → ordering_then (nat_cmp a b) rest ≡ Less →
    (a < b) ⊎ ((a ≡ b) × (rest ≡ Less))
first_less a b rest e =
    ⊎_elim inl
    (λ (high : b ≤ a). ⊎_elim
    (λ same. inr (same, ap (λ o. ordering_then o rest) (nat_cmp_is a b Equal same) ∙ e))
    (λ ne. absurd (false≢true (ap (λ o. is_lt (ordering_then o rest))
    (nat_cmp_is a b Greater (omega (arith, high, ne))) ∙ ap is_lt e)))
    (cases_eq a b))
    (cases_lt a b)

-- three numbers before three others
record Before (a b c d e f : ℕ) : Type 0 where
  order : (a < d) ⊎ ((a ≡ d) × ((b < e) ⊎ ((b ≡ e) × (c < f))))

no_less : slice_cmp nat_cmp [] [] ≡ Less → ⊥
no_less e = false≢true (ap is_lt e)

key_less : (a b c d e f : ℕ) → slice_cmp nat_cmp (a ∷ b ∷ c ∷ []) (d ∷ e ∷ f ∷ []) ≡ Less →
    Before a b c d e f
key_less a b c d e f less =
    record {
      order = ⊎_elim inl
          (λ one. inr (
            one.0,
            ⊎_elim inl
                (λ two. inr (
                  two.0,
                  ⊎_elim (λ l. l) (λ three. absurd (no_less three.1))
                      (first_less c f (slice_cmp nat_cmp [] []) two.1),
                ))
                (first_less b e (slice_cmp nat_cmp (c ∷ []) (f ∷ [])) one.1),
          ))
          (first_less a d (slice_cmp nat_cmp (b ∷ c ∷ []) (e ∷ f ∷ [])) less);
    }

same_kind : (k b c e f : ℕ) → Before k b c k e f → (b < e) ⊎ ((b ≡ e) × (c < f))
same_kind k b c e f before = ⊎_elim (λ l. absurd (omega (arith, l))) (λ same. same.1) before.order

lesser : (k b e : ℕ) → Before k b 0 k e 0 → b < e
lesser k b e before = ⊎_elim (λ l. l) (λ same. let l = same.1 in
    absurd (omega (arith, l))) (same_kind k b 0 e 0 before)

late : (a b c d e f : ℕ) → d < a → Before a b c d e f → ⊥
late a b c d e f higher before = ⊎_elim (λ l. omega (arith, l, higher)) (λ same. let s = same.0 in
    omega (arith, s, higher)) before.order

-- ---- the first turn

module _ (task : Task) (retries : ℕ) (m : Machine) where
  -- none of the turns before this key is enabled
  record NoneBelow (d e f : ℕ) : Type 0 where
    drop : (y : ℕ) → Before 1 y 0 d e f → IsOrphan m y → ⊥
    compare : (z y : ℕ) → Before 2 y z d e f → CanCompare task m z y → ⊥
    commit : (y : ℕ) → Before 3 y 0 d e f → CanCommit task m y → ⊥
    release : (o : ℕ) → Before 4 o 0 d e f → CanRelease task m o → ⊥
    claim : (y : ℕ) → Before 5 y 0 d e f → CanClaim task retries m y → ⊥

  by_key : (event : Event) (d e f : ℕ) → turn_key event ≡ d ∷ e ∷ f ∷ [] → NoneBelow d e f →
      IsFirstTurn task retries m event
  by_key event d e f key none_ other turn enabled before =
      by_kind other turn enabled (sym (ap (slice_cmp nat_cmp (turn_key other)) key) ∙ before)
    where
      by_kind : (other : Event) → IsTurn other → IsEnabled task retries m other →
          slice_cmp nat_cmp (turn_key other) (d ∷ e ∷ f ∷ []) ≡ Less → ⊥
      by_kind (Arrived t values raws) turn enabled less = turn refl
      by_kind (Claimed k y links) turn enabled less = none_.claim y (key_less 5 y 0 d e f less) (
        k,
        links,
        enabled,
      )
      by_kind (Returned k set) turn enabled less = turn refl
      by_kind (Stale k) turn enabled less = turn refl
      by_kind (Verified z y) turn enabled less =
          none_.compare z y (key_less 2 y z d e f less) (enabled.0, enabled.0, enabled.1)
      by_kind (Poisoned z y) turn enabled less =
          none_.compare z y (key_less 2 y z d e f less) (enabled.0, enabled.1, enabled.2)
      by_kind (Dropped y) turn enabled less = none_.drop y (key_less 1 y 0 d e f less) enabled
      by_kind (Committed k y) turn enabled less = none_.commit y (key_less 3 y 0 d e f less) (
        k,
        enabled,
      )
      by_kind (Released o bit) turn enabled less = none_.release o (key_less 4 o 0 d e f less) (
        bit,
        enabled,
      )

  no_key : (event : Event) → turn_key event ≡ [] → IsFirstTurn task retries m event
  no_key event none_ other turn enabled before =
      not_before (turn_key other) (sym (ap (slice_cmp nat_cmp (turn_key other)) none_) ∙ before)
    where
      not_before : (key : List ℕ) → slice_cmp nat_cmp key [] ≡ Less → ⊥
      not_before [] e = false≢true (ap is_lt e)
      not_before (x ∷ xs) e = false≢true (ap is_lt e)

  compared : (x w : ℕ) → NoDrop m → NoComparisonBefore task m x w → NoneBelow 2 w x
  compared x w drops comparisons = record {
    drop = λ y b. drops y;
    compare = λ z y b. comparisons z y (same_kind 2 y z w x b);
    commit = λ y b. absurd (late 3 y 0 2 w x (omega arith) b);
    release = λ o b. absurd (late 4 o 0 2 w x (omega arith) b);
    claim = λ y b. absurd (late 5 y 0 2 w x (omega arith) b);
  }

  first_turn : (event : Event) → NoneBefore task retries m event → IsFirstTurn task retries m event
  first_turn (Arrived t values raws) none_ = no_key (Arrived t values raws) refl
  first_turn (Claimed k w links) none_ = by_key (Claimed k w links) 5 w 0 refl (record {
    drop = λ y b. none_.0 y;
    compare = λ z y b. none_.1 z y;
    commit = λ y b. none_.2 y;
    release = λ o b. none_.3 o;
    claim = λ y b. none_.4 y (lesser 5 y w b);
  })
  first_turn (Returned k set) none_ = no_key (Returned k set) refl
  first_turn (Stale k) none_ = no_key (Stale k) refl
  first_turn (Verified x w) none_ = by_key (Verified x w) 2 w x refl (compared x w none_.0 none_.1)
  first_turn (Poisoned x w) none_ = by_key (Poisoned x w) 2 w x refl (compared x w none_.0 none_.1)
  first_turn (Dropped w) none_ = by_key (Dropped w) 1 w 0 refl (record {
    drop = λ y b. none_ y (lesser 1 y w b);
    compare = λ z y b. absurd (late 2 y z 1 w 0 (omega arith) b);
    commit = λ y b. absurd (late 3 y 0 1 w 0 (omega arith) b);
    release = λ o b. absurd (late 4 o 0 1 w 0 (omega arith) b);
    claim = λ y b. absurd (late 5 y 0 1 w 0 (omega arith) b);
  })
  first_turn (Committed k w) none_ = by_key (Committed k w) 3 w 0 refl (record {
    drop = λ y b. none_.0 y;
    compare = λ z y b. none_.1 z y;
    commit = λ y b. none_.2 y (lesser 3 y w b);
    release = λ o b. absurd (late 4 o 0 3 w 0 (omega arith) b);
    claim = λ y b. absurd (late 5 y 0 3 w 0 (omega arith) b);
  })
  first_turn (Released op bit) none_ = by_key (Released op bit) 4 op 0 refl (record {
    drop = λ y b. none_.0 y;
    compare = λ z y b. none_.1 z y;
    commit = λ y b. none_.2 y;
    release = λ o b. none_.3 o (lesser 4 o op b);
    claim = λ y b. absurd (late 5 y 0 4 op 0 (omega arith) b);
  })

  idle : NoDrop m → NoComparison task m → NoCommit task m → NoRelease task m →
      NoClaim task retries m → (event : Event) → IsTurn event → IsEnabled task retries m event → ⊥
  idle drops comparisons commits releases claims (Arrived t values raws) turn enabled = turn refl
  idle drops comparisons commits releases claims (Claimed k w links) turn enabled =
      claims w (k, links, enabled)
  idle drops comparisons commits releases claims (Returned k set) turn enabled = turn refl
  idle drops comparisons commits releases claims (Stale k) turn enabled = turn refl
  idle drops comparisons commits releases claims (Verified x w) turn enabled =
      comparisons x w (enabled.0, enabled.0, enabled.1)
  idle drops comparisons commits releases claims (Poisoned x w) turn enabled =
      comparisons x w (enabled.0, enabled.1, enabled.2)
  idle drops comparisons commits releases claims (Dropped w) turn enabled = drops w enabled
  idle drops comparisons commits releases claims (Committed k w) turn enabled =
      commits w (k, enabled)
  idle drops comparisons commits releases claims (Released op bit) turn enabled =
      releases op (bit, enabled)

pub first_turn_law : FirstTurnLaw
first_turn_law task retries m event none_ = first_turn task retries m event none_

pub idle_law : IdleLaw
idle_law task retries m none_running drops comparisons commits releases claims =
    record {
      none_running = none_running;
      no_turn = idle task retries m drops comparisons commits releases claims;
    }

-- ---- ordered histories

ordered : (task : Task) (retries : ℕ) (m : Machine) (events : List Event) →
    IsOrderedFrom task retries m events → IsHistoryFrom task retries m events
ordered task retries m [] h = tt
ordered task retries m (event ∷ events) h =
    (h.0, ordered task retries (happens task m event) events h.2)

pub ordered_law : OrderedLaw
ordered_law task retries events h = ordered task retries start events h

one_more : (task : Task) (retries : ℕ) (m : Machine) (events : List Event) (event : Event) →
    IsOrderedFrom task retries m events → IsEnabled task retries (happen_all task m events) event →
    (IsTurn event → IsFirstTurn task retries (happen_all task m events) event) →
    IsOrderedFrom task retries m (events ++ event ∷ [])
one_more task retries m [] event h may first = (may, first, tt)
one_more task retries m (e ∷ events) event h may first =
    (h.0, h.1, one_more task retries (happens task m e) events event h.2 may first)

pub one_more_law : OneMoreLaw
one_more_law task retries events event h may first =
    one_more task retries start events event h may first
