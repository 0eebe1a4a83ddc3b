-- What each event does to the phases.
use Rattle.std.proofs.Common.{◌≡◌, ℕ, zero, suc, ◌<◌, ⊎_elim, Bool, true, false, List, [], ◌∷◌, ◌++◌, refl, sym, ap, ◌∙◌, subst, length, set, replicate, arith, Some}
use Rattle.std.proofs.lemmas.Bool.{cases_eq}
use Rattle.std.proofs.lemmas.List.{get_or-set_same, get_or-set_other, length-set, length-replicate}
use Rattle.std.proofs.lemmas.List.FromFn.{length-map-range_with_len}
use Rattle.std.proofs.lemmas.Option.{none-some}
use Rattle.window_model.specs.Decoder.{Task}
use Rattle.window_model.specs.Windows.{window_at, window_count}
use Rattle.window_model.specs.Speculation.{Phase, Waiting, Running, Held, Done, Machine, Event, Arrived, Claimed, Returned, Stale, Verified, Poisoned, Dropped, Committed, Released, pending, give_up, happens, start, Compares}
use Rattle.window_model.specs.TicketLaws.{IsSound}
use Rattle.window_model.proofs.Updates.{set_same, set_other, set_part}
use Rattle.window_model.proofs.Histories.{happen_all-append}
use Rattle.window_model.proofs.Soundness.{sound_law, verified, verified_is}
use Rattle.cascade_laws.specs.MirrorLaws.{reached}
use Rattle.cascade_laws.specs.Turns.{AreDone, is_done, flag}
use Rattle.cascade_laws.proofs.Laws.{opened_law, claimed_law, returned_law, verified_law, given_up_law, left_law}
use Rattle.window_phases.specs.PhaseLaws.{AllWaitLaw, ClaimedTableLaw, HeldTableLaw, VerifiedTableLaw, GivenUpTableLaw, CommittedTableLaw, LeftTableLaw}

after_event : (task : Task) (events : List Event) (event : Event) (done : List Bool) →
    AreDone task (happens task (reached task events) event) done →
    AreDone task (reached task (events ++ event ∷ [])) done
after_event task events event done is =
    subst (λ m. AreDone task m done) (sym (happen_all-append task start events (event ∷ []))) is

same_done : (task : Task) (m n : Machine) (done : List Bool) → ((w : ℕ) → is_done (n.phase w)
    ≡ is_done (m.phase w)) → AreDone task m done → AreDone task n done
same_done task m n done same is = record {
  each_window = is.each_window;
  flags = λ w l. is.flags w l
      ∙ sym (same w);
}

none_done : (n w : ℕ) → flag (replicate n false) w ≡ false
none_done zero w = refl
none_done (suc n) zero = refl
none_done (suc n) (suc w) = none_done n w

pub all_wait_law : AllWaitLaw
all_wait_law task retries lists e = record {
  book = opened_law task retries lists e;
  done = record {
    each_window = length-replicate (length lists) false ∙ ap length e
        ∙ length-map-range_with_len (λ x. (window_at task.plan x).deps) 0 (window_count task.plan);
    flags = λ w l. none_done (length lists) w;
  };
}

pub claimed_table_law : ClaimedTableLaw
claimed_table_law task retries events table k w links laws h is may = record {
  book = (claimed_law task retries events table.book k w links laws h is.book may).1;
  done = after_event task events (Claimed k w links) table.done
      (same_done task (reached task events) (happens task (reached task events) (Claimed k w links))
      table.done (λ y. set_part is_done (reached task events).phase w (Running k)
      (sym (ap is_done may.waiting)) y) is.done);
}

pub held_table_law : HeldTableLaw
held_table_law task retries events table k set_ laws h is may = record {
  book = (returned_law task retries events table.book k set_ laws h is.book may).2;
  done = after_event task events (Returned k set_) table.done
      (same_done task (reached task events) (happens task (reached task events) (Returned k set_))
      table.done (λ y. set_part is_done (reached task events).phase ((reached task events).claim
      k).window (Held k) (sym (ap is_done may.running)) y) is.done);
}

verified_done : (task : Task) (m : Machine) (x w : ℕ) (bits : List Bool)
    (may : Compares task m x w bits bits) (s : IsSound task m) (done : List Bool) →
    AreDone task m done → AreDone task (verified task m x w bits may s) done
unfolding verified
verified_done task m x w bits may s done is =
    record { each_window = is.each_window; flags = is.flags }

pub verified_table_law : VerifiedTableLaw
verified_table_law task retries events table x w laws h is may = record {
  book = verified_law task retries events table.book x w laws h is.book may;
  done = after_event task events (Verified x w) table.done
      (subst (λ m. AreDone task m table.done) (sym (verified_is task (reached task events) x w may.0
      may.1 (sound_law task retries events laws h)))
      (verified_done task (reached task events) x w may.0 may.1
      (sound_law task retries events laws h) table.done is.done));
}

pending_not_done : (p : Phase) (k : ℕ) → pending p ≡ Some k → is_done p ≡ false
pending_not_done Waiting k e = refl
pending_not_done (Running j) k e = refl
pending_not_done (Held j) k e = refl
pending_not_done (Done j) k e = absurd (none-some k e)

pub given_up_table_law : GivenUpTableLaw
given_up_table_law task retries events table w k laws h is was = (
  record {
    book = (given_up_law task retries events table.book w k laws h is.book was).2;
    done = after_event task events (Dropped w) table.done given;
  },
  λ x. record {
    book = (given_up_law task retries events table.book w k laws h is.book was).3 x;
    done = after_event task events (Poisoned x w) table.done given;
  },
)
  where
    given : AreDone task (give_up (reached task events) w) table.done
    given = same_done task (reached task events) (give_up (reached task events) w) table.done (λ y.
        set_part is_done (reached task events).phase w Waiting
        (sym (pending_not_done ((reached task events).phase w) k was)) y) is.done

pub committed_table_law : CommittedTableLaw
committed_table_law task retries events table k w is may = (
  within,
  record {
    book = left_law task retries events table.book (Committed k w) is.book may tt;
    done = after_event task events (Committed k w) (set table.done w true) (record {
      each_window = length-set table.done w true ∙ is.done.each_window;
      flags = λ y l. ⊎_elim (λ e. ap (λ i. flag (set table.done w true) i) e
          ∙ get_or-set_same table.done w true false within
          ∙ sym (ap (λ i. is_done (n.phase i)) e ∙ ap is_done (set_same m.phase w (Done k))))
          (λ ne. get_or-set_other table.done w y true false ne ∙ is.done.flags y l
          ∙ sym (ap is_done (set_other m.phase w (Done k) y ne))) (cases_eq y w);
    });
  },
)
  where
    m : Machine
    m = reached task events

    n : Machine
    n = happens task m (Committed k w)

    within : w < length table.done
    within = let same = is.done.each_window in let l = may.in_range in omega (arith, same, l)

pub left_table_law : LeftTableLaw
left_table_law task retries events table (Arrived t values raws) is may left =
    record {
      book = left_law task retries events table.book (Arrived t values raws)
          is.book may left;
      done = after_event task events (Arrived t values raws) table.done
          (same_done task (reached task events) _ table.done (λ w. refl) is.done);
    }
left_table_law task retries events table (Stale k) is may left = record {
  book = left_law task
      retries events table.book (Stale k) is.book may left;
  done = after_event task events (Stale k)
      table.done (same_done task (reached task events) _ table.done (λ w. refl) is.done);
}
left_table_law task retries events table (Released op bit) is may left =
    record {
      book = left_law task retries events table.book (Released op bit) is.book may left;
      done = after_event task events (Released op bit) table.done
          (same_done task (reached task events) _ table.done (λ w. refl) is.done);
    }
left_table_law task retries events table (Committed k w) is may left = absurd left
left_table_law task retries events table (Claimed k w links) is may left = absurd left
left_table_law task retries events table (Returned k set) is may left = absurd left
left_table_law task retries events table (Verified x w) is may left = absurd left
left_table_law task retries events table (Poisoned x w) is may left = absurd left
left_table_law task retries events table (Dropped w) is may left = absurd left
