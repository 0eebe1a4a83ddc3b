-- What each event leaves of the tables.
use Rattle.std.proofs.Common.{◌≡◌, ℕ, ◌<◌, [], ◌∷◌, ◌++◌, refl, ◌∙◌, length, Option, Some, None, IsSome}
use Rattle.std.proofs.lemmas.List.{map-append}
use Rattle.std.proofs.lemmas.List.Elements.{All-append, All-cons, All-nil}
use Rattle.window_model.specs.Speculation.{Event, Verified, Poisoned, Dropped, Machine, pending, standing, confirm, IsEnabled}
use Rattle.cascade_laws.specs.Store.{IsStoreOf, LeavesStore}
use Rattle.cascade_laws.proofs.Storing.{stored_rest_law}
use Rattle.cascade_laws.proofs.Laws.{compared_law, given_up_law}
use Rattle.poison_cascade.specs.Books.{IsUnverified, entry_at, confirmed, vanished}
use Rattle.window_phases.specs.Phases.{PhaseTable}
use Rattle.window_phases.proofs.Tables.{verified_table_law, given_up_table_law}
use Rattle.release_laws.specs.Tables.{IsReleaseTableOf}
use Rattle.release_laws.specs.TableLaws.{LeavesReleases}
use Rattle.release_laws.proofs.Following.{left_releases_law}
use Rattle.core_journal.specs.declared.event.Event.{Event as Entry}
use Rattle.core_journal.specs.declared.event.Event.TheVariants as entry
use Rattle.core_journal.specs.Entries.{Kept, event_of, IsThere}
use Rattle.core_journal.specs.EntryLaws.{IsOneMore, IsPlain}
use Rattle.core_store.specs.Tickets.{store_of}
use Rattle.core_state.specs.States.{Parts, AreParts, kept_of, history_in, machine_in}
use Rattle.core_state.proofs.Follows.{Goes, follows, laws, with_entry}

plain_there : (arrived : ℕ) (kept : Kept) (e : Entry) → IsPlain e → IsThere arrived kept e
plain_there arrived kept (entry.Arrived t) plain = absurd plain
plain_there arrived kept (entry.Claimed k w) plain = absurd plain
plain_there arrived kept (entry.Held k) plain = absurd plain
plain_there arrived kept (entry.Stale k current) plain = tt
plain_there arrived kept (entry.Verified x w) plain = tt
plain_there arrived kept (entry.Poisoned x w) plain = tt
plain_there arrived kept (entry.Dropped w) plain = tt
plain_there arrived kept (entry.Committed k w) plain = tt
plain_there arrived kept (entry.Released op b) plain = tt

-- an entry of which nothing is kept
pub plain_more : (p : Parts) → AreParts p → (e : Entry) → IsPlain e → IsOneMore p.task p.arrived
    (kept_of p) (kept_of p) p.journal.entries e (event_of p.task (kept_of p) e)
plain_more p h e plain = record {
  history = map-append (event_of p.task (kept_of p)) p.journal.entries (e ∷ []);
  there = All-append (IsThere p.arrived (kept_of p)) p.journal.entries (e ∷ []) h.there
      (All-cons (IsThere p.arrived (kept_of p)) e [] (plain_there p.arrived (kept_of p) e plain)
      (All-nil (IsThere p.arrived (kept_of p))));
}

arrived_confirmed : (m : Machine) (x : ℕ) (one two : Option ℕ) → (confirm m x one two).arrived
    ≡ m.arrived
arrived_confirmed m x (Some k) (Some j) = refl
arrived_confirmed m x (Some k) None = refl
arrived_confirmed m x None two = refl

module _ (p : Parts) (h : AreParts p) where
  -- the tickets are left as they are
  pub left_store : (event : Event) → IsEnabled p.task p.retries (machine_in p) event → LeavesStore
      event → IsStoreOf p.task (history_in p ++ event ∷ []) (store_of p.task.plan p.tickets)
  left_store event may leaves = stored_rest_law p.task p.retries (history_in p)
      (store_of p.task.plan p.tickets) event (laws p h) h.history h.tickets may leaves

  -- and so are counts, bits and frame
  pub left_release : (event : Event) → IsEnabled p.task p.retries (machine_in p) event →
      LeavesReleases event → IsReleaseTableOf p.task (history_in p ++ event ∷ []) p.releases
  left_release event may leaves = left_releases_law p.task p.retries (history_in p) p.releases event
      (laws p h) h.history h.releases may leaves

  abbrev with_phases : PhaseTable → Entry → Parts
  with_phases phases e = record p { phases = phases; journal = with_entry p.journal e }

  pub verified_goes : (x w : ℕ) → IsEnabled p.task p.retries (machine_in p) (Verified x w) →
      Goes p (with_phases (record p.phases { book = confirmed p.phases.book x w })
      (entry.Verified x w)) (entry.Verified x w) (Verified x w)
  verified_goes x w may =
      follows p h (Verified x w) may p.arrived p.values p.raws p.tickets (record p.phases
      { book = confirmed p.phases.book x w }) p.releases (entry.Verified x w)
      (plain_more p h (entry.Verified x w) tt) (λ k current e. absurd (cc))
      (verified_table_law p.task p.retries (history_in p)
      p.phases x w (laws p h) h.history h.phases may)
      (left_store (Verified x w) may tt) (left_release (Verified x w) may tt)
      (arrived_confirmed (machine_in p) x (pending ((machine_in p).phase w)) (standing
      ((machine_in p).phase x)) ∙ h.arrived) refl refl refl refl h.each_closed h.answered
      h.each_bits

  pub poisoned_goes : (x w : ℕ) → IsEnabled p.task p.retries (machine_in p) (Poisoned x w) →
      Goes p (with_phases (record p.phases { book = vanished p.phases.book w })
      (entry.Poisoned x w)) (entry.Poisoned x w) (Poisoned x w)
  poisoned_goes x w may =
      let compares = may.2 in
      follows p h (Poisoned x w) may p.arrived p.values p.raws p.tickets (record p.phases
      { book = vanished p.phases.book w }) p.releases (entry.Poisoned x w)
      (plain_more p h (entry.Poisoned x w) tt) (λ k current e. absurd (cc))
      ((given_up_table_law p.task p.retries (history_in p)
      p.phases w compares.own (laws p h) h.history h.phases compares.is_pending).1 x)
      (left_store (Poisoned x w) may tt) (left_release (Poisoned x w) may tt) h.arrived refl refl
      refl refl h.each_closed h.answered h.each_bits

  pub dropped_goes : (w : ℕ) → IsEnabled p.task p.retries (machine_in p) (Dropped w) →
      Goes p (with_phases (record p.phases { book = vanished p.phases.book w }) (entry.Dropped w))
      (entry.Dropped w) (Dropped w)
  dropped_goes w may =
      follows p h (Dropped w) may p.arrived p.values p.raws p.tickets (record p.phases
      { book = vanished p.phases.book w }) p.releases (entry.Dropped w)
      (plain_more p h (entry.Dropped w) tt) (λ k current e. absurd (cc))
      (given_up_table_law p.task p.retries (history_in p)
      p.phases w may.own (laws p h) h.history h.phases may.is_pending).0
      (left_store (Dropped w) may tt) (left_release (Dropped w) may tt) h.arrived refl refl refl
      refl h.each_closed h.answered h.each_bits

  pub can_verify : (x w : ℕ) → IsEnabled p.task p.retries (machine_in p) (Verified x w) →
      IsUnverified p.phases.book w x
  can_verify x w may = (compared_law p.task p.retries (history_in p) p.phases.book w x (laws p h)
      h.history h.phases.book).1 (may.0, may.0, may.1)

  -- a window that may be given up
  pub can_vanish : (w k : ℕ) → pending ((machine_in p).phase w) ≡ Some k →
      (w < length p.phases.book.windows) × IsSome (entry_at p.phases.book w).live
  can_vanish w k was =
      let gives = given_up_law p.task p.retries (history_in p) p.phases.book w k (laws p h)
      h.history h.phases.book was in
      (gives.0, gives.1)
