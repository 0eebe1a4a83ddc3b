-- A journal says of as many tickets that they were taken as the machine has.
use Rattle.std.proofs.Common.{◌≡◌, ℕ, ◌+◌, List, [], ◌∷◌, cond, refl, sym, ap, ◌∙◌, arith, Option, None, Some}
use Rattle.std.proofs.lemmas.List.Sums.{sum_by-cons}
use Rattle.window_model.specs.Decoder.{Task}
use Rattle.window_model.specs.Speculation.{Machine, confirm, happen_all, happens, pending, standing, start}
use Rattle.core_journal.specs.declared.event.Event.{Event as Entry}
use Rattle.core_journal.specs.declared.event.Event.TheVariants as entry
use Rattle.core_journal.specs.Entries.{Kept, event_of, history_of}
use Rattle.core_state.specs.States.{CoreTable, machine_of}
use Rattle.window_table.specs.Counts.{claims_in, is_claim}
use Rattle.window_model.proofs.Tickets.{tickets_confirmed}

one_on : (all first rest : ℕ) → all ≡ (first + 1) + rest → all ≡ first + (1 + rest)
one_on all first rest e = omega (arith, e)

claims_from : (task : Task) (kept : Kept) (m : Machine) (journal : List Entry) →
    (happen_all task m (history_of task kept journal)).tickets ≡ m.tickets + claims_in journal
claims_from task kept m [] = omega arith
claims_from task kept m (entry.Arrived t ∷ journal) =
    claims_from task kept (happens task m (event_of task kept (entry.Arrived t))) journal
claims_from task kept m (entry.Claimed k w ∷ journal) =
    one_on _ m.tickets (claims_in journal)
    (claims_from task kept (happens task m (event_of task kept (entry.Claimed k w))) journal)
    ∙ ap (λ n. m.tickets + n)
    (sym (sum_by-cons (λ (e : Entry). cond (is_claim e) 1 0) (entry.Claimed k w) journal))
claims_from task kept m (entry.Held k ∷ journal) =
    claims_from task kept (happens task m (event_of task kept (entry.Held k))) journal
claims_from task kept m (entry.Stale k current ∷ journal) =
    claims_from task kept (happens task m (event_of task kept (entry.Stale k current))) journal
claims_from task kept m (entry.Verified x w ∷ journal) =
    claims_from task kept (happens task m (event_of task kept (entry.Verified x w))) journal
    ∙ ap (λ n. n + claims_in journal)
    (tickets_confirmed m x (pending (m.phase w)) (standing (m.phase x)))
claims_from task kept m (entry.Poisoned x w ∷ journal) =
    claims_from task kept (happens task m (event_of task kept (entry.Poisoned x w))) journal
claims_from task kept m (entry.Dropped w ∷ journal) =
    claims_from task kept (happens task m (event_of task kept (entry.Dropped w))) journal
claims_from task kept m (entry.Committed k w ∷ journal) =
    claims_from task kept (happens task m (event_of task kept (entry.Committed k w))) journal
claims_from task kept m (entry.Released op bit ∷ journal) =
    claims_from task kept (happens task m (event_of task kept (entry.Released op bit))) journal

pub claims_are : (c : CoreTable) → (machine_of c).tickets ≡ claims_in c.journal
claims_are c =
    let all = claims_from c.task c.kept start c.journal in
    omega (arith, all)
