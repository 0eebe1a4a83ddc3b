-- The next readout of a qubit, and the last slot.
use Rattle.std.proofs.Common.{◌≡◌, ℕ, ◌+◌, ◌<◌, ◌≤◌, ◌⊎◌, ⊎_elim, inl, inr, true, ◌&&◌, sym, ap, ◌∙◌, arith, List, [], ◌∷◌, map, fold, max, find, Option, Some, None}
use Rattle.std.specs.Prelude.{nat_lt, unwrap_or}
use Rattle.std.specs.List.{range_with_len}
use Rattle.std.proofs.lemmas.Bool.{cases_eq, cases_lt, true≢false}
use Rattle.surface_model.specs.Schedules.{MergeLine, ReadLine, Schedule}
use Rattle.surface_model.specs.Layout.{Place, last_slot, split_slot, read_slot}
use Rattle.surface_model.specs.Measurements.{is_read_at}
use Rattle.surface_model.specs.Errors.{next_readout}
use Rattle.graph_model.specs.Members.{In}
use Rattle.graph_model.proofs.Elements.{map_in, greatest_from, greatest_in}
use Rattle.surface_laws.proofs.Sound.{Sound}
use Rattle.surface_laws.proofs.Flips.{IsNext, next_is, Least, find_least}

-- ---- the next readout is the first slot after t in which the qubit is read

pub first_is : (s : Schedule) (t : ℕ) (q : Place) → t ≤ last_slot s → (n : ℕ) → t < n →
    n ≤ last_slot s + 1 → (n ≤ last_slot s → is_read_at s n q ≡ true) →
    ((m : ℕ) → t < m → m < n → is_read_at s m q ≡ true → ⊥) → n ≡ next_readout s t q
first_is s t q low n later bound read not_past = by_order (cases_lt n (next_readout s t q))
  where
    next : IsNext s t q (next_readout s t q)
    next = next_is s t q low

    next_bound : next_readout s t q ≤ last_slot s + 1
    next_bound =
        by_found (find (λ u. nat_lt t u && is_read_at s u q) (range_with_len 0 (last_slot s + 1)))
        (find_least (λ u. nat_lt t u && is_read_at s u q) 0 (last_slot s + 1))
      where
        by_found : (o : Option ℕ) →
            Least (λ u. nat_lt t u && is_read_at s u q) 0 (last_slot s + 1) o →
            unwrap_or o (last_slot s + 1) ≤ last_slot s + 1
        by_found (Some u) f = omega (arith, f.1)
        by_found None f = omega arith

    by_order : (n < next_readout s t q) ⊎ (next_readout s t q ≤ n) → n ≡ next_readout s t q
    by_order (inl l) =
        ⊎_elim (λ b. omega (arith, l, b, next_bound))
        (λ b. absurd (true≢false (sym (read b) ∙ next.unread n later l))) (cases_lt (last_slot s) n)
    by_order (inr l) =
        ⊎_elim (λ e. sym e) (λ ne. ⊎_elim (λ b. omega (arith, l, ne, b, bound))
        (λ b. absurd (not_past (next_readout s t q) next.later (omega (arith, l, ne))
        (next.read b))) (cases_lt (last_slot s) (next_readout s t q)))
        (cases_eq (next_readout s t q) n)

pub read_by_last : (s : Schedule) (r : ReadLine) → In r s.reads → r.slot ≤ last_slot s
read_by_last s r m =
    greatest_in 0 (map (λ (x : ReadLine). x.slot) s.reads) r.slot
    (map_in (λ (x : ReadLine). x.slot) s.reads r m)

pub split_by_last : (s : Schedule) → Sound s → (m : MergeLine) → In m s.merges →
    split_slot m ≤ last_slot s
split_by_last s ok m i =
    let w = ok.one m i in
    let r = ok.finished m.one w.known in
    omega (arith, w.before, ok.read_is r.0 r.1, read_by_last s r.0 r.1, ap (read_slot s) r.2)
