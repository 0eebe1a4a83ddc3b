-- Where each arrival brings a syndrome's values, the syndrome has all the values that have arrived.
use Rattle.std.proofs.Common.{◌≡◌, ℕ, zero, suc, ◌+◌, ◌<◌, ◌≤◌, ◌==◌, ⊎_elim, Bool, true, false, cond, List, [], ◌∷◌, refl, sym, ap, ◌∙◌, map, filter, arith, Option, Some, None, All, length, get_or, take, count_by, eq-eqb, zero-add, slice_index, slice_index_or}
use Rattle.std.specs.List.{range_with_len}
use Rattle.std.proofs.lemmas.Bool.{cases_eq}
use Rattle.std.proofs.lemmas.List.{length-map, take_more}
use Rattle.std.proofs.lemmas.List.Elements.{All-head, All-tail}
use Rattle.std.proofs.lemmas.List.Sums.{sum_by-cons, sum_by_push}
use Rattle.graph_model.proofs.Ranges.{count_next}
use Rattle.graph_model.specs.declared.Tag.{Tag}
use Rattle.window_model.specs.Decoder.{Task, Syndrome}
use Rattle.window_model.specs.Laws.{PlanLaws}
use Rattle.window_model.specs.Speculation.{Machine, Event, Arrived, Claimed, Returned, Stale, Verified, Poisoned, Dropped, Committed, Released, pending, standing, detector_slots, place_in, with_slot, confirm, start, happens, happen_all, IsEnabled, IsHistoryFrom, Agrees, at_slot, IsBrought}
use Rattle.window_model.specs.SpeculationLaws.{BroughtLaw}
use Rattle.window_model.proofs.Soundness.{values_stay}

-- ---- the value of a number among those of its slot

-- what a filter keeps stands where its number among those kept says
at_kept : (f p : ℕ → Bool) (a n k : ℕ) → k < n → p (a + k) ≡ true →
    get_or (map f (filter p (range_with_len a n))) (count_by p (range_with_len a k)) false
    ≡ f (a + k)
at_kept f p a zero k l h = absurd (omega arith)
at_kept f p a (suc n) zero l h = let z : a + 0 ≡ a = omega arith in first (p a) (ap p (sym z) ∙ h)
    ∙ ap f (sym z)
  where
    first : (b : Bool) → b ≡ true → get_or (map f (cond b (a ∷ filter p (range_with_len (a + 1) n))
        (filter p (range_with_len (a + 1) n)))) 0 false ≡ f a
    first true e = refl
    first false e = absurd (cc)
at_kept f p a (suc n) (suc k) l h =
    let e : a + 1 + k ≡ a + suc k = omega arith in
    let rest = at_kept f p (a + 1) n k (omega (arith, l)) (ap p e ∙ h) in
    ap (λ c. get_or (map f (filter p (range_with_len a (suc n)))) c false)
    (sum_by-cons (λ x. cond (p x) 1 0) a (range_with_len (a + 1) k))
    ∙ later (p a) ∙ rest ∙ ap f e
  where
    later : (b : Bool) →
        get_or (map f (cond b (a ∷ filter p (range_with_len (a + 1) n)) (filter p
        (range_with_len (a + 1) n)))) (cond b 1 0 + count_by p (range_with_len (a + 1) k)) false
        ≡ get_or (map f (filter p (range_with_len (a + 1) n)))
        (count_by p (range_with_len (a + 1) k)) false
    later true = let e : 1 + count_by p (range_with_len (a + 1) k)
        ≡ suc (count_by p (range_with_len (a + 1) k)) = omega arith in
        ap (λ c. get_or (f a ∷ map f (filter p (range_with_len (a + 1) n))) c false) e
    later false = ap (λ c. get_or (map f (filter p (range_with_len (a + 1) n))) c false)
        (zero-add (count_by p (range_with_len (a + 1) k)))

count_taken : (t : ℕ) (slots : List ℕ) (n : ℕ) → n ≤ length slots → count_by (λ u. u == t)
    (take n slots) ≡ count_by (λ i. get_or slots i 0 == t) (range_with_len 0 n)
count_taken t slots zero l = refl
count_taken t slots (suc n) l =
    let e : suc n ≡ n + 1 = omega arith in
    ap (λ k. count_by (λ u. u == t) (take k slots)) e
    ∙ ap (count_by (λ u. u == t)) (take_more slots n 0 (omega (arith, l)))
    ∙ sum_by_push (λ u. cond (u == t) 1 0) (take n slots) (get_or slots n 0)
    ∙ ap (λ c. c + cond (get_or slots n 0 == t) 1 0) (count_taken t slots n (omega (arith, l)))
    ∙ sym (count_next (λ i. get_or slots i 0 == t) n)
    ∙ ap (λ k. count_by (λ i. get_or slots i 0 == t) (range_with_len 0 k)) (sym e)

brought_value : (slots : List ℕ) (t : ℕ) (f old : ℕ → Bool) (n : ℕ) → n < length slots →
    slice_index slots n ≡ t → with_slot slots t (map f (at_slot slots t)) old n ≡ f n
brought_value slots t f old n within at =
    ap (λ b. cond b (slice_index_or (map f (at_slot slots t)) (place_in slots t n) false) (old n))
    (eq-eqb (slice_index slots n) t at)
    ∙ ap (λ c. get_or (map f (at_slot slots t)) c false)
    (count_taken t slots n (omega (arith, within)))
    ∙ at_kept f (λ i. get_or slots i 0 == t) 0 (length slots) n within
    (ap (λ k. get_or slots k 0 == t) (zero-add n) ∙ eq-eqb (get_or slots n 0) t at)
    ∙ ap f (zero-add n)

-- of a slot that has just arrived, or of an earlier one
more_known : (slots : List ℕ) (t : ℕ) (new : List Bool) (f old : ℕ → Bool) →
    new ≡ map f (at_slot slots t) → (n : ℕ) → n < length slots → slice_index slots n < t + 1 →
    (slice_index slots n < t → f n ≡ old n) → f n ≡ with_slot slots t new old n
more_known slots t new f old brought n within low before =
    ⊎_elim (λ e. sym (brought_value slots t f old n within e)
    ∙ ap (λ xs. with_slot slots t xs old n) (sym brought))
    (λ ne. let l : slice_index slots n < t = omega (arith, ne, low) in before l
    ∙ sym (values_stay slots t new old n l))
    (cases_eq (slice_index slots n) t)

-- ---- event after event

agrees_confirmed : (task : Task) (m : Machine) (s : Syndrome) (x : ℕ) (one two : Option ℕ) →
    Agrees task m s → Agrees task (confirm m x one two) s
agrees_confirmed task m s x (Some k) (Some j) a = record { value = a.value; raw = a.raw }
agrees_confirmed task m s x (Some k) None a = a
agrees_confirmed task m s x None two a = a

agrees_after : (task : Task) (retries : ℕ) (s : Syndrome) → PlanLaws task.graph task.tags
    task.plan → (m : Machine) (event : Event) → IsEnabled task retries m event →
    IsBrought task s event → Agrees task m s → Agrees task (happens task m event) s
agrees_after task retries s laws m (Arrived t values raws) may brought a = record {
  value = λ v within low.
      more_known (detector_slots task) t values s.value m.value brought.0 v
      (omega (arith, within, laws.tagged, length-map task.tags (λ (tag : Tag). tag.slot))) (let n =
      may.0.next in omega (arith, low, n))
      (λ early. a.value v within (let n = may.0.next in omega (arith, early, n)));
  raw = λ l within low.
      more_known task.raw_slots t raws s.raw m.raw brought.1 l within (let n = may.0.next in
      omega (arith, low, n))
      (λ early. a.raw l within (let n = may.0.next in omega (arith, early, n)));
}
agrees_after task retries s laws m (Claimed k w links) may brought a =
    record { value = a.value; raw = a.raw }
agrees_after task retries s laws m (Returned k set) may brought a =
    record { value = a.value; raw = a.raw }
agrees_after task retries s laws m (Stale k) may brought a = record { value = a.value; raw = a.raw }
agrees_after task retries s laws m (Verified x w) may brought a =
    agrees_confirmed task m s x (pending (m.phase w)) (standing (m.phase x)) a
agrees_after task retries s laws m (Poisoned x w) may brought a =
    record { value = a.value; raw = a.raw }
agrees_after task retries s laws m (Dropped w) may brought a =
    record { value = a.value; raw = a.raw }
agrees_after task retries s laws m (Committed k w) may brought a =
    record { value = a.value; raw = a.raw }
agrees_after task retries s laws m (Released op bit) may brought a =
    record { value = a.value; raw = a.raw }

agrees_all : (task : Task) (retries : ℕ) (s : Syndrome) → PlanLaws task.graph task.tags task.plan →
    (m : Machine) (events : List Event) → IsHistoryFrom task retries m events →
    All (IsBrought task s) events → Agrees task m s → Agrees task (happen_all task m events) s
agrees_all task retries s laws m [] h brought a = a
agrees_all task retries s laws m (event ∷ events) h brought a =
    agrees_all task retries s laws (happens task m event) events h.1
    (All-tail (IsBrought task s) event events brought)
    (agrees_after task retries s laws m event h.0 (All-head (IsBrought task s) event events brought)
    a)

pub brought_law : BroughtLaw
brought_law task retries events s laws h brought =
    agrees_all task retries s laws start events h brought (record {
      value = λ v within low.
          absurd (omega (arith, low));
      raw = λ l within low. absurd (omega (arith, low));
    })
