-- A history is no longer than the slots, claims, links and operations allow: something grows with
-- each event that can't grow beyond a limit.
use Rattle.std.proofs.Common.{◌≡◌, ℕ, ◌+◌, ◌*◌, ◌<◌, ◌≤◌, ◌==◌, ⊎_elim, Bool, true, false, not, cond, List, [], ◌∷◌, refl, sym, ap, ◌∙◌, subst, map, find, arith, Option, Some, None, is_some, length, count_by, sum_by, eq-eqb}
use Rattle.std.specs.List.{range_with_len}
use Rattle.std.proofs.Math.Nat.{mul-add, mul-one, mul-zero, mul_comm, mul-le-mul_left}
use Rattle.std.proofs.lemmas.Bool.{cases_eq}
use Rattle.std.proofs.lemmas.List.{length-map}
use Rattle.std.proofs.lemmas.List.FromFn.{length-range_with_len}
use Rattle.std.proofs.lemmas.List.Sums.{sum_by-cons, sum_by-le-sum_by, count_by-le-length}
use Rattle.std.proofs.lemmas.Option.{same_Some, none-some}
use Rattle.graph_model.specs.Graph.{is_in}
use Rattle.graph_model.proofs.Members.{is_in_first, is_in_rest, is_in_cases, is_in-range, is_in_range}
use Rattle.graph_model.proofs.Ranges.{all_rows, count_next}
use Rattle.window_model.specs.Windows.{Window, no_window, window_at, window_count}
use Rattle.window_model.specs.Gates.{link_count}
use Rattle.window_model.specs.Decoder.{Task, set_at}
use Rattle.window_model.specs.Laws.{PlanLaws}
use Rattle.window_model.specs.declared.Origin.TheVariants.{Guess, Ticket}
use Rattle.window_model.specs.Speculation.{Link, Claim, Phase, Waiting, Running, Held, Done, Machine, Event, Arrived, Claimed, Returned, Stale, Verified, Poisoned, Dropped, Committed, Released, is_guess, held_by, pending, standing, with_ticket, confirm, start, give_up, happens, MayClaim, MayReturn, MayBeStale, Compares, MayCommitTicket, IsEnabled, IsHistoryFrom}
use Rattle.window_model.specs.SpeculationLaws.{LengthLaw, most_events}
use Rattle.window_model.specs.TicketLaws.{IsSound, IsCovered}
use Rattle.window_model.proofs.Updates.{set_same, set_other, set_part}
use Rattle.window_model.proofs.Soundness.{sound_step, start_sound, pending_held, verified, verified_is}
use Rattle.window_model.proofs.Claims.{IsPaid, paid_step, busy, busy_small, spent, spent_is}
use Rattle.window_model.proofs.Tickets.{AreOpen, open_step, covered_step, tickets_confirmed}

-- ---- sums

abbrev tally : Bool → ℕ
tally b = cond b 1 0

sum_rises : (f g : ℕ → ℕ) (xs : List ℕ) (x : ℕ) → is_in xs x ≡ true → ((y : ℕ) → f y ≤ g y) →
    f x + 1 ≤ g x → sum_by f xs + 1 ≤ sum_by g xs
sum_rises f g [] x m each more = absurd (cc)
sum_rises f g (y ∷ ys) x m each more =
    ⊎_elim
    (λ e.
    let here : f y + 1 ≤ g y = subst (λ z. f z + 1 ≤ g z) (sym e) more in
    let rest = sum_by-le-sum_by f g ys each in
    omega (arith, here, rest, sum_by-cons f y ys, sum_by-cons g y ys))
    (λ r.
    let rest = sum_rises f g ys x r each more in
    let here = each y in
    omega (arith, here, rest, sum_by-cons f y ys, sum_by-cons g y ys))
    (is_in_cases y x ys m)

sum_both : (f g h : ℕ → ℕ) (xs : List ℕ) → ((x : ℕ) → f x + g x ≤ h x) →
    sum_by f xs + sum_by g xs ≤ sum_by h xs
sum_both f g h [] each = omega arith
sum_both f g h (x ∷ xs) each =
    let rest = sum_both f g h xs each in
    let here = each x in
    omega (arith, here, rest, sum_by-cons f x xs, sum_by-cons g x xs, sum_by-cons h x xs)

sum_scaled : (c : ℕ) (f : ℕ → ℕ) (xs : List ℕ) → sum_by (λ x. c * (3 + f x)) xs
    ≡ c * (3 * length xs + sum_by f xs)
sum_scaled c f [] = sym (mul-zero c)
sum_scaled c f (x ∷ xs) =
    let rest = sum_scaled c f xs in
    let inside : (3 + f x) + (3 * length xs + sum_by f xs) ≡ 3 * length (x ∷ xs)
    + sum_by f (x ∷ xs) = omega (arith, sum_by-cons f x xs) in
    sum_by-cons (λ y. c * (3 + f y)) x xs ∙ ap (λ s. c * (3 + f x) + s) rest
    ∙ sym (mul-add c (3 + f x) (3 * length xs + sum_by f xs)) ∙ ap (λ s. c * s) inside

sum_mapped : {X : Type 0} (f : X → ℕ) (g : ℕ → X) (ys : List ℕ) → sum_by f (map g ys)
    ≡ sum_by (λ y. f (g y)) ys
sum_mapped f g [] = refl
sum_mapped f g (y ∷ ys) = sum_by-cons f (g y) (map g ys) ∙ ap (λ s. f (g y) + s) (sum_mapped f g ys)
    ∙ sym (sum_by-cons (λ z. f (g z)) y ys)

count_same : (p q : ℕ → Bool) (xs : List ℕ) → ((x : ℕ) → is_in xs x ≡ true → p x ≡ q x) →
    count_by p xs ≡ count_by q xs
count_same p q [] same = refl
count_same p q (x ∷ xs) same =
    sum_by-cons (λ y. cond (p y) 1 0) x xs
    ∙ ap (λ b. cond b 1 0 + count_by p xs) (same x (is_in_first x xs))
    ∙ ap (λ s. cond (q x) 1 0 + s) (count_same p q xs (λ y h. same y (is_in_rest x y xs h)))
    ∙ sym (sum_by-cons (λ y. cond (q y) 1 0) x xs)

-- ---- links that name a ticket

abbrev is_named : Link → Bool
is_named link = not (is_guess link.origin)

abbrev named : List Link → ℕ
named links = count_by is_named links

named_more : (x k : ℕ) (bits : List Bool) (links : List Link) → find (λ (link : Link). link.source
    == x) links ≡ Some (record { source = x; origin = Guess; bits = bits }) →
    named (with_ticket x k links) ≡ named links + 1
named_more x k bits [] e = absurd (none-some _ e)
named_more x k bits (link ∷ links) e =
    by_test (link.source == x) e (λ h. named_more x k bits links h)
  where
    by_test : (b : Bool) → cond b (Some link) (find (λ (l : Link). l.source == x) links)
        ≡ Some (record { source = x; origin = Guess; bits = bits }) →
        (find (λ (l : Link). l.source == x) links ≡ Some (record {
          source = x;
          origin = Guess;
          bits = bits;
        }) → named (with_ticket x k links) ≡ named links + 1) →
        named (cond b (record { source = link.source; origin = Ticket k; bits = link.bits } ∷ links)
        (link ∷ with_ticket x k links)) ≡ named (link ∷ links) + 1
    by_test true h rest =
        let guess : tally (is_named link) ≡ 0 = ap (λ (l : Link). tally (is_named l))
        (same_Some link (record { source = x; origin = Guess; bits = bits }) h) in
        omega (
          arith,
          guess,
          sum_by-cons (λ (l : Link). tally (is_named l)) link links,
          sum_by-cons (λ (l : Link). tally (is_named l)) (record {
            source = link.source;
            origin = Ticket k;
            bits = link.bits;
          }) links,
        )
    by_test false h rest =
        let more = rest h in
        omega (
          arith,
          more,
          sum_by-cons (λ (l : Link). tally (is_named l)) link links,
          sum_by-cons (λ (l : Link). tally (is_named l)) link (with_ticket x k links),
        )

-- ---- what a window has done: claims and times given up, verified guesses, and whether it is
-- committed

abbrev live : (ℕ → Claim) → Phase → ℕ
live claim Waiting = 0
live claim (Running k) = named (claim k).links
live claim (Held k) = named (claim k).links
live claim (Done k) = named (claim k).links

abbrev finished : Phase → ℕ
finished Waiting = 0
finished (Running k) = 0
finished (Held k) = 0
finished (Done k) = 1

abbrev dep_count : Task → ℕ → ℕ
dep_count task w = length (window_at task.plan w).deps

abbrev weigh : ℕ → ℕ → (ℕ → Claim) → Phase → ℕ
weigh deps poisons claim phase =
    (1 + deps) * poisons + ((poisons + busy phase) + (live claim phase + finished phase))

abbrev weight : Task → Machine → ℕ → ℕ
weight task m w = weigh (dep_count task w) (m.poisons w) m.claim (m.phase w)

live_same : (one two : ℕ → Claim) (p : Phase) →
    ((j : ℕ) → held_by p ≡ Some j → (two j).links ≡ (one j).links) → live one p ≡ live two p
live_same one two Waiting same = refl
live_same one two (Running k) same = ap named (sym (same k refl))
live_same one two (Held k) same = ap named (sym (same k refl))
live_same one two (Done k) same = ap named (sym (same k refl))

same_weight : (task : Task) (m n : Machine) (w : ℕ) → n.poisons w ≡ m.poisons w → n.phase w
    ≡ m.phase w → ((j : ℕ) → held_by (m.phase w) ≡ Some j → (n.claim j).links ≡ (m.claim j).links) →
    weight task m w ≤ weight task n w
same_weight task m n w poisons phase links =
    let same : weight task m w ≡ weight task n w =
    ap (λ l. (1 + dep_count task w) * m.poisons w + ((m.poisons w + busy (m.phase w))
    + (l + finished (m.phase w)))) (live_same m.claim n.claim (m.phase w) links)
    ∙ ap (weigh (dep_count task w) (m.poisons w) n.claim) (sym phase)
    ∙ ap (λ p. weigh (dep_count task w) p n.claim (n.phase w)) (sym poisons) in
    omega (arith, same)

pending_weigh : (deps poisons : ℕ) (claim : ℕ → Claim) (phase : Phase) (k : ℕ) →
    pending phase ≡ Some k → weigh deps poisons claim phase ≡ (1 + deps) * poisons
    + ((poisons + 1) + (named (claim k).links + 0))
pending_weigh deps poisons claim Waiting k e = absurd (none-some k e)
pending_weigh deps poisons claim (Running j) k e =
    ap (λ i. (1 + deps) * poisons + ((poisons + 1) + (named (claim i).links + 0))) (same_Some j k e)
pending_weigh deps poisons claim (Held j) k e =
    ap (λ i. (1 + deps) * poisons + ((poisons + 1) + (named (claim i).links + 0))) (same_Some j k e)
pending_weigh deps poisons claim (Done j) k e = absurd (none-some k e)

-- ---- what all have done

abbrev windows : Task → List ℕ
windows task = range_with_len 0 (window_count task.plan)

abbrev closed : Machine → ℕ
closed m = count_by (λ k. (m.claim k).closed) (range_with_len 0 m.tickets)

abbrev worked : Task → Machine → ℕ
worked task m = sum_by (weight task m) (windows task)

abbrev given : Task → Machine → ℕ
given task m = count_by (λ op. is_some (m.released op)) (range_with_len 0 (length task.operations))

abbrev level : Task → Machine → ℕ
level task m = m.arrived + (closed m + (worked task m + given task m))

arrived_confirmed : (m : Machine) (x : ℕ) (one two : Option ℕ) → (confirm m x one two).arrived
    ≡ m.arrived
arrived_confirmed m x (Some k) (Some j) = refl
arrived_confirmed m x (Some k) None = refl
arrived_confirmed m x None two = refl

finished_small : (p : Phase) → finished p ≤ 1
finished_small Waiting = omega arith
finished_small (Running k) = omega arith
finished_small (Held k) = omega arith
finished_small (Done k) = omega arith

links_are : (task : Task) → sum_by (dep_count task) (windows task) ≡ link_count task.plan
links_are task =
    sym (ap (sum_by (λ (w : Window). length w.deps)) (all_rows no_window (window_at task.plan)
    (window_count task.plan) task.plan.windows refl (λ w l. refl))
    ∙ sum_mapped (λ (w : Window). length w.deps) (window_at task.plan) (windows task))

-- what holds after each event
record IsKept (task : Task) (retries : ℕ) (m : Machine) : Type 0 where
  sound : IsSound task m
  paid : IsPaid retries m
  covered : (k : ℕ) → k < m.tickets → IsCovered task m k
  in_time : m.arrived ≤ task.last_slot + 1
  few : m.tickets ≤ sum_by (spent m) (windows task)
  open_ : AreOpen m

-- the window of a ticket is one of those that are summed
one_of : (task : Task) (w : ℕ) → w < window_count task.plan → is_in (windows task) w ≡ true
one_of task w l = is_in_range 0 (window_count task.plan) w (omega arith) (omega (arith, l))

held_within : (task : Task) (retries : ℕ) (m : Machine) → IsKept task retries m → (w k : ℕ) →
    held_by (m.phase w) ≡ Some k → w < window_count task.plan
held_within task retries m kept w k e =
    let c = kept.sound.current w k e in
    subst (λ x. x < window_count task.plan) c.1 (kept.covered k c.0).in_range

-- a window does more, and the others as much
works : (task : Task) (m n : Machine) (w : ℕ) → w < window_count task.plan → weight task m w + 1
    ≤ weight task n w → ((x : ℕ) → (x ≡ w → ⊥) → weight task m x ≤ weight task n x) →
    worked task m + 1 ≤ worked task n
works task m n w within more others =
    sum_rises (weight task m) (weight task n) (windows task) w (one_of task w within) each more
  where
    each : (x : ℕ) → weight task m x ≤ weight task n x
    each x = ⊎_elim (λ e. subst (λ y. weight task m y ≤ weight task n y) (sym e) (omega (
      arith,
      more,
    ))) (others x) (cases_eq x w)

-- ---- each event

abbrev Rises : Task → Machine → Machine → Type 0
Rises task m n = level task m + 1 ≤ level task n

module _ (task : Task) (retries : ℕ) (m : Machine) (kept : IsKept task retries m) where
  rises_claimed : (k w : ℕ) (links : List Link) → MayClaim task retries m k w links →
      Rises task m (happens task m (Claimed k w links))
  rises_claimed k w links may =
      let more = works task m n w may.in_range at_window others in
      let low = closed_low in
      omega (arith, more, low)
    where
      n : Machine
      n = happens task m (Claimed k w links)

      other : (j : ℕ) → j < m.tickets → n.claim j ≡ m.claim j
      other j taken = set_other m.claim k _ j (λ same. let number = may.number in
          omega (arith, same, number, taken))

      at_window : weight task m w + 1 ≤ weight task n w
      at_window =
          let was : weight task m w ≡ weigh (dep_count task w) (m.poisons w) m.claim Waiting =
          ap (weigh (dep_count task w) (m.poisons w) m.claim) may.waiting in
          let is : weight task n w ≡ weigh (dep_count task w) (m.poisons w) n.claim (Running k) = ap
          (weigh (dep_count task w) (m.poisons w) n.claim) (set_same m.phase w (Running k)) in
          omega (arith, was, is)

      others : (x : ℕ) → (x ≡ w → ⊥) → weight task m x ≤ weight task n x
      others x ne = same_weight task m n x refl (set_other m.phase w (Running k) x ne) (λ j e.
          ap (λ (c : Claim). c.links) (other j (kept.sound.current x j e).0))

      closed_low : closed m ≤ closed n
      closed_low =
          let same = count_same (λ j. (m.claim j).closed) (λ j. (n.claim j).closed)
          (range_with_len 0 m.tickets)
          (λ j h. ap (λ (c : Claim). c.closed) (sym (other j (let r = is_in-range 0 m.tickets j h in
          omega (arith, r.1))))) in
          let more = count_next (λ j. (n.claim j).closed) m.tickets in
          omega (arith, same, more)

  -- a ticket is closed, and the links of all stay
  closes_one : (k : ℕ) (new : Claim) →
      k < m.tickets → (m.claim k).closed ≡ false → new.closed ≡ true →
      closed m + 1 ≤ count_by (λ j. (set_at m.claim k new j).closed) (range_with_len 0 m.tickets)
  closes_one k new taken was is =
      sum_rises (λ j. tally (m.claim j).closed) (λ j.
      tally (set_at m.claim k new j).closed) (range_with_len 0 m.tickets) k
      (is_in_range 0 m.tickets k (omega arith) (omega (arith, taken))) each
      (let a : tally (m.claim k).closed ≡ 0 = ap tally was in
      let b : tally (set_at m.claim k new k).closed ≡ 1 = ap (λ (c : Claim). tally c.closed)
      (set_same m.claim k new) ∙ ap tally is in omega (arith, a, b))
    where
      each : (j : ℕ) → tally (m.claim j).closed ≤ tally (set_at m.claim k new j).closed
      each j =
          ⊎_elim
          (λ e. let a : tally (m.claim j).closed ≡ 0 = ap (λ i. tally (m.claim i).closed) e
          ∙ ap tally was in omega (arith, a))
          (λ ne. let a : tally (set_at m.claim k new j).closed ≡ tally (m.claim j).closed =
          ap (λ (c : Claim). tally c.closed) (set_other m.claim k new j ne) in omega (arith, a))
          (cases_eq j k)

  rises_returned : (k : ℕ) (set : List ℕ) → MayReturn task m k set →
      Rises task m (happens task m (Returned k set))
  rises_returned k set may =
      let more = closes_one k (record (m.claim k) { result = Some set; closed = true }) may.taken
      (kept.open_.running (m.claim k).window k may.running) refl in
      let low = sum_by-le-sum_by (weight task m) (weight task n) (windows task) each in
      omega (arith, more, low)
    where
      n : Machine
      n = happens task m (Returned k set)

      links : (j : ℕ) → (n.claim j).links ≡ (m.claim j).links
      links j = set_part (λ (c : Claim). c.links) m.claim k _ refl j

      at_window : weight task m (m.claim k).window ≤ weight task n (m.claim k).window
      at_window =
          let w = (m.claim k).window in
          let was : weight task m w ≡ weigh (dep_count task w) (m.poisons w) m.claim (Running k) =
          ap (weigh (dep_count task w) (m.poisons w) m.claim) may.running in
          let is : weight task n w ≡ weigh (dep_count task w) (m.poisons w) n.claim (Held k) =
          ap (weigh (dep_count task w) (m.poisons w) n.claim) (set_same m.phase w (Held k)) in
          let same : named (n.claim k).links ≡ named (m.claim k).links = ap named (links k) in
          omega (arith, was, is, same)

      each : (x : ℕ) → weight task m x ≤ weight task n x
      each x =
          ⊎_elim (λ e. subst (λ y. weight task m y ≤ weight task n y) (sym e) at_window)
          (λ ne. same_weight task m n x refl (set_other m.phase (m.claim k).window (Held k) x ne)
          (λ j e. links j)) (cases_eq x (m.claim k).window)

  rises_stale : (k : ℕ) → MayBeStale m k → Rises task m (happens task m (Stale k))
  rises_stale k may =
      let more = closes_one k (record (m.claim k) { closed = true }) may.taken may.open_ refl in
      let low = sum_by-le-sum_by (weight task m) (weight task (happens task m (Stale k)))
      (windows task)
      (λ x. same_weight task m (happens task m (Stale k)) x refl refl (λ j e.
      set_part (λ (c : Claim). c.links) m.claim k _ refl j)) in
      omega (arith, more, low)

  -- no more links name a ticket than the window has dependencies
  named_few : (w k : ℕ) → held_by (m.phase w) ≡ Some k → named (m.claim k).links ≤ dep_count task w
  named_few w k e =
      let c = kept.sound.current w k e in
      let long : length (m.claim k).links ≡ dep_count task w =
      sym (length-map (m.claim k).links (λ (link : Link). link.source))
      ∙ ap length (kept.sound.sources k c.0) ∙ ap (dep_count task) c.1 in
      let few = count_by-le-length is_named (m.claim k).links in
      omega (arith, long, few)

  rises_given_up : (w k : ℕ) → pending (m.phase w) ≡ Some k → Rises task m (give_up m w)
  rises_given_up w k e =
      let more = works task m n w
      (held_within task retries m kept w k (pending_held (m.phase w) k e)) at_window others in
      omega (arith, more)
    where
      n : Machine
      n = give_up m w

      at_window : weight task m w + 1 ≤ weight task n w
      at_window =
          let was = pending_weigh (dep_count task w) (m.poisons w) m.claim (m.phase w) k e in
          let few = named_few w k (pending_held (m.phase w) k e) in
          let is : weight task n w ≡ weigh (dep_count task w) (m.poisons w + 1) m.claim Waiting =
          ap (λ p. weigh (dep_count task w) p m.claim (n.phase w)) (set_same m.poisons
          w (m.poisons w + 1)) ∙ ap (weigh (dep_count task w) (m.poisons w + 1) m.claim)
          (set_same m.phase w Waiting) in
          let product : (1 + dep_count task w) * (m.poisons w + 1) ≡ (1 + dep_count task w)
          * m.poisons w + (1 + dep_count task w) =
          mul-add (1 + dep_count task w) (m.poisons w) 1 ∙ ap (λ c. (1 + dep_count task w)
          * m.poisons w + c) (mul-one (1 + dep_count task w)) in
          omega (arith, was, few, is, product)

      others : (x : ℕ) → (x ≡ w → ⊥) → weight task m x ≤ weight task n x
      others x ne = same_weight task m n x (set_other m.poisons w _ x ne)
          (set_other m.phase w Waiting x ne) (λ j h. refl)

  rises_committed : (k w : ℕ) → MayCommitTicket task m k w →
      Rises task m (happens task m (Committed k w))
  rises_committed k w may =
      let more = works task m n w may.in_range at_window others in
      omega (arith, more)
    where
      n : Machine
      n = happens task m (Committed k w)

      at_window : weight task m w + 1 ≤ weight task n w
      at_window =
          let was : weight task m w ≡ weigh (dep_count task w) (m.poisons w) m.claim (Held k) =
          ap (weigh (dep_count task w) (m.poisons w) m.claim) may.held in
          let is : weight task n w ≡ weigh (dep_count task w) (m.poisons w) m.claim (Done k) =
          ap (weigh (dep_count task w) (m.poisons w) m.claim) (set_same m.phase w (Done k)) in
          omega (arith, was, is)

      others : (x : ℕ) → (x ≡ w → ⊥) → weight task m x ≤ weight task n x
      others x ne = same_weight task m n x refl (set_other m.phase w (Done k) x ne) (λ j h. refl)

  rises_released : (op : ℕ) (bit : Bool) → op < length task.operations → is_some (m.released op)
      ≡ false → Rises task m (happens task m (Released op bit))
  rises_released op bit within open_ =
      let more = sum_rises (λ o. tally (is_some (m.released o))) (λ o. tally (is_some
      (set_at m.released op (Some bit) o))) (range_with_len 0 (length task.operations)) op
      (is_in_range 0 (length task.operations) op (omega arith) (omega (arith, within))) each
      (let a : tally (is_some (m.released op)) ≡ 0 = ap tally open_ in
      let b : tally (is_some (set_at m.released op (Some bit) op)) ≡ 1 =
      ap (λ o. tally (is_some o)) (set_same m.released op (Some bit)) in omega (arith, a, b)) in
      omega (arith, more)
    where
      each : (o : ℕ) →
          tally (is_some (m.released o)) ≤ tally (is_some (set_at m.released op (Some bit) o))
      each o =
          ⊎_elim
          (λ e. let a : tally (is_some (m.released o)) ≡ 0 =
          ap (λ i. tally (is_some (m.released i))) e ∙ ap tally open_ in omega (arith, a))
          (λ ne. let a : tally (is_some (set_at m.released op (Some bit) o))
          ≡ tally (is_some (m.released o)) = ap (λ p. tally (is_some p))
          (set_other m.released op (Some bit) o ne) in omega (arith, a))
          (cases_eq o op)

  rises_verified : (x y : ℕ) (bits : List Bool) (may : Compares task m x y bits bits) →
      Rises task m (verified task m x y bits may kept.sound)
  unfolding verified
  rises_verified x y bits may =
      let more = works task m n y (held_within task retries m kept y may.own
      (pending_held (m.phase y) may.own may.is_pending)) at_window others in
      let same = count_same (λ j. (n.claim j).closed) (λ j. (m.claim j).closed) (range_with_len 0
      m.tickets) (λ j h. set_part (λ (c : Claim). c.closed) m.claim may.own _ refl j) in
      omega (arith, more, same)
    where
      n : Machine
      n = verified task m x y bits may kept.sound

      own : (may.own < m.tickets) × ((m.claim may.own).window ≡ y)
          × ((window_at task.plan y).last < m.arrived)
      own = kept.sound.current y may.own (pending_held (m.phase y) may.own may.is_pending)

      at_window : weight task m y + 1 ≤ weight task n y
      at_window =
          let was = pending_weigh (dep_count task y) (m.poisons y) m.claim (m.phase y) may.own
          may.is_pending in
          let is = pending_weigh (dep_count task y) (m.poisons y) n.claim (m.phase y) may.own
          may.is_pending in
          let more : named (n.claim may.own).links ≡ named (m.claim may.own).links + 1 =
          ap (λ (c : Claim). named c.links) (set_same m.claim may.own (record (m.claim may.own)
          { links = with_ticket x may.other (m.claim may.own).links }))
          ∙ named_more x may.other bits (m.claim may.own).links may.guessed in
          omega (arith, was, is, more)

      others : (z : ℕ) → (z ≡ y → ⊥) → weight task m z ≤ weight task n z
      others z ne =
          same_weight task m n z refl refl (λ j e.
          let c = kept.sound.current z j e in
          ap (λ (d : Claim). d.links) (set_other m.claim may.own _ j (λ same.
          ne (sym c.1 ∙ ap (λ i. (m.claim i).window) same ∙ own.1))))

  rises : (event : Event) → IsEnabled task retries m event → Rises task m (happens task m event)
  rises (Arrived t values raws) may =
      let c : closed (happens task m (Arrived t values raws)) ≡ closed m = refl in
      let w : worked task (happens task m (Arrived t values raws)) ≡ worked task m = refl in
      let g : given task (happens task m (Arrived t values raws)) ≡ given task m = refl in
      omega (arith, c, w, g)
  rises (Claimed k w links) may = rises_claimed k w links may
  rises (Returned k set) may = rises_returned k set may
  rises (Stale k) may = rises_stale k may
  rises (Verified x w) may = subst (Rises task m)
      (sym (verified_is task m x w may.0 may.1 kept.sound)) (rises_verified x w may.0 may.1)
  rises (Poisoned x w) may = rises_given_up w may.2.own may.2.is_pending
  rises (Dropped w) may = rises_given_up w may.own may.is_pending
  rises (Committed k w) may = rises_committed k w may
  rises (Released op bit) may = rises_released op bit may.in_range may.open_

  -- ---- what holds after the event

  spent_grows : (event : Event) → IsEnabled task retries m event → (x : ℕ) →
      spent m x ≤ spent (happens task m event) x
  spent_grows event may x = let s = spent_is task retries m event x kept.sound may in
      omega (arith, s)

  few_same : (event : Event) →
      IsEnabled task retries m event → (happens task m event).tickets ≡ m.tickets →
      (happens task m event).tickets ≤ sum_by (spent (happens task m event)) (windows task)
  few_same event may same =
      let grows = sum_by-le-sum_by (spent m) (spent (happens task m event)) (windows task)
      (spent_grows event may) in
      let few = kept.few in omega (arith, grows, few, same)

  few_after : (event : Event) → IsEnabled task retries m event →
      (happens task m event).tickets ≤ sum_by (spent (happens task m event)) (windows task)
  few_after (Arrived t values raws) may = few_same (Arrived t values raws) may refl
  few_after (Claimed k w links) may =
      let one = spent_is task retries m (Claimed k w links) w kept.sound may in
      let cost_is : tally (w == w) ≡ 1 = ap tally (eq-eqb w w refl) in
      let grows = sum_rises (spent m) (spent (happens task m (Claimed k w links))) (windows task)
      w (one_of task w may.in_range) (spent_grows (Claimed k w links) may) (omega (
        arith,
        one,
        cost_is,
      )) in
      let few = kept.few in omega (arith, grows, few)
  few_after (Returned k set) may = few_same (Returned k set) may refl
  few_after (Stale k) may = few_same (Stale k) may refl
  few_after (Verified x w) may = few_same (Verified x w) may
      (tickets_confirmed m x (pending (m.phase w)) (standing (m.phase x)))
  few_after (Poisoned x w) may = few_same (Poisoned x w) may refl
  few_after (Dropped w) may = few_same (Dropped w) may refl
  few_after (Committed k w) may = few_same (Committed k w) may refl
  few_after (Released op bit) may = few_same (Released op bit) may refl

  in_time_after : (event : Event) → IsEnabled task retries m event →
      (happens task m event).arrived ≤ task.last_slot + 1
  in_time_after (Arrived t values raws) may = let next = may.0.next in
      let in_range = may.0.in_range in omega (arith, next, in_range)
  in_time_after (Claimed k w links) may = kept.in_time
  in_time_after (Returned k set) may = kept.in_time
  in_time_after (Stale k) may = kept.in_time
  in_time_after (Verified x w) may = subst (λ a. a ≤ task.last_slot + 1)
      (sym (arrived_confirmed m x (pending (m.phase w)) (standing (m.phase x)))) kept.in_time
  in_time_after (Poisoned x w) may = kept.in_time
  in_time_after (Dropped w) may = kept.in_time
  in_time_after (Committed k w) may = kept.in_time
  in_time_after (Released op bit) may = kept.in_time

  kept_step : PlanLaws task.graph task.tags task.plan → (event : Event) →
      IsEnabled task retries m event → IsKept task retries (happens task m event)
  kept_step laws event may = record {
    sound = sound_step task retries laws m event kept.sound may;
    paid = paid_step task retries m event kept.sound may kept.paid;
    covered = covered_step task retries m event may kept.covered;
    in_time = in_time_after event may;
    few = few_after event may;
    open_ = open_step task retries m event kept.sound may kept.open_;
  }

  -- ---- the limit

  live_few : (w : ℕ) → live m.claim (m.phase w) ≤ dep_count task w
  live_few w = by_phase (m.phase w) (λ k e. named_few w k e)
    where
      by_phase : (p : Phase) → ((k : ℕ) → held_by p ≡ Some k →
          named (m.claim k).links ≤ dep_count task w) → live m.claim p ≤ dep_count task w
      by_phase Waiting few = omega arith
      by_phase (Running k) few = few k refl
      by_phase (Held k) few = few k refl
      by_phase (Done k) few = few k refl

  weight_few : (w : ℕ) → weight task m w + spent m w ≤ (retries + 1) * (3 + dep_count task w)
  weight_few w =
      let d = dep_count task w in
      let low = kept.paid.low w in
      let busy_one = busy_small (m.phase w) in
      let done_one = finished_small (m.phase w) in
      let live_low = live_few w in
      let product : (1 + d) * m.poisons w ≤ (1 + d) * retries = mul-le-mul_left (1 + d) low in
      let one : (retries + 1) * (3 + d) ≡ (3 + d) * retries + (3 + d) = mul_comm (retries + 1) (3
      + d) ∙ mul-add (3 + d) retries 1 ∙ ap (λ c. (3 + d) * retries + c) (mul-one (3 + d)) in
      let apart : 3 + d ≡ 2 + (1 + d) = omega arith in
      let two : (3 + d) * retries ≡ retries * 2 + (1 + d) * retries =
      mul_comm (3 + d) retries ∙ ap (λ c. retries * c) apart ∙ mul-add retries 2 (1 + d)
      ∙ ap (λ c. retries * 2 + c) (mul_comm retries (1 + d)) in
      omega (arith, low, busy_one, done_one, live_low, product, one, two)

  limited : level task m ≤ most_events task retries
  limited =
      let all = sum_both (weight task m) (spent m) (λ w. (retries + 1) * (3 + dep_count task w))
      (windows task) weight_few in
      let cap = sum_scaled (retries + 1) (dep_count task) (windows task) in
      let same : (retries + 1) * (3 * length (windows task) + sum_by (dep_count task)
      (windows task)) ≡ (retries + 1) * (3 * window_count task.plan + link_count task.plan) =
      ap (λ n. (retries + 1) * (3 * n + sum_by (dep_count task) (windows task)))
      (length-range_with_len 0 (window_count task.plan))
      ∙ ap (λ n. (retries + 1) * (3 * window_count task.plan + n)) (links_are task) in
      let few = kept.few in
      let in_time = kept.in_time in
      let closed_few = count_by-le-length (λ k. (m.claim k).closed) (range_with_len 0 m.tickets) in
      let given_few = count_by-le-length (λ op. is_some (m.released op))
      (range_with_len 0 (length task.operations)) in
      omega (
        arith,
        all,
        cap,
        same,
        few,
        in_time,
        closed_few,
        given_few,
        length-range_with_len 0 m.tickets,
        length-range_with_len 0 (length task.operations),
      )

longest : (task : Task) (retries : ℕ) → PlanLaws task.graph task.tags task.plan →
    (m : Machine) (events : List Event) → IsKept task retries m →
    IsHistoryFrom task retries m events → length events + level task m ≤ most_events task retries
longest task retries laws m [] kept h = let l = limited task retries m kept in omega (arith, l)
longest task retries laws m (event ∷ events) kept h =
    let rest = longest task retries laws (happens task m event) events
    (kept_step task retries m kept laws event h.0) h.1 in
    let one = rises task retries m kept event h.0 in
    omega (arith, rest, one)

pub length_law : LengthLaw
length_law task retries events laws h =
    let l = longest task retries laws start events
    (record {
      sound = start_sound task;
      paid = record { low = λ x. omega arith; free = λ x k e. absurd (none-some k e) };
      covered = λ k taken. absurd (omega (arith, taken));
      in_time = omega arith;
      few = omega arith;
      open_ = record { running = λ w k e. refl; beyond = λ k high. refl };
    })
    h in
    omega (arith, l)
