-- Events that bring no slot: what they keep, and what shows of them.
use Rattle.std.proofs.Common.{◌≡◌, ◌≢◌, ◌<◌, ⊎_elim, ℕ, Bool, true, false, cond, List, [], ◌∷◌, ◌++◌, refl, sym, ap, ◌∙◌, append_assoc, arith, eq-eqb, All, Option, None, Some}
use Rattle.std.specs.Bool.{⊤}
use Rattle.std.proofs.lemmas.Bool.{cases_eq}
use Rattle.std.proofs.lemmas.List.Elements.{All-append, All-cons, All-head, All-nil, All-tail}
use Rattle.window_model.specs.Decoder.{Task, Commit, Release, owned_part, set_at}
use Rattle.window_model.specs.Speculation.{Claim, Link, Machine, Event, Arrived, Claimed, Returned, Stale, Verified, Poisoned, Dropped, Committed, Released, Phase, Waiting, Running, Held, Done, confirm, happens, happen_all, pending, result_of, standing, visible_step, visible_from, with_ticket}
use Rattle.window_model.specs.declared.GuessView.{GuessView}
use Rattle.window_model.proofs.Updates.{set_cases, set_other, set_part, set_same}
use Rattle.slot_decoder.specs.Histories.{IsGuessedBy}
use Rattle.slot_decoder.specs.Slots.{BringsNoSlot, IsNoArrival}

-- ---- what shows

pub visible_append : (task : Task) (m : Machine) (xs ys : List Event) →
    visible_from task m (xs ++ ys) ≡ visible_from task m xs
    ++ visible_from task (happen_all task m xs) ys
visible_append task m [] ys = refl
visible_append task m (x ∷ xs) ys =
    ap (λ l. visible_step task m x ++ l) (visible_append task (happens task m x) xs ys)
    ∙ sym (append_assoc (visible_step task m x) (visible_from task (happens task m x) xs)
    (visible_from task (happen_all task (happens task m x) xs) ys))

one_shows : (task : Task) (m : Machine) (event : Event) → BringsNoSlot event →
    All IsNoArrival (visible_step task m event)
one_shows task m (Arrived t values raws) none = absurd none
one_shows task m (Claimed k w links) none = All-nil IsNoArrival
one_shows task m (Returned k set) none = All-nil IsNoArrival
one_shows task m (Stale k) none = All-nil IsNoArrival
one_shows task m (Verified x w) none = All-nil IsNoArrival
one_shows task m (Poisoned x w) none = All-nil IsNoArrival
one_shows task m (Dropped w) none = All-nil IsNoArrival
one_shows task m (Committed k w) none =
    All-cons IsNoArrival (Commit w (owned_part task w (result_of m k))) [] tt (All-nil IsNoArrival)
one_shows task m (Released op bit) none =
    All-cons IsNoArrival (Release op bit) [] tt (All-nil IsNoArrival)

pub none_shows : (task : Task) (m : Machine) (events : List Event) → All BringsNoSlot events →
    All IsNoArrival (visible_from task m events)
none_shows task m [] none = All-nil IsNoArrival
none_shows task m (event ∷ events) none =
    All-append IsNoArrival (visible_step task m event)
    (visible_from task (happens task m event) events)
    (one_shows task m event (All-head BringsNoSlot event events none))
    (none_shows task (happens task m event) events (All-tail BringsNoSlot event events none))

-- ---- what has arrived

-- the same slots have arrived, with the same values
pub record HasSameValues (one two : Machine) : Type 0 where
  pub arrived : two.arrived ≡ one.arrived
  pub value : (v : ℕ) → two.value v ≡ one.value v
  pub raw : (l : ℕ) → two.raw l ≡ one.raw l

same : (m : Machine) → HasSameValues m m
same m = record { arrived = refl; value = λ v. refl; raw = λ l. refl }

same_confirmed : (m : Machine) (x : ℕ) (one two : Option ℕ) →
    HasSameValues m (confirm m x one two)
same_confirmed m x (Some k) (Some j) = record { arrived = refl; value = λ v. refl; raw = λ l. refl }
same_confirmed m x (Some k) None = same m
same_confirmed m x None two = same m

pub one_keeps : (task : Task) (m : Machine) (event : Event) → BringsNoSlot event →
    HasSameValues m (happens task m event)
one_keeps task m (Arrived t values raws) none = absurd none
one_keeps task m (Claimed k w links) none =
    record { arrived = refl; value = λ v. refl; raw = λ l. refl }
one_keeps task m (Returned k set) none =
    record { arrived = refl; value = λ v. refl; raw = λ l. refl }
one_keeps task m (Stale k) none = record { arrived = refl; value = λ v. refl; raw = λ l. refl }
one_keeps task m (Verified x w) none =
    same_confirmed m x (pending (m.phase w)) (standing (m.phase x))
one_keeps task m (Poisoned x w) none =
    record { arrived = refl; value = λ v. refl; raw = λ l. refl }
one_keeps task m (Dropped w) none = record { arrived = refl; value = λ v. refl; raw = λ l. refl }
one_keeps task m (Committed k w) none =
    record { arrived = refl; value = λ v. refl; raw = λ l. refl }
one_keeps task m (Released op bit) none =
    record { arrived = refl; value = λ v. refl; raw = λ l. refl }

pub all_keep : (task : Task) (m : Machine) (events : List Event) → All BringsNoSlot events →
    HasSameValues m (happen_all task m events)
all_keep task m [] none = same m
all_keep task m (event ∷ events) none =
    let one = one_keeps task m event (All-head BringsNoSlot event events none) in
    let rest = all_keep task (happens task m event) events (All-tail BringsNoSlot event events none)
    in
    record {
      arrived = rest.arrived ∙ one.arrived;
      value = λ v. rest.value v ∙ one.value v;
      raw = λ l. rest.raw l ∙ one.raw l;
    }

-- ---- what runs

-- a turn that is no claim
abbrev pub IsStill : Event → Type 0
IsStill (Verified x w) = ⊤
IsStill (Poisoned x w) = ⊤
IsStill (Dropped w) = ⊤
IsStill (Committed k w) = ⊤
IsStill (Released op bit) = ⊤
IsStill _ = ⊥

pub still_brings : (event : Event) → IsStill event → BringsNoSlot event
still_brings (Arrived t values raws) still = still
still_brings (Claimed k w links) still = tt
still_brings (Returned k set) still = tt
still_brings (Stale k) still = tt
still_brings (Verified x w) still = tt
still_brings (Poisoned x w) still = tt
still_brings (Dropped w) still = tt
still_brings (Committed k w) still = tt
still_brings (Released op bit) still = tt

-- which guesses nothing
pub still_guesses : (may_guess : GuessView → Bool → Type 0) (task : Task) (m : Machine)
    (event : Event) → IsStill event → IsGuessedBy may_guess task m event
still_guesses may_guess task m (Arrived t values raws) still = tt
still_guesses may_guess task m (Claimed k w links) still = absurd still
still_guesses may_guess task m (Returned k set) still = tt
still_guesses may_guess task m (Stale k) still = tt
still_guesses may_guess task m (Verified x w) still = tt
still_guesses may_guess task m (Poisoned x w) still = tt
still_guesses may_guess task m (Dropped w) still = tt
still_guesses may_guess task m (Committed k w) still = tt
still_guesses may_guess task m (Released op bit) still = tt

abbrev pub NoneRunning : Machine → Type 0
NoneRunning m = (w k : ℕ) → m.phase w ≢ Running k

none_set : (phase : ℕ → Phase) (w : ℕ) (new : Phase) → ((k : ℕ) → new ≢ Running k) →
    ((x k : ℕ) → phase x ≢ Running k) → (x k : ℕ) → set_at phase w new x ≢ Running k
none_set phase w new other none x k runs =
    ⊎_elim (λ here. other k here.1) (λ there. none x k there.1)
    (set_cases (λ p. p ≡ Running k) phase w new x runs)

none_confirmed : (m : Machine) (x : ℕ) (one two : Option ℕ) → NoneRunning m →
    NoneRunning (confirm m x one two)
none_confirmed m x (Some k) (Some j) none = none
none_confirmed m x (Some k) None none = none
none_confirmed m x None two none = none

pub still_none : (task : Task) (m : Machine) (event : Event) → IsStill event → NoneRunning m →
    NoneRunning (happens task m event)
still_none task m (Arrived t values raws) still none = absurd still
still_none task m (Claimed k w links) still none = absurd still
still_none task m (Returned k set) still none = absurd still
still_none task m (Stale k) still none = absurd still
still_none task m (Verified x w) still none =
    none_confirmed m x (pending (m.phase w)) (standing (m.phase x)) none
still_none task m (Poisoned x w) still none = none_set m.phase w Waiting (λ k e. absurd cc) none
still_none task m (Dropped w) still none = none_set m.phase w Waiting (λ k e. absurd cc) none
still_none task m (Committed k w) still none = none_set m.phase w (Done k) (λ j e. absurd cc) none
still_none task m (Released op bit) still none = none

-- a slot's arrival
pub arrival_none : (task : Task) (m : Machine) (t : ℕ) (values raws : List Bool) → NoneRunning m →
    NoneRunning (happens task m (Arrived t values raws))
arrival_none task m t values raws none = none

-- a claim, and then its answer
pub answered_none : (task : Task) (m : Machine) (k w : ℕ) (links : List Link) (set : List ℕ) →
    NoneRunning m → NoneRunning (happens task (happens task m (Claimed k w links)) (Returned k set))
answered_none task m k w links set none x j runs =
    let after = happens task m (Claimed k w links) in
    let own : (after.claim k).window ≡ w = ap (λ (c : Claim). c.window)
    (set_same m.claim k (record { window = w; links = links; result = None; closed = false }))
    in
    ⊎_elim (λ here. absurd cc)
    (λ there. ⊎_elim (λ same_. there.0 (same_.0 ∙ sym own)) (λ other. none x j other.1)
    (set_cases (λ p. p ≡ Running j) m.phase w (Running k) x there.1))
    (set_cases (λ p. p ≡ Running j) after.phase (after.claim k).window (Held k) x runs)

-- ---- what is answered

abbrev pub EachAnswered : Machine → Type 0
EachAnswered m = (k : ℕ) → k < m.tickets → (m.claim k).closed ≡ true

answered_confirmed : (m : Machine) (x : ℕ) (one two : Option ℕ) → EachAnswered m →
    EachAnswered (confirm m x one two)
answered_confirmed m x (Some k) (Some j) all = λ i l.
    set_part (λ (c : Claim). c.closed) m.claim k
    (record (m.claim k) { links = with_ticket x j (m.claim k).links }) refl i ∙ all i l
answered_confirmed m x (Some k) None all = all
answered_confirmed m x None two all = all

pub still_answered : (task : Task) (m : Machine) (event : Event) → IsStill event →
    EachAnswered m → EachAnswered (happens task m event)
still_answered task m (Arrived t values raws) still all = absurd still
still_answered task m (Claimed k w links) still all = absurd still
still_answered task m (Returned k set) still all = absurd still
still_answered task m (Stale k) still all = absurd still
still_answered task m (Verified x w) still all =
    answered_confirmed m x (pending (m.phase w)) (standing (m.phase x)) all
still_answered task m (Poisoned x w) still all = all
still_answered task m (Dropped w) still all = all
still_answered task m (Committed k w) still all = all
still_answered task m (Released op bit) still all = all

pub arrival_answered : (task : Task) (m : Machine) (t : ℕ) (values raws : List Bool) →
    EachAnswered m → EachAnswered (happens task m (Arrived t values raws))
arrival_answered task m t values raws all = all

-- a claim of the next ticket, and then its answer
pub claim_answered : (task : Task) (m : Machine) (k w : ℕ) (links : List Link) (set : List ℕ) →
    k ≡ m.tickets → EachAnswered m →
    EachAnswered (happens task (happens task m (Claimed k w links)) (Returned k set))
claim_answered task m k w links set next all j l =
    let new : Claim = record { window = w; links = links; result = None; closed = false } in
    let after = happens task m (Claimed k w links) in
    let done : Claim = record (after.claim k) { result = Some set; closed = true } in
    ⊎_elim (λ here. ap (λ b. (cond b done (after.claim j)).closed) (eq-eqb j k here))
    (λ other. ap (λ (c : Claim). c.closed) (set_other after.claim k done j other)
    ∙ ap (λ (c : Claim). c.closed) (set_other m.claim k new j other)
    ∙ all j (omega (arith, l, next, other))) (cases_eq j k)
