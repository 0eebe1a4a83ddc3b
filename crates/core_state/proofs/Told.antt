-- What the tables tell of the machine.
use Rattle.std.proofs.Common.{◌≡◌, ℕ, zero, suc, ◌<◌, Bool, List, [], ◌∷◌, refl, sym, ap, ◌∙◌, get_or, drop, length, map, arith, Option, Some, None, is_some, true, false, IfSome, option_map, slice_get, subst}
use Rattle.std.proofs.lemmas.Bool.{false≢true}
use Rattle.std.proofs.lemmas.List.{length-map}
use Rattle.std.proofs.lemmas.Option.{get_or_from_slice_get, none-some, same_Some, slice_get_within}
use Rattle.graph_model.specs.Problems.{Decoding}
use Rattle.window_model.specs.Parts.{part_of}
use Rattle.window_model.specs.Windows.{places, window_at, window_count}
use Rattle.window_model.specs.Speculation.{Claim, Link, Phase, Waiting, Running, Held, Done, held_by, sources_of, standing}
use Rattle.window_model.specs.declared.Origin.{Origin}
use Rattle.cascade_laws.specs.Store.{bits_of}
use Rattle.cascade_laws.specs.Mirror.{live_of}
use Rattle.cascade_laws.proofs.Events.{standing_is}
use Rattle.cascade_laws.proofs.Laws.{claims_of, sound, inside}
use Rattle.poison_cascade.specs.Books.{entry_at, standing as stands_at}
use Rattle.poison_cascade.specs.Running.{running_of as runs_in}
use Rattle.core_journal.specs.Entries.{links_of}
use Rattle.core_store.specs.Tickets.{ClaimBits, answer_at, links_in, links_with, set_of}
use Rattle.core_state.specs.States.{AreParts, HasBits, Parts, history_in, kept_of, machine_in, running_of}
use Rattle.core_state.proofs.Follows.{laws}

-- what is read of a mapped list
read_map : {X Y : Type 0} (f : X → Y) (xs : List X) (k : ℕ) (x : X) (d : Y) →
    slice_get xs k ≡ Some x → get_or (map f xs) k d ≡ f x
read_map f [] k x d e = absurd (none-some x e)
read_map f (y ∷ xs) zero x d e = ap f (same_Some y x e)
read_map f (y ∷ xs) (suc k) x d e = read_map f xs k x d e

sets_read : (answers : List (Option Decoding)) (k : ℕ) → get_or (map set_of answers) k None
    ≡ set_of (get_or answers k None)
sets_read [] k = refl
sets_read (a ∷ answers) zero = refl
sets_read (a ∷ answers) (suc k) = sets_read answers k

-- a loan's answer has the set of the answer that is lent
pub sets_same : {R : Type 0} (now : R → Decoding) (o : Option R) → option_map (λ d. (now d).set) o
    ≡ set_of (option_map now o)
sets_same now None = refl
sets_same now (Some d) = refl

-- where there is no loan, there is no answer
pub none_lent : {R : Type 0} (now : R → Decoding) (o : Option R) → o ≡ None →
    option_map now o ≡ None
none_lent now o e = ap (option_map now) e

-- what holds of an answer, of its loan
pub if_some : {R : Type 0} (now : R → Decoding) (P : Decoding → Type 0) (o : Option R) →
    ((d : Decoding) → option_map now o ≡ Some d → P d) → IfSome o (λ r. P (now r))
if_some now P None f = tt
if_some now P (Some r) f = f (now r) refl

runs : (claim : ℕ → Claim) (phase : Phase) → runs_in (live_of claim phase) ≡ running_of phase
runs claim Waiting = refl
runs claim (Running k) = refl
runs claim (Held k) = refl
runs claim (Done k) = refl

-- a window that isn't waiting runs its ticket, or it stands
pub runs_held : (phase : Phase) → is_some (running_of phase) ≡ true →
    running_of phase ≡ held_by phase
runs_held Waiting e = absurd (false≢true e)
runs_held (Running k) e = refl
runs_held (Held k) e = absurd (false≢true e)
runs_held (Done k) e = absurd (false≢true e)

pub stands_held : (phase : Phase) → is_some (running_of phase) ≡ false →
    standing phase ≡ held_by phase
stands_held Waiting e = refl
stands_held (Running k) e = absurd (false≢true (sym e))
stands_held (Held k) e = refl
stands_held (Done k) e = refl

-- the bits of a claim's links, of which there is one for each dependency
bits_with : (deps : List ℕ) (origins : List Origin) (bits : List (List Bool)) →
    map (λ (link : Link). link.source) (links_with deps origins bits) ≡ deps →
    length bits ≡ length deps →
    map (λ (link : Link). link.bits) (links_with deps origins bits) ≡ bits
bits_with [] origins [] e l = refl
bits_with [] origins (b ∷ bits) e l = absurd (omega (arith, l))
bits_with (x ∷ deps) [] bits e l = absurd (let none : 0 ≡ length (x ∷ deps) = ap length e in
    omega (arith, none))
bits_with (x ∷ deps) (o ∷ origins) [] e l = absurd (omega (arith, l))
bits_with (x ∷ deps) (o ∷ origins) (b ∷ bits) e l =
    ap (λ bs. b ∷ bs) (bits_with deps origins bits (ap (drop 1) e) (omega (arith, l)))

module _ (p : Parts) (h : AreParts p) where
  pub has_entry : (w : ℕ) → w < window_count p.task.plan → w < length p.phases.book.windows
  has_entry w l = let same = h.phases.book.each_window in omega (arith, l, same)

  pub claim_window : (k : ℕ) (claim : ClaimBits) → k < (machine_in p).tickets →
      slice_get p.tickets.claims k ≡ Some claim → claim.window ≡ ((machine_in p).claim k).window
  claim_window k claim l e = sym (read_map (λ (c : ClaimBits). c.window) p.tickets.claims k claim 0
      e) ∙ h.tickets.window k l

  pub claim_links : (k : ℕ) (claim : ClaimBits) → slice_get p.tickets.claims k ≡ Some claim →
      links_in p.task.plan claim ≡ links_of (kept_of p) k
  claim_links k claim e = sym (read_map (links_in p.task.plan) p.tickets.claims k claim [] e)

  pub answer_set : (k : ℕ) → k < (machine_in p).tickets → set_of (answer_at p.tickets k)
      ≡ ((machine_in p).claim k).result
  answer_set k l = sym (sets_read p.tickets.answers k) ∙ h.tickets.result k l

  pub stands : (w : ℕ) → stands_at p.phases.book w ≡ standing ((machine_in p).phase w)
  stands w =
      standing_is p.task p.retries (machine_in p) (claims_of (history_in p)) p.phases.book
      (sound p.task p.retries (history_in p) (laws p h) h.history)
      (inside p.task p.retries (history_in p) (laws p h) h.history) h.phases.book w

  pub runs_at : (w : ℕ) → w < window_count p.task.plan → runs_in (entry_at p.phases.book w).live
      ≡ running_of ((machine_in p).phase w)
  runs_at w l = ap runs_in (h.phases.book.live w l)
      ∙ runs (machine_in p).claim ((machine_in p).phase w)

  pub answer_part : (k : ℕ) (d : Decoding) → k < (machine_in p).tickets →
      answer_at p.tickets k ≡ Some d →
      d.problem.part ≡ part_of p.task.graph p.task.plan ((machine_in p).claim k).window
  answer_part k d l e =
      h.answered.part k d e ∙ ap (part_of p.task.graph p.task.plan) (h.tickets.window k l)

  -- each claim has a bit for each place
  pub claim_fits : (k : ℕ) (claim : ClaimBits) → slice_get p.tickets.claims k ≡ Some claim →
      HasBits p.task claim
  claim_fits k claim e = subst (HasBits p.task) (get_or_from_slice_get p.tickets.claims k claim
      claim e) (h.each_bits k claim (slice_get_within p.tickets.claims k claim e))

  -- the bits of a claim are those of its ticket's links
  pub claim_bits : (k : ℕ) (claim : ClaimBits) → k < (machine_in p).tickets →
      slice_get p.tickets.claims k ≡ Some claim →
      claim.bits ≡ bits_of ((machine_in p).claim k).links
  claim_bits k claim l e =
      sym (bits_with (window_at p.task.plan claim.window).deps claim.origins claim.bits same full)
      ∙ ap bits_of (claim_links k claim e) ∙ h.tickets.bits k l
    where
      same : map (λ (link : Link). link.source) (links_in p.task.plan claim)
          ≡ (window_at p.task.plan claim.window).deps
      same =
          ap sources_of (claim_links k claim e) ∙ h.tickets.sources k l
          ∙ (sound p.task p.retries (history_in p) (laws p h) h.history).sources k l
          ∙ ap (λ w. (window_at p.task.plan w).deps) (sym (claim_window k claim l e))

      full : length claim.bits ≡ length (window_at p.task.plan claim.window).deps
      full =
          sym (length-map claim.bits length)
          ∙ ap length (claim_fits k claim e)
          ∙ length-map (window_at p.task.plan claim.window).deps
          (λ x. length (places p.task.graph p.task.plan x claim.window))
