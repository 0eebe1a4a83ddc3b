-- The links of a claim that is filled in.
use Rattle.std.proofs.Common.{◌≡◌, ℕ, zero, suc, ◌<◌, ◌+◌, false, true, Bool, ⊎_elim, List, [], ◌∷◌, refl, sym, ap, ◌∙◌, subst, length, drop, get_or, map, set, arith, All, MatchOption, None, Some}
use Rattle.std.proofs.lemmas.Bool.{cases_eq, false≢true}
use Rattle.std.proofs.lemmas.List.{get_or-set_same, get_or-set_other, length-map, length-set, map-set}
use Rattle.std.proofs.lemmas.List.Elements.{All-cons, All-nil}
use Rattle.window_model.specs.declared.GuessView.{GuessView}
use Rattle.window_model.specs.declared.Origin.{Origin}
use Rattle.window_model.specs.declared.Origin.TheVariants.{Guess, Ticket}
use Rattle.window_model.specs.Decoder.{Task}
use Rattle.window_model.specs.Guesses.{AreGuessed, IsGuessed}
use Rattle.window_model.specs.Speculation.{Link, Machine, IsNewLink, flips_at, is_guess, result_of, standing}
use Rattle.window_model.specs.Windows.{places, window_at}
use Rattle.core_store.specs.Tickets.{ClaimBits, links_in, links_with}
use Rattle.window_core.specs.Claims.{AreFilled, HasPlaces, IsFilled, dependencies, link_at}

-- a link for each dependency
pub sources_with : (deps : List ℕ) (origins : List Origin) (bits : List (List Bool)) →
    length origins ≡ length deps → length bits ≡ length deps →
    map (λ (link : Link). link.source) (links_with deps origins bits) ≡ deps
sources_with [] origins bits lo lb = refl
sources_with (x ∷ deps) [] bits lo lb = absurd (omega (arith, lo))
sources_with (x ∷ deps) (o ∷ origins) [] lo lb = absurd (omega (arith, lb))
sources_with (x ∷ deps) (o ∷ origins) (b ∷ bits) lo lb =
    ap (λ xs. x ∷ xs) (sources_with deps origins bits (omega (arith, lo)) (omega (arith, lb)))

-- with its bits
pub bits_with : (deps : List ℕ) (origins : List Origin) (bits : List (List Bool)) →
    length origins ≡ length deps → length bits ≡ length deps →
    map (λ (link : Link). link.bits) (links_with deps origins bits) ≡ bits
bits_with [] origins [] lo lb = refl
bits_with [] origins (b ∷ bits) lo lb = absurd (omega (arith, lb))
bits_with (x ∷ deps) [] bits lo lb = absurd (omega (arith, lo))
bits_with (x ∷ deps) (o ∷ origins) [] lo lb = absurd (omega (arith, lb))
bits_with (x ∷ deps) (o ∷ origins) (b ∷ bits) lo lb =
    ap (λ bs. b ∷ bs) (bits_with deps origins bits (omega (arith, lo)) (omega (arith, lb)))

-- what holds of each of them holds of all
pub all_with : (P : Link → Type 0) (deps : List ℕ) (origins : List Origin)
    (bits : List (List Bool)) → length origins ≡ length deps → length bits ≡ length deps →
    ((i : ℕ) → i < length deps → P (record {
      source = get_or deps i 0;
      origin = get_or origins i Guess;
      bits = get_or bits i [];
    })) → All P (links_with deps origins bits)
all_with P [] origins bits lo lb each = All-nil P
all_with P (x ∷ deps) [] bits lo lb each = All-nil P
all_with P (x ∷ deps) (o ∷ origins) [] lo lb each = All-nil P
all_with P (x ∷ deps) (o ∷ origins) (b ∷ bits) lo lb each =
    All-cons P (record { source = x; origin = o; bits = b }) (links_with deps origins bits)
    (each 0 (omega arith))
    (all_with P deps origins bits (omega (arith, lo)) (omega (arith, lb))
    (λ i l. each (suc i) (omega (arith, l))))

-- a link that names a ticket isn't a guess
pub not_guessed : (k : ℕ) → Ticket k ≡ Guess → ⊥
not_guessed k e = false≢true (ap is_guess e)

module _ (task : Task) (claim : ClaimBits) (has : HasPlaces task claim) where
  pub each_bits : length claim.bits ≡ length (dependencies task claim)
  each_bits =
      sym (length-map claim.bits length) ∙ ap length has.bits
      ∙ length-map (dependencies task claim)
      (λ x. length (places task.graph task.plan x claim.window))

  pub sources_are : map (λ (link : Link). link.source) (links_in task.plan claim)
      ≡ dependencies task claim
  sources_are = sources_with (dependencies task claim) claim.origins claim.bits has.origins
      each_bits

  pub bits_are : map (λ (link : Link). link.bits) (links_in task.plan claim) ≡ claim.bits
  bits_are = bits_with (dependencies task claim) claim.origins claim.bits has.origins each_bits

module _ (may_guess : GuessView → Bool → Type 0) (task : Task) (m : Machine) (claim : ClaimBits)
    (are : AreFilled may_guess task m claim (length (dependencies task claim))) where
  pub new_links : All (IsNewLink task m claim.window) (links_in task.plan claim)
  new_links = all_with (IsNewLink task m claim.window) (dependencies task claim) claim.origins
      claim.bits are.has_places.origins (each_bits task claim are.has_places)
      (λ i l. (are.filled i l).new)

  pub guessed_links : AreGuessed may_guess task m claim.window (links_in task.plan claim)
  guessed_links = all_with (IsGuessed may_guess task m claim.window) (dependencies task claim)
      claim.origins claim.bits are.has_places.origins (each_bits task claim are.has_places)
      (λ i l. (are.filled i l).guessed)

-- a list in which the length of an entry stays
lengths_stay : (xs : List (List Bool)) (i : ℕ) (x : List Bool) →
    length x ≡ length (get_or xs i []) →
    i < length xs → map length (set xs i x) ≡ map length xs
lengths_stay [] i x e l = absurd (omega (arith, l))
lengths_stay (y ∷ xs) zero x e l = ap (λ n. n ∷ map length xs) e
lengths_stay (y ∷ xs) (suc i) x e l =
    ap (λ ns. length y ∷ ns) (lengths_stay xs i x e (omega (arith, l)))

-- one link more
module _ (may_guess : GuessView → Bool → Type 0) (task : Task) (m : Machine) (claim : ClaimBits)
    (i : ℕ) (origin : Origin) (bits : List Bool) (are : AreFilled may_guess task m claim i)
    (within : i < length (dependencies task claim))
    (long : length bits ≡ length (get_or claim.bits i []))
    (filled : IsFilled may_guess task m claim.window
    (record { source = get_or (dependencies task claim) i 0; origin = origin; bits = bits })) where
  abbrev next : ClaimBits
  next = record {
    window = claim.window;
    origins = set claim.origins i origin;
    bits = set claim.bits i bits;
  }

  pub one_more : AreFilled may_guess task m next (i + 1)
  one_more = record {
    has_places = record {
      origins = length-set claim.origins i origin ∙ are.has_places.origins;
      bits = lengths_stay claim.bits i bits long in_bits ∙ are.has_places.bits;
    };
    filled = λ j l. ⊎_elim (λ (same : j ≡ i). own j same) (λ (ne : j ≡ i → ⊥).
        other j ne (omega (arith, l, ne))) (cases_eq j i);
  }
    where
      in_bits : i < length claim.bits
      in_bits = subst (λ n. i < n) (sym (each_bits task claim are.has_places)) within

      own : (j : ℕ) → j ≡ i → IsFilled may_guess task m claim.window (link_at task next j)
      own j same = subst (λ n. IsFilled may_guess task m claim.window (link_at task next n))
          (sym same) (subst (λ b. IsFilled may_guess task m claim.window (record {
            source = get_or (dependencies task claim) i 0;
            origin = get_or (set claim.origins i origin) i Guess;
            bits = b;
          })) (sym (get_or-set_same claim.bits i bits [] in_bits))
          (subst (λ o. IsFilled may_guess task m claim.window (record {
            source = get_or (dependencies task claim) i 0;
            origin = o;
            bits = bits;
          })) (sym (get_or-set_same claim.origins i origin Guess
          (subst (λ n. i < n) (sym are.has_places.origins) within))) filled))

      other : (j : ℕ) → (j ≡ i → ⊥) → j < i →
          IsFilled may_guess task m claim.window (link_at task next j)
      other j ne l =
          subst (λ b. IsFilled may_guess task m claim.window (record {
            source = get_or (dependencies task claim) j 0;
            origin = get_or (set claim.origins i origin) j Guess;
            bits = b;
          })) (sym (get_or-set_other claim.bits i j bits [] ne))
          (subst (λ o. IsFilled may_guess task m claim.window (record {
            source = get_or (dependencies task claim) j 0;
            origin = o;
            bits = get_or claim.bits j [];
          })) (sym (get_or-set_other claim.origins i j origin Guess ne)) (are.filled j l))

-- each entry has its length
pub long_at : (f : ℕ → ℕ) (deps : List ℕ) (bits : List (List Bool)) (i : ℕ) (d : List Bool) →
    map length bits ≡ map f deps → i < length deps → length (get_or bits i d) ≡ f (get_or deps i 0)
long_at f [] bits i d e l = absurd (omega (arith, l))
long_at f (x ∷ deps) [] i d e l =
    absurd (let none : 0 ≡ length (map f (x ∷ deps)) = ap length e in omega (arith, none))
long_at f (x ∷ deps) (b ∷ bits) zero d e l = ap (λ ns. get_or ns 0 0) e
long_at f (x ∷ deps) (b ∷ bits) (suc i) d e l =
    long_at f deps bits i d (ap (drop 1) e) (omega (arith, l))

-- a link with the flips of a result that stands, and a link with guesses
module _ (may_guess : GuessView → Bool → Type 0) (task : Task) (m : Machine) (x w : ℕ)
    (bits : List Bool) where
  pub from_result : (k : ℕ) → standing (m.phase x) ≡ Some k →
      bits ≡ flips_at task x w (result_of m k) →
      IsFilled may_guess task m w (record { source = x; origin = Ticket k; bits = bits })
  from_result k stands flips = record {
    new = subst (λ o. MatchOption o ((Ticket k ≡ Guess)
        × (length bits ≡ length (places task.graph task.plan x w)))
        (λ j. (Ticket k ≡ Ticket j) × (bits ≡ flips_at task x w (result_of m j)))) (sym stands)
        (refl, flips);
    guessed = record { bit = λ e. absurd (not_guessed k e) };
  }

  pub from_guess : standing (m.phase x) ≡ None →
      length bits ≡ length (places task.graph task.plan x w) →
      IsGuessed may_guess task m w (record { source = x; origin = Guess; bits = bits }) →
      IsFilled may_guess task m w (record { source = x; origin = Guess; bits = bits })
  from_guess none long guessed = record {
    new = subst (λ o. MatchOption o ((Guess ≡ Guess)
        × (length bits ≡ length (places task.graph task.plan x w)))
        (λ j. (Guess ≡ Ticket j) × (bits ≡ flips_at task x w (result_of m j)))) (sym none)
        (refl, long);
    guessed = guessed;
  }
