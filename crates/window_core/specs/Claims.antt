-- The links of a claim, as they are filled in; and the bits of a claim about one dependency.
use Rattle.std.specs.Prelude.{◌≡◌, ◌<◌, ◌==◌, ℕ, Bool, List, [], ◌∷◌, length, map, if◌then◌else◌, Option, None, Some, slice_index, slice_index_or}
use Rattle.window_model.specs.declared.GuessView.{GuessView}
use Rattle.window_model.specs.declared.Origin.{Origin}
use Rattle.window_model.specs.declared.Origin.TheVariants.{Guess}
use Rattle.window_model.specs.Decoder.{Task}
use Rattle.window_model.specs.Guesses.{IsGuessed}
use Rattle.window_model.specs.Speculation.{Link, Machine, IsNewLink}
use Rattle.window_model.specs.Windows.{places, window_at}
use Rattle.core_store.specs.Tickets.{ClaimBits}

-- The link has the flips of the source's result, if that stands, or else what may be guessed.
pub record IsFilled (may_guess : GuessView → Bool → Type 0) (task : Task) (m : Machine) (w : ℕ)
    (link : Link) : Type 0 where
  pub new : IsNewLink task m w link
  pub guessed : IsGuessed may_guess task m w link

abbrev pub dependencies : Task → ClaimBits → List ℕ
dependencies task claim = (window_at task.plan claim.window).deps

-- the claim has an origin and a bit list for each dependency, with a bit for each of their places
pub record HasPlaces (task : Task) (claim : ClaimBits) : Type 0 where
  pub origins : length claim.origins ≡ length (dependencies task claim)
  pub bits : map length claim.bits
      ≡ map (λ x. length (places task.graph task.plan x claim.window)) (dependencies task claim)

-- the link to the claim's i-th dependency
abbrev pub link_at : Task → ClaimBits → ℕ → Link
link_at task claim i = record {
  source = slice_index (dependencies task claim) i;
  origin = slice_index_or claim.origins i Guess;
  bits = slice_index_or claim.bits i [];
}

-- the first n links are filled
pub record AreFilled (may_guess : GuessView → Bool → Type 0) (task : Task) (m : Machine)
    (claim : ClaimBits) (n : ℕ) : Type 0 where
  pub has_places : HasPlaces task claim
  pub filled : (i : ℕ) → i < n → IsFilled may_guess task m claim.window (link_at task claim i)

-- the bits about the first dependency of this number, where each has a bit list
abbrev pub bits_about : List ℕ → List (List Bool) → ℕ → Option (List Bool)
bits_about [] bits x = None
bits_about (dep ∷ deps) [] x = None
bits_about (dep ∷ deps) (own ∷ bits) x = if dep == x then Some own else bits_about deps bits x
