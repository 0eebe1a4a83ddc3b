-- What the three kinds of predictors answer.
use Rattle.std.specs.Prelude.{ℕ, ◌+◌, ◌*◌, ◌%◌, ◌^◌, ◌==◌, ◌&&◌, Bool, false}
use Rattle.rand_pcg.specs.Lcg.{increment_of, started}
use Rattle.rand_pcg.specs.Pcg.{multiplier_64, pcg32}
use Rattle.window_model.specs.declared.GuessView.{GuessView}

-- nothing is flipped
abbrev pub zero_answer : GuessView → Bool
zero_answer view = false

-- a defect at the place, which an edge of the source joins with a defect of the source's own cell
abbrev pub near_answer : GuessView → Bool
near_answer view = view.value && view.linked

-- the first word that the generator of this seed gives on the stream
abbrev pub word_of : ℕ → ℕ → ℕ
word_of seed stream = (pcg32 (started 64 multiplier_64 seed (increment_of 64 stream))).0

-- the lowest bit of the first word on the stream of the source and the place
unfoldable pub seeded_answer : ℕ → GuessView → Bool
seeded_answer seed view = word_of seed (view.source * 2 ^ 32 + view.place) % 2 == 1
