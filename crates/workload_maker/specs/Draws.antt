-- Which errors happen: one random word is drawn for each error, in the order of their numbers.
use Rattle.std.specs.Prelude.{ℕ, ◌%◌, ◌==◌, if◌then◌else◌, List, [], ◌∷◌}
use Rattle.rand_pcg.specs.Lcg.{Lcg, increment_of, started}
use Rattle.rand_pcg.specs.Pcg.{multiplier_64, pcg32}
use Rattle.surface_model.specs.Schedules.{Schedule}
use Rattle.surface_model.specs.Errors.{Mechanism, mechanisms}

-- one error in so many happens
abbrev pub rarity : ℕ
rarity = 200

-- the generator PCG XSH RR 64/32 of this seed, on stream 1
abbrev pub generator_of : ℕ → Lcg
generator_of seed = started 64 multiplier_64 seed (increment_of 64 1)

-- those of the errors that happen: each for whose word the test holds
unfoldable pub happening : Lcg → List Mechanism → List Mechanism
happening g [] = []
happening g (e ∷ es) =
    if (pcg32 g).0 % rarity == 0 then e ∷ happening (pcg32 g).1 es else happening (pcg32 g).1 es

-- those of a schedule
unfoldable pub made_errors : Schedule → ℕ → List Mechanism
made_errors s seed = happening (generator_of seed) (mechanisms s)
