-- The values of options: numbers in their ranges, kinds of plans, and predictors.
use Rattle.std.specs.Prelude.{ℕ, ◌^◌, ◌-◌, ◌%◌, ◌==◌, ◌&&◌, Bool, if◌then◌else◌, List, length, take, drop, codes, bytes_eq, Option, Some, None, option_map, option_and_then}
use Rattle.std.specs.List.{list_all}
use Rattle.surface_model.specs.Text.{is_between, number_of}
use Rattle.window_plan.specs.declared.kinds.PlanKind.{PlanKind}
use Rattle.window_plan.specs.declared.kinds.PlanKind.TheVariants as kind
use Rattle.run_words.specs.declared.command.PredictorKind.{PredictorKind}
use Rattle.run_words.specs.declared.command.PredictorKind.TheVariants as predictor

-- 1 to 20 decimal digits
abbrev pub is_number_word : List ℕ → Bool
is_number_word word = is_between 1 20 (length word) && list_all (is_between 48 57) word

-- a number from low to high
abbrev pub number_in : ℕ → ℕ → List ℕ → Option ℕ
number_in low high word =
    if is_number_word word && is_between low high (number_of word) then Some (number_of word)
    else None

-- past every number that an option takes
abbrev pub too_large : ℕ
too_large = 2 ^ 64

abbrev pub kind_in : List ℕ → Option PlanKind
kind_in word =
    if bytes_eq word (codes "sliding") then Some kind.Sliding
    else if bytes_eq word (codes "parallel") then Some kind.Parallel
    else None

-- a seed after `seed:`
abbrev pub seeded_in : List ℕ → Option PredictorKind
seeded_in word =
    if bytes_eq (take 5 word) (codes "seed:")
    then option_map predictor.Seeded (number_in 0 (too_large - 1) (drop 5 word))
    else None

abbrev pub predictor_in : List ℕ → Option PredictorKind
predictor_in word =
    if bytes_eq word (codes "zero") then Some predictor.Zero
    else if bytes_eq word (codes "near") then Some predictor.Near
    else seeded_in word

-- an odd number from 3 to 11
abbrev pub odd_only : ℕ → Option ℕ
odd_only n = if n % 2 == 1 then Some n else None

abbrev pub distance_in : List ℕ → Option ℕ
distance_in word = option_and_then odd_only (number_in 3 11 word)
