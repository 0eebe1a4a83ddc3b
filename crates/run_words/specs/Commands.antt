-- The command that the words after the program's name give. The first word is its name; the
-- others are its options, each at most once and in any order, as clap reads them; and each value
-- has to be of its form and in its range.
use Rattle.std.specs.Prelude.{◌≡◌, ◌≤◌, ◌%◌, ◌-◌, ℕ, Bool, false, if◌then◌else◌, List, [], ◌∷◌, codes, bytes_eq, Option, Some, None, IfSome, option_map, option_and_then, is_some}
use Rattle.std.specs.Option.{option_map_or}
use Rattle.clap.specs.Words.{Row, Text, first_of}
use Rattle.window_plan.specs.declared.kinds.PlanKind.TheVariants as kind
use Rattle.run_words.specs.Apps.{are_taken, rows_for}
use Rattle.run_words.specs.Values.{distance_in, kind_in, number_in, predictor_in, too_large}
use Rattle.run_words.specs.declared.command.Command.{Command}
use Rattle.run_words.specs.declared.command.Command.TheVariants.{Decode, Replay, Plan, Make}
use Rattle.run_words.specs.declared.command.CommandName.{CommandName}
use Rattle.run_words.specs.declared.command.CommandName.TheVariants as name
use Rattle.run_words.specs.declared.command.PredictorKind.TheVariants as predictor
use Rattle.run_words.specs.declared.command.DecodeOptions.{DecodeOptions}
use Rattle.run_words.specs.declared.command.Guessing.{Guessing}
use Rattle.run_words.specs.declared.command.MakeOptions.{MakeOptions}
use Rattle.run_words.specs.declared.command.ReplayOptions.{ReplayOptions}
use Rattle.run_words.specs.declared.command.WindowOptions.{WindowOptions}

-- ---- values of options

-- the value of an option, or the default where the words don't have it
abbrev pub or_default : {A : Type 0} → (Text → Option A) → A → Option Text → Option A
or_default read default None = Some default
or_default read default (Some text) = read text

-- a number from low to high, where the words have it
abbrev pub number_given : ℕ → ℕ → Option Text → Option (Option ℕ)
number_given low high = or_default (λ text. option_map Some (number_in low high text)) None

-- the value of an option that the words have to have
abbrev pub required : {A : Type 0} → (Text → Option A) → Option Text → Option A
required read text = option_and_then read text

abbrev pub is_set : Text → List Row → Bool
is_set id rows = option_map_or (bytes_eq (codes "true")) (first_of id rows) false

-- ---- options of a command

-- `--plan sliding|parallel`, `--commit` from 1 to 4,096, `--buffer` from 0 to 4,096
abbrev pub windows_in : List Row → Option WindowOptions
windows_in rows =
    option_and_then (λ order.
    option_and_then (λ commit.
    option_map (λ buffer. record { kind = order; commit = commit; buffer = buffer })
    (number_given 0 4096 (first_of (codes "buffer") rows)))
    (number_given 1 4096 (first_of (codes "commit") rows)))
    (or_default kind_in kind.Sliding (first_of (codes "plan") rows))

-- `--predict zero|near|seed:N`, `--retries` from 0 to 8
abbrev pub guessing_in : List Row → Option Guessing
guessing_in rows =
    option_and_then (λ predicted.
    option_map (λ retries. record { predictor = predicted; retries = retries })
    (or_default (number_in 0 8) 1 (first_of (codes "retries") rows)))
    (or_default predictor_in predictor.Near (first_of (codes "predict") rows))

-- those of a plan and of guesses, `--workers` from 1 to 8, `--trace`, `--certify`
abbrev pub decode_in : List Row → Option DecodeOptions
decode_in rows =
    option_and_then (λ windows.
    option_and_then (λ guessing.
    option_map (λ workers. record {
      windows = windows;
      guessing = guessing;
      workers = workers;
      trace = is_set (codes "trace") rows;
      certify = is_set (codes "certify") rows;
    })
    (or_default (number_in 1 8) 4 (first_of (codes "workers") rows)))
    (guessing_in rows))
    (windows_in rows)

abbrev pub replay_in : List Row → Option ReplayOptions
replay_in rows =
    option_and_then (λ windows.
    option_map (λ guessing. record { windows = windows; guessing = guessing }) (guessing_in rows))
    (windows_in rows)

-- all required: `--distance` 3, 5, 7, 9 or 11, `--patches` from 1 to 64, `--slots` from 2 to 4,096,
-- `--seed` from 0 to 2^64 - 1
abbrev pub make_in : List Row → Option MakeOptions
make_in rows =
    option_and_then (λ distance.
    option_and_then (λ patches.
    option_and_then (λ slots.
    option_map (λ seed.
    record { distance = distance; patches = patches; slots = slots; seed = seed })
    (required (number_in 0 (too_large - 1)) (first_of (codes "seed") rows)))
    (required (number_in 2 4096) (first_of (codes "slots") rows)))
    (required (number_in 1 64) (first_of (codes "patches") rows)))
    (required distance_in (first_of (codes "distance") rows))

-- ---- commands

abbrev pub name_of : Text → Option CommandName
name_of word =
    if bytes_eq word (codes "decode") then Some name.Decode
    else if bytes_eq word (codes "replay") then Some name.Replay
    else if bytes_eq word (codes "plan") then Some name.Plan
    else if bytes_eq word (codes "make") then Some name.Make
    else None

abbrev pub command_in : CommandName → List Row → Option Command
command_in name.Decode rows = option_map Decode (decode_in rows)
command_in name.Replay rows = option_map Replay (replay_in rows)
command_in name.Plan rows = option_map Plan (windows_in rows)
command_in name.Make rows = option_map Make (make_in rows)

-- of a name and the words after it
abbrev pub command_with : CommandName → List Text → Option Command
command_with command words =
    if are_taken command words then command_in command (rows_for command words) else None

-- nothing where the words aren't accepted
abbrev pub command_of : List Text → Option Command
command_of [] = None
command_of (word ∷ words) = option_and_then (λ command. command_with command words) (name_of word)

-- whether the first word is a command's name
abbrev pub is_named : List Text → Bool
is_named [] = false
is_named (word ∷ words) = is_some (name_of word)

-- ---- ranges

pub record IsWindows (windows : WindowOptions) : Type 0 where
  pub commit : IfSome windows.commit (λ slots. (1 ≤ slots) × (slots ≤ 4096))
  pub buffer : IfSome windows.buffer (λ edges. edges ≤ 4096)

pub record IsGuessing (guessing : Guessing) : Type 0 where
  pub retries : guessing.retries ≤ 8

pub record IsDecode (options : DecodeOptions) : Type 0 where
  pub windows : IsWindows options.windows
  pub guessing : IsGuessing options.guessing
  pub some_workers : 1 ≤ options.workers
  pub few_workers : options.workers ≤ 8

pub record IsReplay (options : ReplayOptions) : Type 0 where
  pub windows : IsWindows options.windows
  pub guessing : IsGuessing options.guessing

pub record IsMake (options : MakeOptions) : Type 0 where
  pub least_distance : 3 ≤ options.distance
  pub most_distance : options.distance ≤ 11
  pub odd : options.distance % 2 ≡ 1
  pub some_patches : 1 ≤ options.patches
  pub few_patches : options.patches ≤ 64
  pub two_slots : 2 ≤ options.slots
  pub few_slots : options.slots ≤ 4096

-- all values are in their ranges
abbrev pub IsInRange : Command → Type 0
IsInRange (Decode options) = IsDecode options
IsInRange (Replay options) = IsReplay options
IsInRange (Plan sizes) = IsWindows sizes
IsInRange (Make options) = IsMake options
