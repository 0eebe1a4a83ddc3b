-- What the words after the program's name ask for.
use Rattle.std.specs.Prelude.{ℕ, List, Option, option_map}
use Rattle.run_header.specs.declared.sizes.PlanSizes.{PlanSizes}
use Rattle.run_header.specs.Refusals.{AreInRange}
use Rattle.run_words.specs.Commands.{IsDecode, IsMake, IsReplay, command_of}
use Rattle.run_words.specs.declared.command.Command.{Command}
use Rattle.run_words.specs.declared.command.Command.TheVariants as command
use Rattle.run_words.specs.declared.command.WindowOptions.{WindowOptions}
use Rattle.swiper_run.specs.declared.words.Asked.{Asked}
use Rattle.swiper_run.specs.declared.words.Asked.TheVariants.{Decode, Plan, Replay}
use Rattle.swiper_run.specs.declared.words.Request.{Request}
use Rattle.swiper_run.specs.declared.words.Request.TheVariants.{OfInput, Make}

-- the kind and the sizes of a plan as the words give them
abbrev pub sizes_of : WindowOptions → PlanSizes
sizes_of windows =
    record { kind = windows.kind; commit = windows.commit; buffer = windows.buffer }

-- what a command asks for
abbrev pub request_by : Command → Request
request_by (command.Decode options) = OfInput (Decode options)
request_by (command.Replay options) = OfInput (Replay options)
request_by (command.Plan windows) = OfInput (Plan (sizes_of windows))
request_by (command.Make options) = Make options

-- nothing where the words aren't accepted
unfoldable pub request_of : List (List ℕ) → Option Request
request_of words = option_map request_by (command_of words)

abbrev pub sizes_asked : Asked → PlanSizes
sizes_asked (Decode options) = sizes_of options.windows
sizes_asked (Replay options) = sizes_of options.windows
sizes_asked (Plan sizes) = sizes

-- all values are in their ranges
abbrev pub IsAskable : Asked → Type 0
IsAskable (Decode options) = IsDecode options
IsAskable (Replay options) = IsReplay options
IsAskable (Plan sizes) = AreInRange sizes

abbrev pub IsInRange : Request → Type 0
IsInRange (OfInput asked) = IsAskable asked
IsInRange (Make options) = IsMake options
