-- Each of the commands takes the words at which clap finds no fault.
use Rattle.std.proofs.Common.{◌≡◌, true, false, List, [], refl}
use Rattle.std.specs.List.{list_all}
use Rattle.clap.specs.Words.{Row, Text, fault_of, is_simple, is_simple_and_free}
use Rattle.clap.specs.Simple.{Shape, built}
use Rattle.clap.specs.Takes.{default_passes, is_valid}
use Rattle.run_words.specs.Apps.{app_for, are_taken}
use Rattle.run_words.specs.declared.command.CommandName.{CommandName}
use Rattle.run_words.specs.declared.command.CommandName.TheVariants.{Decode, Replay, Plan, Make}
use Rattle.run_words.proofs.Taken.{taken}

pub simple : (n : CommandName) → is_simple (app_for n) ≡ true
unfolding app_for
simple Decode = refl
simple Replay = refl
simple Plan = refl
simple Make = refl

pub free : (n : CommandName) → is_simple_and_free (app_for n) ≡ true
unfolding app_for
free Decode = refl
free Replay = refl
free Plan = refl
free Make = refl

abbrev top : CommandName → Shape
top n = (built (app_for n)).top

alone : (n : CommandName) → built (app_for n) ≡ record { top = top n; subs = [] }
unfolding app_for
alone Decode = refl
alone Replay = refl
alone Plan = refl
alone Make = refl

defaults : (n : CommandName) → list_all default_passes (top n).rules ≡ true
unfolding app_for
defaults Decode = refl
defaults Replay = refl
defaults Plan = refl
defaults Make = refl

asks_none : (n : CommandName) (rows : List Row) → is_valid (top n) rows false ≡ true
unfolding app_for
asks_none Decode rows = refl
asks_none Replay rows = refl
asks_none Plan rows = refl
asks_none Make rows = refl

pub takes_faultless : (n : CommandName) (words : List Text) → fault_of (app_for n) words ≡ [] →
    are_taken n words ≡ true
unfolding are_taken
takes_faultless n words e =
    taken (app_for n) (top n) (alone n) (simple n) (defaults n) (asks_none n) words e
