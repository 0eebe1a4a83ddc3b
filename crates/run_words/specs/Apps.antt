-- The options that each command takes. Words are read as one command of clap with options alone: no
-- argument without a name, no flags for help or the version.
use Rattle.std.specs.Prelude.{Bool, List, [], Some, codes, true}
use Rattle.clap.specs.Words.{App, Row, Rule, Text, found_of, matches_of, new_rule, rows_of, takes, with_rule}
use Rattle.clap.specs.Simple.{new_shape}
use Rattle.clap.specs.declared.builder.action.ArgAction.TheVariants.{Set, SetTrue}
use Rattle.clap.specs.declared.parser.matches.ArgMatches.{ArgMatches}
use Rattle.run_words.specs.declared.command.CommandName.{CommandName}
use Rattle.run_words.specs.declared.command.CommandName.TheVariants as name

-- an option that takes one text
abbrev pub text_option : Text → Rule
text_option id = record (new_rule id) { long = Some id; action = Some Set }

abbrev pub flag_option : Text → Rule
flag_option id = record (new_rule id) { long = Some id; action = Some SetTrue }

-- a command without options, whose own name is none of the words
abbrev pub bare_app : Text → App
bare_app id = record {
  top = record (new_shape id) {
    no_binary_name = true;
    disable_help_flag = true;
    disable_version_flag = true;
  };
  subs = [];
}

-- with the options of a plan
abbrev pub with_windows : App → App
with_windows app =
    with_rule (with_rule (with_rule app (text_option (codes "plan")))
    (text_option (codes "commit"))) (text_option (codes "buffer"))

-- with the options of guesses
abbrev pub with_guesses : App → App
with_guesses app =
    with_rule (with_rule app (text_option (codes "predict"))) (text_option (codes "retries"))

unfoldable pub app_for : CommandName → App
app_for name.Decode =
    with_rule (with_rule (with_rule (with_guesses (with_windows (bare_app (codes "decode"))))
    (text_option (codes "workers"))) (flag_option (codes "trace"))) (flag_option (codes "certify"))
app_for name.Replay = with_guesses (with_windows (bare_app (codes "replay")))
app_for name.Plan = with_windows (bare_app (codes "plan"))
app_for name.Make =
    with_rule (with_rule (with_rule (with_rule (bare_app (codes "make"))
    (text_option (codes "distance"))) (text_option (codes "patches")))
    (text_option (codes "slots"))) (text_option (codes "seed"))

-- what the words give: for each option that they have, its texts
unfoldable pub rows_for : CommandName → List Text → List Row
rows_for command words = matches_of (app_for command) words

-- nothing but want of memory refuses the words
unfoldable pub are_taken : CommandName → List Text → Bool
are_taken command words = takes (app_for command) words

abbrev pub rows_in : ArgMatches → List Row
rows_in matches = rows_of (found_of matches)
