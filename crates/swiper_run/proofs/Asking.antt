-- Words that ask for something begin with the name of a command.
use Rattle.std.proofs.Common.{◌≡◌, ℕ, true, List, [], ◌∷◌, Option, Some, None, is_some, refl}
use Rattle.std.specs.Prelude.{option_and_then, option_map}
use Rattle.run_words.specs.Commands.{command_with, is_named, name_of}
use Rattle.run_words.specs.declared.command.Command.{Command}
use Rattle.swiper_run.specs.Words.{request_by, request_of}
use Rattle.swiper_run.specs.declared.words.Request.{Request}

pub asking_named : (words : List (List ℕ)) (asked : Request) → request_of words ≡ Some asked →
    is_named words ≡ true
unfolding request_of
asking_named [] asked e = absurd cc
asking_named (word ∷ words) asked e =
    by _ (name_of word) (λ name. command_with name words) e
  where
    by : (N : Type 0) (o : Option N) (f : N → Option Command) →
        option_map request_by (option_and_then f o) ≡ Some asked → is_some o ≡ true
    by N None f e = absurd cc
    by N (Some name) f e = refl
