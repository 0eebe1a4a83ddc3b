-- With what guesses a history goes.
use Rattle.std.specs.Prelude.{Bool, List, [], ◌∷◌}
use Rattle.std.specs.Bool.{⊤}
use Rattle.window_model.specs.declared.GuessView.{GuessView}
use Rattle.window_model.specs.Decoder.{Task}
use Rattle.window_model.specs.Guesses.{AreGuessed}
use Rattle.window_model.specs.Speculation.{Event, Claimed, Machine, happens}

-- the guesses of a claim may be made; no other event has any
abbrev pub IsGuessedBy : (GuessView → Bool → Type 0) → Task → Machine → Event → Type 0
IsGuessedBy may_guess task m (Claimed k w links) = AreGuessed may_guess task m w links
IsGuessedBy may_guess task m _ = ⊤

-- the guesses of all these events may be made, each by what is known then, from this machine on
abbrev pub AreGuessedFrom : (GuessView → Bool → Type 0) → Task → Machine → List Event → Type 0
AreGuessedFrom may_guess task m [] = ⊤
AreGuessedFrom may_guess task m (event ∷ events) =
    IsGuessedBy may_guess task m event
    × AreGuessedFrom may_guess task (happens task m event) events
