-- One line more of a script.
use Rattle.std.proofs.Common.{◌≡◌, ℕ, List, None, Some, inl, inr, refl, ap, ◌∙◌}
use Rattle.std.specs.declared.option.Option.{Option}
use Rattle.std.specs.Prelude.{unwrap_or}
use Rattle.replay_model.specs.declared.ScriptLine.{ScriptLine}
use Rattle.replay_model.specs.Replays.{Stage}
use Rattle.script_reader.specs.Lines.{At, IsRead, behind}
use Rattle.script_reader.specs.declared.found.Found.TheVariants.{Line, Last}
use Rattle.script_run.specs.Plays.{Playing}
use Rattle.replay_run.specs.declared.end.End.{End}
use Rattle.replay_run.specs.declared.end.End.TheVariants.{Complete, Script}
use Rattle.replay_run.specs.Playings.{IsLineDone, IsStepped}

-- a line with its line feed was read
pub line_stepped : (stage : Stage) (at at' : At) (left : Option (List ℕ)) (bytes : List ℕ)
    (old new : Playing) (c : ScriptLine) (number : ℕ) (end : Option End) →
    IsRead at (Line c) bytes left → at' ≡ behind at → number ≡ at.line →
    IsLineDone stage c number old new end → IsStepped stage at at' left bytes old new end
line_stepped stage at at' left bytes old new c number None read next is done = (c, read, next, done)
line_stepped stage at at' left bytes old new c number (Some end) read next is
    (stop, may_not, same) =
    inr (inr (c, inl read, stop ∙ ap Script is, may_not, same))

-- a line in which the input ended was read
pub last_stepped : (stage : Stage) (at at' : At) (left : Option (List ℕ)) (bytes : List ℕ)
    (old new : Playing) (c : ScriptLine) (number : ℕ) (end : Option End) →
    IsRead at (Last c) bytes left → number ≡ at.line → IsLineDone stage c number old new end →
    IsStepped stage at at' left bytes old new (Some (unwrap_or end Complete))
last_stepped stage at at' left bytes old new c number None read is done =
    inr (inl (c, read, refl, done))
last_stepped stage at at' left bytes old new c number (Some end) read is (stop, may_not, same) =
    inr (inr (c, inr read, stop ∙ ap Script is, may_not, same))
