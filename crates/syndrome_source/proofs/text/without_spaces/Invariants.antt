use Rattle.std.proofs.Common.{◌≡◌, drop}
use Rattle.surface_model.specs.Text.{fields_of}
use Rattle.syndrome_source.proofs.text.without_spaces.Given as goal

-- spaces stand before this place
abbrev pub invariant-loop-at : goal.invariant-loop-at
invariant-loop-at l = fields_of (drop l.at l.line) ≡ fields_of l.line
