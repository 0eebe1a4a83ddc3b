use Rattle.std.proofs.Common.{◌≡◌, drop}
use Rattle.window_core.specs.Claims.{bits_about}
use Rattle.window_core.proofs.compared.about.Given as goal

-- the bits stand among the rest
abbrev pub invariant-loop-at : goal.invariant-loop-at
invariant-loop-at l =
    bits_about (drop l.at l.deps) (drop l.at l.bits) l.source ≡ bits_about l.deps l.bits l.source
