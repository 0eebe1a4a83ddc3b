use Rattle.std.proofs.Common.{◌≡◌, ◌<◌, ℕ, true}
use Rattle.release_watch.specs.Watches.{is_ready}
use Rattle.release_watch.proofs.watch.ReleaseWatch.next_release.Given as goal

-- none so far
abbrev pub invariant-loop-at : goal.invariant-loop-at
invariant-loop-at l = (y : ℕ) → y < l.at → is_ready l.last_raws
    l.arrived (record { missing = l.self.missing; bits = l.self.bits; frame = l.self.frame }) y
    ≡ true → ⊥
