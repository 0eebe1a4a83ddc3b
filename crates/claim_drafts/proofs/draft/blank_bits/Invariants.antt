use Rattle.std.proofs.Common.{◌≡◌, length, map, take}
use Rattle.window_model.specs.Windows.{places}
use Rattle.claim_drafts.proofs.draft.blank_bits.Given as goal

-- the dependencies so far
abbrev pub invariant-loop-at : goal.invariant-loop-at
invariant-loop-at l = map length l.bits.items
    ≡ map (λ x. length (places l.setting.graph l.setting.plan x l.window))
    (take l.at l.dependencies)
