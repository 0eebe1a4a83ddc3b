use Rattle.std.proofs.Common.{◌≡◌, ℕ, ◌<◌, All, length}
use Rattle.claim_drafts.specs.Drafts.{IsDraftOf, drafts_of}
use Rattle.claim_drafts.proofs.drafts.Drafts.new.Given as goal

-- the windows so far
abbrev pub invariant-loop-window : goal.invariant-loop-window
invariant-loop-window l = record {
  so_many : length l.piles.items ≡ l.window;
  left : (w : ℕ) → w < l.window → length (drafts_of l.piles.items w) ≡ l.each;
  fit : (w : ℕ) → w < l.window → All (IsDraftOf l.setting w) (drafts_of l.piles.items w);
}
