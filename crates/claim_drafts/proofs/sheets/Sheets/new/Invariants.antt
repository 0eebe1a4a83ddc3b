use Rattle.std.proofs.Common.{◌≡◌, ℕ, ◌<◌, [], length, get_or}
use Rattle.window_model.specs.Windows.{window_at}
use Rattle.claim_drafts.proofs.sheets.Sheets.new.Given as goal

-- the windows so far
abbrev pub invariant-loop-window : goal.invariant-loop-window
invariant-loop-window l = record {
  so_many : length l.by_window.items ≡ l.window;
  each_detector : (w : ℕ) → w < l.window →
      length (get_or l.by_window.items w []) ≡ length (window_at l.setting.plan w).detectors;
}
