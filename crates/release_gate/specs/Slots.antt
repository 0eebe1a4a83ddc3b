-- Ready slots: after its ready slot a window can be committed.
use Rattle.std.specs.Prelude.{◌++◌, ℕ, zero, suc, List, [], ◌∷◌}
use Rattle.window_model.specs.Gates.{latest}
use Rattle.window_model.specs.Windows.{WindowPlan, window_count}

-- the ready slots of the first n windows: the greatest of the last slots of a window and of its
-- ancestors
unfoldable pub ready_below : WindowPlan → ℕ → List ℕ
ready_below plan zero = []
ready_below plan (suc n) = ready_below plan n ++ latest plan (ready_below plan n) n ∷ []

-- of all windows
abbrev pub ready_slots : WindowPlan → List ℕ
ready_slots plan = ready_below plan (window_count plan)
