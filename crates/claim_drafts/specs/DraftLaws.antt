-- What is left once a draft is taken.
use Rattle.std.specs.Prelude.{◌≡◌, ◌≢◌, ◌<◌, ◌+◌, ℕ, List}
use Rattle.window_model.specs.Decoder.{Task}
use Rattle.window_model.specs.Windows.{window_count}
use Rattle.claim_drafts.specs.Drafts.{Draft, IsDraftOf, AreDrafts, IsTaken}

-- A draft that is taken is one of its window, which has one fewer left. Of the others as many are
-- left as before.
abbrev pub TakenLaw : Type 0
TakenLaw =
    (task : Task) (left rest : ℕ → ℕ) (w : ℕ) (draft : Draft) (old new : List (List Draft)) →
    w < window_count task.plan → AreDrafts task left old → IsTaken w draft old new →
    left w ≡ rest w + 1 → ((x : ℕ) → x ≢ w → left x ≡ rest x) →
    AreDrafts task rest new × IsDraftOf task w draft
