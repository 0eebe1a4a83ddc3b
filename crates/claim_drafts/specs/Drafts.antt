-- Room for claims that may come.
use Rattle.std.specs.Prelude.{◌≡◌, ◌≢◌, ◌<◌, ◌++◌, ◌∷◌, ℕ, Bool, List, [], All, length, map, slice_index_or}
use Rattle.graph_model.specs.Problems.{Part}
use Rattle.window_model.specs.Decoder.{Task}
use Rattle.window_model.specs.Parts.{part_of}
use Rattle.window_model.specs.Windows.{places, window_at, window_count}
use Rattle.core_store.specs.Tickets.{ClaimBits}

-- a claim whose bits are to be written, with the part that its window decodes and the defects that
-- it is left with
pub record Draft : Type 0 where
  pub claim : ClaimBits
  pub part : Part
  pub defects : List Bool

-- The draft has the window's number and part, an origin and bits for each of its dependencies, a
-- bit for each of the places that the two share, and a defect for each of the window's detectors.
pub record IsDraftOf (task : Task) (w : ℕ) (draft : Draft) : Type 0 where
  pub window : draft.claim.window ≡ w
  pub origins : length draft.claim.origins ≡ length (window_at task.plan w).deps
  pub bits : map length draft.claim.bits
      ≡ map (λ x. length (places task.graph task.plan x w)) (window_at task.plan w).deps
  pub part : draft.part ≡ part_of task.graph task.plan w
  pub defects : length draft.defects ≡ length (window_at task.plan w).detectors

-- the drafts of a window
abbrev pub drafts_of : List (List Draft) → ℕ → List Draft
drafts_of drafts w = slice_index_or drafts w []

-- so many drafts are left of each window
pub record AreDrafts (task : Task) (left : ℕ → ℕ) (drafts : List (List Draft)) : Type 0 where
  pub each_window : length drafts ≡ window_count task.plan
  pub left_are : (w : ℕ) → w < window_count task.plan → length (drafts_of drafts w) ≡ left w
  pub fit : (w : ℕ) → w < window_count task.plan → All (IsDraftOf task w) (drafts_of drafts w)

-- the draft was the last of the window's, and is taken
pub record IsTaken (w : ℕ) (draft : Draft) (old new : List (List Draft)) : Type 0 where
  pub each_window : length new ≡ length old
  pub own : drafts_of old w ≡ drafts_of new w ++ draft ∷ []
  pub others : (x : ℕ) → x ≢ w → drafts_of new x ≡ drafts_of old x

-- for each window a sheet with a bit for each of its detectors
pub record AreSheets (task : Task) (sheets : List (List Bool)) : Type 0 where
  pub each_window : length sheets ≡ window_count task.plan
  pub each_detector : (w : ℕ) → w < window_count task.plan →
      length (slice_index_or sheets w []) ≡ length (window_at task.plan w).detectors
