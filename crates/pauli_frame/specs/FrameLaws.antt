-- Laws of frames: a frame that takes each commit has the flips of which the decoder's bits are
-- made.
use Rattle.std.specs.Prelude.{◌≡◌, ◌<◌, ℕ, Bool, false, List, [], ◌∷◌, IsNone, replicate, slice_index_or}
use Rattle.graph_model.specs.Graph.{DetectorGraph}
use Rattle.graph_model.specs.Parity.{◌⊕◌, parity}
use Rattle.window_model.specs.Decoder.{Task, Syndrome, Step, Arrive, Commit, Release, Decoder, start, after, after_all, operation_at, release_bit, IsRun}
use Rattle.window_model.specs.Windows.{window_count}
use Rattle.pauli_frame.specs.Frames.{IsCommitted, IsFrameOf}

-- What a frame is before and after some steps, where each commit's edges are committed to it: the
-- other steps leave it as it is.
abbrev pub Follows : DetectorGraph → List Step → (old new : List Bool) → Type 0
Follows g [] old new = new ≡ old
Follows g (Arrive slot ∷ steps) old new = Follows g steps old new
Follows g (Commit window set ∷ steps) old new = (next : List Bool) × IsCommitted g set old next
    × Follows g steps next new
Follows g (Release operation bit ∷ steps) old new = Follows g steps old new

-- A decoder and its frame, to both of which a window's edges are committed.
abbrev pub CommitLaw : Type 0
CommitLaw =
    (task : Task) (d : Decoder) (window : ℕ) (set : List ℕ) (old new : List Bool) →
    window < window_count task.plan → IsNone (d.kept window) →
    IsFrameOf task d old → IsCommitted task.graph set old new →
    IsFrameOf task (after d (Commit window set)) new

-- A frame without flips, to which the edges of each commit of a run are committed, is the decoder's
-- at the end.
abbrev pub FollowLaw : Type 0
FollowLaw =
    (task : Task) (s : Syndrome) (steps : List Step) (labels : ℕ) (frame : List Bool) →
    IsRun task s steps → Follows task.graph steps (replicate labels false) frame →
    IsFrameOf task (after_all start steps) frame

-- The bit of an operation is made of raw values and of the flips of the decoder's frame.
abbrev pub BitLaw : Type 0
BitLaw =
    (task : Task) (s : Syndrome) (d : Decoder) (frame : List Bool) (op : ℕ) →
    IsFrameOf task d frame →
    release_bit task s d op ≡ parity (λ l. s.raw l ⊕ slice_index_or frame l false)
    (operation_at task op).labels
