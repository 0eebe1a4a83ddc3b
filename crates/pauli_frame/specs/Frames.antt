-- Frames: for each observable a truth value, whether the committed edges flip it.
use Rattle.std.specs.Prelude.{◌≡◌, ℕ, Bool, false, List, [], length, slice_get, slice_index_or}
use Rattle.std.specs.Option.{option_map_or}
use Rattle.graph_model.specs.Graph.{DetectorGraph, flip_of}
use Rattle.graph_model.specs.Parity.{◌⊕◌}
use Rattle.window_model.specs.Decoder.{Task, Decoder, committed_edges}

-- the observables that the edge of this number flips
abbrev pub mask_at : DetectorGraph → ℕ → List ℕ
mask_at g e = option_map_or (λ edge. edge.mask) (slice_get g.edges e) []

-- a frame before and after a set of edges is committed: each flip is the exclusive or of what it
-- was and of whether an odd number of the edges flip its observable
pub record IsCommitted (g : DetectorGraph) (set : List ℕ) (old new : List Bool) : Type 0 where
  pub each : length new ≡ length old
  pub flip : (l : ℕ) → slice_index_or new l false ≡ slice_index_or old l false ⊕ flip_of g set l

-- the frame has for each observable whether an odd number of all the edges that the decoder has
-- committed flip it
abbrev pub IsFrameOf : Task → Decoder → List Bool → Type 0
IsFrameOf task d frame = (l : ℕ) → slice_index_or frame l false
    ≡ flip_of task.graph (committed_edges task d) l
