-- What a run of the decoder that never guesses has to do with a schedule and the rows read: it has
-- come as far as the rows allow, and at their end all is done.
use Rattle.std.specs.Prelude.{◌≡◌, ◌<◌, ℕ, Bool, List, length, IsSome, Some}
use Rattle.graph_model.specs.Parity.{parity}
use Rattle.graph_model.specs.Graph.{boundary}
use Rattle.surface_model.specs.Schedules.{Schedule}
use Rattle.surface_model.specs.Errors.{graph_of}
use Rattle.window_model.specs.Windows.{WindowPlan, window_count}
use Rattle.window_model.specs.Decoder.{Step, start, after_all, committed_edges, operation_at, IsRun}
use Rattle.window_model.specs.Laws.{IsSettled}
use Rattle.report_model.specs.Texts.{frame_bit}
use Rattle.report_model.specs.Tasks.{task_of, syndrome_of}

-- A run on these rows: just their slots have arrived, and all is committed and released that they
-- allow
pub record IsRunOn (s : Schedule) (plan : WindowPlan) (rows : List (List Bool))
    (steps : List Step) : Type 0 where
  pub run : IsRun (task_of s plan) (syndrome_of s rows) steps
  pub arrived : (after_all start steps).arrived ≡ length rows
  pub settled : IsSettled (task_of s plan) (after_all start steps)

-- Every window is committed, and the boundary of the committed edges is exactly the observed
-- defects. Every operation is released, with the exclusive or of the bits that the frames print of
-- its observables
pub record IsExplained (s : Schedule) (plan : WindowPlan) (rows : List (List Bool))
    (steps : List Step) : Type 0 where
  pub committed : (w : ℕ) → w < window_count plan → IsSome ((after_all start steps).kept w)
  pub boundary_is : (v : ℕ) → v < (graph_of s).vertices →
      boundary (graph_of s) (committed_edges (task_of s plan) (after_all start steps)) v
      ≡ (syndrome_of s rows).value v
  pub released : (op : ℕ) → op < length (task_of s plan).operations →
      IsSome ((after_all start steps).released op)
  pub bits_are : (op : ℕ) (bit : Bool) → (after_all start steps).released op ≡ Some bit →
      bit ≡ parity (frame_bit (task_of s plan) (syndrome_of s rows) (after_all start steps))
      (operation_at (task_of s plan) op).labels
