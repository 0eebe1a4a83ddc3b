-- What the one who reads has brought, was told and has put: slot by slot, when the rows have ended,
-- and where it breaks off.
use Rattle.std.specs.Prelude.{◌≡◌, ◌≤◌, ◌<◌, ◌+◌, ℕ, Bool, true, List, [], ◌∷◌, ◌++◌, length, map, take, flat_map, filter_map, Option, Some, IsSome, IsNone, Result, Ok, IfErr, OnOk, All, AllPairs, Contains, filter, is_none}
use Rattle.std.specs.Bool.{⊤}
use Rattle.port_io.specs.Port.{sent}
use Rattle.port_io.specs.Traffic.{Goes}
use Rattle.port_io.specs.declared.port.TapeByte.{TapeByte}
use Rattle.detector_graph.specs.declared.folded.Folded.{Folded}
use Rattle.surface_model.specs.Schedules.{Schedule}
use Rattle.syndrome_source.specs.declared.error.RowError.{RowError}
use Rattle.syndrome_source.specs.declared.error.RowError.TheVariants as row
use Rattle.window_model.specs.Decoder.{Task, Syndrome, Release, operation_at}
use Rattle.window_model.specs.Progress.{Progress, Fits}
use Rattle.window_setting.specs.Slots.{at_slot, detector_slots}
use Rattle.window_table.specs.Readings.{Readings, told_at}
use Rattle.report_model.specs.Tapes.{Move, Take, Put, IsTimed, bytes_of, put_of, take_of}
use Rattle.report_model.specs.Tasks.{labels_of, syndrome_of}
use Rattle.report_model.specs.Texts.{release_line}
use Rattle.run_rounds.specs.Courses.{IsReadTo}
use Rattle.run_rounds.specs.Moves.{begun_after}
use Rattle.run_rounds.specs.Rounds.{AreRead, AreRounds}
use Rattle.run_rounds.specs.Slots.{At}
use Rattle.run_rounds.specs.declared.release.PutError.{PutError}
use Rattle.run_rounds.specs.declared.release.PutError.TheVariants.{WriteFault, Memory}
use Rattle.decode_rounds.specs.declared.reading.Stop.{Stop}
use Rattle.decode_rounds.specs.declared.reading.Stop.TheVariants.{Rows, Broken}

-- the values that were brought of a slot are those of a syndrome
abbrev pub IsGiven : Task → Syndrome → Folded → Type 0
IsGiven task s folded =
    (folded.defects ≡ map s.value (at_slot (detector_slots task) folded.slot))
    × (folded.raws ≡ map s.raw (at_slot task.raw_slots folded.slot))

-- a bit that is put was told
abbrev pub IsToldAs : Readings → Move → Type 0
IsToldAs r (Take byte) = ⊤
IsToldAs r (Put op bit) = told_at r op ≡ Some bit

-- each bit that is put was told, and none is put twice
pub record ArePutAsTold (r : Readings) (moves : List Move) : Type 0 where
  pub each : All (IsToldAs r) moves
  pub once : AllPairs (λ a b. a ≡ b → ⊥) (filter_map put_of moves)

-- each bit that was told is put
abbrev pub AreToldPut : Readings → List Move → Type 0
AreToldPut r moves = (op : ℕ) (bit : Bool) → told_at r op ≡ Some bit → Contains moves (Put op bit)

-- the slots before the next were brought, and the bit of each of their operations was told; no row
-- stands before that of slot 0
pub record IsAtSlot (task : Task) (at : At) (r : Readings) : Type 0 where
  pub each_slot : length r.given ≡ at.slot
  pub before : at.slot ≡ 0 → at.before ≡ []
  pub told : (op : ℕ) → op < length task.operations → (operation_at task op).slot < at.slot →
      IsSome (told_at r op)

-- The rows of the slots so far were read and brought, with the values that they give, whatever rows
-- follow; and the bits that were told were put, each once and in time
pub record IsSeated (task : Task) (at : At) (left left' : Option (List ℕ))
    (tape tape' : Option (List TapeByte)) (r : Readings) : Type 0 where
  pub so_far : IsReadTo (labels_of at.schedule) at left left' tape tape'
  pub given : (more : List (List Bool)) →
      All (IsGiven task (syndrome_of at.schedule (so_far.rows ++ more))) r.given
  pub put : ArePutAsTold r so_far.moves
  pub all_put : AreToldPut r so_far.moves
  pub timed : IsTimed task 0 true so_far.moves

-- Rows are read by these moves, whose puts were told, and slots of them were brought
pub record IsOnWay (task : Task) (s : Schedule) (left : Option (List ℕ)) (r : Readings)
    (moves : List Move) : Type 0 where
  pub rows : List (List Bool)
  pub read : AreRead s (filter_map take_of moves) left rows
  pub given : All (IsGiven task (syndrome_of s rows)) r.given
  pub brought : length r.given ≤ length rows
  pub put : ArePutAsTold r moves
  pub timed : IsTimed task 0 true moves

-- a front of a line that was due was put after these moves
pub record IsLineLeft (task : Task) (s : Schedule) (left left' : Option (List ℕ))
    (tape tape' : Option (List TapeByte)) (r : Readings) : Type 0 where
  pub moves : List Move
  pub operation : ℕ
  pub bit : Bool
  pub count : ℕ
  pub goes : Goes (flat_map (bytes_of (labels_of s)) moves
      ++ sent (take count (release_line (labels_of s) operation bit))) left left' tape tape'
  pub due : IsOnWay task s left' r (moves ++ Put operation bit ∷ [])
  pub all_brought : length r.given ≡ length due.rows

-- where the reading breaks off at a failed write, and for want of memory
abbrev pub IsLeft : Task → Schedule → PutError → (left left' : Option (List ℕ)) →
    (tape tape' : Option (List TapeByte)) → Readings → Type 0
IsLeft task s WriteFault left left' tape tape' r = IsLineLeft task s left left' tape tape' r
IsLeft task s Memory left left' tape tape' r =
    (moves : List Move) × IsOnWay task s left' r moves
    × Goes (flat_map (bytes_of (labels_of s)) moves) left left' tape tape'

-- The rows have ended so, and each was brought. The bits that were told were put; no line of the
-- slots of the other operations is begun
pub record HasEnded {A : Type 0} (task : Task) (s : Schedule) (left left' : Option (List ℕ))
    (tape tape' : Option (List TapeByte)) (r : Readings) (end : Result A RowError) : Type 0 where
  pub moves : List Move
  pub rows : List (List Bool)
  pub goes : Goes (flat_map (bytes_of (labels_of s)) moves) left left' tape tape'
  pub rounds : AreRounds s (filter_map take_of moves) left' rows end
  pub given : All (IsGiven task (syndrome_of s rows)) r.given
  pub brought : length r.given ≡ length rows
  pub put : ArePutAsTold r moves
  pub all_put : AreToldPut r moves
  pub timed : IsTimed task 0 true moves
  pub late : (op : ℕ) → op < length task.operations → IsNone (told_at r op) →
      begun_after 0 true moves ≤ (operation_at task op).slot

-- how the reading stopped
abbrev pub HasStopped : Task → Schedule → Stop → (left left' : Option (List ℕ)) →
    (tape tape' : Option (List TapeByte)) → Readings → Type 0
HasStopped task s (Rows end) left left' tape tape' r =
    HasEnded task s left left' tape tape' r end
HasStopped task s (Broken error) left left' tape tape' r =
    IsLeft task s error left left' tape tape' r

-- and so, where it is known what there was to read
pub record HasRead (task : Task) (s : Schedule) (stop : Stop) (left left' : Option (List ℕ))
    (tape tape' : Option (List TapeByte)) (r : Readings) : Type 0 where
  pub so : (input : List ℕ) → left ≡ Some input → HasStopped task s stop left left' tape tape' r

-- ---- one slot

-- Bits of operations of the next slot were told and put, or an error stopped it
pub record HasTold {A : Type 0} (task : Task) (at : At) (r r' : Readings)
    (left left' : Option (List ℕ)) (tape tape' : Option (List TapeByte))
    (result : Result A PutError) : Type 0 where
  pub given : r'.given ≡ r.given
  pub kept : (op : ℕ) → IsSome (told_at r op) → IsSome (told_at r' op)
  pub seated : OnOk result ((first : Option (List ℕ)) (begin : Option (List TapeByte)) →
      IsSeated task at first left begin tape r → IsSeated task at first left' begin tape' r')
  pub stopped : IfErr result (λ error. (first : Option (List ℕ)) (begin : Option (List TapeByte)) →
      IsSeated task at first left begin tape r →
      IsLeft task at.schedule error first left' begin tape' r')

-- the row of the next slot was read and brought
pub record HasBrought (task : Task) (at at' : At) (r r' : Readings) (left left' : Option (List ℕ))
    (tape tape' : Option (List TapeByte)) : Type 0 where
  pub schedule : at'.schedule ≡ at.schedule
  pub slot : at'.slot ≡ at.slot + 1
  pub at_slot : IsAtSlot task at' r'
  pub seated : (first : Option (List ℕ)) (begin : Option (List TapeByte)) →
      IsSeated task at first left begin tape r → IsSeated task at' first left' begin tape' r'

-- ---- the end

-- those of the releases that were not told
abbrev pub untold : Readings → List (ℕ × Bool) → List (ℕ × Bool)
untold r releases = filter (λ (q : ℕ × Bool). is_none (told_at r q.0)) releases

-- What was decoded of all that was brought: a syndrome with these values has those that have
-- arrived, and each bit that was told is that of a release
pub record HasCome (task : Task) (r : Readings) (d : Progress) : Type 0 where
  pub task_is : d.task ≡ task
  pub arrived : d.arrived ≡ length r.given
  pub fits : (s : Syndrome) → All (IsGiven task s) r.given → Fits s d
  pub released : (op : ℕ) (bit : Bool) → told_at r op ≡ Some bit →
      Contains d.steps (Release op bit)
