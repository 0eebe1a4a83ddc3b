-- The line of a release, and what stands where it was not put.
use Rattle.std.specs.Prelude.{◌≡◌, ℕ, Bool, List, [], ◌∷◌, ◌++◌, codes, take, flat_map, Option}
use Rattle.port_io.specs.Port.{sent}
use Rattle.port_io.specs.Traffic.{Goes}
use Rattle.port_io.specs.declared.port.TapeByte.{TapeByte}
use Rattle.report_model.specs.Tapes.{bytes_of}
use Rattle.report_model.specs.Texts.{bit_text, line, release_line}
use Rattle.run_rounds.specs.Moves.{put_moves}
use Rattle.run_rounds.specs.declared.release.PutError.{PutError}
use Rattle.run_rounds.specs.declared.release.PutError.TheVariants.{WriteFault, Memory}

abbrev pub line_of_release : List ℕ → Bool → List ℕ
line_of_release label bit = line (codes "release" ∷ label ∷ bit_text bit ∷ [])

-- after a failed write a front of the line stands, and without memory nothing
abbrev pub IsLineCut : List ℕ → PutError → (left left' : Option (List ℕ)) →
    (tape tape' : Option (List TapeByte)) → Type 0
IsLineCut text WriteFault left left' tape tape' =
    (count : ℕ) × Goes (sent (take count text)) left left' tape tape'
IsLineCut text Memory left left' tape tape' = Goes [] left left' tape tape'

-- Of the lines of these releases, in order, some were put; after a failed write a front of the next
-- one stands after them
abbrev pub ArePutPartly : (labels : List (List ℕ)) → List (ℕ × Bool) → PutError →
    (left left' : Option (List ℕ)) → (tape tape' : Option (List TapeByte)) → Type 0
ArePutPartly labels releases WriteFault left left' tape tape' =
    (done : List (ℕ × Bool)) × (op : ℕ) × (bit : Bool) × (rest : List (ℕ × Bool)) × (count : ℕ)
    × (releases ≡ done ++ (op, bit) ∷ rest)
    × Goes (flat_map (bytes_of labels) (put_moves done)
    ++ sent (take count (release_line labels op bit))) left left' tape tape'
ArePutPartly labels releases Memory left left' tape tape' =
    (done : List (ℕ × Bool)) × (rest : List (ℕ × Bool)) × (releases ≡ done ++ rest)
    × Goes (flat_map (bytes_of labels) (put_moves done)) left left' tape tape'
