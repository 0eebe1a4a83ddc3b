-- The whole outputs of small runs, byte for byte: what stands in them, and in which order.
use Rattle.std.specs.Prelude.{◌≡◌, ℕ, true, false, ◌==◌, List, [], ◌∷◌, ◌++◌, codes, refl, None, Some}
use Rattle.std.specs.Fmt.{digits}
use Rattle.window_model.specs.Decoder.{Task, Syndrome, Step, Arrive, Commit, Release}
use Rattle.window_model.specs.Speculation.{visible}
use Rattle.window_model.proofs.Rows.{one_window, all_zero, two_windows}
use Rattle.window_model.proofs.Guessing.{three_windows, wrong_guess}
use Rattle.report_model.specs.Faults.{Ended, Read}
use Rattle.report_model.specs.Outcomes.{output_of}
use Rattle.report_model.proofs.Printed.{lines}

abbrev names : List (List ℕ)
names = codes "ra" ∷ []

abbrev whole_run : List Step
whole_run = Arrive 0 ∷ Arrive 1 ∷ Commit 0 [] ∷ []

-- no errors
quiet_output : output_of one_window all_zero [] names whole_run None None ≡ lines
    (codes "log 1" ∷ codes "arrive 0" ∷ codes "arrive 1" ∷ codes "commit 0" ∷ codes "end log"
    ∷ codes "frame ra 0 0 0" ∷ codes "summary windows 1 done 1 defects 0 edges 0 weight 0" ∷ [])
unfolding digits
quiet_output = refl

-- an X error on a qubit of the first row: one defect, and the logical result is flipped and put
-- right
abbrev one_defect : Syndrome
one_defect = record { value = λ v. v == 1; raw = λ l. true }

error_output : output_of one_window one_defect [] names (Arrive 0 ∷ Arrive 1 ∷ Commit 0 (2 ∷ [])
    ∷ []) None None ≡ lines
    (codes "log 1" ∷ codes "arrive 0" ∷ codes "arrive 1" ∷ codes "commit 0 2" ∷ codes "end log"
    ∷ codes "frame ra 1 1 0" ∷ codes "summary windows 1 done 1 defects 1 edges 1 weight 2" ∷ [])
unfolding digits
error_output = refl

-- the input ended before slot 0, and before slot 1
cut_outputs : output_of one_window all_zero [] names [] None (Some (Ended 8))
    ++ output_of one_window all_zero [] names (Arrive 0 ∷ []) None (Some (Ended 9)) ≡ lines
    (codes "log 1" ∷ codes "end log" ∷ codes "summary windows 1 done 0 defects 0 edges 0 weight 0"
    ∷ codes "fault ended line 8"
    ∷ codes "log 1" ∷ codes "arrive 0" ∷ codes "end log" ∷ codes
    "summary windows 1 done 0 defects 0 edges 0 weight 0" ∷ codes "fault ended line 9" ∷ [])
unfolding digits
cut_outputs = refl

-- reading fails after the last slot: all is done, so the frames are reported
failed_output : output_of one_window all_zero [] names whole_run None (Some Read) ≡ lines
    (codes "log 1" ∷ codes "arrive 0" ∷ codes "arrive 1" ∷ codes "commit 0" ∷ codes "end log"
    ∷ codes "frame ra 0 0 0" ∷ codes "summary windows 1 done 1 defects 0 edges 0 weight 0"
    ∷ codes "fault read" ∷ [])
unfolding digits
failed_output = refl

-- one of two windows is committed, so there are no frames
half_output : output_of two_windows all_zero [] names (Arrive 0 ∷ Commit 0 [] ∷ Arrive 1 ∷ []) None
    (Some Read) ≡ lines
    (codes "log 1" ∷ codes "arrive 0" ∷ codes "commit 0" ∷ codes "arrive 1" ∷ codes "end log"
    ∷ codes "summary windows 2 done 1 defects 0 edges 0 weight 0" ∷ codes "fault read" ∷ [])
unfolding digits
half_output = refl

-- nor before the last slot has arrived
early_output : output_of one_window all_zero [] names (Arrive 0 ∷ Commit 0 [] ∷ []) None
    (Some (Ended 9)) ≡ lines
    (codes "log 1" ∷ codes "arrive 0" ∷ codes "commit 0" ∷ codes "end log" ∷ codes
    "summary windows 1 done 1 defects 0 edges 0 weight 0" ∷ codes "fault ended line 9" ∷ [])
unfolding digits
early_output = refl

-- the frames wait for the release of an operation too
abbrev with_operation : Task
with_operation = record one_window { operations = record { slot = 1; labels = 0 ∷ [] } ∷ [] }

operation_outputs : output_of with_operation all_zero (codes "c" ∷ []) names whole_run None None
    ++ output_of with_operation all_zero (codes "c" ∷ []) names (whole_run ++ Release 0 false ∷ [])
    None None ≡ lines
    (codes "log 1" ∷ codes "arrive 0" ∷ codes "arrive 1" ∷ codes "commit 0" ∷ codes "end log"
    ∷ codes "summary windows 1 done 1 defects 0 edges 0 weight 0"
    ∷ codes "log 1" ∷ codes "arrive 0" ∷ codes "arrive 1"
    ∷ codes "commit 0" ∷ codes "released c 0" ∷ codes "end log" ∷ codes "frame ra 0 0 0"
    ∷ codes "summary windows 1 done 1 defects 0 edges 0 weight 0" ∷ [])
unfolding digits
operation_outputs = refl

-- the trace stands between the log and the frames
traced_output : output_of three_windows all_zero [] names (visible three_windows wrong_guess)
    (Some wrong_guess) (Some Read) ≡ lines
    (codes "log 1" ∷ codes "arrive 0" ∷ codes "arrive 1" ∷ codes "arrive 2" ∷ codes "commit 0 10"
    ∷ codes "commit 1" ∷ codes "commit 2" ∷ codes "end log"
    ∷ codes "trace 1" ∷ codes "arrive 0" ∷ codes "arrive 1" ∷ codes "arrive 2" ∷ codes "claim 0 0"
    ∷ codes "claim 1 1 0?0000" ∷ codes "hold 1" ∷ codes "claim 2 2 1=1"
    ∷ codes "hold 2" ∷ codes "hold 0" ∷ codes "poison 0 1" ∷ codes "drop 2" ∷ codes "commit 0 10"
    ∷ codes "claim 3 1 0=0" ∷ codes "hold 3" ∷ codes "commit 1"
    ∷ codes "claim 4 2 1=3" ∷ codes "hold 4" ∷ codes "commit 2"
    ∷ codes "counts claims 5 guessed 1 poisoned 1 dropped 1 stale 0" ∷ codes "end trace"
    ∷ codes "frame ra 0 0 0" ∷ codes "summary windows 3 done 3 defects 0 edges 1 weight 2"
    ∷ codes "fault read" ∷ [])
unfolding digits
traced_output = refl
