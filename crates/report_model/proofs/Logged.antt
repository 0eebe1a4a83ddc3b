-- Logs, byte for byte, and what is no step of a log.
use Rattle.std.specs.Prelude.{◌≡◌, ℕ, Bool, true, false, List, [], ◌∷◌, map, flat_map, codes, refl}
use Rattle.std.specs.Fmt.{digits}
use Rattle.window_model.specs.Decoder.{Arrive, Commit, Release}
use Rattle.report_model.specs.Texts.{log_of}
use Rattle.report_model.specs.Logs.{LoggedStep, Arrived, Committed, Released, logged, logged_line, log_text}
use Rattle.report_model.proofs.Printed.{lines, labels}

two_steps : log_text (Arrived 0 ∷ Committed 0 (9 ∷ []) ∷ []) ≡ lines
    (codes "log 1" ∷ codes "arrive 0" ∷ codes "commit 0 9" ∷ codes "end log" ∷ [])
unfolding digits
two_steps = refl

no_steps : log_text [] ≡ lines (codes "log 1" ∷ codes "end log" ∷ [])
no_steps = refl

step_lines : flat_map logged_line
    (Arrived 4095 ∷ Committed 12 (3 ∷ 40 ∷ 500 ∷ []) ∷ Committed 7 []
    ∷ Released (codes "dd_2") true ∷ Released (codes "c") false ∷ []) ≡ lines
    (codes "arrive 4095" ∷ codes "commit 12 3 40 500" ∷ codes "commit 7" ∷ codes "released dd_2 1"
    ∷ codes "released c 0" ∷ [])
unfolding digits
step_lines = refl

-- the greatest number of a log
greatest : logged_line (Arrived 4294967295) ≡ lines (codes "arrive 4294967295" ∷ [])
unfolding digits
greatest = refl

-- the release of an operation has its label
with_labels : map (logged labels) (Arrive 0 ∷ Commit 1 (3 ∷ []) ∷ Release 1 true ∷ []) ≡ Arrived 0
    ∷ Committed 1 (3 ∷ []) ∷ Released (codes "dd_2") true ∷ []
with_labels = refl
