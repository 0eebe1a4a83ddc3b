-- The lines of a log stand where the lines of another stand that begins alike.
use Rattle.std.proofs.Common.{◌≡◌, ℕ, List, [], ◌∷◌, ◌++◌, length, map, flat_map, All, codes, refl, sym, ap, ◌∙◌, append_assoc, append-nil, length-append, arith}
use Rattle.std.proofs.lemmas.List.Elements.{All-head, All-tail}
use Rattle.window_model.specs.Decoder.{Step, Arrive, Commit, Release}
use Rattle.report_model.specs.Logs.{IsLogged, LoggedLaw, LoggedStep, OneLogLaw, first_line, last_line, logged, logged_line}
use Rattle.report_model.specs.Texts.{step_line}
use Rattle.log_reader.proofs.Bytes.{same_front}
use Rattle.log_reader.proofs.Spelled.{bare, lacks_bare, not_last, same_bare}

abbrev pub lines_of : List LoggedStep → List ℕ
lines_of steps = flat_map logged_line steps

-- a line, and the lines after it
pub first_then : (step : LoggedStep) (steps : List LoggedStep) (rest : List ℕ) →
    lines_of (step ∷ steps) ++ rest ≡ bare step ++ 10 ∷ (lines_of steps ++ rest)
first_then step steps rest =
    append_assoc (logged_line step) (lines_of steps) rest
    ∙ append_assoc (bare step) (10 ∷ []) (lines_of steps ++ rest)

-- what stands after these steps in a log that begins with them
pub record Goes (steps whole : List LoggedStep) (rest : List ℕ) : Type 0 where
  pub more : List LoggedStep
  pub whole_is : whole ≡ steps ++ more
  pub rest_is : rest ≡ lines_of more ++ last_line
  pub each : All IsLogged more

pub aligned : (steps whole : List LoggedStep) (rest : List ℕ) → All IsLogged steps →
    All IsLogged whole → lines_of steps ++ rest ≡ lines_of whole ++ last_line →
    Goes steps whole rest
aligned [] whole rest p q e = record { more = whole; whole_is = refl; rest_is = e; each = q }
aligned (s ∷ steps) [] rest p q e =
    let h = same_front 10 (bare s) (codes "end log") (lines_of steps ++ rest) []
    (lacks_bare s (All-head IsLogged s steps p)) refl (sym (first_then s steps rest) ∙ e) in
    absurd (not_last s (All-head IsLogged s steps p) h.0)
aligned (s ∷ steps) (t ∷ whole) rest p q e =
    let own = All-head IsLogged s steps p in
    let other = All-head IsLogged t whole q in
    let h = same_front 10 (bare s) (bare t) (lines_of steps ++ rest) (lines_of whole ++ last_line)
    (lacks_bare s own) (lacks_bare t other)
    (sym (first_then s steps rest) ∙ e ∙ first_then t whole last_line) in
    let same = same_bare s t own other h.0 in
    let behind = aligned steps whole rest (All-tail IsLogged s steps p)
    (All-tail IsLogged t whole q) h.1 in
    record {
      more = behind.more;
      whole_is = ap (λ x. x ∷ whole) (sym same) ∙ ap (λ xs. s ∷ xs) behind.whole_is;
      rest_is = behind.rest_is;
      each = behind.each;
    }

-- the last line is no step's, so no step stands after it
pub none_behind : (more : List LoggedStep) (rest : List ℕ) → All IsLogged more →
    last_line ++ rest ≡ lines_of more ++ last_line → (more ≡ []) × (rest ≡ [])
none_behind [] [] p e = (refl, refl)
none_behind [] (b ∷ rest) p e =
    let k = ap length e in
    let long = length-append last_line (b ∷ rest) in absurd (omega (arith, k, long))
none_behind (s ∷ more) rest p e =
    let own = All-head IsLogged s more p in
    let h = same_front 10 (bare s) (codes "end log") (lines_of more ++ last_line) rest
    (lacks_bare s own) refl (sym (first_then s more last_line) ∙ sym e) in
    absurd (not_last s own h.0)

-- after the first line
pub unheaded : (a b : List ℕ) → first_line ++ a ≡ first_line ++ b → a ≡ b
unheaded a b e = cc

pub one_log_law : OneLogLaw
one_log_law text one two p q =
    let same = unheaded (lines_of one ++ last_line) (lines_of two ++ last_line)
    (sym (append_assoc first_line (lines_of one) last_line) ∙ sym p.text_is ∙ q.text_is
    ∙ append_assoc first_line (lines_of two) last_line) in
    let h = aligned one two last_line p.each q.each same in
    let none = none_behind h.more [] h.each (append-nil last_line ∙ h.rest_is) in
    sym (append-nil one) ∙ ap (λ more. one ++ more) (sym none.0) ∙ sym h.whole_is

-- ---- the log of a run

line_is : (labels : List (List ℕ)) (step : Step) →
    step_line labels step ≡ logged_line (logged labels step)
line_is labels (Arrive slot) = refl
line_is labels (Commit window set) = refl
line_is labels (Release op bit) = refl

lines_are : (labels : List (List ℕ)) (steps : List Step) →
    flat_map (step_line labels) steps ≡ lines_of (map (logged labels) steps)
lines_are labels [] = refl
lines_are labels (s ∷ steps) =
    ap (λ t. t ++ flat_map (step_line labels) steps) (line_is labels s)
    ∙ ap (λ t. logged_line (logged labels s) ++ t) (lines_are labels steps)

pub logged_law : LoggedLaw
logged_law labels steps = ap (λ t. first_line ++ t ++ last_line) (lines_are labels steps)
