-- A log as it is read: the steps that it spells, and the first line that no log has there. A log is
-- a text by itself, so a release has its label here, where a run's has a number.
use Rattle.std.specs.Prelude.{◌≡◌, ◌<◌, ℕ, ◌+◌, ◌^◌, Bool, true, List, [], ◌∷◌, ◌++◌, length, map, flat_map, codes, decimal, All}
use Rattle.std.specs.List.Sorted.{IsStrictlyIncreasing}
use Rattle.surface_model.specs.Text.{is_name}
use Rattle.window_model.specs.Decoder.{Step, Arrive, Commit, Release}
use Rattle.report_model.specs.Texts.{bit_text, label_of, line, log_of}

-- a slot arrived, a window was committed with these edges, the operation of this label was released
-- with this bit
pub data LoggedStep : Type 0 where
  Arrived : (slot : ℕ) → LoggedStep
  Committed : (window : ℕ) → (edges : List ℕ) → LoggedStep
  Released : (label : List ℕ) → (bit : Bool) → LoggedStep

-- a step of a run, as the log of the run has it
abbrev pub logged : List (List ℕ) → Step → LoggedStep
logged labels (Arrive slot) = Arrived slot
logged labels (Commit window set) = Committed window set
logged labels (Release op bit) = Released (label_of labels op) bit

-- ---- the grammar

-- a number of a log is at most 4,294,967,295
abbrev pub IsLogNumber : ℕ → Type 0
IsLogNumber n = n < 2 ^ 32

-- numbers are in range, edges ascend, a label is a name
abbrev pub IsLogged : LoggedStep → Type 0
IsLogged (Arrived slot) = IsLogNumber slot
IsLogged (Committed window edges) =
    IsLogNumber window × All IsLogNumber edges × IsStrictlyIncreasing edges
IsLogged (Released label bit) = is_name label ≡ true

abbrev pub words_of : LoggedStep → List (List ℕ)
words_of (Arrived slot) = codes "arrive" ∷ decimal slot ∷ []
words_of (Committed window edges) = codes "commit" ∷ decimal window ∷ map decimal edges
words_of (Released label bit) = codes "released" ∷ label ∷ bit_text bit ∷ []

abbrev pub logged_line : LoggedStep → List ℕ
logged_line step = line (words_of step)

abbrev pub first_line : List ℕ
first_line = line (codes "log" ∷ codes "1" ∷ [])

abbrev pub last_line : List ℕ
last_line = line (codes "end" ∷ codes "log" ∷ [])

-- the text of these steps
abbrev pub log_text : List LoggedStep → List ℕ
log_text steps = first_line ++ flat_map logged_line steps ++ last_line

-- the text is the log of these steps
pub record IsLog (text : List ℕ) (steps : List LoggedStep) : Type 0 where
  pub each : All IsLogged steps
  pub text_is : text ≡ log_text steps

-- ---- the first line outside the grammar

-- some log begins with these bytes
pub record BeginsLog (front : List ℕ) : Type 0 where
  pub steps : List LoggedStep
  pub rest : List ℕ
  pub is_log : IsLog (front ++ rest) steps

abbrev pub HasNoFeed : List ℕ → Type 0
HasNoFeed bytes = All (λ b. b ≡ 10 → ⊥) bytes

-- lines, each with its line feed
abbrev pub fed : List (List ℕ) → List ℕ
fed lines = flat_map (λ bytes. bytes ++ 10 ∷ []) lines

-- The line of this number is the first that no log has: some log begins with the lines before it,
-- and none with these and it. A last line without its line feed is outside too, and so is the one
-- that is missing where the text ends before its log does.
pub record IsFirstOutside (text : List ℕ) (number : ℕ) : Type 0 where
  pub before : List (List ℕ)
  pub rest : List ℕ
  pub text_is : text ≡ fed before ++ rest
  pub number_is : number ≡ length before + 1
  pub whole : All HasNoFeed before
  pub begins : BeginsLog (fed before)
  pub no_log : (steps : List LoggedStep) → IsLog text steps → ⊥
  pub outside : (next after : List ℕ) → HasNoFeed next → rest ≡ next ++ 10 ∷ after →
      BeginsLog (fed before ++ (next ++ 10 ∷ [])) → ⊥

-- ---- laws

-- A log of a run is the log of its steps with their labels.
abbrev pub LoggedLaw : Type 0
LoggedLaw =
    (labels : List (List ℕ)) (steps : List Step) →
    log_of labels steps ≡ log_text (map (logged labels) steps)

-- No text is the log of two lists of steps.
abbrev pub OneLogLaw : Type 0
OneLogLaw = (text : List ℕ) (one two : List LoggedStep) → IsLog text one → IsLog text two →
    one ≡ two

-- No text has two first lines outside the grammar.
abbrev pub OneFaultLaw : Type 0
OneFaultLaw = (text : List ℕ) (one two : ℕ) → IsFirstOutside text one → IsFirstOutside text two →
    one ≡ two
