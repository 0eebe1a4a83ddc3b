-- The text of a log with certificates: after the line of each commit stand the window's whole set,
-- and where one was found a certificate of it.
use Rattle.std.specs.Prelude.{◌≡◌, ◌≤◌, ℕ, ℤ, List, [], ◌∷◌, ◌++◌, length, map, flat_map, All, Option, None, Some}
use Rattle.std.specs.Bool.{⊤}
use Rattle.graph_model.specs.Problems.{Problem, Solves}
use Rattle.matching_model.specs.Certificates.{Certificate}
use Rattle.matching_model.specs.Certified.{IsCertified}
use Rattle.report_model.specs.Logs.{HasNoFeed, logged}
use Rattle.window_model.specs.Decoder.{Task, Step, Arrive, Commit, Release, owned_part}
use Rattle.window_model.specs.Parts.{part_of}
use Rattle.certified_lines.specs.Certified.{CertifiedLine, Started, Stepped, Whole, Vertex, OddSet, Finished, IsLine, spelled, text_of}

abbrev pub set_line : List ℕ × ℤ → CertifiedLine
set_line s = OddSet s.1 s.0

abbrev pub certificate_lines : Option Certificate → List CertifiedLine
certificate_lines None = []
certificate_lines (Some c) = Vertex c.vertex ∷ map set_line c.sets

-- what stands after the line of a commit
abbrev pub shown_lines : List ℕ → Option Certificate → List CertifiedLine
shown_lines whole cert = Whole whole ∷ certificate_lines cert

-- the lines of a step, where the windows have these whole sets and certificates
abbrev pub step_lines : List (List ℕ) → (ℕ → List ℕ) → (ℕ → Option Certificate) → Step →
    List CertifiedLine
step_lines labels whole cert (Arrive slot) = Stepped (logged labels (Arrive slot)) ∷ []
step_lines labels whole cert (Commit window set) =
    Stepped (logged labels (Commit window set)) ∷ shown_lines (whole window) (cert window)
step_lines labels whole cert (Release op bit) = Stepped (logged labels (Release op bit)) ∷ []

abbrev pub lines_of : List (List ℕ) → (ℕ → List ℕ) → (ℕ → Option Certificate) → List Step →
    List CertifiedLine
lines_of labels whole cert steps = flat_map (step_lines labels whole cert) steps

abbrev pub certified_of : List (List ℕ) → (ℕ → List ℕ) → (ℕ → Option Certificate) → List Step →
    List ℕ
certified_of labels whole cert steps =
    text_of (Started ∷ (lines_of labels whole cert steps ++ Finished ∷ []))

-- The set solves the problem, and the certificate, where there is one, shows it least. It has no
-- more sets than numbers of members.
pub record IsCertificateOf (problem : Problem) (whole : List ℕ) (cert : Option Certificate) : Type 0
  where
    pub least : Solves problem whole
    pub certified : (c : Certificate) → cert ≡ Some c → IsCertified problem whole c
    pub few : (c : Certificate) → cert ≡ Some c → length c.sets ≤ length c.vertex
    pub lines : All IsLine (shown_lines whole cert)

-- The problem is that of the window's part with some defects. They are just the set's boundary
-- there, so no set of the window's edges with this boundary weighs less.
pub record IsShownLeast (task : Task) (window : ℕ) (whole : List ℕ) (cert : Option Certificate) :
    Type 0 where
  pub problem : Problem
  pub part : problem.part ≡ part_of task.graph task.plan window
  pub shown : IsCertificateOf problem whole cert

-- what a commit keeps is the window's own part of its whole set
abbrev pub IsKeptOf : Task → (ℕ → List ℕ) → (ℕ → Option Certificate) → Step → Type 0
IsKeptOf task whole cert (Commit window set) =
    (set ≡ owned_part task window (whole window))
    × IsShownLeast task window (whole window) (cert window)
IsKeptOf task whole cert _ = ⊤

pub record IsStepShown (task : Task) (labels : List (List ℕ)) (whole : ℕ → List ℕ)
    (cert : ℕ → Option Certificate) (step : Step) : Type 0 where
  pub kept : IsKeptOf task whole cert step
  pub lines : All IsLine (step_lines labels whole cert step)

-- The text is a log of these steps with the whole set of each committed window, and each
-- certificate in it shows the set above it least.
pub record IsCertifiedLog (task : Task) (labels : List (List ℕ)) (steps : List Step)
    (text : List ℕ) : Type 0 where
  pub whole : ℕ → List ℕ
  pub cert : ℕ → Option Certificate
  pub each : All (IsStepShown task labels whole cert) steps
  pub text_is : text ≡ certified_of labels whole cert steps

-- A text is just these lines, cut at its line feeds.
pub record AreLinesOf (text : List ℕ) (lines : List CertifiedLine) : Type 0 where
  pub text_is : text ≡ text_of lines
  pub each : All IsLine lines
  pub whole : All HasNoFeed (map spelled lines)

-- A log with certificates is text of the grammar, line by line.
abbrev pub ReadBackLaw : Type 0
ReadBackLaw =
    (task : Task) (labels : List (List ℕ)) (steps : List Step) (text : List ℕ) →
    (log : IsCertifiedLog task labels steps text) →
    AreLinesOf text (Started ∷ (lines_of labels log.whole log.cert steps ++ Finished ∷ []))
