-- The log that a run prints: the plain one of its steps or, where the words ask for it, the one with
-- the whole set of each committed window and what shows it least.
use Rattle.std.specs.Prelude.{◌≡◌, ℕ, Bool, true, false, List}
use Rattle.window_model.specs.Decoder.{Task, Step}
use Rattle.report_model.specs.Texts.{log_of}
use Rattle.certified_log.specs.Texts.{IsCertifiedLog}

abbrev pub IsPrintedLog : (certify : Bool) → Task → (labels : List (List ℕ)) → List Step →
    (log : List ℕ) → Type 0
IsPrintedLog false task labels steps log = log ≡ log_of labels steps
IsPrintedLog true task labels steps log = IsCertifiedLog task labels steps log
