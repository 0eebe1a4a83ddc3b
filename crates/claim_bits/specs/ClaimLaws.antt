-- Laws of the answers to a ticket's problem.
use Rattle.std.specs.Prelude.{◌≡◌, ◌<◌, ℕ, List}
use Rattle.graph_model.specs.Problems.{Decoding, Solves, owned_members}
use Rattle.window_model.specs.Decoder.{Task, owned_part}
use Rattle.window_model.specs.Parts.{part_of}
use Rattle.window_model.specs.Speculation.{Event, Running, MayReturn, start, happen_all, IsHistory}
use Rattle.window_model.specs.TicketLaws.{problem_of}
use Rattle.window_model.specs.Windows.{window_count}
use Rattle.window_setting.specs.Settings.{IsSetting}

-- what holds of an answer: its set is least for its problem, and it keeps the members that the
-- problem's window owns
pub record IsAnswer (answer : Decoding) : Type 0 where
  pub least : Solves answer.problem answer.set
  pub kept : answer.kept ≡ owned_members answer.problem.part answer.set

-- An answer of a window's part keeps what the window commits of its set.
abbrev pub KeptLaw : Type 0
KeptLaw =
    (task : Task) (w : ℕ) (answer : Decoding) → IsSetting task → w < window_count task.plan →
    answer.problem.part ≡ part_of task.graph task.plan w →
    IsAnswer answer → answer.kept ≡ owned_part task w answer.set

-- An answer of the problem of a ticket that its window runs may return.
abbrev pub AnswerLaw : Type 0
AnswerLaw =
    (task : Task) (retries : ℕ) (events : List Event) (k : ℕ) (answer : Decoding) → IsSetting task →
    IsHistory task retries events →
    (happen_all task start events).phase ((happen_all task start events).claim k).window
    ≡ Running k →
    answer.problem ≡ problem_of task (happen_all task start events) k → IsAnswer answer →
    MayReturn task (happen_all task start events) k answer.set
