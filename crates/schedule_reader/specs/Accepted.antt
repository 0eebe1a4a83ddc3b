-- What every schedule in memory is: that of some text without a fault.
use Rattle.std.specs.Prelude.{◌≡◌, ◌≢◌, ◌<◌, ◌≤◌, ℕ, List, [], length, None}
use Rattle.std.specs.List.{All}
use Rattle.surface_model.specs.Limits.{most_weight}
use Rattle.surface_model.specs.Measurements.{observables}
use Rattle.surface_model.specs.Schedules.{CondLine, MergeLine, ReadLine, Schedule}
use Rattle.surface_model.specs.Text.{text_fault}
use Rattle.surface_model.specs.Parse.{schedule_of}

pub record IsRead (s : Schedule) : Type 0 where
  pub text : List ℕ
  pub least : 1 ≤ length text
  pub faultless : text_fault text ≡ None
  pub given : s ≡ schedule_of text

-- the weights are in their range
pub record HasWeights (s : Schedule) : Type 0 where
  pub space : (1 ≤ s.space) × (s.space ≤ most_weight)
  pub time : (1 ≤ s.time) × (s.time ≤ most_weight)

-- the line `rounds` stands after each merge and each reading
pub record EndsInRounds (s : Schedule) : Type 0 where
  pub merges : All (λ (m : MergeLine). m.line < s.rounds_line) s.merges
  pub reads : All (λ (r : ReadLine). r.line < s.rounds_line) s.reads

-- each condition names one observable of the schedule or more, and nothing else
pub record NamesObservables (s : Schedule) : Type 0 where
  pub some : All (λ (c : CondLine). c.labels ≢ []) s.conds
  pub known : All (λ (c : CondLine). All (λ l. l < length (observables s)) c.labels) s.conds
