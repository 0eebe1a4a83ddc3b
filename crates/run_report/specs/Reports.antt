-- What a core's history says.
use Rattle.std.specs.Prelude.{ℕ, List, Option, None, Some, take}
use Rattle.window_model.specs.Decoder.{Decoder, Step, Syndrome}
use Rattle.window_model.specs.Speculation.{Agrees, Counts, Event, Machine, decoder_of, happen_all, start, visible}
use Rattle.core_state.specs.States.{CoreTable, events_of, machine_of}
use Rattle.run_report.specs.declared.counts.Counts.{Counts as Counted}
use Rattle.run_report.specs.declared.report.Trace.{Trace}
use Rattle.run_report.specs.declared.report.Trace.TheVariants.{Asked, Spared}

-- the steps that show of its history
abbrev pub steps_of : CoreTable → List Step
steps_of c = visible c.task (events_of c)

-- what is committed and released
abbrev pub decoder_in : CoreTable → Decoder
decoder_in c = decoder_of c.task (machine_of c)

-- the syndrome has the values that have arrived
abbrev pub FitsCore : CoreTable → Syndrome → Type 0
FitsCore c s = Agrees c.task (machine_of c) s

-- the machine before the event at this place
abbrev pub machine_before : CoreTable → ℕ → Machine
machine_before c at = happen_all c.task start (take at (events_of c))

-- the history that is to be printed, if one is
abbrev pub traced : Trace → CoreTable → Option (List Event)
traced Asked c = Some (events_of c)
traced Spared c = None

abbrev pub counts_in : Counted → Counts
counts_in c = record {
  claims = c.claims;
  guessed = c.guessed;
  poisoned = c.poisoned;
  dropped = c.dropped;
  stale = c.stale;
}
