-- How the reading of rows stops.
use Rattle.std.specs.Prelude.{Err}
use Rattle.syndrome_source.specs.declared.error.RowError.{RowError}
use Rattle.syndrome_source.specs.declared.error.RowError.TheVariants as row
use Rattle.run_rounds.specs.declared.release.PutError.TheVariants.{Memory}
use Rattle.decode_rounds.specs.declared.reading.Stop.{Stop}
use Rattle.decode_rounds.specs.declared.reading.Stop.TheVariants.{Rows, Broken}

-- want of memory breaks the run off, and any other error ends the rows
abbrev pub stop_of : RowError → Stop
stop_of row.Memory = Broken Memory
stop_of error = Rows (Err error)
