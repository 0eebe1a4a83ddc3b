-- The lines of a schedule by their numbers.
use Rattle.std.specs.Prelude.{ℕ, [], slice_index_or}
use Rattle.surface_model.specs.declared.Basis.TheVariants.{Z}
use Rattle.surface_model.specs.Schedules.{InitLine, MergeLine, ReadLine, Schedule}

-- the line of this number of its kind, where there is one
abbrev pub init_line : Schedule → ℕ → InitLine
init_line s n = slice_index_or s.inits n (record { line = 0; patch = 0; basis = Z; slot = 0 })

abbrev pub read_line : Schedule → ℕ → ReadLine
read_line s n = slice_index_or s.reads n (record {
  line = 0;
  label = [];
  patch = 0;
  basis = Z;
  slot = 0;
})

abbrev pub merge_line : Schedule → ℕ → MergeLine
merge_line s n = slice_index_or s.merges n (record {
  line = 0;
  label = [];
  one = 0;
  two = 0;
  slot = 0;
  count = 0;
})
