-- The names of observables, and the numbers of a summary, as they are printed.
use Rattle.std.specs.Prelude.{◌≡◌, ℕ, if◌then◌else◌, List, [], ◌∷◌, codes, decimal, map}
use Rattle.report_model.specs.Texts.{line}
use Rattle.surface_model.specs.Text.{seam_of}
use Rattle.surface_model.specs.Schedules.{Schedule}
use Rattle.surface_model.specs.Measurements as measurements
use Rattle.measure_map.specs.Placed.{PlacedObservable, map_of}

-- the label of its line, and for a merge's seam with `.seam` after it
abbrev pub printed_name : PlacedObservable → List ℕ
printed_name o = if o.seam then seam_of o.name else o.name

abbrev pub printed_names : List PlacedObservable → List (List ℕ)
printed_names observables = map printed_name observables

-- The observables of a schedule's map have the names that its lines give them.
abbrev pub NamesLaw : Type 0
NamesLaw =
    (s : Schedule) →
    printed_names (map_of s).observables
    ≡ map measurements.printed_name (measurements.observables s)

-- the line of a summary: how many windows there are and are committed, the defects, and the
-- committed edges with their weight
abbrev pub counts_line : (windows done defects edges weight : ℕ) → List ℕ
counts_line windows done defects edges weight = line
    (codes "summary" ∷ codes "windows" ∷ decimal windows ∷ codes "done" ∷ decimal done
    ∷ codes "defects" ∷ decimal defects ∷ codes "edges" ∷ decimal edges ∷ codes "weight"
    ∷ decimal weight ∷ [])
