-- Slots that were brought, and bits that were told.
use Rattle.std.proofs.Common.{◌≡◌, ℕ, zero, suc, ◌<◌, Bool, List, [], ◌∷◌, length, arith, Option, None, Some, get_or}
use Rattle.std.proofs.lemmas.Option.{none-some}
use Rattle.detector_graph.specs.declared.folded.Folded.{Folded}
use Rattle.window_table.specs.Readings.{Readings}

abbrev pub readings : List Folded → List (Option Bool) → Readings
readings given told = record { given = given; told = told }

-- a bit was told of an operation that there is
pub told_in : (told : List (Option Bool)) (op : ℕ) (bit : Bool) → get_or told op None ≡ Some bit →
    op < length told
told_in [] op bit e = absurd (none-some bit e)
told_in (o ∷ told) zero bit e = omega arith
told_in (o ∷ told) (suc op) bit e = let l = told_in told op bit e in omega (arith, l)
