-- The mechanisms that are edges, one by one.
use Rattle.std.specs.Prelude.{true, List, [], ◌∷◌, if◌then◌else◌}
use Rattle.std.specs.List.{list_any}
use Rattle.surface_model.specs.Schedules.{Schedule}
use Rattle.surface_model.specs.Errors.{Mechanism, checked, odd_places}

-- the mechanism, where it flips a detector
abbrev pub source_of : Schedule → Mechanism → List Mechanism
source_of s e = if list_any (λ n. true) (odd_places s e (checked s)) then e ∷ [] else []
