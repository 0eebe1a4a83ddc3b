use Rattle.std.proofs.Common.{◌≡◌, ◌++◌, map, drop}
use Rattle.surface_model.specs.Parse.{number_in}
use Rattle.schedule_reader.proofs.known.Tables.labels_from.Given as goal

abbrev pub invariant-loop-at : goal.invariant-loop-at
invariant-loop-at l =
    l.labels.items ++ map (number_in l.self.observables) (drop l.at (map (λ f. f.now) l.fields))
    ≡ map (number_in l.self.observables) (drop 3 (map (λ f. f.now) l.fields))
