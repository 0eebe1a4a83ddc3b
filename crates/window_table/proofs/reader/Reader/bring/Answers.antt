use Rattle.std.proofs.Common.{◌∷◌, [], List, map, ap, ◌∙◌}
use Rattle.std.specs.Arc.{arc_value}
use Rattle.std.proofs.lemmas.List.{map-append}
use Rattle.detector_graph.specs.declared.folded.Folded.{Folded}
use Rattle.window_table.specs.Readings.{Readings, with_slot}
use Rattle.window_table.proofs.Told.{readings}
use Rattle.window_table.proofs.reader.Reader.bring.Goals as goal

pub returns : goal.returns
returns g c =
    ap (λ (xs : List Folded). readings xs c.self.inside.told.items)
    (ap (map arc_value) c.add.ensures.items
    ∙ map-append arc_value c.self.inside.given.items (c.args.folded ∷ []))
    ∙ ap (λ (r : Readings). with_slot r (arc_value c.args.folded)) c.self.view_is
