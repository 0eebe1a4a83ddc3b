use Rattle.std.proofs.Common.{◌<◌, ◌∙◌, All, ap, map, subst, sym}
use Rattle.window_model.specs.Windows.{greatest, slot_of}
use Rattle.window_plan.specs.Contents.{Gathered, last_in}
use Rattle.window_plan.proofs.Filled.{detectors_are, detectors_within, has_detectors}
use Rattle.window_plan.proofs.contents.Scratch.last.Goals as goal

pub get-detectors-requires : goal.get-detectors-requires
get-detectors-requires c =
    let l : c.args.window < c.self.inside.layout.now.windows =
    subst (λ (s : Gathered). c.args.window < s.windows.count) (sym c.self.view_is) c.requires in
    has_detectors c.self.invariant c.is_graph.ensures.ends c.args.window l

pub last_slot-requires : goal.last_slot-requires
last_slot-requires c =
    let l : c.args.window < c.self.inside.layout.now.windows =
    subst (λ (s : Gathered). c.args.window < s.windows.count) (sym c.self.view_is) c.requires in
    let ds = c.get-detectors.result.now in
    subst (λ n. All (λ x. x < n) ds) (sym c.self.invariant.tagged)
    (detectors_within c.self.invariant c.is_graph.ensures.ends c.args.window l ds
    c.get-detectors.ensures)

pub returns : goal.returns
returns c =
    let w = c.args.window in
    let l : w < c.self.inside.layout.now.windows =
    subst (λ (s : Gathered). w < s.windows.count) (sym c.self.view_is) c.requires in
    c.last_slot.ensures
    ∙ ap (λ ds. greatest (map (slot_of c.self.inside.tags.now) ds))
    (detectors_are c.self.invariant c.is_graph.ensures.ends w l c.get-detectors.result.now
    c.get-detectors.ensures)
    ∙ ap (λ (s : Gathered). last_in s w) c.self.view_is
