use Rattle.std.proofs.Common.{◌∷◌, ◌++◌, [], map, sym, ap, ◌∙◌, zero-add}
use Rattle.std.specs.Arc.{arc_value}
use Rattle.std.specs.List.{range_with_len}
use Rattle.std.proofs.lemmas.List.{map-append}
use Rattle.std.proofs.lemmas.List.FromFn.{map-range_with_len_more}
use Rattle.window_model.specs.Parts.{part_of}
use Rattle.boundary_fold.proofs.division.parts.Goals as goal

pub loop-window-preserved : goal.loop-window-preserved
loop-window-preserved c =
    let f = part_of c.args.graph.now c.args.plan.now.plan in
    let n = c.loop-window.window in
    let old = c.loop-window.parts.items in
    record {
      parts = ap (map arc_value) c.in_ok-push.ensures.items
          ∙ map-append arc_value old (c.in_ok-part.field-0 ∷ [])
          ∙ ap (λ xs. xs ++ arc_value c.in_ok-part.field-0 ∷ []) c.loop-window.invariant.parts
          ∙ ap (λ x. map f (range_with_len 0 n) ++ x ∷ []) c.in_ok-part.ensures.part
          ∙ sym (map-range_with_len_more f 0 n n (zero-add n));
      table = c.part.ensures.table;
    }
