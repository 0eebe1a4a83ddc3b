use Rattle.std.proofs.Common.{◌∷◌, ◌++◌, [], map, sym, ap, ◌∙◌, zero-add}
use Rattle.std.specs.List.{range_with_len}
use Rattle.std.proofs.lemmas.List.{map-append}
use Rattle.std.proofs.lemmas.List.FromFn.{map-range_with_len_more}
use Rattle.serde_json.specs.View.{view}
use Rattle.surface_model.specs.Schedules.{CondLine}
use Rattle.plan_report.specs.Lines.{op_data_at}
use Rattle.plan_report.proofs.line.ops_value.Goals as goal

pub loop-at-preserved : goal.loop-at-preserved
loop-at-preserved c =
    let f = op_data_at c.args.gates.now (map (λ (k : CondLine). k.label) c.args.conds.now) in
    let n = c.loop-at.at in
    let old = c.loop-at.rows.items in
    ap (map view) c.in_ok-push.ensures.items
    ∙ map-append view old (c.in_ok-value.value ∷ [])
    ∙ ap (λ xs. xs ++ view c.in_ok-value.value ∷ []) c.loop-at.invariant
    ∙ ap (λ x. map f (range_with_len 0 n) ++ x ∷ []) c.in_ok-value.ensures
    ∙ sym (map-range_with_len_more f 0 n n (zero-add n))
