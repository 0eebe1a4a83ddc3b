use Rattle.std.proofs.Common.{◌∷◌, ◌++◌, [], map, sym, ap, ◌∙◌, zero-add}
use Rattle.std.specs.List.{range_with_len}
use Rattle.std.proofs.lemmas.List.{map-append}
use Rattle.std.proofs.lemmas.List.FromFn.{map-range_with_len_more}
use Rattle.serde_json.specs.View.{view}
use Rattle.plan_report.specs.Lines.{window_data_at}
use Rattle.plan_report.proofs.line.windows_value.Goals as goal

pub loop-window-preserved : goal.loop-window-preserved
loop-window-preserved c =
    let f = window_data_at c.args.plan.now.plan in
    let n = c.loop-window.window in
    let old = c.loop-window.rows.items in
    ap (map view) c.in_ok-push.ensures.items
    ∙ map-append view old (c.in_ok-value.value ∷ [])
    ∙ ap (λ xs. xs ++ view c.in_ok-value.value ∷ []) c.loop-window.invariant
    ∙ ap (λ x. map f (range_with_len 0 n) ++ x ∷ []) c.in_ok-value.ensures
    ∙ sym (map-range_with_len_more f 0 n n (zero-add n))
