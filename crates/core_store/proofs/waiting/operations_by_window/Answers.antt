use Rattle.std.proofs.Common.{◌∷◌, ◌++◌, [], map, sym, ap, ◌∙◌, zero-add}
use Rattle.std.specs.List.{range_with_len}
use Rattle.std.proofs.lemmas.List.FromFn.{map-range_with_len_more}
use Rattle.release_laws.specs.Tables.{waiting_for}
use Rattle.core_store.proofs.waiting.operations_by_window.Goals as goal

pub loop-window-preserved : goal.loop-window-preserved
loop-window-preserved c =
    let f = waiting_for c.args.setting.now in
    let n = c.loop-window.window in
    c.in_ok-push.ensures.ok
    ∙ ap (λ xs. xs ++ c.deref.result.now ∷ []) c.loop-window.invariant
    ∙ ap (λ x. map f (range_with_len 0 n) ++ x ∷ []) (c.deref.ensures.value ∙ c.in_ok-ops.ensures)
    ∙ sym (map-range_with_len_more f 0 n n (zero-add n))
