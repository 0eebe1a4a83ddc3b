use Rattle.std.proofs.Common.{◌∷◌, ◌++◌, [], map, sym, ap, ◌∙◌, zero-add}
use Rattle.std.specs.List.{range_with_len}
use Rattle.std.proofs.lemmas.List.FromFn.{map-range_with_len_more}
use Rattle.window_setting.specs.Slots.{last_raw}
use Rattle.core_store.proofs.waiting.last_raws.Goals as goal

pub loop-op-preserved : goal.loop-op-preserved
loop-op-preserved c =
    let f = last_raw c.args.setting.now in
    let n = c.loop-op.op in
    c.in_ok-push.ensures.items
    ∙ ap (λ xs. xs ++ c.last_raw.result ∷ []) c.loop-op.invariant
    ∙ ap (λ x. map f (range_with_len 0 n) ++ x ∷ []) c.last_raw.ensures
    ∙ sym (map-range_with_len_more f 0 n n (zero-add n))
