use Rattle.std.proofs.Common.{◌∷◌, ◌++◌, [], ℕ, map, length, sym, ap, ◌∙◌, zero-add}
use Rattle.std.specs.List.{range_with_len}
use Rattle.std.proofs.lemmas.List.FromFn.{map-range_with_len_more}
use Rattle.window_model.specs.Decoder.{needs}
use Rattle.release_watch.proofs.waiting.needed_counts.Goals as goal

pub loop-op-preserved : goal.loop-op-preserved
loop-op-preserved c =
    let f : ℕ → ℕ = λ op. length (needs c.args.setting.now op) in
    let n = c.loop-op.op in
    c.in_ok-push.ensures.items
    ∙ ap (λ xs. xs ++ c.needed_count.result ∷ []) c.loop-op.invariant
    ∙ ap (λ x. map f (range_with_len 0 n) ++ x ∷ []) c.needed_count.ensures
    ∙ sym (map-range_with_len_more f 0 n n (zero-add n))
