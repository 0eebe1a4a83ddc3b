use Rattle.std.proofs.Common.{◌++◌, ◌∷◌, [], Bool, ℕ, ap, sym, ◌∙◌, cond, filter}
use Rattle.std.specs.List.{range_with_len}
use Rattle.std.proofs.lemmas.List.Elements.{filter-append}
use Rattle.graph_model.specs.Graph.{is_in}
use Rattle.window_model.specs.Decoder.{needs}
use Rattle.window_model.specs.Windows.{all_below}
use Rattle.graph_model.proofs.Ranges.{below_more}
use Rattle.core_store.proofs.waiting.waiting_for.Goals as goal

pub loop-op-preserved : goal.loop-op-preserved
loop-op-preserved c =
    let n = c.loop-op.op in
    let test : ℕ → Bool = λ op. is_in (needs c.args.setting.now op) c.args.window in
    c.in_ok-push_if.ensures
    ∙ ap (λ xs. xs ++ cond c.is_needed.result (n ∷ []) []) c.loop-op.invariant
    ∙ ap (λ b. all_below n test ++ cond b (n ∷ []) []) c.is_needed.ensures
    ∙ sym (ap (filter test) (below_more n) ∙ filter-append test (range_with_len 0 n) (n ∷ []))
