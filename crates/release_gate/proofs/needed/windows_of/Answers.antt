use Rattle.std.proofs.Common.{◌++◌, ◌∷◌, [], Bool, List, ℕ, ap, sym, ◌∙◌, false, get_or, cond}
use Rattle.std.proofs.lemmas.List.{get_or_default}
use Rattle.window_model.specs.Windows.{all_below}
use Rattle.release_gate.proofs.Listed.{all_below_more}
use Rattle.release_gate.proofs.needed.windows_of.Goals as goal

pub loop-window-preserved : goal.loop-window-preserved
loop-window-preserved c =
    let touched = c.args.touched.now in
    let w = c.loop-window.window in
    let test : ℕ → Bool = λ n. get_or (get_or touched n []) c.args.op false in
    let row = c.index-touched-window.is
    ∙ get_or_default touched w c.index-touched-window.result [] c.loop-window-test.true in
    let is = c.get.ensures ∙ ap (λ (r : List Bool). get_or r c.args.op false) row in
    c.in_ok-push_if.ensures
    ∙ ap (λ xs. xs ++ cond c.get.result (w ∷ []) []) c.loop-window.invariant
    ∙ ap (λ b. all_below w test ++ cond b (w ∷ []) []) is
    ∙ sym (all_below_more test w)
