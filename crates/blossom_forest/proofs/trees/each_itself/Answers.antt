use Rattle.std.proofs.Common.{ℕ, ◌≡◌, ◌++◌, ◌-◌, [], ◌∷◌, List, length, replicate, vec_len, arith, sym, ◌∙◌, ap}
use Rattle.std.specs.List.{range_with_len}
use Rattle.std.proofs.lemmas.List.{take_all}
use Rattle.std.proofs.lemmas.List.FromFn.{length-range_with_len}
use Rattle.graph_model.proofs.Ranges.{below_more}
use Rattle.blossom_forest.proofs.trees.each_itself.Goals as goal

pub loop-vertex-preserved : goal.loop-vertex-preserved
loop-vertex-preserved c = c.in_ok-push.ensures.items ∙ ap (λ (xs : List ℕ). xs
    ++ c.loop-vertex.vertex ∷ []) c.loop-vertex.invariant ∙ sym (below_more c.loop-vertex.vertex)

pub returns : goal.returns
returns c =
    let n = c.args.vertices in
    let each = c.loop-vertex.each.items in
    let all : c.loop-vertex.vertex ≡ n = omega arith in
    let is : each ≡ range_with_len 0 n = c.loop-vertex.invariant ∙ ap (range_with_len 0) all in
    let len : length each ≡ n = ap length is ∙ length-range_with_len 0 n in
    let ok = c.loop-vertex.each.ok in
    let rest : c.args.places - vec_len c.loop-vertex.each ≡ c.args.places - n =
    omega (arith, len, ok.0) in
    c.in_ok-resize.ensures.items ∙ ap (λ (xs : List ℕ). xs ++ replicate (c.args.places
    - vec_len c.loop-vertex.each) 0) (take_all c.args.places each (omega (arith, len)) ∙ is)
    ∙ ap (λ m. range_with_len 0 n ++ replicate m 0) rest
