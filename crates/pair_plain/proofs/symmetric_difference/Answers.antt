use Rattle.std.proofs.Common.{ℕ, ◌≡◌, ◌<◌, ◌==◌, ◌++◌, [], ◌∷◌, List, take, length, arith, sym, ◌∙◌, ap}
use Rattle.std.proofs.lemmas.List.{take_more, take_all}
use Rattle.std.proofs.lemmas.Result.{IfOk-weaker}
use Rattle.graph_model.specs.Parity.{parity}
use Rattle.matching_model.specs.Joins.{IsSymmetricDifference, all_of}
use Rattle.dist_search.specs.Tables.{IsOdd}
use Rattle.pair_plain.proofs.Sets.{all_push}
use Rattle.pair_plain.proofs.symmetric_difference.Goals as goal

pub loop-walk-preserved : goal.loop-walk-preserved
loop-walk-preserved c =
    let i = c.loop-walk.walk-index in
    let walks : List (List ℕ) = c.args.walks.now in
    let walk : List ℕ = c.walk-item.result in
    let low : i < length walks = omega arith in
    c.in_ok-extend_from_slice.ensures.items ∙ ap (λ es. es ++ c.as_slice.result.now)
    c.loop-walk.invariant ∙ ap (λ es. all_of (take i walks) ++ es) c.as_slice.ensures.value
    ∙ sym (ap all_of (take_more walks i walk low ∙ ap (λ (x : List ℕ). take i walks
    ++ x ∷ []) (sym c.walk-item.is)) ∙ all_push (take i walks) walk)

pub returns : goal.returns
returns c =
    let walks : List (List ℕ) = c.args.walks.now in
    let all : c.loop-walk.edges.items ≡ all_of walks = c.loop-walk.invariant
    ∙ ap all_of (take_all c.loop-walk.walk-index walks (omega arith)) in
    IfOk-weaker c.odd_edges.result (IsOdd c.loop-walk.edges.items) (IsSymmetricDifference walks)
    (λ set so. record {
      ascending = so.ascending;
      odd = λ e. so.odd e
          ∙ ap (parity (λ d. d == e)) all;
    }) c.odd_edges.ensures
