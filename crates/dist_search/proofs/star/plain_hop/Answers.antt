use Rattle.std.proofs.Common.{◌≡◌, ◌+◌, ◌/◌, ◌<◌, ℕ, suc, length, sym, ap, ◌∙◌, arith}
use Rattle.std.specs.Option.{option_map_or}
use Rattle.std.proofs.lemmas.Option.{get_or_from_slice_get}
use Rattle.graph_model.specs.Problems.{problem_weight}
use Rattle.graph_model.proofs.PartEdges.{problem_weight_at}
use Rattle.matching_model.specs.Certificates.{far_end}
use Rattle.dist_search.specs.declared.star.Hop.{Hop}
use Rattle.dist_search.specs.Hops.{hop_at, hops_from}
use Rattle.dist_search.proofs.Rows.{unwrap_far}
use Rattle.dist_search.proofs.Stars.{hop_even, hop_odd}
use Rattle.dist_search.proofs.star.plain_hop.Goals as goal
use Rattle.dist_search.proofs.star.plain_hop.Goals.{After-unwrap_or-far}

far_is : (c : After-unwrap_or-far) → c.unwrap_or-far.result
    ≡ far_end c.args.problem.now c.edge_at-edge.result
far_is c =
    let edge = c.edge_at-edge.result in
    c.unwrap_or-far.ensures ∙ unwrap_far edge.second c.place_count.result
    ∙ ap (option_map_or (λ x. x) edge.second) c.place_count.ensures.count

weight_is : (c : After-unwrap_or-far) → c.edge_at-edge.result.weight
    ≡ problem_weight c.args.problem.now c.edge_at-edge.result.edge
weight_is c = sym (problem_weight_at c.args.problem.now c.is_problem.ensures.part.ascending
    (c.args.number / 2) c.edge_at-edge.result c.edge_at-edge.ensures)

pub returns-then-number-eq0 : goal.returns-then-number-eq0
returns-then-number-eq0 c =
    let p = c.args.problem.now in
    let es = p.part.edges in
    let k = c.args.number / 2 in
    let edge = c.edge_at-edge.result in
    let made : ℕ → ℕ → Hop = λ t w. record {
      from = edge.first;
      to = t;
      weight = w;
      edge = edge.edge;
    } in
    let low : k < length es = omega (arith, c.requires) in
    let number : c.args.number ≡ k + k = omega (arith, c.if-number-eq0.true) in
    ap (λ t. made t edge.weight) (far_is (goal.at.returns-then-number-eq0 c).After-unwrap_or-far)
    ∙ ap (made (far_end p edge)) (weight_is (goal.at.returns-then-number-eq0 c).After-unwrap_or-far)
    ∙ sym (ap (hop_at (hops_from p es)) number ∙ hop_even p es k edge low
    (get_or_from_slice_get es k edge edge c.edge_at-edge.ensures))

pub returns : goal.returns
returns c =
    let p = c.args.problem.now in
    let es = p.part.edges in
    let k = c.args.number / 2 in
    let edge = c.edge_at-edge.result in
    let made : ℕ → ℕ → Hop = λ t w. record {
      from = t;
      to = edge.first;
      weight = w;
      edge = edge.edge;
    } in
    let low : k < length es = omega (arith, c.requires) in
    let number : c.args.number ≡ suc (k + k) = omega (arith, c.if-number-eq0.false) in
    ap (λ t. made t edge.weight) (far_is (goal.at.returns c).After-unwrap_or-far)
    ∙ ap (made (far_end p edge)) (weight_is (goal.at.returns c).After-unwrap_or-far)
    ∙ sym (ap (hop_at (hops_from p es)) number ∙ hop_odd p es k edge low
    (get_or_from_slice_get es k edge edge c.edge_at-edge.ensures))
