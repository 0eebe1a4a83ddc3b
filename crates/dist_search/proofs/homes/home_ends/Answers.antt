use Rattle.std.proofs.Common.{◌≡◌, ◌<◌, ◌-◌, suc, All, get_or, sym, ◌∙◌, arith, subst}
use Rattle.std.proofs.lemmas.Grind.{get_or_default_zero}
use Rattle.std.proofs.lemmas.List.{length-set}
use Rattle.dist_search.specs.Hops.{IsHomeward}
use Rattle.dist_search.proofs.Homeward.{ends_more, homeward_of}
use Rattle.dist_search.proofs.homes.home_ends.Goals as goal

pub loop-vertex-preserved : goal.loop-vertex-preserved
loop-vertex-preserved c =
    let star = c.args.star.now in
    let vertices = c.args.vertices.now in
    let i = c.loop-vertex.vertex-index in
    let v = get_or vertices i 0 in
    let ends = c.loop-vertex.ends.items in
    let old = c.loop-vertex.search in
    let new = c.run.new.self in
    let inv = c.loop-vertex.invariant in
    let u = c.vertices-free_end.result - 1 in
    let at = c.index.result.now in
    let last : suc u ≡ star.vertices = omega (arith, c.requires.some, c.vertices-free_end.ensures)
    in
    let count = c.in_ok-run.ensures.search.count_ends in
    let read : at ≡ get_or new.ends.items u 0 = c.index.ensures
    ∙ get_or_default_zero new.ends.items u at (omega (arith, last, count)) in
    record {
      count = length-set ends v at ∙ inv.count;
      ends = ends_more star i vertices ends old.steps.items new.steps.items at
          (omega (arith, c.loop-vertex-test.true))
          (subst (λ n. All (λ w. w < n) vertices) (sym inv.count) c.requires.low)
          c.in_ok-run.ensures.steps inv.ends
          (subst (λ x. IsHomeward star v x new.steps.items) (sym read)
          (homeward_of star v u new.left.items new.ends.items new.steps.items last
          c.in_ok-run.ensures.reached c.in_ok-run.ensures.relaxed));
      search = c.in_ok-run.ensures.search;
    }
