use Rattle.std.proofs.Common.{◌≡◌, ℕ, suc, List, length, map, sym, ap, ◌∙◌, subst}
use Rattle.matching_model.specs.Certificates.{free_end}
use Rattle.dist_search.specs.declared.star.Hop.{Hop}
use Rattle.dist_search.specs.declared.star.Sense.TheVariants.{Homeward}
use Rattle.dist_search.specs.Hops.{AreEnds, Hops, IsStarIn, hops_from, nearer, nears_of}
use Rattle.dist_search.proofs.Homeward.{homes_are, homes_close, star_home}
use Rattle.dist_search.proofs.homes.Homes.new.Goals as goal

pub new-star-requires : goal.new-star-requires
new-star-requires c =
    subst (IsStarIn c.args.problem.now Homeward) (sym c.deref.ensures.value)
    (star_home c.args.problem.now c.is_problem.ensures.part c.in_ok-weights.weights.items
    c.in_ok-weights.ensures)

pub returns-clause-homes : goal.returns-clause-homes
returns-clause-homes c =
    let p = c.args.problem.now in
    let vertices = c.args.vertices.now in
    let steps = c.home_ends.new.search.steps.items in
    let made : ℕ → List Hop → Hops = λ n hs. record { vertices = n; hops = hs } in
    let star = c.new-star.result in
    let hops = c.new-star.ensures.hops ∙ ap (λ ws. map (nearer (nears_of ws))
    (hops_from p p.part.edges)) c.deref.ensures.value in
    let is : made star.vertices star.hops ≡ made (suc (free_end p))
    (map (nearer (nears_of c.in_ok-weights.weights.items)) (hops_from p p.part.edges)) =
    ap (λ n. made n star.hops) c.new-star.ensures.vertices ∙ ap (made (suc (free_end p))) hops in
    homes_are p c.is_problem.ensures.part c.in_ok-weights.weights.items c.in_ok-weights.ensures
    steps vertices c.in_ok-ends.ends.items c.requires.low
    (c.in_ok-ends.ensures.count ∙ c.new-star.ensures.vertices)
    (subst (λ s. AreEnds s (length vertices) vertices c.in_ok-ends.ends.items steps) is
    c.in_ok-ends.ensures.ends)

pub returns-clause-close : goal.returns-clause-close
returns-clause-close c =
    homes_close c.args.problem.now c.is_problem.ensures.part c.in_ok-weights.weights.items
    c.in_ok-weights.ensures
