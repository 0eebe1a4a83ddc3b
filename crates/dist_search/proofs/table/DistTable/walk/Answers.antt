use Rattle.std.proofs.Common.{ℕ, ◌≡◌, ◌<◌, ◌++◌, List, length, sum_by, sym, ◌∙◌, ap, subst, arith}
use Rattle.std.proofs.lemmas.Result.{IfOk-weaker}
use Rattle.graph_model.specs.Problems.{problem_weight}
use Rattle.matching_model.specs.Certificates.{free_end, members, member_at}
use Rattle.matching_model.specs.Joins.{IsJoin}
use Rattle.matching_model.proofs.JoinWeights.{join_weighs}
use Rattle.matching_model.proofs.Solvable.{part_is_problem}
use Rattle.dist_search.specs.Hops.{Way}
use Rattle.dist_search.specs.Tables.{IsOdd, IsRoute, dist_of}
use Rattle.dist_search.proofs.Routes.{joined}
use Rattle.dist_search.proofs.Rows.{members_low}
use Rattle.dist_search.proofs.table.DistTable.walk.Goals as goal

pub returns-clause-join : goal.returns-clause-join
returns-clause-join c =
    let p = c.args.problem.now in
    let t = c.args.self.now in
    let i = c.args.i in
    let j = c.args.j in
    let d = dist_of t i j in
    let steps = c.deref.result.now in
    let route =
    subst (λ r. IsRoute p t.steps (member_at p i) (member_at p j) d r) (sym c.route.ensures)
    (c.requires.table.walks i j c.route.result c.requires.first c.requires.second) in
    let here = subst (λ ss. IsRoute p ss (member_at p i) (member_at p j) d c.route.result)
    (sym (c.deref.ensures.value ∙ ap (λ s. s.steps) c.self.view_is)) route in
    IfOk-weaker c.edges_on.result (λ set. (one two : List ℕ) → Way steps c.route.result.first one →
    Way steps c.route.result.second two → IsOdd (one ++ two) set) (IsJoin p i j d)
    (λ set so. joined p c.is_problem.ensures.part steps i j d c.route.result here set so)
    c.edges_on.ensures

pub returns-clause-weight : goal.returns-clause-weight
returns-clause-weight c =
    let p = c.args.problem.now in
    let t = c.args.self.now in
    let i = c.args.i in
    let j = c.args.j in
    let d = dist_of t i j in
    let steps = c.deref.result.now in
    let low : i < length (members p) =
    subst (λ ms. i < length ms) c.requires.table.members_are c.requires.first in
    let low' : j < length (members p) =
    subst (λ ms. j < length ms) c.requires.table.members_are c.requires.second in
    let route =
    subst (λ r. IsRoute p t.steps (member_at p i) (member_at p j) d r) (sym c.route.ensures)
    (c.requires.table.walks i j c.route.result c.requires.first c.requires.second) in
    let here = subst (λ ss. IsRoute p ss (member_at p i) (member_at p j) d c.route.result)
    (sym (c.deref.ensures.value ∙ ap (λ s. s.steps) c.self.view_is)) route in
    let part = c.is_problem.ensures.part in
    let start = members_low p i (free_end p) low in
    let end = members_low p j (free_end p) low' in
    IfOk-weaker c.edges_on.result (λ set. (one two : List ℕ) → Way steps c.route.result.first one →
    Way steps c.route.result.second two → IsOdd (one ++ two) set) (λ set.
    sum_by (problem_weight p) set ≡ d)
    (λ set so. join_weighs p (part_is_problem p part) i j d set
    (joined p part steps i j d c.route.result here set so) (omega (arith, start)) (omega (
      arith,
      end,
    )) (c.requires.table.distances i j low low')) c.edges_on.ensures
