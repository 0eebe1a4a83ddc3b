use Rattle.std.proofs.Common.{◌+◌, ◌*◌, ◌<◌, ◌++◌, suc, map, get_or, sym, subst, arith}
use Rattle.std.proofs.lemmas.List.{get_or_read_under}
use Rattle.std.proofs.lemmas.List.Elements.{Contains-get_or}
use Rattle.matching_model.specs.Certificates.{free_end}
use Rattle.dist_search.specs.Hops.{AreReached}
use Rattle.dist_search.specs.Tables.{AreRows, route_between, weight_between}
use Rattle.dist_search.proofs.Searching.{extends_on}
use Rattle.dist_search.proofs.Routes.{left_low, distance_found, route_found, found_low}
use Rattle.dist_search.proofs.Rows.{rows_more}
use Rattle.dist_search.proofs.homes.Rows.new.Goals as goal

pub push-requires-clause-left : goal.push-requires-clause-left
push-requires-clause-left c v l =
    let homes = c.args.homes.now in
    let new = c.run.new.self in
    let star = c.args.star.now.hops in
    let u = get_or c.args.vertices.now c.loop-vertex.vertex-index 0 in
    let low : u < suc (free_end c.args.problem.now) =
    c.requires.low c.loop-vertex.vertex-index 0 (omega arith) in
    let read = get_or_read_under homes.weights.items u (suc (free_end c.args.problem.now))
    c.index.result.now 0 c.index.ensures low (sym c.requires.homes.count) in
    left_low c.args.problem.now c.is_problem.ensures.part c.args.vertices.now homes.weights.items
    homes.ends.items c.args.search.now.steps.items new.steps.items c.requires.homes
    (extends_on c.args.search.now.steps.items c.loop-vertex.search.steps.items new.steps.items
    c.loop-vertex.invariant.steps c.in_ok-run.ensures.steps) star c.requires.hops u low
    (Contains-get_or c.args.vertices.now c.loop-vertex.vertex-index 0 (omega arith))
    new.left.items new.ends.items
    (subst (λ w. AreReached star u (2 * w) new.left.items new.ends.items new.steps.items) read
    c.in_ok-run.ensures.reached) (c.in_ok-run.ensures.relaxed tt) v

pub loop-vertex-preserved : goal.loop-vertex-preserved
loop-vertex-preserved c =
    let p = c.args.problem.now in
    let vs = c.args.vertices.now in
    let k = c.loop-vertex.vertex-index in
    let homes = c.args.homes.now in
    let weights = homes.weights.items in
    let new = c.run.new.self in
    let i = c.loop-vertex.invariant in
    let u = get_or vs k 0 in
    let part = c.is_problem.ensures.part in
    let old = c.args.search.now.steps.items in
    let more = extends_on old c.loop-vertex.search.steps.items new.steps.items i.steps
    c.in_ok-run.ensures.steps in
    let hops = c.args.star.now.hops in
    let low : u < suc (free_end p) = c.requires.low k 0 (omega arith) in
    let has = Contains-get_or vs k 0 (omega arith) in
    let read = get_or_read_under weights u (suc (free_end p)) c.index.result.now 0 c.index.ensures
    low (sym c.requires.homes.count) in
    let so = subst (λ w. AreReached hops u (2 * w) new.left.items new.ends.items new.steps.items)
    read c.in_ok-run.ensures.reached in
    let relaxed = c.in_ok-run.ensures.relaxed tt in
    record {
      rows =
          subst (λ es. AreRows p vs (k + 1) es c.push.new.self.routes.items new.steps.items)
          (sym c.in_ok-push.ensures.entries)
          (subst (λ rs. AreRows p vs (k + 1) (c.loop-vertex.rows.entries.items
          ++ map (weight_between weights new.left.items u) vs) rs new.steps.items)
          (sym c.in_ok-push.ensures.routes)
          (rows_more p vs k c.loop-vertex.rows.entries.items c.loop-vertex.rows.routes.items
          c.loop-vertex.search.steps.items new.steps.items i.rows c.in_ok-run.ensures.steps
          (omega arith)
          (weight_between weights new.left.items u) (route_between homes.ends.items new.left.items
          new.ends.items u)
          (λ j l. distance_found p part vs weights homes.ends.items old new.steps.items
          c.requires.homes more hops c.requires.hops u low has new.left.items new.ends.items so
          relaxed (get_or vs j 0) (c.requires.low j 0 l) (Contains-get_or vs j 0 l))
          (λ j l. route_found p part vs weights homes.ends.items old new.steps.items
          c.requires.homes more hops c.requires.hops u low has new.left.items new.ends.items so
          relaxed (get_or vs j 0) (c.requires.low j 0 l) (Contains-get_or vs j 0 l))
          (λ j l. found_low p part vs weights homes.ends.items old new.steps.items c.requires.homes
          more hops c.requires.hops u low has new.left.items new.ends.items so relaxed
          (get_or vs j 0) (c.requires.low j 0 l) (Contains-get_or vs j 0 l))));
      search = c.in_ok-run.ensures.search;
      steps = more;
    }
