use Rattle.std.proofs.Common.{◌≡◌, ◌<◌, ◌+◌, ◌-◌, ℕ, suc, true, ap, ◌∙◌, subst, sym, length, arith}
use Rattle.graph_model.specs.Graph.{is_in}
use Rattle.window_plan.specs.Searches.{IsLevel}
use Rattle.window_plan.proofs.Levels.{level_step, level_done}
use Rattle.window_plan.proofs.search.reach_all.Goals as goal

pub returns-then-from-to-clause-reached : goal.returns-then-from-to-clause-reached
returns-then-from-to-clause-reached c x l =
    let g = c.args.view.now.graph in
    let homes = c.args.view.now.homes in
    let members = c.loop-level.found.members in
    let below = λ (y : ℕ) (m : is_in members y ≡ true). let k = c.members-to.ensures.below y m in
    let b = c.loop-level.invariant.bound in let r = c.requires.bound in
    let e : y < g.vertices = omega (arith, k, b, r) in e in
    let full : c.loop-level.from ≡ length members =
    c.if-from-to.true ∙ ap length c.members-to.ensures.value in
    let level : IsLevel g homes c.args.view.now.window c.loop-level.level (length members) members =
    subst (λ n. IsLevel g homes c.args.view.now.window c.loop-level.level n members) full
    c.loop-level.invariant.level in
    let rest : c.loop-level.level + (c.args.buffer - c.loop-level.level) ≡ c.args.buffer =
    omega arith in
    let done = level_done g c.is_view.ensures.graph homes c.args.view.now.window c.loop-level.level
    members level below (c.args.buffer - c.loop-level.level) in
    (subst (λ n. IsLevel g homes c.args.view.now.window n (length members) members)
    rest done).reached x l

pub loop-level-preserved : goal.loop-level-preserved
loop-level-preserved c =
    let g = c.args.view.now.graph in
    let homes = c.args.view.now.homes in
    let members = c.loop-level.found.members in
    let below = λ (y : ℕ) (m : is_in members y ≡ true). let k = c.members-to.ensures.below y m in
    let b = c.loop-level.invariant.bound in let r = c.requires.bound in
    let e : y < g.vertices = omega (arith, k, b, r) in e in
    let step = level_step g c.is_view.ensures.graph homes c.args.view.now.window c.loop-level.level
    c.loop-level.from members c.reach_level.new.found.members c.loop-level.invariant.level
    c.in_ok-reach_level.ensures.grows below in
    let next : suc c.loop-level.level ≡ c.loop-level.level + 1 = omega arith in
    let full : length members ≡ length c.members-to.result.now =
    ap length (sym c.members-to.ensures.value) in
    record {
      bound = cc;
      level = subst (λ n. IsLevel g homes c.args.view.now.window n (length c.members-to.result.now)
          c.reach_level.new.found.members) next
          (subst (λ n. IsLevel g homes c.args.view.now.window (suc c.loop-level.level) n
          c.reach_level.new.found.members) full step);
    }
