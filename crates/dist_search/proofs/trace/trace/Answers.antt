use Rattle.std.proofs.Common.{ℕ, ◌<◌, ◌++◌, ◌-◌, List, arith, sym, subst, get_or}
use Rattle.std.proofs.lemmas.List.{get_or_default}
use Rattle.dist_search.specs.declared.search.Step.{Step}
use Rattle.dist_search.proofs.Ways.{Traced, Back, back, low_back, traced_all}
use Rattle.dist_search.proofs.trace.trace.Goals as goal

blank : Step
blank = record { edge = 0; before = 0 }

read_back : (steps : List Step) (whole : List ℕ) (at : ℕ) (edges : List ℕ) →
    Traced steps whole at edges → 0 < at → Back steps whole at edges (get_or steps (at - 1) blank)
read_back steps whole at edges so some = back steps whole at edges so some _
    (get_or_default steps (at - 1) blank _ (low_back steps whole at edges so some))

pub loop-at-smaller : goal.loop-at-smaller
unfolding blank
loop-at-smaller c = (read_back c.args.steps.now _ c.loop-at.at c.loop-at.edges.items
    (c.loop-at.invariant c.requires.0 c.requires.1) (omega arith)).before

pub loop-at-preserved : goal.loop-at-preserved
unfolding blank
loop-at-preserved c whole way =
    subst (Traced c.args.steps.now (c.args.edges.now.items ++ whole)
    (get_or c.args.steps.now (c.loop-at.at - 1) blank).before) (sym c.in_ok-push.ensures.items)
    (read_back c.args.steps.now (c.args.edges.now.items ++ whole) c.loop-at.at c.loop-at.edges.items
    (c.loop-at.invariant whole way) (omega arith)).traced

pub returns : goal.returns
returns c way is = traced_all c.args.steps.now _ c.loop-at.at c.loop-at.edges.items (omega arith)
    (c.loop-at.invariant way is)
