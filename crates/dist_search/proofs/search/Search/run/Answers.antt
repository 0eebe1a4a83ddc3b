use Rattle.std.proofs.Common.{◌<◌, sym, ◌∙◌, ap, subst, All, arith}
use Rattle.std.proofs.lemmas.List.Elements.{All-tail}
use Rattle.std.proofs.lemmas.List.Sorted.{All-permutation, length_permutation}
use Rattle.dist_search.specs.declared.search.Queued.{Queued}
use Rattle.dist_search.specs.Hops.{Advances, Extends, IsSearch}
use Rattle.dist_search.proofs.Searching.{extends_none, extends_on, spent, settled, all_relaxed, sum_low, taken_first}
use Rattle.dist_search.proofs.search.Search.run.Goals as goal

pub loop-queued-init : goal.loop-queued-init
loop-queued-init c =
    let new = c.begin.new.self in
    let old = c.args.self.now in
    let len = old.left.ok.0 ∙ c.requires.search.count in
    let hops = c.args.star.now.hops in
    record {
      reached = c.in_ok-begin.ensures.reached hops;
      pending = c.in_ok-begin.ensures.pending hops;
      queued = subst (λ m. All (λ (q : Queued). q.vertex < m) new.queue.items) len
          c.in_ok-begin.ensures.queued;
      search = subst (λ m. IsSearch m new.left.items new.ends.items new.reached.items) len
          c.in_ok-begin.ensures.search;
      steps = subst (λ ss. Extends old.steps.items ss)
          (ap (λ v. v.items) (sym c.in_ok-begin.ensures.steps)) (extends_none old.steps.items);
    }

pub loop-queued-smaller-in-Continue-branch-2 : goal.loop-queued-smaller-in-Continue-branch-2
loop-queued-smaller-in-Continue-branch-2 c =
    let new = c.relax_all.new.self in
    let len = c.loop-queued.self.left.ok.0 ∙ c.loop-queued.invariant.search.count in
    let work = c.in_ok-relax_all.ensures.advances.work in
    let low = sum_low c.args.star.now.vertices new.left.items new.ends.items new.reached.items
    (subst (λ m. IsSearch m new.left.items new.ends.items new.reached.items) len
    c.in_ok-relax_all.ensures.search) in
    let popped = length_permutation c.loop-queued.self.queue.items _
    (taken_first _ _ _ c.in-Some.ensures.items) in
    omega (arith, work, low, popped)

pub returns-clause-relaxed : goal.returns-clause-relaxed
returns-clause-relaxed c none = all_relaxed c.args.star.now.hops c.loop-queued.self.left.items
    c.loop-queued.self.queue.items (sym c.loop-queued.self.queue.ok.0
    ∙ c.in_default.ensures.cases.0) c.loop-queued.invariant.pending

pub loop-queued-preserved-in-Continue-branch-2 : goal.loop-queued-preserved-in-Continue-branch-2
loop-queued-preserved-in-Continue-branch-2 c =
    let old = c.loop-queued.self in
    let new = c.relax_all.new.self in
    let i = c.loop-queued.invariant in
    let n = c.args.star.now.vertices in
    let len = old.left.ok.0 ∙ i.search.count in
    let hops = c.args.star.now.hops in
    let moved = (taken_first _ _ _ c.in-Some.ensures.items) in
    let moves = subst (λ m. Advances m old.left.items c.pop_front.new.self.items new.left.items
    new.queue.items) len c.in_ok-relax_all.ensures.advances in
    record {
      reached = c.in_ok-relax_all.ensures.reached c.args.start c.args.budget i.reached;
      pending = settled hops old.left.items old.queue.items c.pop_front.new.self.items
          c.in-Some.queued moved i.pending n new.left.items new.queue.items moves
          c.in_ok-relax_all.ensures.relaxed;
      queued = moves.queued
          (All-tail (λ (q : Queued). q.vertex < n) c.in-Some.queued c.pop_front.new.self.items
          (All-permutation (λ (q : Queued). q.vertex < n) old.queue.items _ moved i.queued));
      search = subst (λ m. IsSearch m new.left.items new.ends.items new.reached.items) len
          c.in_ok-relax_all.ensures.search;
      steps = extends_on c.args.self.now.steps.items old.steps.items new.steps.items i.steps
          c.in_ok-relax_all.ensures.steps;
    }

pub loop-queued-preserved : goal.loop-queued-preserved
loop-queued-preserved c =
    let old = c.loop-queued.self in
    let i = c.loop-queued.invariant in
    let moved = (taken_first _ _ _ c.in-Some.ensures.items) in
    let n = c.args.star.now.vertices in
    let first = All-permutation (λ (q : Queued). q.vertex < n) old.queue.items _ moved i.queued in
    record {
      reached = i.reached;
      pending = spent c.args.star.now.hops old.left.items old.queue.items c.pop_front.new.self.items
          c.in-Some.queued moved i.pending (c.is_due.ensures c.if-is_due.false);
      queued = All-tail (λ (q : Queued). q.vertex < n) c.in-Some.queued c.pop_front.new.self.items
          first;
      search = i.search;
      steps = i.steps;
    }
