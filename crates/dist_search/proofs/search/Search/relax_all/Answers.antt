use Rattle.std.proofs.Common.{◌≡◌, ◌<◌, ◌≤◌, ◌+◌, Contains, length, vec_len, get_or, sym, ◌∙◌, ap, arith, subst}
use Rattle.std.proofs.lemmas.List.{get_or-map}
use Rattle.std.proofs.lemmas.List.Elements.{Contains-get_or}
use Rattle.dist_search.specs.declared.star.Hop.{Hop}
use Rattle.detector_graph.specs.Rows.{group_of}
use Rattle.dist_search.specs.Hops.{Advances, IsSearch, hop_at, starts_of}
use Rattle.dist_search.proofs.Searching.{advances_on, extends_on, relaxed_by_all, relaxed_more}
use Rattle.dist_search.proofs.Stars.{blank, group_leaves, more, more_has, more_long}
use Rattle.dist_search.proofs.search.Search.relax_all.Goals as goal

pub hop-hop-requires : goal.hop-hop-requires
hop-hop-requires c =
    let hops = c.args.star.now.hops in
    let group = group_of (starts_of hops) c.args.vertex in
    let i = c.loop-number.number-index in
    let low : i < length group = omega (
      arith,
      c.loop-number-test.true,
      ap length c.leaving-number-items.ensures,
    ) in
    subst (λ ns. get_or ns i 0 < length hops) (sym c.leaving-number-items.ensures)
    (group_leaves hops c.args.vertex i 0 low).0

pub loop-number-preserved : goal.loop-number-preserved
loop-number-preserved c =
    let hops = c.args.star.now.hops in
    let v = c.args.vertex in
    let group = group_of (starts_of hops) v in
    let old = c.loop-number.self in
    let new = c.relax.new.self in
    let hop = c.hop-hop.result in
    let n = vec_len c.args.self.now.left in
    let inv = c.loop-number.invariant in
    let i = c.loop-number.number-index in
    let low : i < length group = omega (
      arith,
      c.loop-number-test.true,
      ap length c.leaving-number-items.ensures,
    ) in
    let leaves = group_leaves hops v i 0 low in
    let is : hop ≡ hop_at hops (get_or group i 0) = c.hop-hop.ensures
    ∙ ap (λ ns. hop_at hops (get_or ns i 0)) c.leaving-number-items.ensures in
    let at : get_or (more hops v) i blank ≡ hop = get_or-map (hop_at hops) group i 0 blank low
    ∙ sym is in
    let has : Contains hops hop = subst (Contains hops) (sym is)
    (Contains-get_or hops (get_or group i 0) blank leaves.0) in
    let from : hop.from ≡ v = ap (λ (h : Hop). h.from) is ∙ leaves.1 in
    let len = old.left.ok.0 ∙ inv.search.count in
    let kept = sym (ap (λ u. get_or new.left.items u 0) from) ∙ c.in_ok-relax.ensures.kept
    ∙ ap (λ u. get_or old.left.items u 0) from in
    let step = subst (λ m. Advances m old.left.items old.queue.items new.left.items new.queue.items)
    len c.in_ok-relax.ensures.advances in
    record {
      reached = λ start budget so. c.in_ok-relax.ensures.reached hops start budget has
          (inv.reached start budget so);
      advances = advances_on n c.args.self.now.left.items old.left.items new.left.items
          c.args.self.now.queue.items old.queue.items new.queue.items inv.advances step;
      kept = kept ∙ inv.kept;
      relaxed = relaxed_more (more hops v) i blank old.left.items new.left.items v
          (omega (arith, low, more_long hops v)) inv.relaxed step.rises kept
          (subst (λ (h : Hop). get_or new.left.items v 0 ≤ get_or new.left.items h.to 0 + h.weight)
          (sym at)
          (let r = c.in_ok-relax.ensures.relaxed in let e =
          ap (λ u. get_or new.left.items u 0) from in omega (arith, r, e)));
      search = subst (λ m. IsSearch m new.left.items new.ends.items new.reached.items) len
          c.in_ok-relax.ensures.search;
      steps = extends_on c.args.self.now.steps.items old.steps.items new.steps.items inv.steps
          c.in_ok-relax.ensures.steps;
    }

pub returns-clause-relaxed : goal.returns-clause-relaxed
returns-clause-relaxed c =
    let hops = c.args.star.now.hops in
    let v = c.args.vertex in
    let all = ap length c.leaving-number-items.ensures in
    let i = c.loop-number.number-index in
    let end_ : length c.leaving-number-items.result.now ≤ i =
    omega (arith, c.loop-number-test.false) in
    relaxed_by_all hops (more hops v) c.loop-number.self.left.items v (more_has hops v)
    (λ k d l. c.loop-number.invariant.relaxed k d (omega (arith, l, more_long hops v, all, end_)))
