use Rattle.std.proofs.Common.{◌<◌, All, length, arith, sym, ◌∙◌, ap, subst}
use Rattle.matching_model.specs.Matchings.{AreApart}
use Rattle.dist_search.specs.Tables.{dist_of}
use Rattle.pair_plain.specs.Pairings.{IsPairing}
use Rattle.pair_plain.proofs.Pairs.{cheapest_by, joined_is, fewer, some_left}
use Rattle.pair_plain.proofs.+pairings.Goals as goal

pub cheapest_pairing-returns-clause-cheapest : goal.cheapest_pairing-returns-clause-cheapest
cheapest_pairing-returns-clause-cheapest t c =
    let i = c.loop-at.invariant in
    let end = c.loop-at-test.false in
    cheapest_by (dist_of c.args.table.now) c.requires.table.turn c.args.left.now c.loop-at.best.cost
    c.loop-at.best.pairs.items (some_left c.args.left.now c.is_empty.result c.is_empty.ensures
    c.if-is_empty.false) c.requires.apart i.cost i.pairing
    (λ at some low. i.least at some (omega (arith, low, end)))

pub joined_pairing-cheapest_pairing-requires : goal.joined_pairing-cheapest_pairing-requires
joined_pairing-cheapest_pairing-requires t c =
    let left = c.args.left.now in
    let f = fewer (λ i. i < length c.args.table.now.members) left c.args.at c.requires.first
    c.requires.second c.requires.members c.requires.apart in
    let is = c.deref.ensures.value ∙ c.in_ok-others.ensures in
    let n = f.count in
    let m = ap length is in
    let d = c.decreases in
    let even = c.requires.even in
    let few = c.requires.few in (
      omega (arith, n, m, d),
      (
        c.requires.table,
        (
          subst (All (λ i. i < length c.args.table.now.members)) (sym is) f.all,
          (subst AreApart (sym is) f.apart, (omega (arith, n, m, even), omega (arith, n, m, few))),
        ),
      ),
    )

pub joined_pairing-returns-clause-pairing : goal.joined_pairing-returns-clause-pairing
joined_pairing-returns-clause-pairing t c =
    let left = c.args.left.now in
    let is = c.deref.ensures.value ∙ c.in_ok-others.ensures in
    subst (IsPairing left) (sym c.in_ok-push.ensures.items)
    (joined_is left c.args.at c.requires.first c.requires.second c.requires.apart
    c.in_ok-made.made.pairs.items (subst (λ ms. IsPairing ms c.in_ok-made.made.pairs.items) is
    c.in_ok-made.ensures.cheapest.pairing))
