use Rattle.std.proofs.Common.{ℕ, ◌≡◌, ◌<◌, ◌%◌, All, List, length, arith, sym, ◌∙◌, ap, subst}
use Rattle.std.specs.List.{range_with_len}
use Rattle.std.proofs.lemmas.List.FromFn.{length-range_with_len}
use Rattle.std.proofs.lemmas.Result.{IfOk-weaker}
use Rattle.graph_model.specs.Problems.{Solves}
use Rattle.matching_model.specs.Certificates.{members}
use Rattle.matching_model.specs.Matchings.{AreApart}
use Rattle.matching_model.specs.Joins.{AreJoins, IsSymmetricDifference}
use Rattle.matching_model.proofs.Pairings.{pairing_law}
use Rattle.matching_model.proofs.Rearranged.{apart_range}
use Rattle.matching_model.proofs.Solvable.{part_is_problem}
use Rattle.dist_search.specs.Tables.{dist_of}
use Rattle.pair_plain.specs.Pairings.{IsCheapest}
use Rattle.pair_plain.proofs.Pairs.{perfect_of, pairing_of, range_low, pairs_low}
use Rattle.pair_plain.proofs.least_pairing.Goals as goal

pub cheapest_pairing-requires-clause-members : goal.cheapest_pairing-requires-clause-members
cheapest_pairing-requires-clause-members c =
    let n = length c.in_ok-table.table.members in
    subst (All (λ i. i < n)) (sym (c.deref.ensures.value ∙ c.in_ok-members.ensures
    ∙ ap (range_with_len 0) c.count.ensures)) (range_low n)

pub cheapest_pairing-requires-clause-apart : goal.cheapest_pairing-requires-clause-apart
cheapest_pairing-requires-clause-apart c = subst AreApart (sym (c.deref.ensures.value
    ∙ c.in_ok-members.ensures)) (apart_range c.count.result)

pub cheapest_pairing-requires-clause-even : goal.cheapest_pairing-requires-clause-even
cheapest_pairing-requires-clause-even c = ap (λ (xs : List ℕ). length xs % 2) (c.deref.ensures.value
    ∙ c.in_ok-members.ensures) ∙ ap (λ n. n % 2) (length-range_with_len 0 c.count.result
    ∙ c.count.ensures) ∙ c.is_table.ensures.even

pub cheapest_pairing-requires-clause-few : goal.cheapest_pairing-requires-clause-few
cheapest_pairing-requires-clause-few c =
    let l = ap length (c.deref.ensures.value ∙ c.in_ok-members.ensures) in
    let n = length-range_with_len 0 c.count.result in let m = c.count.ensures in
    let few = c.is_table.ensures.few in omega (arith, l, n, m, few)

pub walks_of-requires-clause-members : goal.walks_of-requires-clause-members
walks_of-requires-clause-members c =
    let n = length c.in_ok-table.table.members in
    let everyone = c.deref.ensures.value ∙ c.in_ok-members.ensures
    ∙ ap (range_with_len 0) c.count.ensures in
    let cheapest = subst (λ left. IsCheapest (dist_of c.in_ok-table.table) left
    c.in_ok-cheapest.cheapest.pairs.items) everyone c.in_ok-cheapest.ensures.cheapest in
    let perfect = perfect_of n c.in_ok-cheapest.cheapest.pairs.items cheapest.pairing in
    subst (All (λ (pair : ℕ × ℕ). (pair.0 < n) × (pair.1 < n))) (sym c.deref-2.ensures.value)
    (pairs_low n c.in_ok-cheapest.cheapest.pairs.items perfect.within)

pub returns : goal.returns
returns c =
    let p = c.args.problem.now in
    let t = c.in_ok-table.table in
    let of = c.in_ok-table.ensures in
    let n = length t.members in
    let same : n ≡ length (members p) = ap length of.members_are in
    let everyone = c.deref.ensures.value ∙ c.in_ok-members.ensures
    ∙ ap (range_with_len 0) (c.count.ensures ∙ same) in
    let pairs : List (ℕ × ℕ) = c.in_ok-cheapest.cheapest.pairs.items in
    let cheapest = subst (λ left. IsCheapest (dist_of t) left pairs) everyone
    c.in_ok-cheapest.ensures.cheapest in
    let perfect = perfect_of (length (members p)) pairs cheapest.pairing in
    let walks : List (List ℕ) = c.in_ok-walks.walks.items in
    let joins = subst (λ (ps : List (ℕ × ℕ)). AreJoins p (dist_of t) ps walks)
    c.deref-2.ensures.value c.in_ok-walks.ensures in
    let joins' = subst (λ (ws : List (List ℕ)). AreJoins p (dist_of t) pairs ws)
    (sym c.deref-3.ensures.value) joins in
    let part = c.is_problem.ensures.part in
    IfOk-weaker c.symmetric_difference.result (IsSymmetricDifference c.deref-3.result.now)
    (Solves p)
    (λ set is. pairing_law p (part_is_problem p part) (dist_of t) of.distances pairs perfect
    (λ others other. cheapest.least others (pairing_of (length (members p)) others other))
    c.deref-3.result.now joins' set is) c.symmetric_difference.ensures
