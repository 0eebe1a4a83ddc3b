use Rattle.std.proofs.Common.{ℕ, ◌<◌, ◌+◌, ◌++◌, [], ◌∷◌, List, take, length, arith, sym, subst}
use Rattle.std.proofs.lemmas.List.{take_more}
use Rattle.matching_model.specs.Joins.{AreJoins}
use Rattle.dist_search.specs.Tables.{dist_of}
use Rattle.pair_plain.proofs.Sets.{joins_push}
use Rattle.pair_plain.proofs.walks_of.Goals as goal

pub loop-first-preserved : goal.loop-first-preserved
loop-first-preserved c =
    let p = c.args.problem.now in
    let dist = dist_of c.args.table.now in
    let i = c.loop-first.first-index in
    let pairs : List (ℕ × ℕ) = c.args.pairs.now in
    let walks : List (List ℕ) = c.loop-first.walks.items in
    let walk : List ℕ = c.in_ok-walk.field-0 in
    let low : i < length pairs = omega arith in
    subst (λ (ws : List (List ℕ)). AreJoins p dist (take (i + 1) pairs) ws)
    (sym c.in_ok-push.ensures.items)
    (subst (λ (ps : List (ℕ × ℕ)). AreJoins p dist ps (walks ++ walk ∷ []))
    (sym (take_more pairs i (0, 0) low))
    (joins_push p dist (take i pairs) walks _ walk c.loop-first.invariant
    c.in_ok-walk.ensures.join))
