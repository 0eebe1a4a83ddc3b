use Rattle.std.proofs.Common.{◌≡◌, ℕ, ◌*◌, List, length, get_or, sym, ap, ◌∙◌, arith, subst}
use Rattle.std.specs.Prelude.{ℤ, pos, ◌+ℤ◌, ◌≤ℤ◌, ◌<ℤ◌}
use Rattle.std.proofs.lemmas.Int.{ints}
use Rattle.std.proofs.lemmas.List.{get_or_read_under}
use Rattle.matching_model.specs.Certificates.{Certificate, pair_sum}
use Rattle.dual_certificate.proofs.Crossings.{pair_is}
use Rattle.dual_certificate.proofs.duals.are_near.Goals as goal
use Rattle.dual_certificate.proofs.duals.are_near.Goals.{After-is_cheap}

sum_is : (c : After-is_cheap) → pair_sum c.args.cert.now c.args.pair.0 c.args.pair.1
    ≡ (c.index-one.result.now +ℤ c.index-two.result.now) +ℤ pos c.crossing_of-between.result
sum_is c =
    let t = c.args.cert.now in
    let n = length c.args.holding.now in
    let vs = ap (λ (s : Certificate). s.vertex) c.cert.view_is in
    let r1 = c.index-one.result.now in
    let r2 = c.index-two.result.now in
    let one = get_or_read_under t.vertex c.args.pair.0 n r1 (pos 0) (c.index-one.ensures ∙ ap
    (λ (xs : List ℤ). get_or xs c.args.pair.0 r1) vs) c.requires.first (sym c.requires.count) in
    let two = get_or_read_under t.vertex c.args.pair.1 n r2 (pos 0) (c.index-two.ensures
    ∙ ap (λ (xs : List ℤ). get_or xs c.args.pair.1 r2) vs) c.requires.second
    (sym c.requires.count) in
    pair_is n t c.requires.sets c.args.pair.0 c.args.pair.1 r1 r2 one two
    ∙ ap (λ (b : ℕ). (r1 +ℤ r2) +ℤ pos b) (sym c.crossing_of-between.ensures.value)

pub returns-clause-yes : goal.returns-clause-yes
returns-clause-yes c h =
    let k = c.is_cheap.ensures.yes h in
    let sum : ((c.index-one.result.now +ℤ c.index-two.result.now) +ℤ pos
    c.crossing_of-between.result) ≤ℤ pos (2 * c.args.dist) = omega (arith, ints, k) in
    subst (λ (z : ℤ). z ≤ℤ pos (2 * c.args.dist)) (sym (sum_is c)) sum

pub returns-clause-no : goal.returns-clause-no
returns-clause-no c h =
    let k = c.is_cheap.ensures.no h in
    let sum : pos (2 * c.args.dist) <ℤ ((c.index-one.result.now +ℤ c.index-two.result.now) +ℤ pos
    c.crossing_of-between.result) = omega (arith, ints, k) in
    subst (λ (z : ℤ). pos (2 * c.args.dist) <ℤ z) (sym (sum_is c)) sum
