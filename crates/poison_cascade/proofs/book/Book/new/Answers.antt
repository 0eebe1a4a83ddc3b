use Rattle.std.proofs.Common.{◌≡◌, ◌<◌, arith, ap, sym, ◌∙◌, subst, length, map, take, get_or, [], AllPairs}
use Rattle.std.proofs.lemmas.List.{get_or-map, length-map, length-take}
use Rattle.poison_cascade.proofs.Windows.{opened_is}
use Rattle.poison_cascade.proofs.book.Book.new.Goals as goal

pub new-requires : goal.new-requires
new-requires c =
    let at = c.loop-list.list-index in
    let within : at < length (map (λ v. v.items) c.args.deps.now) = let all =
    length-map c.args.deps.now (λ v. v.items) in omega (arith, all, c.loop-list-test.true) in
    let same : get_or (map (λ v. v.items) c.args.deps.now) at [] ≡ c.deref.result.now =
    get_or-map (λ v. v.items) c.args.deps.now at c.list-item.result [] c.loop-list-test.true
    ∙ ap (λ v. v.items) (sym c.list-item.is) ∙ sym c.deref.ensures.value in
    subst (AllPairs (λ x y. x < y)) same (c.requires.lower at within).rising

pub invariant_of-result : goal.invariant_of-result
invariant_of-result c =
    let lists = map (λ v. v.items) (take c.loop-list.list-index c.args.deps.now) in
    let long = length-map (take c.loop-list.list-index c.args.deps.now) (λ v. v.items) in
    let front = length-take c.loop-list.list-index c.args.deps.now in
    let all = length-map c.args.deps.now (λ v. v.items) in
    opened_is lists c.loop-list.windows.items c.args.retries c.loop-list.invariant (omega (
      arith,
      long,
      front,
      all,
      c.requires.few,
    )) c.requires.bounded
