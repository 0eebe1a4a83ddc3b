use Rattle.std.proofs.Common.{refl, vec_len, ◌≡◌, ◌<◌, ◌+◌, ◌-◌, sym, ◌∙◌, arith, subst, get_or, set}
use Rattle.std.proofs.lemmas.List.{get_or_read_under}
use Rattle.dist_search.specs.Hops.{IsSearch}
use Rattle.dist_search.proofs.Searching.{raised, raised_search, advanced, put_last}
use Rattle.dist_search.proofs.search.Search.relax.Goals as goal
use Rattle.dist_search.proofs.search.Search.relax.Goals.{After-self-then-index-hop-1}

more : (c : After-self-then-index-hop-1) → (c.index-left.result.now - c.args.hop.now.weight
    + c.args.hop.now.weight ≡ get_or c.args.self.now.left.items c.args.hop.now.from 0)
    × (get_or c.args.self.now.left.items c.args.hop.now.to 0 < c.index-left.result.now
    - c.args.hop.now.weight)
more c =
    let left = c.args.self.now.left in
    let from = get_or_read_under left.items c.args.hop.now.from (vec_len left)
    c.index-left.result.now 0 c.index-left.ensures c.requires.hop.from left.ok.0 in
    let to = get_or_read_under left.items c.args.hop.now.to (vec_len left) c.index.result.now 0
    c.index.ensures c.requires.hop.to left.ok.0 in
    let test = c.if-index-hop.true in
    (omega (arith, from, test), omega (arith, to, test))

pub returns-in_ok-push_back-clause-reached : goal.returns-in_ok-push_back-clause-reached
returns-in_ok-push_back-clause-reached c hops start budget has so =
    let left = c.args.self.now.left in
    let ends = c.args.self.now.ends in
    let k = more c in
    let count = c.requires.search.count_ends in
    raised (vec_len left) left.items ends.items c.args.self.now.reached.items c.args.hop.now _
    c.requires.hop c.requires.search k.0 k.1 c.args.self.now.steps.items c.push.new.self.items _
    c.len.result
    refl (get_or_read_under ends.items c.args.hop.now.from (vec_len left) c.index-before.result.now
    0 c.index-before.ensures c.requires.hop.from (sym count)) c.in_ok-push.ensures.items
    (c.len.ensures ∙ c.push.new.self.ok.0) hops start budget has so

pub returns-in_ok-push_back-clause-advances : goal.returns-in_ok-push_back-clause-advances
returns-in_ok-push_back-clause-advances c =
    let left = c.args.self.now.left in
    let k = more c in
    advanced (vec_len left) left.items c.args.self.now.ends.items c.args.self.now.reached.items
    c.args.hop.now _ c.requires.hop c.requires.search k.0 k.1 c.args.self.now.queue.items _
    (put_last _ _ _ c.in_ok-push_back.ensures.items)

pub returns-in_ok-push_back-clause-search : goal.returns-in_ok-push_back-clause-search
returns-in_ok-push_back-clause-search c =
    let left = c.args.self.now.left in
    let k = more c in
    let x = c.index-left.result.now - c.args.hop.now.weight in
    subst (IsSearch (vec_len left) (set left.items c.args.hop.now.to x)
    (set c.args.self.now.ends.items c.args.hop.now.to c.len.result))
    (sym c.in_ok-push-2.ensures.items)
    (raised_search (vec_len left) left.items c.args.self.now.ends.items
    c.args.self.now.reached.items c.args.hop.now x c.requires.hop c.requires.search k.0 k.1
    c.len.result)
