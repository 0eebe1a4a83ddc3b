use Rattle.std.proofs.Common.{vec_len, sym, ◌∙◌}
use Rattle.dist_search.proofs.Searching.{begun_reached, begun_pending, begun_queued, put_last}
use Rattle.dist_search.proofs.search.Search.begin.Goals as goal

pub returns-clause-reached : goal.returns-clause-reached
returns-clause-reached c hops =
    let new = c.forget.new.left in
    begun_reached (vec_len c.args.self.now.left) c.args.start c.args.budget
    new.items c.args.self.now.ends.items c.requires.start c.forget.ensures.nothing (sym new.ok.0
    ∙ c.forget.ensures.count) c.requires.search.count_ends hops
    c.args.self.now.steps.items

pub returns-clause-pending : goal.returns-clause-pending
returns-clause-pending c hops =
    let new = c.forget.new.left in
    begun_pending (vec_len c.args.self.now.left) c.args.start c.args.budget
    new.items c.args.self.now.ends.items c.requires.start c.forget.ensures.nothing (sym new.ok.0
    ∙ c.forget.ensures.count) c.requires.search.count_ends hops
    c.clear-2.new.self.items c.push_back.new.self.items
    (put_last _ _ _ c.in_ok-push_back.ensures.items)

pub returns-clause-queued : goal.returns-clause-queued
returns-clause-queued c =
    begun_queued (vec_len c.args.self.now.left) c.args.start c.args.budget
    c.clear-2.new.self.items c.push_back.new.self.items c.requires.start c.clear-2.ensures.items
    (put_last _ _ _ c.in_ok-push_back.ensures.items)
