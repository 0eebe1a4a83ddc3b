use Rattle.std.proofs.Common.{◌≡◌, ◌∙◌, ℕ, List, ap, sym, cond, take, false}
use Rattle.std.specs.List.{list_any}
use Rattle.std.proofs.lemmas.List.{take_all}
use Rattle.surface_model.specs.Schedules.{MergeLine, ReadLine, Schedule}
use Rattle.surface_model.specs.Layout.{is_among}
use Rattle.slot_bits.proofs.Observed.{fewer, next_more, skipped}
use Rattle.slot_bits.proofs.observe.next_line.Goals as goal

pub loop-merge-preserved : goal.loop-merge-preserved
loop-merge-preserved c =
    let i = c.loop-merge.invariant in
    next_more (λ (x : MergeLine). x.line) c.args.from c.nearer-next.result c.loop-merge.next
    c.schedule.inside.rounds_line c.deref-merge-items.result.now c.loop-merge.merge-index
    c.merge-item.result c.loop-merge-test.true c.merge-item.is
    (c.nearer-next.ensures
    ∙ ap (λ (x : MergeLine). cond (is_among c.args.from c.loop-merge.next x.line) x.line
    c.loop-merge.next) c.merge.view_is) i.0 i.1 i.2

pub loop-read-preserved : goal.loop-read-preserved
loop-read-preserved c =
    let i = c.loop-read.invariant in
    next_more (λ (x : ReadLine). x.line) c.args.from c.nearer-next-in-loop-read.result
    c.loop-read.next c.loop-merge.next c.deref-read-items.result.now c.loop-read.read-index
    c.read-item.result c.loop-read-test.true c.read-item.is
    (c.nearer-next-in-loop-read.ensures
    ∙ ap (λ (x : ReadLine). cond (is_among c.args.from c.loop-read.next x.line) x.line
    c.loop-read.next) c.read.view_is) i.0 i.1 i.2

pub returns-clause-between : goal.returns-clause-between
returns-clause-between c =
    let s = c.args.schedule.now in let from = c.args.from in let next = c.loop-read.next in
    let first = c.loop-merge.next in
    let m = c.loop-merge.invariant in let r = c.loop-read.invariant in
    skipped s from next r.0
    (fewer (λ (x : MergeLine). x.line) from next first s.merges r.1
    (ap (λ xs. list_any (λ (x : MergeLine). is_among from first x.line) xs)
    (sym (take_all c.loop-merge.merge-index c.deref-merge-items.result.now c.loop-merge-test.false
    ∙ c.deref-merge-items.ensures.value ∙ ap (λ (x : Schedule). x.merges) c.schedule.view_is))
    ∙ m.2))
    (ap (λ xs. list_any (λ (x : ReadLine). is_among from next x.line) xs)
    (sym (take_all c.loop-read.read-index c.deref-read-items.result.now c.loop-read-test.false
    ∙ c.deref-read-items.ensures.value ∙ ap (λ (x : Schedule). x.reads) c.schedule.view_is))
    ∙ r.2)
