use Rattle.std.proofs.Common.{sym, ◌∙◌, ap, slice_index_or, [], map}
use Rattle.schedule_reader.proofs.Typed.{typed_fails, typed_passes}
use Rattle.schedule_reader.specs.Known.{test_of}
use Rattle.schedule_reader.proofs.known.Tables.all_typed.Goals as goal

pub returns-then-not-passes : goal.returns-then-not-passes
returns-then-not-passes c =
    let test = test_of c.args.self.now c.args.check in
    let here = ap (λ k. test k (slice_index_or (map (λ f. f.now) c.args.fields.now) c.loop-at.at
    [])) (sym c.kind_at.ensures) ∙ ap (test c.kind_at.result) (sym c.field_at.ensures)
    ∙ sym c.passes.ensures ∙ c.if-not-passes.true in
    typed_fails (λ f. f.now) test c.args.kinds.now c.args.fields.now c.loop-at.at
    c.loop-at-test.true c.loop-at.invariant here

pub loop-at-preserved : goal.loop-at-preserved
loop-at-preserved c =
    let test = test_of c.args.self.now c.args.check in
    let here = ap (λ k. test k (slice_index_or (map (λ f. f.now) c.args.fields.now) c.loop-at.at
    [])) (sym c.kind_at.ensures) ∙ ap (test c.kind_at.result) (sym c.field_at.ensures)
    ∙ sym c.passes.ensures ∙ c.if-not-passes.false in
    typed_passes (λ f. f.now) test c.args.kinds.now c.args.fields.now c.loop-at.at
    c.loop-at-test.true c.loop-at.invariant here
