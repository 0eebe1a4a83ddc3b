use Rattle.std.proofs.Common.{◌≡◌, false, Err, map, ◌∙◌, refl, arith, rules}
use Rattle.port_io.proofs.Traffic.{goes_nothing}
use Rattle.surface_model.specs.Schedules.{CondLine}
use Rattle.decode_rounds.proofs.Releasing.{line_more, partly_more}
use Rattle.decode_rounds.proofs.releases.put_releases.Goals as goal

pub loop-operation-init : goal.loop-operation-init
loop-operation-init g c = record {
  put = goes_nothing _ _;
  left = refl;
  counts = (omega arith, omega arith);
}

pub put_one-requires : goal.put_one-requires
put_one-requires g c = c.requires c.loop-operation.operation-index (0, false)
    c.loop-operation-test.true

pub returns-in_err-put_one-clause-partly : goal.returns-in_err-put_one-clause-partly
returns-in_err-put_one-clause-partly g c =
    let is : c.from_residual.result ≡ Err c.in_err-put_one.field-0.0 = search rules in
    rw is (partly_more (map (λ (line : CondLine). line.label) c.args.conds.now)
    c.args.releases.now c.loop-operation.operation-index (0, false) c.in_err-put_one.field-0.0 _ _ _
    _ _ _ c.loop-operation-test.true c.loop-operation.invariant.put c.in_err-put_one.ensures.cut)

pub loop-operation-preserved : goal.loop-operation-preserved
loop-operation-preserved g c = record {
  put = line_more (map (λ (line : CondLine). line.label) c.args.conds.now) c.args.releases.now
      c.loop-operation.operation-index (0, false) _ _ _ _ _ _ c.loop-operation-test.true
      c.loop-operation.invariant.put c.in_ok-put_one.ensures.put;
  left = c.in_ok-put_one.ensures.left ∙ c.loop-operation.invariant.left;
  counts = (
    let k = c.in_ok-put_one.ensures.counts.0 in
        let l = c.loop-operation.invariant.counts.0 in omega (arith, k, l),
    let k = c.in_ok-put_one.ensures.counts.1 in let l = c.loop-operation.invariant.counts.1 in
        omega (arith, k, l),
  );
}
