use Rattle.std.proofs.Common.{◌≡◌, ◌<◌, [], refl, arith, rules, ap, ◌∙◌, length, Err}
use Rattle.std.proofs.Math.ListN.{length-replicate}
use Rattle.std.proofs.lemmas.Result.{err_from_is_err_and}
use Rattle.port_io.proofs.Traffic.{goes_nothing}
use Rattle.syndrome_source.proofs.Bits.{bit_more, no_bit}
use Rattle.syndrome_source.proofs.rows.take_bits.Goals as goal

pub returns-in_err-row-clause-refused : goal.returns-in_err-row-clause-refused
returns-in_err-row-clause-refused g c =
    let memory = err_from_is_err_and c.from_residual.result c.from_residual.ensures.1 in
    rw (memory.1, memory.2) ([], goes_nothing _ _, λ last. refl)

pub loop-at-init : goal.loop-at-init
loop-at-init g c =
    record {
      taken_so_far = goes_nothing _ _;
      size = ap length c.in_ok-row.ensures
          ∙ length-replicate _ _;
      counts = (omega arith, omega arith);
    }

pub returns-in_err-bit-clause-refused : goal.returns-in_err-bit-clause-refused
returns-in_err-bit-clause-refused g c =
    let is : c.from_residual-in_err-bit.result ≡ Err c.in_err-bit.field-0.0 = search rules in
    rw is (no_bit c.loop-at.row c.loop-at.at _ _ _ _ _ _ _ _ _ c.loop-at.invariant.size
    c.loop-at-test.true (λ same. c.in_err-bit.ensures.memory (ap Err same))
    c.loop-at.invariant.taken_so_far c.in_err-bit.ensures.refused)

pub loop-at-preserved : goal.loop-at-preserved
loop-at-preserved g c =
    let within : c.loop-at.at < length c.loop-at.row = omega arith in
    record {
      taken_so_far =
          bit_more c.loop-at.row _ c.loop-at.at c.in_ok-bit.bit _ _ _ _ _ _ within c.set.ensures
          c.loop-at.invariant.taken_so_far c.in_ok-bit.ensures.bit;
      size = search rules;
      counts = (search rules, search rules);
    }
