use Rattle.std.proofs.Common.{◌<◌, length, get_or, ap, ◌∙◌, arith}
use Rattle.std.proofs.lemmas.List.{length-set}
use Rattle.window_setting.proofs.Scattered.{written_more, others_more}
use Rattle.window_setting.proofs.scattering.scatter.Goals as goal

pub loop-at-preserved : goal.loop-at-preserved
loop-at-preserved c =
    let places = c.args.places.now in
    let i = c.loop-at.at in
    let within : i < length places = omega (
      arith,
      c.loop-at-test.true,
      c.len-at-end.ensures,
      c.requires.values,
    ) in
    let low = c.requires.places i 0 within in
    record {
      len = ap length c.set.ensures ∙ length-set c.loop-at.into (get_or places i 0) c.get.result
          ∙ c.loop-at.invariant.len;
      written = written_more places c.requires.rising i within c.args.values.now
          c.loop-at.into c.set.new.self c.get.result c.set.ensures c.get.ensures (omega (
            arith,
            low,
            c.loop-at.invariant.len,
          )) c.loop-at.invariant.written;
      others = others_more places c.requires.rising i within c.args.values.now c.loop-at.into
          c.set.new.self c.get.result c.set.ensures c.args.into.now c.loop-at.invariant.others;
    }
