use Rattle.std.proofs.Common.{◌∙◌, ap, arith}
use mir.Val.{bool_byte}
use Rattle.window_model.specs.Speculation.{is_guess}
use Rattle.run_report.proofs.Claimed.{guess_more}
use Rattle.run_report.proofs.Ranges.{at_most_one, byte_is}
use Rattle.run_report.proofs.links.guesses_among.Goals as goal

pub loop-at-preserved : goal.loop-at-preserved
loop-at-preserved c =
    let one = c.from-count.ensures ∙ ap bool_byte c.is_guess.ensures
    ∙ byte_is (is_guess c.origin_at.result) in
    record {
      counted = guess_more c.args.origins.now c.loop-at.at c.origin_at.result c.loop-at.count
          c.from-count.result c.origin_at.ensures c.loop-at.invariant.counted one;
      few = omega (
        arith,
        one,
        c.loop-at.invariant.few,
        at_most_one (is_guess c.origin_at.result),
      );
    }
