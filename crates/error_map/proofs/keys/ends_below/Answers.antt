use Rattle.std.proofs.Common.{◌∙◌, arith, sym}
use Rattle.error_map.proofs.Near.{before_last}
use Rattle.error_map.proofs.keys.ends_below.Goals as goal

pub returns : goal.returns
returns c = λ h.
    before_last c.args.keys.now c.requires.rising c.args.at c.args.key c.key_at.result
    (omega (arith, c.if-at-eq0.false)) c.key_at.ensures (sym c.is_below.ensures ∙ h)
