use Rattle.std.proofs.Common.{◌∙◌, sym}
use Rattle.error_map.proofs.Near.{from_first, not_true}
use Rattle.error_map.proofs.keys.begins_from.Goals as goal

pub returns : goal.returns
returns c = λ h.
    from_first c.args.keys.now c.requires.rising c.args.at c.args.key c.key_at.result
    c.key_at.ensures (sym c.is_below.ensures ∙ not_true c.is_below.result h)
