use Rattle.error_map.proofs.Keyed.{next_is_number}
use Rattle.error_map.proofs.keys.next_number.Goals as goal

pub returns : goal.returns
returns c =
    next_is_number c.args.keys.now c.requires.keys (record {
      row = c.args.key.row;
      column = c.args.key.col;
    }) c.args.key.number c.first_from-at.result c.args.end c.unwrap_or.result
    c.number_at.result
    c.first_from-at.ensures c.number_at.ensures c.unwrap_or.ensures
