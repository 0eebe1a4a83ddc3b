use Rattle.std.proofs.Common.{◌++◌, ◌∷◌, [], ◌∙◌, ap}
use Rattle.slot_bits.specs.Seen.{bits_of}
use Rattle.slot_bits.proofs.Sharing.{table_more}
use Rattle.slot_bits.proofs.table.SlotBits.push.Goals as goal

pub returns : goal.returns
returns c =
    table_more (λ list. bits_of list.items) c.self.inside.lists.items c.push.new.self.items
    c.self.inside.numbers.items c.push_reserved.new.self.items c.args.bits c.len-number.result
    c.args.self.now
    c.in_ok-push.ensures.items (c.push_reserved.ensures.items
    ∙ ap (λ ns. ns ++ c.len-number.result ∷ []) c.reserve.ensures.items) (c.len-number.ensures
    ∙ c.self.inside.lists.ok.0) c.self.invariant c.self.view_is
