use Rattle.slot_decoder.proofs.turns.answer.Goals as goal

pub hold-requires : goal.hold-requires
hold-requires g c = c.requires c.in-Ok.decoded c.in-Ok.ensures.problem
