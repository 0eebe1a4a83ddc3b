use Rattle.std.proofs.Common.{length, ap, ◌∙◌, arith}
use Rattle.window_model.specs.Decoder.{Task}
use Rattle.window_table.proofs.reader.Reader.are_told.Goals as goal

pub told_of-requires : goal.told_of-requires
told_of-requires g c =
    let told = c.is_reader.ensures in
    let end = c.operation_count-op-end.ensures ∙ ap (λ (t : Task). length t.operations) c.requires
    in
    let below = c.loop-op-test.true in
    omega (arith, told, end, below)
