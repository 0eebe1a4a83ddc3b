use Rattle.std.proofs.Common.{◌≡◌, ◌++◌, flat_map, take, string_bytes}
use Rattle.report_model.specs.Texts.{bit_text}
use Rattle.run_report.proofs.fields.write_bits.Given as goal

abbrev pub invariant-loop-at : goal.invariant-loop-at
invariant-loop-at l = string_bytes l.text ≡ string_bytes l.fn.text
    ++ flat_map bit_text (take l.at l.bits)
