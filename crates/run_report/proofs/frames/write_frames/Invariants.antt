use Rattle.std.proofs.Common.{◌≡◌, ◌++◌, flat_map, string_bytes}
use Rattle.std.specs.List.{range_with_len}
use Rattle.report_model.specs.Texts.{frame_line}
use Rattle.window_model.specs.Decoder.{Syndrome}
use Rattle.run_report.specs.Names.{printed_names}
use Rattle.run_report.specs.Reports.{FitsCore, decoder_in}
use Rattle.run_report.proofs.frames.write_frames.Given as goal

abbrev pub invariant-loop-at : goal.invariant-loop-at
invariant-loop-at l =
    (s : Syndrome) → FitsCore l.core s → string_bytes l.text ≡ string_bytes l.fn.text
    ++ flat_map (frame_line l.core.task s (decoder_in l.core) (printed_names l.observables))
    (range_with_len 0 l.at)
