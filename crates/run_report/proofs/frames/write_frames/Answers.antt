use Rattle.std.proofs.Common.{◌≡◌, ◌++◌, ◌∙◌, [], sym, ap, flat_map, length, string_bytes, arith}
use Rattle.std.specs.List.{range_with_len}
use Rattle.std.proofs.lemmas.List.{get_or-map, length-map}
use Rattle.report_model.specs.Texts.{frame_line}
use Rattle.window_model.specs.Decoder.{Decoder}
use Rattle.run_report.specs.Names.{printed_name, printed_names}
use Rattle.run_report.specs.Reports.{decoder_in}
use Rattle.run_report.proofs.Cores.{decoder_is}
use Rattle.run_report.proofs.Joined.{frame_more}
use Rattle.run_report.proofs.frames.write_frames.Goals as goal

pub loop-at-preserved : goal.loop-at-preserved
loop-at-preserved c s fits =
    let observables = c.args.observables.now in
    let named = ap printed_name c.index-observables-at.is ∙ sym (get_or-map printed_name observables
    c.loop-at.at c.index-observables-at.result [] c.loop-at-test.true) in
    frame_more c.args.core.now.task s (decoder_in c.args.core.now)
    (printed_names observables) c.loop-at.at (string_bytes c.args.text.now)
    (string_bytes c.loop-at.text) (string_bytes c.write_frame.new.text)
    (printed_name c.index-observables-at.result) c.raw_of-raw.result c.flip.result
    (c.loop-at.invariant s fits) named (c.raw_of-raw.ensures s fits) c.flip.ensures
    c.in_ok-write_frame.ensures

pub returns : goal.returns
returns c s fits =
    let names = printed_names c.args.observables.now in
    let all : c.loop-at.at ≡ length names = omega (
      arith,
      c.loop-at-test.false,
      c.loop-at.auto.at-end,
      length-map c.args.observables.now printed_name,
    ) in
    c.loop-at.invariant s fits
    ∙ ap (λ n. string_bytes c.args.text.now ++ flat_map (frame_line c.args.core.now.task s
    (decoder_in c.args.core.now) names) (range_with_len 0 n)) all
    ∙ ap (λ (d : Decoder). string_bytes c.args.text.now ++ flat_map (frame_line
    c.args.core.now.task s d names) (range_with_len 0 (length names)))
    (sym (decoder_is c.args.core.now c.is_state.ensures))
