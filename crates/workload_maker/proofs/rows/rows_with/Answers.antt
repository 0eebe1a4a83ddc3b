use Rattle.std.proofs.Common.{arith, length, map, ap, sym, subst, ◌∙◌}
use Rattle.std.proofs.lemmas.List.{take_all}
use Rattle.graph_model.specs.Parity.{◌⊕◌, parity}
use Rattle.error_map.specs.Changes.{changed_bits}
use Rattle.error_map.specs.Seen.{mechanism_of, mechanisms_of}
use Rattle.workload_maker.specs.Turns.{AreWithin, bit_in, is_place}
use Rattle.workload_maker.proofs.Blank.{blank_bits, blank_widths}
use Rattle.workload_maker.proofs.Rowed.{error_more, rows_are}
use Rattle.workload_maker.proofs.Within.{all_in_rows, lines_of}
use Rattle.workload_maker.proofs.rows.rows_with.Goals as goal

pub loop-error-init : goal.loop-error-init
loop-error-init c = record {
  widths = ap (map length) c.in_ok-rows.ensures ∙ blank_widths c.args.map.now.lines;
  bits = λ t k. ap (λ rs. bit_in rs t k) c.in_ok-rows.ensures
      ∙ blank_bits c.args.map.now.lines t k;
}

pub flips-requires-clause-known : goal.flips-requires-clause-known
flips-requires-clause-known c =
    c.requires.known c.loop-error.error-index _ c.loop-error-test.true

pub turn_all-requires : goal.turn_all-requires
turn_all-requires c =
    subst (AreWithin c.loop-error.rows.items)
    (sym (c.deref.ensures.value ∙ c.in_ok-places.ensures))
    (all_in_rows c.args.program.now c.args.map.now c.requires.made c.loop-error.rows.items
    c.loop-error.invariant.widths _)

pub loop-error-preserved : goal.loop-error-preserved
loop-error-preserved c = record {
  widths = c.turn_all.ensures.widths ∙ c.loop-error.invariant.widths;
  bits = error_more mechanism_of c.args.program.now c.args.errors.now c.loop-error.error-index _
      c.loop-error.rows.items c.turn_all.new.rows.items c.loop-error-test.true
      c.loop-error.invariant.bits
      (λ t k. c.turn_all.ensures.bits t k
      ∙ ap (λ ps. bit_in c.loop-error.rows.items t k ⊕ parity (is_place t k) ps)
      (c.deref.ensures.value ∙ c.in_ok-places.ensures));
}

pub returns : goal.returns
returns c =
    let s = c.args.program.now in
    let all = take_all c.loop-error.error-index c.args.errors.now
    (omega (arith, c.loop-error-test.false)) in
    rows_are s (mechanisms_of c.args.errors.now) c.loop-error.rows.items
    (c.loop-error.invariant.widths
    ∙ ap (map length) (lines_of s c.args.map.now c.requires.made))
    (λ t k. c.loop-error.invariant.bits t k
    ∙ ap (λ es. parity (λ e. parity (is_place t k) (changed_bits s e)) (mechanisms_of es)) all)
