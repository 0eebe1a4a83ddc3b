use Rattle.std.proofs.Common.{rules, ◌≡◌, ◌+◌, ◌++◌, [], ◌∷◌, ap, ◌∙◌, sym, arith, map}
use Rattle.std.proofs.lemmas.List.{map-append}
use Rattle.surface_model.specs.Layout.{area}
use Rattle.slot_bits.proofs.Adding.{readouts_of_rise}
use Rattle.surface_model.specs.Measurements as measurements
use Rattle.patch_layout.proofs.Areas.{line, rows, rows_more}
use Rattle.slot_bits.specs.Seen.{bit_of, bits_of}
use Rattle.slot_bits.proofs.Places.{readouts_more}
use Rattle.slot_bits.proofs.pieces.readouts.Goals as goal

pub loop-col-preserved : goal.loop-col-preserved
loop-col-preserved c =
    let r = c.region.inside in
    ap bits_of c.in_ok-push.ensures.items ∙ map-append bit_of c.loop-col.bits.items (_ ∷ [])
    ∙ ap (λ zs. zs ++ measurements.Readout (record {
      row = c.loop-row.row;
      column = c.loop-col.col;
    }) ∷ []) c.loop-col.invariant
    ∙ sym (readouts_more (rows r.row c.loop-row.row r.col (r.col + r.width)) c.loop-row.row r.col
    c.loop-col.col c.loop-col.auto.col)

pub loop-row-preserved : goal.loop-row-preserved
loop-row-preserved c =
    let r = c.region.inside in
    let last : c.loop-col.col ≡ r.col + r.width = omega arith in
    c.loop-col.invariant
    ∙ ap (λ n. map measurements.Readout (rows r.row c.loop-row.row r.col (r.col + r.width)
    ++ line c.loop-row.row r.col n)) last
    ∙ sym (ap (map measurements.Readout)
    (rows_more r.row c.loop-row.row r.col (r.col + r.width) c.loop-row.auto.row))

pub returns-clause-rising : goal.returns-clause-rising
returns-clause-rising c =
    let e : bits_of c.loop-row.bits.items
    ≡ map measurements.Readout (area c.args.region.row c.args.region.column c.args.region.height
    c.args.region.width) = search rules in
    readouts_of_rise (bits_of c.loop-row.bits.items) c.args.region e
