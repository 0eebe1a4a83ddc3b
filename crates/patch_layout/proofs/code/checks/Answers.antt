use Rattle.std.proofs.Common.{◌≡◌, ◌+◌, ◌++◌, [], ◌∷◌, ap, ◌∙◌, sym, arith, filter}
use Rattle.surface_model.specs.Layout.{is_check}
use Rattle.patch_layout.proofs.Areas.{line, rows, passed, failed, rows_more}
use Rattle.patch_layout.proofs.code.checks.Goals as goal
use Rattle.patch_layout.proofs.code.checks.Goals.{then-is_check+in_ok-push, else-is_check}

pub loop-col-preserved : goal.loop-col-preserved
loop-col-preserved c =
    let r = c.region.inside in
    let before = rows r.row c.loop-row.row r.col (r.col + r.width + 1) in
    elim c.if-is_check.branch [
      | then-is_check+in_ok-push w ↦
          ap (λ v. v.items) w.corners-is ∙ w.in_ok-push.ensures.items ∙ ap (λ zs. zs
          ++ record { row = c.loop-row.row; column = c.loop-col.col } ∷ []) c.loop-col.invariant
          ∙ sym (passed (is_check c.args.region) before c.loop-row.row r.col c.loop-col.col
          c.loop-col.auto.col (sym c.is_check.ensures ∙ w.if-is_check.true))
      | else-is_check w ↦
          ap (λ v. v.items) w.corners-is ∙ c.loop-col.invariant
          ∙ sym (failed (is_check c.args.region) before c.loop-row.row r.col c.loop-col.col
          c.loop-col.auto.col (sym c.is_check.ensures ∙ w.if-is_check.false))
    ]

pub loop-row-preserved : goal.loop-row-preserved
loop-row-preserved c =
    let r = c.region.inside in
    let last : c.loop-col.col ≡ r.col + r.width + 1 = omega arith in
    c.loop-col.invariant
    ∙ ap (λ n. filter (is_check c.args.region) (rows r.row c.loop-row.row r.col (r.col + r.width
    + 1) ++ line c.loop-row.row r.col n)) last
    ∙ sym (ap (filter (is_check c.args.region)) (rows_more r.row c.loop-row.row r.col (r.col
    + r.width + 1) c.loop-row.auto.row))
