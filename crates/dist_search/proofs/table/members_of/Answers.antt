use Rattle.std.proofs.Common.{◌≡◌, ◌++◌, ◌∷◌, [], sym, ◌∙◌, ap, arith, List, ℕ}
use Rattle.matching_model.specs.Certificates.{free_end}
use Rattle.dist_search.proofs.Rows.{defects_yes, defects_no, parity_yes, parity_no, members_odd, members_even}
use Rattle.dist_search.proofs.table.members_of.Goals as goal
use Rattle.dist_search.proofs.table.members_of.Goals.{then-is_defect+in_ok-push, else-is_defect, then-odd+in_ok-push-2, else-odd}

pub loop-place-preserved : goal.loop-place-preserved
loop-place-preserved c =
    let p = c.args.problem.now in
    let place = c.loop-place.place in
    let odd = c.loop-place.odd in
    let i = c.loop-place.invariant in
    elim c.if-is_defect.branch [
      | then-is_defect+in_ok-push w ↦
          let h = sym c.is_defect.ensures ∙ w.if-is_defect.true in (
            ap (λ v. v.items) w.members-is ∙ w.in_ok-push.ensures.items
                ∙ ap (λ (xs : List ℕ). xs ++ place ∷ []) i.0 ∙ sym (defects_yes p place h),
            w.odd-is
                ∙ parity_yes p place odd i.1 h,
          )
      | else-is_defect w ↦
          let h = sym c.is_defect.ensures ∙ w.if-is_defect.false in (
            ap (λ v. v.items) w.members-is ∙ i.0 ∙ sym (defects_no p place h),
            w.odd-is
                ∙ parity_no p place odd i.1 h,
          )
    ]

pub returns : goal.returns
returns c =
    let p = c.args.problem.now in
    let i = c.loop-place.invariant in
    let n = c.place_count-places.ensures.count in
    let end : c.loop-place.place ≡ free_end p = omega (arith, n) in
    elim c.if-odd.branch [
      | then-odd+in_ok-push-2 w ↦ members_odd p c.loop-place.place c.loop-place.members.items
          c.if-odd.members.items c.loop-place.odd end i.0 i.1 w.if-odd.true
          (ap (λ v. v.items) w.members-is ∙ w.in_ok-push-2.ensures.items
          ∙ ap (λ (m : ℕ). c.loop-place.members.items ++ m ∷ []) n)
      | else-odd w ↦ members_even p c.loop-place.place c.loop-place.members.items
          c.if-odd.members.items c.loop-place.odd end i.0 i.1 w.if-odd.false
          (ap (λ v. v.items) w.members-is)
    ]
