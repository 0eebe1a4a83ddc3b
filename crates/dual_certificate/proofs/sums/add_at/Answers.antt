use Rattle.std.proofs.Common.{◌≡◌, ℕ, ◌+◌, get_or, sym, ap, ◌∙◌, arith, length-set}
use Rattle.std.proofs.lemmas.List.{get_or_read_under}
use Rattle.dual_certificate.proofs.Crossings.{added_more}
use Rattle.dual_certificate.proofs.sums.add_at.Goals as goal

pub loop-member-preserved : goal.loop-member-preserved
loop-member-preserved c =
    let old = c.args.sums.now.items in
    let now = c.loop-member.sums.items in
    let ms = c.args.members.now in
    let k = c.loop-member.member-index in
    let i = c.loop-member.invariant in
    let low = c.requires.within k 0 c.loop-member-test.true in
    let count = i.count in
    let n = c.args.number in
    let x = c.index_mut.result.now + c.from.result in
    let read = get_or_read_under now (get_or ms k 0) _ c.index_mut.result.now 0
    c.index_mut.ensures.value low (sym count) in
    let is : x ≡ get_or now (get_or ms k 0) 0 + n = ap (λ (a : ℕ). a + c.from.result) read
    ∙ ap (λ (a : ℕ). get_or now (get_or ms k 0) 0 + a) c.from.ensures in
    record {
      count = length-set now (get_or ms k 0) x ∙ i.count;
      so_far = λ j. added_more ms old now k n c.requires.rising c.loop-member-test.true
          (omega (arith, low, count)) i.so_far x is j;
    }
