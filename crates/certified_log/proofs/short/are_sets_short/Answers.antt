use Rattle.std.proofs.Common.{ℕ, List, [], All, arith, rules, subst, ◌∙◌, SFits, w64, to_z-of_z}
use Rattle.std.specs.Prelude.{ℤ, pos}
use Rattle.std.proofs.lemmas.List.{take_all}
use Rattle.certified_lines.specs.Certified.{IsNumber}
use Rattle.certified_log.proofs.Answered.{all_more}
use Rattle.certified_log.proofs.short.are_sets_short.Goals as goal

abbrev nothing : List ℕ × ℤ
nothing = ([], pos 0)

pub loop-at-preserved : goal.loop-at-preserved
loop-at-preserved c =
    let fits : SFits w64 c.number_of.result = search rules in
    all_more (λ (s : List ℕ × ℤ). IsNumber s.1) c.args.cert.now.sets c.loop-at.at nothing
    (omega arith) c.loop-at.invariant
    (subst IsNumber (to_z-of_z fits ∙ c.number_of.ensures nothing)
    (c.is_number.ensures c.if-not-is_number.false))

pub returns : goal.returns
returns c = λ e. subst (All (λ (s : List ℕ × ℤ). IsNumber s.1))
    (take_all c.loop-at.at c.args.cert.now.sets (omega arith)) c.loop-at.invariant
