use Rattle.std.proofs.Common.{ap, sym, ◌∙◌, Some}
use Rattle.std.specs.Prelude.{option_map}
use Rattle.surface_model.specs.declared.RuleFault.TheVariants.{TileTaken}
use Rattle.schedule_rules.specs.Least.{reported}
use Rattle.schedule_rules.proofs.Broken.{rule_found, rule_passed}
use Rattle.schedule_rules.proofs.rules.first_broken.Goals as goal

pub returns-in-Some : goal.returns-in-Some
returns-in-Some c =
    ap (λ k. Some (record { line = c.in-Some.line; kind = k })) c.kind_of.ensures
    ∙ sym (ap (option_map reported) (rule_found c.args.schedule.now c.args.rules.now
    c.loop-rule.rule-index TileTaken c.in-Some.line c.loop-rule-test.true c.loop-rule.invariant
    (sym c.least_breaking.ensures ∙ c.in-Some.is)))

pub loop-rule-preserved : goal.loop-rule-preserved
loop-rule-preserved c =
    rule_passed c.args.schedule.now c.args.rules.now c.loop-rule.rule-index TileTaken
    c.loop-rule-test.true c.loop-rule.invariant (sym c.least_breaking.ensures ∙ c.in_default.is)
