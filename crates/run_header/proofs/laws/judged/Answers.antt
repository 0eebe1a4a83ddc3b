use Rattle.run_header.proofs.Refused.{never_both, one_refusal}
use Rattle.run_header.proofs.laws.judged.Goals as goal

pub returns-clause-never_both : goal.returns-clause-never_both
returns-clause-never_both c = never_both

pub returns-clause-one_refusal : goal.returns-clause-one_refusal
returns-clause-one_refusal c = one_refusal
