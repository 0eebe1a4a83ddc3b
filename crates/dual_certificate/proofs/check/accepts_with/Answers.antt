use Rattle.std.proofs.Common.{◌≡◌, true, false, length}
use Rattle.std.proofs.lemmas.Result.{IfOk-weaker}
use Rattle.graph_model.specs.Problems.{Solves}
use Rattle.matching_model.specs.Certificates.{IsDual}
use Rattle.matching_model.specs.Certified.{IsCertified}
use Rattle.dist_search.specs.Tables.{dist_of}
use Rattle.dual_certificate.proofs.Fitting.{certified_by, certified_least, dual_by}
use Rattle.dual_certificate.proofs.check.accepts_with.Goals as goal
use Rattle.dual_certificate.proofs.check.accepts_with.Goals.{After-is_dual}

shown : (c : After-is_dual) → IsDual (length c.args.table.now.members) (dist_of c.args.table.now)
    c.args.cert.now → IsCertified c.args.problem.now c.args.set.now c.args.cert.now
shown c dual =
    certified_by c.args.problem.now c.args.table.now c.requires
    c.args.set.now c.args.cert.now (c.in_ok-corrects.ensures.yes c.if-not-corrects.false)
    (c.is_tight.ensures.yes c.if-not-is_tight.false) dual

pub returns-clause-least : goal.returns-clause-least
returns-clause-least c =
    IfOk-weaker c.is_dual.result (λ b. b ≡ true →
    IsDual (length c.args.table.now.members) (dist_of c.args.table.now) c.args.cert.now) (λ b. b
    ≡ true → Solves c.args.problem.now c.args.set.now)
    (λ b yes_ h. certified_least c.args.problem.now c.is_problem.ensures.part c.args.set.now
    c.args.cert.now (shown c (yes_ h))) c.is_dual.ensures.yes

pub returns-clause-fits : goal.returns-clause-fits
returns-clause-fits c =
    IfOk-weaker c.is_dual.result (λ b. b ≡ true →
    IsDual (length c.args.table.now.members) (dist_of c.args.table.now) c.args.cert.now) (λ b. b
    ≡ true → IsCertified c.args.problem.now c.args.set.now c.args.cert.now)
    (λ b yes_ h. shown c (yes_ h)) c.is_dual.ensures.yes

pub returns-clause-fails : goal.returns-clause-fails
returns-clause-fails c =
    IfOk-weaker c.is_dual.result (λ b. b ≡ false →
    IsDual (length c.args.table.now.members) (dist_of c.args.table.now) c.args.cert.now →
    ⊥) (λ b. b ≡ false → IsCertified c.args.problem.now c.args.set.now c.args.cert.now → ⊥)
    (λ b no_ h fits_. no_ h (dual_by c.args.problem.now c.args.table.now c.requires c.args.set.now
    c.args.cert.now fits_)) c.is_dual.ensures.no
