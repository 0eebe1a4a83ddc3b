use Rattle.std.proofs.Common.{◌<◌, ap, ◌∙◌, sym, subst}
use Rattle.window_model.specs.Decoder.{Task}
use Rattle.window_model.specs.Windows.{window_at, window_count}
use Rattle.run_report.proofs.Claimed.{has_origins}
use Rattle.run_report.proofs.Cores.{deps_few, sources_are, window_in}
use Rattle.run_report.proofs.links.claimed.Goals as goal

pub deps-requires : goal.deps-requires
deps-requires c =
    subst (λ (t : Task). c.args.window < window_count t.plan) (sym c.setting.ensures)
    (window_in c.args.core.now c.is_state.ensures c.args.ticket c.args.window c.requires)

pub returns-clause-origins : goal.returns-clause-origins
returns-clause-origins c =
    has_origins c.deps.result.now c.claim_of.result.now.origins c.claim_of.result.now.bits
    (sources_are c.args.core.now c.is_state.ensures c.args.ticket c.args.window c.requires
    c.claim_of.result.now c.deps.result.now c.claim_of.ensures.window c.claim_of.ensures.links
    (c.deps.ensures ∙ ap (λ (t : Task). (window_at t.plan c.args.window).deps) c.setting.ensures))

pub returns-clause-few : goal.returns-clause-few
returns-clause-few c =
    deps_few c.args.core.now c.is_state.ensures c.args.ticket c.args.window c.requires
    c.deps.result.now
    (c.deps.ensures ∙ ap (λ (t : Task). (window_at t.plan c.args.window).deps) c.setting.ensures)
