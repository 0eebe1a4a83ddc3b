use Rattle.std.proofs.Common.{◌≡◌, ◌<◌, true, length, sym, ap, ◌∙◌, subst, arith}
use Rattle.window_model.specs.TurnLaws.{NoCommit, NoComparison, NoDrop}
use Rattle.poison_cascade.specs.Books.{IsLeast}
use Rattle.release_watch.specs.Watches.{is_ready}
use Rattle.core_state.specs.States.{CoreTable, IsReleaseFound, machine_of}
use Rattle.core_state.proofs.Turns.{release_found, raws_count}
use Rattle.core_state.proofs.state.CoreState.next_release.Goals as goal

pub next_release-requires-clause-each : goal.next_release-requires-clause-each
next_release-requires-clause-each c = ap length c.last_raws.ensures ∙ raws_count _ c.self.invariant

pub next_release-requires-clause-few : goal.next_release-requires-clause-few
next_release-requires-clause-few c =
    let same = ap length c.last_raws.ensures in
    let many = raws_count _ c.self.invariant in
    let each = c.self.invariant.releases.each_missing in
    let few = c.self.invariant.setting.fit.few_operations in
    omega (arith, same, many, each, few)

pub returns : goal.returns
returns c =
    subst (λ (t : CoreTable). IsReleaseFound t.task t.retries (machine_of t) c.next_release.result)
    c.self.view_is
    (release_found _ c.self.invariant c.next_release.result
    (subst (λ (t : CoreTable). NoDrop (machine_of t)) (sym c.self.view_is) c.requires.drop)
    (subst (λ (t : CoreTable). NoComparison t.task (machine_of t)) (sym c.self.view_is)
    c.requires.comparison)
    (subst (λ (t : CoreTable). NoCommit t.task (machine_of t)) (sym c.self.view_is)
    c.requires.commit)
    (subst (λ raws. IsLeast (λ op. (op < length c.self.inside.releases.missing) × (is_ready raws
    c.self.inside.arrived c.self.inside.releases op ≡ true)) c.next_release.result)
    c.last_raws.ensures c.next_release.ensures))
