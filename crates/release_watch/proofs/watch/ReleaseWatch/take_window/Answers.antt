use Rattle.std.proofs.Common.{◌≡◌, ℕ, List, get_or, length, refl, sym, ap, ◌∙◌, subst, arith}
use Rattle.std.specs.Vec.{with_items}
use Rattle.std.proofs.lemmas.List.{with_items_is}
use Rattle.release_laws.specs.Tables.{ReleaseTable, TakesWindow}
use Rattle.release_watch.proofs.Taking.{made, takes_window}
use Rattle.release_watch.proofs.watch.ReleaseWatch.take_window.Goals as goal

pub returns-clause-takes : goal.returns-clause-takes
returns-clause-takes c task w same is =
    let d = c.self.inside in
    let counts = c.lower.new.counts in
    let old = made d.missing.items d.bits.items d.frame in
    let each : length counts ≡ length d.missing.items = c.lower.ensures.each
    ∙ ap length c.as_mut_slice.ensures.value in
    let all = d.missing.ok.0 in
    let written : length counts ≡ d.missing.len = omega (arith, each, all) in
    subst (λ (table : ReleaseTable). TakesWindow task w c.args.kept.now table
    (made (with_items d.missing counts).items d.bits.items c.commit.new.self)) c.self.view_is
    (subst (λ (xs : List ℕ). TakesWindow task w c.args.kept.now old
    (made xs d.bits.items c.commit.new.self)) (sym (with_items_is d.missing counts written))
    (takes_window task w c.args.graph.now c.args.ops.now c.args.kept.now old
    (made counts d.bits.items c.commit.new.self) same is each
    (λ op. ap (λ xs. get_or xs op 0) (sym c.as_mut_slice.ensures.value) ∙ c.lower.ensures.fewer op)
    refl c.commit.ensures))
