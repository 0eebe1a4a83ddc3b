use Rattle.std.proofs.Common.{◌≡◌, ◌<◌, Bor, Bool, List, Some, length, sym, ap, ◌∙◌, subst, option_map}
use Rattle.std.proofs.lemmas.Option.{none-some}
use Rattle.window_model.specs.Decoder.{Task}
use Rattle.window_model.specs.Windows.{window_at, window_count}
use Rattle.detector_graph.specs.declared.bits.Bits.{Bits}
use Rattle.core_store.specs.Tickets.{ClaimBits}
use Rattle.window_core.specs.Claims.{bits_about}
use Rattle.window_core.proofs.Comparing.{each_dep, guess_found, guess_is, guess_long, in_plan, own_taken}
use Rattle.window_core.proofs.compared.guess_of.Goals as goal

pub live_of-requires : goal.live_of-requires
live_of-requires c = in_plan _ c.is_state.ensures _ _ c.requires

pub claim_of-claim-requires : goal.claim_of-claim-requires
claim_of-claim-requires c =
    own_taken _ c.is_state.ensures _ _ c.requires _ (sym c.live_of.ensures ∙ c.in-Some.is)

pub deps-requires : goal.deps-requires
deps-requires c = subst (λ (t : Task). c.args.window < window_count t.plan)
    (sym c.setting.ensures) (in_plan _ c.is_state.ensures _ _ c.requires)

pub about-requires : goal.about-requires
about-requires c =
    ap length (c.deref.ensures.value ∙ ap (λ (a : ClaimBits). a.bits) c.claim.view_is)
    ∙ each_dep _ c.is_state.ensures _ _ c.requires _ (sym c.live_of.ensures ∙ c.in-Some.is)
    c.claim_of-claim.result.now c.claim_of-claim.ensures.window c.claim_of-claim.ensures.bits
    c.claim_of-claim.ensures.each_place
    ∙ sym (ap length (c.deps.ensures ∙ ap (λ (t : Task). (window_at t.plan c.args.window).deps)
    c.setting.ensures))

pub unreachable-requires-in_default-about : goal.unreachable-requires-in_default-about
unreachable-requires-in_default-about c =
    none-some _ (sym (ap (option_map (λ (b : Bor Bits). b.now)) c.in_default-about.is)
    ∙ c.about.ensures
    ∙ ap (λ bs. bits_about c.deps.result.now bs c.args.source)
    (c.deref.ensures.value ∙ ap (λ (a : ClaimBits). a.bits) c.claim.view_is)
    ∙ ap (λ ds. bits_about ds c.claim_of-claim.result.now.bits c.args.source) (c.deps.ensures
    ∙ ap (λ (t : Task). (window_at t.plan c.args.window).deps) c.setting.ensures)
    ∙ guess_found _ c.is_state.ensures _ _ c.requires _ (sym c.live_of.ensures ∙ c.in-Some.is)
    c.claim_of-claim.result.now c.claim_of-claim.ensures.window c.claim_of-claim.ensures.bits
    c.claim_of-claim.ensures.each_place)

-- the bits that were found, in the words of the lemmas
is_found : (c : goal.In-Some-about) →
    bits_about (window_at c.args.state.now.task.plan c.args.window).deps
    c.claim_of-claim.result.now.bits c.args.source ≡ Some c.in-Some-about.guess.now
is_found c =
    ap (λ ds. bits_about ds c.claim_of-claim.result.now.bits c.args.source)
    (sym (c.deps.ensures ∙ ap (λ (t : Task). (window_at t.plan c.args.window).deps)
    c.setting.ensures))
    ∙ ap (λ bs. bits_about c.deps.result.now bs c.args.source)
    (sym (c.deref.ensures.value ∙ ap (λ (a : ClaimBits). a.bits) c.claim.view_is))
    ∙ sym c.about.ensures ∙ ap (option_map (λ (b : Bor Bits). b.now)) c.in-Some-about.is

pub returns-clause-long : goal.returns-clause-long
returns-clause-long c =
    guess_long _ c.is_state.ensures _ _ c.requires _ (sym c.live_of.ensures ∙ c.in-Some.is)
    c.claim_of-claim.result.now c.claim_of-claim.ensures.window c.claim_of-claim.ensures.bits
    c.claim_of-claim.ensures.each_place c.in-Some-about.guess.now (is_found c)

pub returns-clause-guess : goal.returns-clause-guess
returns-clause-guess c guess flips its =
    guess_is _ c.is_state.ensures _ _ (guess, flips, its) _
    (sym c.live_of.ensures ∙ c.in-Some.is) c.claim_of-claim.result.now
    c.claim_of-claim.ensures.window c.claim_of-claim.ensures.bits
    c.claim_of-claim.ensures.each_place c.in-Some-about.guess.now (is_found c)
