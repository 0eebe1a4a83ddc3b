use Rattle.std.proofs.Common.{◌≡◌, ◌<◌, ℕ, List, length, true, false, sym, ◌∙◌, subst}
use Rattle.graph_model.specs.Graph.{is_in}
use Rattle.window_model.specs.Decoder.{Task, owned_part}
use Rattle.window_model.specs.Speculation.{flips_at}
use Rattle.window_model.specs.Windows.{places, window_at, window_count}
use Rattle.window_core.proofs.Comparing.{in_plan, right, source_in, wrong}
use Rattle.window_core.proofs.compared.is_right.Goals as goal

pub has_flips-requires-clause-window : goal.has_flips-requires-clause-window
has_flips-requires-clause-window c =
    subst (λ (t : Task). c.args.window < window_count t.plan) (sym c.setting.ensures)
    (in_plan _ c.is_state.ensures _ _ c.requires)

pub has_flips-requires-clause-source : goal.has_flips-requires-clause-source
has_flips-requires-clause-source c =
    subst (λ (t : Task). is_in (window_at t.plan c.args.window).deps c.args.source ≡ true)
    (sym c.setting.ensures) (source_in _ c.is_state.ensures _ _ c.requires)

pub returns-clause-right : goal.returns-clause-right
returns-clause-right c same =
    right _ c.is_state.ensures _ _ c.requires c.guess_of.result.now
    (c.guess_of.ensures.guess _ _ c.requires.2) _ (sym c.standing.ensures ∙ c.in-Some.is)
    (subst (λ (t : Task). (set : List ℕ) → c.kept_of-kept.result.now
    ≡ owned_part t c.args.source set → c.has_flips.result ≡ true → c.guess_of.result.now
    ≡ flips_at t c.args.source c.args.window set) c.setting.ensures
    c.has_flips.ensures.equal _ c.kept_of-kept.ensures.value same)

pub returns-clause-wrong : goal.returns-clause-wrong
returns-clause-wrong c differs =
    wrong _ c.is_state.ensures _ _ c.requires c.guess_of.result.now
    (c.guess_of.ensures.guess _ _ c.requires.2) _ (sym c.standing.ensures ∙ c.in-Some.is)
    (subst (λ (t : Task). (set : List ℕ) → c.kept_of-kept.result.now
    ≡ owned_part t c.args.source set → c.has_flips.result ≡ false → c.guess_of.result.now
    ≡ flips_at t c.args.source c.args.window set → ⊥) c.setting.ensures
    c.has_flips.ensures.differ _ c.kept_of-kept.ensures.value differs)
