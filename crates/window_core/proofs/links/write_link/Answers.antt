use Rattle.std.proofs.Common.{◌≡◌, ℕ, List, length, refl, sym, ap, ◌∙◌, subst}
use Rattle.std.proofs.lemmas.List.{length-map}
use Rattle.graph_model.specs.Graph.{boundary}
use Rattle.window_model.specs.Decoder.{Task, owned_part}
use Rattle.window_model.specs.Guesses.{IsGuessed}
use Rattle.window_model.specs.Speculation.{Machine, flips_at, result_of}
use Rattle.window_model.specs.declared.Origin.TheVariants.{Guess}
use Rattle.window_model.specs.Windows.{places}
use Rattle.claim_bits.specs.Seen.{HasSeen, Seen}
use Rattle.core_state.specs.States.{machine_of}
use Rattle.window_core.proofs.Claiming.{has_values}
use Rattle.window_core.proofs.Filled.{from_guess, from_result}
use Rattle.window_core.proofs.links.write_link.Goals as goal

pub returns-in-Some-clause-len : goal.returns-in-Some-clause-len
returns-in-Some-clause-len g c =
    let task = c.args.state.now.task in
    let flips = subst (λ (t : Task). (set : List ℕ) → c.kept_of-kept.result.now
    ≡ owned_part t c.args.pair.0 set → c.write_flips.new.into
    ≡ flips_at t c.args.pair.0 c.args.pair.1 set) c.setting.ensures c.write_flips.ensures
    (result_of (machine_of c.args.state.now) c.in-Some.ticket) c.kept_of-kept.ensures.value in
    ap length flips
    ∙ length-map (places task.graph task.plan c.args.pair.0 c.args.pair.1)
    (boundary task.graph (owned_part task c.args.pair.0
    (result_of (machine_of c.args.state.now) c.in-Some.ticket)))
    ∙ sym c.requires.into

pub returns-in-Some-clause-filled : goal.returns-in-Some-clause-filled
returns-in-Some-clause-filled g c =
    from_result _ _ _ _ _ _ c.in-Some.ticket (sym c.standing.ensures ∙ c.in-Some.is)
    (subst (λ (t : Task). (set : List ℕ) → c.kept_of-kept.result.now
    ≡ owned_part t c.args.pair.0 set → c.write_flips.new.into
    ≡ flips_at t c.args.pair.0 c.args.pair.1 set) c.setting.ensures c.write_flips.ensures
    (result_of (machine_of c.args.state.now) c.in-Some.ticket) c.kept_of-kept.ensures.value)

pub returns-in-None-clause-filled : goal.returns-in-None-clause-filled
returns-in-None-clause-filled g c =
    from_guess _ _ _ _ _ _ (sym c.standing.ensures ∙ c.in-None.is)
    (c.write_guesses.ensures.len ∙ c.requires.into)
    (subst (λ (seen : Seen). (m : Machine) → HasSeen m seen →
    IsGuessed (g.Q.Predictor.may_guess c.args.predictor.now) seen.task m c.args.pair.1
    (record { source = c.args.pair.0; origin = Guess; bits = c.write_guesses.new.into }))
    (c.new-arrivals.ensures ∙ (λ i. record {
      task = c.setting-in-None.ensures i;
      arrived = c.arrived.ensures i;
      values = c.values.ensures i;
    })) c.write_guesses.ensures.guessed (machine_of c.args.state.now) (record {
      arrived = refl;
      values = has_values c.args.state.now c.is_state.ensures;
    }))
