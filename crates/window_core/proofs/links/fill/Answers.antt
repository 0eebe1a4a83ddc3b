use Rattle.std.proofs.Common.{◌≡◌, ◌<◌, ℕ, List, [], length, map, get_or, sym, ap, ◌∙◌, subst}
use Rattle.window_model.specs.Decoder.{Task}
use Rattle.window_model.specs.Windows.{places, window_at}
use Rattle.core_state.specs.States.{machine_of}
use Rattle.window_core.specs.Claims.{IsFilled}
use Rattle.window_core.proofs.Filled.{long_at, one_more}
use Rattle.window_core.proofs.links.fill.Goals as goal

pub write_link-origin-requires-clause-into : goal.write_link-origin-requires-clause-into
write_link-origin-requires-clause-into g c =
    let task = c.args.state.now.task in
    let f : ℕ → ℕ = λ x. length (places task.graph task.plan x c.claim.inside.window) in
    let deps = c.deps-deps.ensures ∙ ap (λ (t : Task). (window_at t.plan
    c.claim.inside.window).deps) c.setting.ensures in
    ap length c.index_mut.ensures.value
    ∙ long_at f c.deps-deps.result.now c.loop-at.claim-inside.bits.items c.loop-at.at _
    (subst (λ v. map length c.loop-at.claim-inside.bits.items
    ≡ map (λ x. length (places task.graph task.plan x v)) (window_at task.plan v).deps)
    c.loop-at.invariant.window c.loop-at.invariant.filled.has_places.bits
    ∙ ap (map f) (sym deps)) c.loop-at-test.true

pub loop-at-preserved : goal.loop-at-preserved
loop-at-preserved g c =
    let task = c.args.state.now.task in
    let v = c.loop-at.claim-inside.window in
    let f : ℕ → ℕ = λ x. length (places task.graph task.plan x v) in
    let deps : c.deps-deps.result.now ≡ (window_at task.plan v).deps =
    c.deps-deps.ensures ∙ ap (λ (t : Task). (window_at t.plan c.claim.inside.window).deps)
    c.setting.ensures ∙ ap (λ w. (window_at task.plan w).deps) (sym c.loop-at.invariant.window) in
    let within : c.loop-at.at < length (window_at task.plan v).deps =
    subst (λ (ds : List ℕ). c.loop-at.at < length ds) deps c.loop-at-test.true in
    let bits = c.loop-at.claim-inside.bits.items in
    record {
      window = c.loop-at.invariant.window;
      filled = one_more (g.Q.Predictor.may_guess c.args.predictor.now) task
          (machine_of c.args.state.now) _ c.loop-at.at c.write_link-origin.result
          c.write_link-origin.new.into c.loop-at.invariant.filled within
          (c.write_link-origin.ensures.len ∙ ap length c.index_mut.ensures.value
          ∙ long_at f (window_at task.plan v).deps bits c.loop-at.at _
          c.loop-at.invariant.filled.has_places.bits within
          ∙ sym (long_at f (window_at task.plan v).deps bits c.loop-at.at []
          c.loop-at.invariant.filled.has_places.bits within))
          (subst (λ w. IsFilled (g.Q.Predictor.may_guess c.args.predictor.now) task
          (machine_of c.args.state.now) w (record {
            source = get_or (window_at task.plan v).deps c.loop-at.at 0;
            origin = c.write_link-origin.result;
            bits = c.write_link-origin.new.into;
          })) (sym c.loop-at.invariant.window)
          (subst (λ (ds : List ℕ). IsFilled (g.Q.Predictor.may_guess c.args.predictor.now) task
          (machine_of c.args.state.now) c.claim.inside.window (record {
            source = get_or ds c.loop-at.at 0;
            origin = c.write_link-origin.result;
            bits = c.write_link-origin.new.into;
          })) deps c.write_link-origin.ensures.filled));
    }
