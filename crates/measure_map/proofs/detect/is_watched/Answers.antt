use Rattle.std.proofs.Common.{◌&&◌, ◌||◌, ◌∙◌, ap, sym}
use Rattle.std.specs.Prelude.{is_some}
use Rattle.surface_model.specs.Measurements.{is_finished, is_prepared}
use Rattle.measure_map.proofs.Detecting.{when_gone, when_now}
use Rattle.measure_map.proofs.detect.is_watched.Goals as goal

pub returns-then-earlier : goal.returns-then-earlier
returns-then-earlier c =
    let s = c.args.view.now.schedule in let t = c.args.view.now.slot in
    let now = sym (c.is_some-now.ensures ∙ ap is_some c.place_of.ensures) ∙ c.if-now.true in
    let earlier = c.is_some-earlier.ensures ∙ ap is_some c.place_before.ensures in
    c.if-earlier.true ∙ sym (when_now s c.is_accepted.ensures t c.args.corner now
    ∙ ap (λ b. b || is_prepared s t c.args.corner) (sym earlier ∙ c.if-earlier.true))

pub returns-else-earlier : goal.returns-else-earlier
returns-else-earlier c =
    let s = c.args.view.now.schedule in let t = c.args.view.now.slot in
    let now = sym (c.is_some-now.ensures ∙ ap is_some c.place_of.ensures) ∙ c.if-now.true in
    let earlier = c.is_some-earlier.ensures ∙ ap is_some c.place_before.ensures in
    c.is_prepared.ensures ∙ sym (when_now s c.is_accepted.ensures t c.args.corner now
    ∙ ap (λ b. b || is_prepared s t c.args.corner) (sym earlier ∙ c.if-earlier.false))

pub returns-then-earlier-2 : goal.returns-then-earlier-2
returns-then-earlier-2 c =
    let s = c.args.view.now.schedule in let t = c.args.view.now.slot in
    let gone = sym (c.is_some-now.ensures ∙ ap is_some c.place_of.ensures) ∙ c.if-now.false in
    let earlier = c.is_some-earlier.ensures ∙ ap is_some c.place_before.ensures in
    c.is_finished.ensures ∙ sym (when_gone s c.is_accepted.ensures t c.args.corner gone
    ∙ ap (λ b. b && is_finished s t c.args.corner) (sym earlier ∙ c.if-earlier-2.true))

pub returns-else-earlier-2 : goal.returns-else-earlier-2
returns-else-earlier-2 c =
    let s = c.args.view.now.schedule in let t = c.args.view.now.slot in
    let gone = sym (c.is_some-now.ensures ∙ ap is_some c.place_of.ensures) ∙ c.if-now.false in
    let earlier = c.is_some-earlier.ensures ∙ ap is_some c.place_before.ensures in
    c.if-earlier-2.false ∙ sym (when_gone s c.is_accepted.ensures t c.args.corner gone
    ∙ ap (λ b. b && is_finished s t c.args.corner) (sym earlier ∙ c.if-earlier-2.false))
