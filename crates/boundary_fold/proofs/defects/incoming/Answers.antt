use Rattle.std.proofs.Common.{◌≡◌, ◌≤◌, false, length, get_or, map, sym, ap, ◌∙◌, subst, arith}
use Rattle.std.specs.List.Sorted.{IsStrictlyIncreasing}
use Rattle.graph_model.proofs.Elements.{bits_are}
use Rattle.graph_model.specs.Parity.{◌⊕◌}
use Rattle.window_model.specs.Windows.{window_at}
use Rattle.window_plan.specs.Placed.{places_at}
use Rattle.boundary_fold.specs.Folds.{defect_at, link_flip}
use Rattle.boundary_fold.proofs.Links.{link_long, flip_more, flip_all}
use Rattle.boundary_fold.proofs.defects.incoming.Goals as goal

pub turn_places-requires-clause-rising : goal.turn_places-requires-clause-rising
turn_places-requires-clause-rising c =
    subst IsStrictlyIncreasing (sym c.detectors-detectors.ensures)
    (c.is_plan.ensures.detectors_rise c.args.window)

pub turn_places-requires-clause-places : goal.turn_places-requires-clause-places
turn_places-requires-clause-places c =
    subst IsStrictlyIncreasing (sym c.places-places.ensures) (c.is_plan.ensures.places_rise
    (get_or c.deps-dependencies.result.now c.loop-at.at 0) c.args.window)

pub turn_places-requires-clause-bits : goal.turn_places-requires-clause-bits
turn_places-requires-clause-bits c =
    let p = c.args.plan.now in
    let w = c.args.window in
    let i = c.loop-at.at in
    link_long p w (window_at p.plan w).deps c.args.links.now c.requires.links i
    c.index-links-at.result c.loop-at-test.true c.index-links-at.is
    ∙ ap (λ ys. length (places_at p (get_or ys i 0) w)) (sym c.deps-dependencies.ensures)
    ∙ ap length (sym c.places-places.ensures)

pub loop-at-preserved : goal.loop-at-preserved
loop-at-preserved c =
    let p = c.args.plan.now in
    let w = c.args.window in
    let i = c.loop-at.at in
    let ds = c.detectors-detectors.result.now in
    let deps = c.deps-dependencies.result.now in
    let links = c.args.links.now in
    let each : map length links ≡ map (λ x. length (places_at p x w)) deps = c.requires.links
    ∙ ap (map (λ x. length (places_at p x w))) (sym c.deps-dependencies.ensures) in
    record {
      len = c.turn_places.ensures.len ∙ c.loop-at.invariant.len;
      so_far = λ k l.
          flip_more p w deps links each i (get_or ds k 0) c.index-links-at.result
          c.places-places.result.now (get_or c.args.values.now (get_or ds k 0) false)
          (get_or c.loop-at.into k false) (get_or c.turn_places.new.into k false)
          c.loop-at-test.true c.index-links-at.is c.places-places.ensures
          (c.loop-at.invariant.so_far k l) (c.turn_places.ensures.value k l);
    }

pub returns : goal.returns
returns c =
    let p = c.args.plan.now in
    let w = c.args.window in
    let i = c.loop-at.at in
    let ds = c.detectors-detectors.result.now in
    let deps = c.deps-dependencies.result.now in
    let links = c.args.links.now in
    let values = c.args.values.now in
    let each : map length links ≡ map (λ x. length (places_at p x w)) deps = c.requires.links
    ∙ ap (map (λ x. length (places_at p x w))) (sym c.deps-dependencies.ensures) in
    let past : length links ≤ i = omega (arith, c.loop-at-test.false) in
    bits_are (defect_at p w values links) ds c.loop-at.into c.loop-at.invariant.len
    (λ k l.
    c.loop-at.invariant.so_far k l
    ∙ ap (λ b. get_or values (get_or ds k 0) false ⊕ b)
    (flip_all p w deps links each i (get_or ds k 0) past)
    ∙ ap (λ ys. get_or values (get_or ds k 0) false ⊕ link_flip p w ys links (get_or ds k 0))
    c.deps-dependencies.ensures)
    ∙ ap (map (defect_at p w values links)) c.detectors-detectors.ensures
