use Rattle.std.proofs.Common.{◌≡◌, ◌<◌, ◌==◌, ◌&&◌, ℕ, false, length, get_or, sym, ap, ◌∙◌, arith}
use Rattle.graph_model.specs.Parity.{◌⊕◌}
use Rattle.graph_model.proofs.Parities.{xor-false}
use Rattle.boundary_fold.proofs.Links.{turned_more}
use Rattle.boundary_fold.proofs.turns.turn_places.Goals as goal
use Rattle.boundary_fold.proofs.turns.turn_places.Goals.{then-get, else-get}

pub loop-at-preserved : goal.loop-at-preserved
loop-at-preserved c =
    let ds = c.args.detectors.now in
    let ps = c.args.places.now in
    let bs = c.args.bits.now in
    let i = c.loop-at.at in
    let old = c.loop-at.into in
    let within : i < length ps = omega (
      arith,
      c.loop-at-test.true,
      c.len-at-end.ensures,
      c.requires.bits,
    ) in
    let step : (k : ℕ) → k < length ds → get_or c.if-get.into k false ≡ get_or old k false
    ⊕ (get_or bs i false && (get_or ps i 0 == get_or ds k 0)) =
    λ k l. elim c.if-get.branch [
      | then-get w ↦
          ap (λ xs. get_or xs k false) w.into-is ∙ w.turn.ensures.value k l
          ∙ ap (λ t. get_or old k false ⊕ (t && (get_or ps i 0 == get_or ds k 0)))
          (sym w.if-get.true ∙ c.get.ensures)
      | else-get w ↦
          ap (λ xs. get_or xs k false) w.into-is ∙ sym (xor-false (get_or old k false))
          ∙ ap (λ t. get_or old k false ⊕ (t && (get_or ps i 0 == get_or ds k 0)))
          (sym w.if-get.false ∙ c.get.ensures)
    ] in
    let long : length c.if-get.into ≡ length old = elim c.if-get.branch [
      | then-get w ↦ ap length w.into-is ∙ w.turn.ensures.len
      | else-get w ↦ ap length w.into-is
    ] in
    record {
      len = long ∙ c.loop-at.invariant.len;
      so_far = λ k l.
          turned_more ps bs i (get_or ds k 0) c.requires.places c.requires.bits within
          (get_or c.args.into.now k false) (get_or old k false) (get_or c.if-get.into k false)
          (c.loop-at.invariant.so_far k l) (step k l);
    }
