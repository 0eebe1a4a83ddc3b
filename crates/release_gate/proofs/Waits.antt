-- Ready slots: no smaller than the last slots that they wait for, and no greater than these allow.
use Rattle.std.proofs.Common.{◌≡◌, ℕ, zero, suc, ◌+◌, ◌<◌, ◌≤◌, ⊎_elim, max, true, [], ◌∷◌, ◌++◌, length, map, get_or, fold, refl, sym, ap, ◌∙◌, subst, arith, length-append, slice_index}
use Rattle.std.proofs.Math.ListN.{get_or-append}
use Rattle.std.proofs.Math.Seq.{get_or-append_seam}
use Rattle.std.proofs.lemmas.Bool.{cases_lt}
use Rattle.graph_model.specs.Graph.{is_in}
use Rattle.graph_model.proofs.Members.{map_same_in, greatest_below}
use Rattle.graph_model.proofs.Elements.{greatest_from}
use Rattle.window_model.specs.Windows.{WindowPlan, IsAncestor, direct, through, window_at, window_count}
use Rattle.window_model.proofs.Plans.{greatest_bounds}
use Rattle.window_model.specs.Gates.{AreReadySlots, latest}
use Rattle.release_gate.specs.Slots.{ready_below, ready_slots}

pub none_ready : (plan : WindowPlan) → [] ≡ ready_below plan 0
unfolding ready_below
none_ready plan = refl

pub one_more_ready : (plan : WindowPlan) (n : ℕ) → ready_below plan (n + 1) ≡ ready_below plan n
    ++ latest plan (ready_below plan n) n ∷ []
unfolding ready_below
one_more_ready plan n = let e : n + 1 ≡ suc n = omega arith in ap (ready_below plan) e

pub length-ready_below : (plan : WindowPlan) (n : ℕ) → length (ready_below plan n) ≡ n
unfolding ready_below
length-ready_below plan zero = refl
length-ready_below plan (suc n) = omega (
  arith,
  length-append (ready_below plan n)
      (latest plan (ready_below plan n) n ∷ []),
  length-ready_below plan n,
)

pub ready_at : (plan : WindowPlan) (n w : ℕ) → w < n → get_or (ready_below plan n) w 0
    ≡ latest plan (ready_below plan w) w
unfolding ready_below
ready_at plan zero w l = absurd (omega arith)
ready_at plan (suc n) w l =
    ⊎_elim
    (λ (low : w < n). get_or-append (ready_below plan n) (latest plan (ready_below plan n) n ∷ []) 0
    w (omega (arith, low, length-ready_below plan n)) ∙ ready_at plan n w low)
    (λ (high : n ≤ w).
    let e : w ≡ n = omega (arith, l, high) in
    ap (λ k. get_or (ready_below plan n ++ latest plan (ready_below plan n) n ∷ []) k 0)
    (omega (arith, e, length-ready_below plan n))
    ∙ get_or-append_seam (ready_below plan n) (latest plan (ready_below plan n) n) [] 0
    ∙ ap (λ m. latest plan (ready_below plan m) m) (sym e))
    (cases_lt w n)

-- what is known of a lower window is what is known of it among more
pub ready_same : (plan : WindowPlan) (m n w : ℕ) → w < m → w < n → get_or (ready_below plan m) w 0
    ≡ get_or (ready_below plan n) w 0
ready_same plan m n w k l = ready_at plan m w k ∙ sym (ready_at plan n w l)

module _ (plan : WindowPlan) (lower : (w x : ℕ) → is_in (window_at plan w).deps x ≡ true →
    x < w) where
  pub ready_last : (w : ℕ) → w < window_count plan →
      (window_at plan w).last ≤ get_or (ready_slots plan) w 0
  ready_last w l = omega (
    arith,
    ready_at plan (window_count plan) w l,
    greatest_from
        (window_at plan w).last (map (λ x. get_or (ready_below plan w) x 0)
        (window_at plan w).deps),
  )

  pub ready_dep : (w x : ℕ) → w < window_count plan → is_in (window_at plan w).deps x ≡ true →
      get_or (ready_slots plan) x 0 ≤ get_or (ready_slots plan) w 0
  ready_dep w x l dep =
      omega (
        arith,
        ready_at plan (window_count plan) w l,
        ready_same plan w (window_count plan) x (lower w x dep) (omega (arith, l, lower w x dep)),
        greatest_bounds (window_at plan w).last (window_at plan w).deps (λ y.
            get_or (ready_below plan w) y 0) x dep,
      )

  -- a slot above all that a window waits for is above its ready slot
  pub ready_least : (a n w : ℕ) → w < n → (window_at plan w).last < a → ((x : ℕ) →
      IsAncestor plan x w → (window_at plan x).last < a) → get_or (ready_below plan n) w 0 < a
  ready_least a zero w l last older = absurd (omega arith)
  ready_least a (suc n) w l last older =
      subst (λ k. k < a) (sym (ready_at plan (suc n) w l))
      (greatest_below (window_at plan w).last a (window_at plan w).deps (λ x.
      get_or (ready_below plan w) x 0) last
      (λ x dep.
      let low : x < w = lower w x dep in
      subst (λ k. k < a) (ready_same plan n w x (omega (arith, low, l)) low)
      (ready_least a n x (omega (arith, low, l)) (older x (direct dep)) (λ y anc.
      older y (through anc dep)))))

  -- the ready slots are those of the definition: each is the greatest of a last slot and of the
  -- ready slots of the dependencies
  pub are_ready : AreReadySlots plan (ready_slots plan)
  are_ready = record {
    each_window = length-ready_below plan (window_count plan);
    ready = λ w l.
        ready_at plan (window_count plan) w l
        ∙ ap (fold max (window_at plan w).last) (map_same_in (slice_index (ready_below plan w))
        (slice_index (ready_slots plan)) (window_at plan w).deps
        (λ x dep. let low = lower w x dep in
        ready_same plan w (window_count plan) x low (omega (arith, l, low))));
  }
