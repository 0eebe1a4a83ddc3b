-- What a plan's windows hold.
use Rattle.std.proofs.Common.{◌≡◌, ℕ, ◌<◌, true, List, length, get_or, All, sym, ap, ◌∙◌, arith}
use Rattle.std.proofs.lemmas.List.{get_or_default}
use Rattle.std.proofs.lemmas.List.FromFn.{get_or-map-range_with_len, length-map-range_with_len}
use Rattle.graph_model.specs.Graph.{DetectorGraph, is_in}
use Rattle.graph_model.specs.declared.Tag.{Tag}
use Rattle.graph_model.proofs.Members.{is_in-Contains}
use Rattle.window_model.proofs.Plans.{in_below}
use Rattle.window_model.specs.Windows.{Window, is_reached, no_window, window_at, window_count, window_of}
use Rattle.window_plan.specs.Placed.{PlacedPlan}
use Rattle.boundary_fold.specs.Folds.{IsPlanFor}

module _ (g : DetectorGraph) (tags : List Tag) (p : PlacedPlan) (h : IsPlanFor g tags p) where
  abbrev pub made : ℕ → Window
  made w = window_of g tags p.plan.homes (length p.plan.cells) h.buffer w

  pub count_is : window_count p.plan ≡ length p.plan.cells
  count_is = ap length h.is_placed.is_plan.windows
      ∙ length-map-range_with_len made 0 (length p.plan.cells)

  pub window_is : (w : ℕ) → w < window_count p.plan → window_at p.plan w ≡ made w
  window_is w l =
      ap (λ ws. get_or ws w no_window) h.is_placed.is_plan.windows
      ∙ get_or-map-range_with_len made 0 (length p.plan.cells) w w no_window (let c = count_is in
      omega (arith, c, l)) (omega arith)

  pub detectors_below : (w : ℕ) → w < window_count p.plan →
      All (λ v. v < g.vertices) (window_at p.plan w).detectors
  detectors_below w l k d short =
      let ds = (window_at p.plan w).detectors in
      let inside : is_in ds (get_or ds k d) ≡ true = is_in-Contains ds (get_or ds k d) (
        k,
        short,
        get_or_default ds k (get_or ds k d) d short,
      ) in
      (in_below (is_reached g p.plan.homes w h.buffer) g.vertices (get_or ds k d)
      (ap (λ (x : Window). is_in x.detectors (get_or ds k d)) (sym (window_is w l)) ∙ inside)).0
