-- What a window shares with its dependencies, and the defects that they leave it.
use Rattle.std.proofs.Common.{◌≡◌, ℕ, ◌<◌, ◌≤◌, Bool, true, false, cond, List, [], ◌∷◌, length, map, filter, find, nat_lt, Option, Some, None, option_map, refl, sym, ap, ◌∙◌, subst, arith, All}
use Rattle.std.specs.List.{list_any, range_with_len}
use Rattle.std.proofs.lemmas.Bool.{and_parts, ltb-false}
use Rattle.std.proofs.lemmas.Option.{none-some}
use Rattle.graph_model.specs.Graph.{DetectorGraph, ends_at, is_in, boundary}
use Rattle.graph_model.specs.Limits.{most_places}
use Rattle.graph_model.proofs.Members.{is_in-filter, All-at, is_in_range, all_within, map_same_in, not_found}
use Rattle.graph_model.specs.declared.Tag.{Tag}
use Rattle.window_model.specs.Gates.{TooManyWindows, TooManyLinks, WindowTooLarge, link_count, most_detectors, most_links, most_windows, size_of}
use Rattle.window_model.specs.Decoder.{Task, incoming}
use Rattle.window_model.specs.Laws.{PlanLaws}
use Rattle.window_model.specs.Speculation.{defect_of}
use Rattle.window_model.specs.Windows.{places, window_at, window_count}
use Rattle.window_plan.specs.Placed.{PlacedPlan, places_at}
use Rattle.boundary_fold.specs.Folds.{IsPlanFor, defect_at}
use Rattle.boundary_fold.proofs.Placed.{detectors_below}
use Rattle.boundary_fold.proofs.Folded.{defect_is, incoming_is}
use Rattle.window_setting.specs.Defects.{AreClaimDefects, AreDefects}

filter_short : (p : ℕ → Bool) (xs : List ℕ) → length (filter p xs) ≤ length xs
filter_short p [] = omega arith
filter_short p (x ∷ xs) = by_test (filter_short p xs) (p x)
  where
    by_test : length (filter p xs) ≤ length xs → (b : Bool) →
        length (cond b (x ∷ filter p xs) (filter p xs)) ≤ length (x ∷ xs)
    by_test k true = omega (arith, k)
    by_test k false = omega (arith, k)

no_image : {X Y : Type 0} (f : X → Y) (o : Option X) → option_map f o ≡ None → o ≡ None
no_image f None e = refl
no_image f (Some x) e = absurd (none-some (f x) (sym e))

last_of : {X : Type 0} (b c : Bool) (x y : X) (o : Option X) → cond b (Some x) (cond c (Some y) o)
    ≡ None → o ≡ None
last_of true c x y o e = absurd (none-some x (sym e))
last_of false true x y o e = absurd (none-some y (sym e))
last_of false false x y o e = e

-- no window of a plan within its limits is too large
few_detectors : (g : DetectorGraph) (tags : List Tag) (p : PlacedPlan) → IsPlanFor g tags p →
    (w : ℕ) → w < window_count p.plan → length (window_at p.plan w).detectors ≤ most_detectors
few_detectors g tags p h w within =
    let large : ℕ → Bool = λ x. nat_lt most_detectors (size_of p.plan x) in
    let none : find large (range_with_len 0 (window_count p.plan)) ≡ None =
    no_image (λ x. WindowTooLarge x (size_of p.plan x))
    (find large (range_with_len 0 (window_count p.plan)))
    (last_of (nat_lt most_windows (window_count p.plan)) (nat_lt most_links (link_count p.plan))
    (TooManyWindows (window_count p.plan)) (TooManyLinks (link_count p.plan))
    (option_map (λ x. WindowTooLarge x (size_of p.plan x))
    (find large (range_with_len 0 (window_count p.plan)))) h.is_placed.within) in
    ltb-false most_detectors (size_of p.plan w)
    (not_found large (range_with_len 0 (window_count p.plan)) none w
    (is_in_range 0 (window_count p.plan) w (omega arith) (omega (arith, within))))

-- the plan of a task that is seen in its parts
pub plan_for : (seen task : Task) (p : PlacedPlan) → seen ≡ task →
    IsPlanFor seen.graph seen.tags p → IsPlanFor task.graph task.tags p
plan_for seen task p is h = subst (λ (t : Task). IsPlanFor t.graph t.tags p) is h

module _ (task : Task) (p : PlacedPlan) (h : IsPlanFor task.graph task.tags p) (same : task.plan
    ≡ p.plan) (w : ℕ) (within : w < window_count task.plan) where
  in_plan : w < window_count p.plan
  in_plan = subst (λ plan. w < window_count plan) same within

  pub few : length (window_at task.plan w).detectors ≤ most_detectors
  few = subst (λ plan. length (window_at plan w).detectors ≤ most_detectors) (sym same)
      (few_detectors task.graph task.tags p h w in_plan)

  pub below : All (λ v. v < task.graph.vertices) (window_at task.plan w).detectors
  below = subst (λ plan. All (λ v. v < task.graph.vertices) (window_at plan w).detectors) (sym same)
      (detectors_below task.graph task.tags p h w in_plan)

  module _ (x : ℕ) (dep : is_in (window_at task.plan w).deps x ≡ true) where
    pub places_is : places_at p x w ≡ places task.graph task.plan x w
    places_is = h.is_placed.placed x w (ap (λ plan. is_in (window_at plan w).deps x) (sym same)
        ∙ dep) ∙ ap (λ plan. places task.graph plan x w) (sym same)

    pub few_places : length (places_at p x w) ≤ most_places
    few_places =
        let short = filter_short (λ v. list_any (ends_at task.graph v)
        (window_at task.plan x).owned) (window_at task.plan w).detectors in
        omega (arith, ap length places_is, short, few)

    pub places_below : All (λ v. v < task.graph.vertices) (places_at p x w)
    places_below =
        let shared : ℕ → Bool =
        λ v. list_any (ends_at task.graph v) (window_at task.plan x).owned in
        subst (All (λ v. v < task.graph.vertices)) (sym places_is)
        (all_within (λ v. v < task.graph.vertices) (filter shared (window_at task.plan w).detectors)
        (λ v m.
        All-at (λ u. u < task.graph.vertices) (window_at task.plan w).detectors v below
        (and_parts (is_in (window_at task.plan w).detectors v) (shared v)
        (sym (is_in-filter shared (window_at task.plan w).detectors v) ∙ m)).0))

  -- the length of each link
  pub links_long : (deps : List ℕ) →
      ((x : ℕ) → is_in deps x ≡ true → is_in (window_at task.plan w).deps x ≡ true) →
      map (λ x. length (places task.graph task.plan x w)) deps
      ≡ map (λ x. length (places_at p x w)) deps
  links_long deps deep = map_same_in (λ x. length (places task.graph task.plan x w)) (λ x.
      length (places_at p x w)) deps (λ x m. ap length (sym (places_is x (deep x m))))

  pub defects_are : PlanLaws task.graph task.tags task.plan →
      (values : List Bool) (links : List (List Bool)) (defects : List Bool) →
      defects ≡ map (defect_at p w values links) (window_at p.plan w).detectors →
      AreDefects task w values links defects
  defects_are laws values links defects is = record {
    defect = λ s arrived kept last has owners flips.
        is
        ∙ ap (λ plan. map (defect_at p w values links) (window_at plan w).detectors) (sym same)
        ∙ map_same_in (defect_at p w values links) (incoming task s kept w)
        (window_at task.plan w).detectors
        (λ v m.
        incoming_is task p h same s kept w v values links
        (ap (λ plan. is_in (window_at plan w).detectors v) (sym same) ∙ m)
        (λ x e k. ap (λ plan. is_in (window_at plan x).owned e) (sym same) ∙ owners.owned x e k)
        (has.value v (All-at (λ u. u < task.graph.vertices) (window_at task.plan w).detectors v
        below m) (omega (arith, last, laws.last_covers w v m)))
        (flips
        ∙ map_same_in (λ x. map (boundary task.graph (kept x)) (places task.graph task.plan x w))
        (λ x. map (boundary task.graph (kept x)) (places_at p x w)) (window_at task.plan w).deps
        (λ x d. ap (map (boundary task.graph (kept x))) (sym (places_is x d)))
        ∙ ap (λ plan. map (λ x. map (boundary task.graph (kept x)) (places_at p x w))
        (window_at plan w).deps) same));
  }

  pub claim_defects_are : PlanLaws task.graph task.tags task.plan →
      (values : List Bool) (links : List (List Bool)) (defects : List Bool) →
      defects ≡ map (defect_at p w values links) (window_at p.plan w).detectors →
      AreClaimDefects task w values links defects
  claim_defects_are laws values links defects is = record {
    defect = λ m claim last has window sources bits.
        is
        ∙ ap (λ plan. map (defect_at p w values links) (window_at plan w).detectors) (sym same)
        ∙ map_same_in (defect_at p w values links) (defect_of task m.value claim)
        (window_at task.plan w).detectors
        (λ v k.
        ap (λ x. defect_at p x values links v) (sym window)
        ∙ ap (λ ls. defect_at p claim.window values ls v) (sym bits)
        ∙ defect_is task p h same m.value claim v values
        (sources ∙ ap (λ plan. (window_at plan w).deps) same
        ∙ ap (λ x. (window_at p.plan x).deps) (sym window))
        (has.value v (All-at (λ u. u < task.graph.vertices) (window_at task.plan w).detectors v
        below k)
        (let covers = laws.last_covers w v k in omega (arith, last, covers))));
  }
