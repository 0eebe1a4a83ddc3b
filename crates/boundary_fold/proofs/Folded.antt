-- What parts, flips and incoming defects say in the words of the decoders.
use Rattle.std.proofs.Common.{◌≡◌, ℕ, ◌<◌, ◌==◌, ◌&&◌, Bool, true, false, List, [], ◌∷◌, map, filter, slice_index_or, refl, sym, ap, ◌∙◌}
use Rattle.std.specs.List.{list_any}
use Rattle.std.proofs.lemmas.Bool.{and_parts}
use Rattle.graph_model.specs.Parity.{◌⊕◌, parity}
use Rattle.graph_model.specs.Graph.{DetectorGraph, boundary, ends_at, is_in}
use Rattle.graph_model.specs.Problems.{owned_members}
use Rattle.graph_model.specs.declared.Tag.{Tag}
use Rattle.graph_model.proofs.Members.{filter_same, is_in-filter, is_in_first, is_in_rest, parity-none_in}
use Rattle.window_model.specs.Decoder.{Task, Syndrome, incoming, owned_part}
use Rattle.window_model.specs.Parts.{part_of}
use Rattle.window_model.specs.Speculation.{Claim, Link, bit_at, defect_of, flips_at}
use Rattle.window_model.specs.Windows.{places, window_at, window_count}
use Rattle.window_model.proofs.Updates.{bit_at-map, none_passes}
use Rattle.window_plan.specs.Placed.{PlacedPlan, places_at}
use Rattle.boundary_fold.specs.Folds.{IsPlanFor, defect_at, link_flip}
use Rattle.boundary_fold.proofs.Fits.{edges_real, owned_same}

-- ---- what a window commits of a set of its part's edges
pub owned_members_are : (task : Task) (p : PlacedPlan) → IsPlanFor task.graph task.tags p →
    task.plan ≡ p.plan → (w : ℕ) → w < window_count p.plan → (set : List ℕ) →
    ((e : ℕ) → is_in set e ≡ true → is_in (window_at p.plan w).edges e ≡ true) →
    owned_members (part_of task.graph p.plan w) set ≡ owned_part task w set
owned_members_are task p h same w within set inside =
    let window = window_at p.plan w in
    filter_same (λ e. list_any (λ x. x.edge == e && x.owned) (part_of task.graph p.plan w).edges)
    (is_in window.owned) set
    (λ e m. owned_same task.graph window.detectors window.owned window.edges (edges_real task.graph
    task.tags p h w within) e ∙ ap (λ b. b && is_in window.owned e) (inside e m))
    ∙ ap (λ plan. filter (is_in (window_at plan w).owned) set) (sym same)

-- ---- what links explain
module _ (g : DetectorGraph) (tags : List Tag) (p : PlacedPlan) (h : IsPlanFor g tags p) (w v : ℕ)
    (here : is_in (window_at p.plan w).detectors v ≡ true) (kept : ℕ → List ℕ) (owned : (x e : ℕ) →
    is_in (kept x) e ≡ true → is_in (window_at p.plan x).owned e ≡ true) where
  -- a detector that is no place of a dependency is at none of its edges
  bit_is : (x : ℕ) → is_in (window_at p.plan w).deps x ≡ true → bit_at (places_at p x w)
      (map (boundary g (kept x)) (places_at p x w)) v ≡ boundary g (kept x) v
  bit_is x dep =
      bit_at-map (boundary g (kept x)) (places_at p x w) v
      ∙ ap (λ ps. is_in ps v && boundary g (kept x) v) (h.is_placed.placed x w dep)
      ∙ ap (λ b. b && boundary g (kept x) v) (is_in-filter shared (window_at p.plan w).detectors v
      ∙ ap (λ b. b && shared v) here)
      ∙ guard (shared v) (boundary g (kept x) v) none_outside
    where
      shared : ℕ → Bool
      shared u = list_any (ends_at g u) (window_at p.plan x).owned

      guard : (a b : Bool) → (a ≡ false → b ≡ false) → a && b ≡ b
      guard true b f = refl
      guard false b f = sym (f refl)

      none_outside : shared v ≡ false → boundary g (kept x) v ≡ false
      none_outside out = parity-none_in (ends_at g v) (kept x) (λ e m.
          none_passes (ends_at g v) (window_at p.plan x).owned out e (owned x e m))

  all_bits : (deps : List ℕ) → ((x : ℕ) → is_in deps x ≡ true → is_in (window_at p.plan w).deps x
      ≡ true) →
      link_flip p w deps (map (λ x. map (boundary g (kept x)) (places_at p x w)) deps) v
      ≡ parity (λ x. boundary g (kept x) v) deps
  all_bits [] deep = refl
  all_bits (x ∷ deps) deep =
      ap (λ b. b ⊕ link_flip p w deps (map (λ y. map (boundary g (kept y)) (places_at p y w)) deps)
      v) (bit_is x (deep x (is_in_first x deps)))
      ∙ ap (λ b. boundary g (kept x) v ⊕ b) (all_bits deps (λ y m. deep y (is_in_rest x y deps m)))

-- With the flips of what the dependencies keep at the places that they share with the window, what
-- is written is the incoming defect.
pub incoming_is : (task : Task) (p : PlacedPlan) →
    IsPlanFor task.graph task.tags p → task.plan ≡ p.plan →
    (s : Syndrome) (kept : ℕ → List ℕ) (w v : ℕ) (values : List Bool) (links : List (List Bool)) →
    is_in (window_at p.plan w).detectors v ≡ true → ((x e : ℕ) → is_in (kept x) e ≡ true →
    is_in (window_at p.plan x).owned e ≡ true) → slice_index_or values v false ≡ s.value v →
    links ≡ map (λ x. map (boundary task.graph (kept x)) (places_at p x w))
    (window_at p.plan w).deps → defect_at p w values links v ≡ incoming task s kept w v
incoming_is task p h same s kept w v values links here owned value flips =
    ap (λ b. b ⊕ link_flip p w (window_at p.plan w).deps links v) value
    ∙ ap (λ ls. s.value v ⊕ link_flip p w (window_at p.plan w).deps ls v) flips
    ∙ ap (λ b. s.value v ⊕ b) (all_bits task.graph task.tags p h w v here kept owned
    (window_at p.plan w).deps (λ x m. m))
    ∙ ap (λ plan. s.value v ⊕ parity (λ x. boundary task.graph (kept x) v) (window_at plan w).deps)
    (sym same)

-- the flips of a set of the dependency's, at the places that the plan lists
pub flips_are : (task : Task) (p : PlacedPlan) → IsPlanFor task.graph task.tags p →
    task.plan ≡ p.plan → (x w : ℕ) (set : List ℕ) → is_in (window_at p.plan w).deps x ≡ true →
    flips_at task x w set ≡ map (boundary task.graph (owned_part task x set)) (places_at p x w)
flips_are task p h same x w set dep =
    ap (λ plan. map (boundary task.graph (owned_part task x set)) (places task.graph plan x w)) same
    ∙ ap (map (boundary task.graph (owned_part task x set))) (sym (h.is_placed.placed x w dep))

-- what a window commits it owns
pub owned_inside : (task : Task) (x : ℕ) (set : List ℕ) (e : ℕ) → is_in (owned_part task x set) e
    ≡ true → is_in (window_at task.plan x).owned e ≡ true
owned_inside task x set e m = (and_parts (is_in set e) (is_in (window_at task.plan x).owned e)
    (sym (is_in-filter (is_in (window_at task.plan x).owned) set e) ∙ m)).1

-- ---- by the links of a claim
pub claimed : (task : Task) (p : PlacedPlan) →
    IsPlanFor task.graph task.tags p → task.plan ≡ p.plan → (w v : ℕ) (links : List Link) →
    ((x : ℕ) → is_in (map (λ (link : Link). link.source) links) x ≡ true →
    is_in (window_at p.plan w).deps x ≡ true) →
    link_flip p w (map (λ (link : Link). link.source) links)
    (map (λ (link : Link). link.bits) links) v ≡ parity (λ (link : Link).
    bit_at (places task.graph task.plan link.source w) link.bits v) links
claimed task p h same w v [] deep = refl
claimed task p h same w v (link ∷ links) deep =
    let sources = map (λ (l : Link). l.source) links in
    let bits = map (λ (l : Link). l.bits) links in
    ap (λ ps. bit_at ps link.bits v ⊕ link_flip p w sources bits v)
    (h.is_placed.placed link.source w (deep link.source (is_in_first link.source sources))
    ∙ ap (λ plan. places task.graph plan link.source w) (sym same))
    ∙ ap (λ b. bit_at (places task.graph task.plan link.source w) link.bits v ⊕ b)
    (claimed task p h same w v links (λ x m. deep x (is_in_rest link.source x sources m)))

-- with the bits of a claim's links, what is written is the defect of its problem
pub defect_is : (task : Task) (p : PlacedPlan) → IsPlanFor task.graph task.tags p →
    task.plan ≡ p.plan → (value : ℕ → Bool) (claim : Claim) (v : ℕ) (values : List Bool) →
    map (λ (link : Link). link.source) claim.links ≡ (window_at p.plan claim.window).deps →
    slice_index_or values v false ≡ value v →
    defect_at p claim.window values (map (λ (link : Link). link.bits) claim.links) v
    ≡ defect_of task value claim v
defect_is task p h same value claim v values sources is =
    let bits = map (λ (link : Link). link.bits) claim.links in
    ap (λ b. b ⊕ link_flip p claim.window (window_at p.plan claim.window).deps bits v) is
    ∙ ap (λ xs. value v ⊕ link_flip p claim.window xs bits v) (sym sources)
    ∙ ap (λ b. value v ⊕ b) (claimed task p h same claim.window v claim.links (λ x m.
    ap (λ xs. is_in xs x) (sym sources) ∙ m))
