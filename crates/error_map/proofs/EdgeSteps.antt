-- The edge of a mechanism, from the first two of the detectors that it flips.
use Rattle.std.proofs.Common.{◌≡◌, ℕ, ◌<◌, ◌≤◌, true, cond, refl, sym, ap, ◌∙◌, subst, length, Option, Some, None, List, [], ◌∷◌, map}
use Rattle.std.specs.Prelude.{is_some}
use Rattle.std.specs.List.{list_any}
use Rattle.graph_model.proofs.Elements.{mapped_at, all_at}
use Rattle.graph_model.specs.Graph.{GraphEdge}
use Rattle.surface_model.specs.Schedules.{MergeLine, Schedule}
use Rattle.surface_model.specs.Measurements.{detectors}
use Rattle.surface_model.specs.Errors.{Mechanism, odd_places, edge_between, edge_of, weight_of_class, checked, watched}
use Rattle.surface_model.specs.Accepted.{IsAccepted}
use Rattle.surface_model.specs.Limits.{last_named_slot}
use Rattle.surface_laws.proofs.Acceptance.{sound}
use Rattle.surface_laws.proofs.Graphs.{length_map}
use Rattle.surface_laws.proofs.Ends.{IsMechanism}
use Rattle.measure_map.specs.Placed.{IsMap, map_of, Placed, PlacedDetector, placed_detector}
use Rattle.error_map.specs.declared.ends.Ends.{Ends}
use Rattle.error_map.specs.declared.ends.Ends.TheVariants.{None as NoEnd, One, Two}
use Rattle.error_map.specs.Ends.{AreInOrder, first_two, goes_before, place_of}
use Rattle.error_map.specs.Sources.{source_of}
use Rattle.error_map.specs.Spots.{ends_found}
use Rattle.error_map.proofs.Found.{ends_are, sorted_detectors, stands_before}
use Rattle.error_map.proofs.Ordered.{sorted_at}
use Rattle.error_map.proofs.Local.{Merges}
use Rattle.error_map.proofs.Listed.{detectors_placed}

pub long_merges : (s : Schedule) → IsAccepted s → Merges s
long_merges s a m i = let r = all_at (λ (x : MergeLine). (x.one < length s.patches)
    × (x.two < length s.patches) × (x.slot ≤ last_named_slot) × (1 ≤ x.count)
    × (x.count ≤ last_named_slot)) s.merges m a.ranges.merges i in r.3

-- ---- the detectors of the map

pub detectors_are : (s : Schedule) (m : Placed) (ds : List PlacedDetector) → m ≡ map_of s →
    ds ≡ m.detectors → ds ≡ map (placed_detector s) (detectors s)
detectors_are s m ds e f = f ∙ ap (λ (p : Placed). p.detectors) e ∙ detectors_placed s

pub in_order : (s : Schedule) (ds : List PlacedDetector) →
    ds ≡ map (placed_detector s) (detectors s) → AreInOrder ds
in_order s ds e = subst AreInOrder (sym e) mapped
  where
    mapped : AreInOrder (map (placed_detector s) (detectors s))
    mapped i j d f l g h =
        let x = mapped_at (placed_detector s) (detectors s) i d g in
        let y = mapped_at (placed_detector s) (detectors s) j f h in
        subst (λ z. goes_before (place_of z) (place_of f) ≡ true) (sym x.2)
        (subst (λ z. goes_before (place_of (placed_detector s x.0)) (place_of z) ≡ true)
        (sym y.2)
        (sorted_at stands_before (detectors s) i j x.0 y.0 (sorted_detectors s) x.1 y.1 l))

pub map_in_order : (m : Placed) → IsMap m → AreInOrder m.detectors
map_in_order m i =
    in_order i.schedule m.detectors (detectors_are i.schedule m m.detectors i.given refl)

pub few_detectors : (s : Schedule) (ds : List PlacedDetector) →
    ds ≡ map (placed_detector s) (detectors s) → length ds ≡ length (detectors s)
few_detectors s ds e = ap length e ∙ length_map (placed_detector s) (detectors s)

-- ---- the edge of a mechanism

abbrev pub edge_with : ℕ → Option ℕ → ℕ → List ℕ → GraphEdge
edge_with n o w mask = record { first = n; second = o; weight = w; mask = mask }

pub same_edge : (n : ℕ) (o : Option ℕ) (w v : ℕ) (mask other : List ℕ) → w ≡ v → mask ≡ other →
    edge_with n o w mask ≡ edge_with n o v other
same_edge n o w v mask other h k = λ j. edge_with n o (h j) (k j)

abbrev pub edge_made : Schedule → Mechanism → Ends → List ℕ → Option GraphEdge
edge_made s e NoEnd mask = None
edge_made s e (One n) mask = Some (edge_with n None (weight_of_class s e.class) mask)
edge_made s e (Two n m) mask = Some (edge_with n (Some m) (weight_of_class s e.class) mask)

between_is : (s : Schedule) (e : Mechanism) (xs mask : List ℕ) →
    edge_made s e (first_two xs) mask ≡ edge_between s e xs mask
between_is s e [] mask = refl
between_is s e (x ∷ []) mask = refl
between_is s e (x ∷ y ∷ xs) mask = refl

pub edge_is : (s : Schedule) → IsAccepted s → (e : Mechanism) → IsMechanism s e →
    (ds : List PlacedDetector) → ds ≡ map (placed_detector s) (detectors s) → (ends : Ends) →
    ends ≡ first_two (ends_found ds e) →
    edge_made s e ends (odd_places s e (watched s)) ≡ edge_of s (checked s) (watched s) e
edge_is s a e i ds given ends first =
    ap (λ x. edge_made s e x (odd_places s e (watched s))) (first
    ∙ ap first_two (ap (λ xs. ends_found xs e) given
    ∙ sym (ends_are s (sound s a) (long_merges s a) e i)))
    ∙ between_is s e (odd_places s e (checked s)) (odd_places s e (watched s))

pub source_is : (s : Schedule) (e : Mechanism) (o : Option GraphEdge) →
    o ≡ edge_of s (checked s) (watched s) e → source_of s e ≡ cond (is_some o) (e ∷ []) []
source_is s e o h =
    by_list (odd_places s e (checked s)) ∙ ap (λ x. cond (is_some x) (e ∷ []) []) (sym h)
  where
    by_list : (xs : List ℕ) →
        cond (list_any (λ n. true) xs) (e ∷ []) []
        ≡ cond (is_some (edge_between s e xs (odd_places s e (watched s)))) (e ∷ []) []
    by_list [] = refl
    by_list (x ∷ xs) = refl
