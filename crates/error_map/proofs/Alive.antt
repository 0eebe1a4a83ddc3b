-- The active qubits of a slot, from its regions.
use Rattle.std.proofs.Common.{◌≡◌, ℕ, suc, ◌<◌, ◌==◌, ◌&&◌, ◌||◌, ⊎_elim, inl, inr, Bool, true, List, [], ◌∷◌, Some, refl, sym, ap, ◌∙◌, arith, subst, map, filter, flat_map, Contains, slice_get}
use Rattle.std.specs.Prelude.{nat_lt}
use Rattle.std.specs.List.{list_any}
use Rattle.std.specs.Ordering.{is_lt}
use Rattle.std.proofs.lemmas.Bool.Decides.{nat_tests}
use Rattle.surface_model.specs.Schedules.{Schedule}
use Rattle.surface_model.specs.Layout.{Place, Region, has_qubit, board, regions_at, is_active_at}
use Rattle.surface_model.specs.Accepted.{IsAccepted}
use Rattle.graph_model.specs.Members.{In}
use Rattle.graph_model.proofs.Elements.{mapped_at, any_in, in_any, in_filter, filter_in, in_flat_map, flat_map_in, in_map, map_in, place_in, contains_in}
use Rattle.surface_laws.proofs.Acceptance.{sound}
use Rattle.surface_laws.proofs.Spots.{found, region}
use Rattle.surface_laws.proofs.Geometry.{has_is}
use Rattle.surface_laws.proofs.Walks.{on_board}
use Rattle.error_map.specs.Active.{AreQubits, key_place}
use Rattle.error_map.specs.Ends.{is_before}
use Rattle.error_map.specs.Keys.{AreDistinct, key_of, region_keys}
use Rattle.error_map.proofs.Found.{sorted_board}
use Rattle.error_map.specs.declared.keys.Key.{Key}
use Rattle.error_map.proofs.Keyed.{below_is, is_there, rises}
use Rattle.error_map.proofs.Ordered.{AreSorted, sorted-filter}
use Rattle.error_map.proofs.ReadAt.{in_region, region_in}
use Rattle.error_map.proofs.Seeing.{in_contains}

-- ---- sorted lists with the same members

same_sorted : {X : Type 0} (r : X → X → Bool) → ((x y : X) → r x y ≡ true → r y x ≡ true → ⊥) →
    (xs ys : List X) → AreSorted r xs → AreSorted r ys → ((x : X) → In x xs → In x ys) →
    ((x : X) → In x ys → In x xs) → xs ≡ ys
same_sorted r apart [] [] a b there back = refl
same_sorted r apart [] (y ∷ ys) a b there back = absurd (back y (inl refl))
same_sorted r apart (x ∷ xs) [] a b there back = absurd (there x (inl refl))
same_sorted r apart (x ∷ xs) (y ∷ ys) a b there back =
    ap (λ z. z ∷ xs) heads ∙ ap (λ zs. y ∷ zs) (same_sorted r apart xs ys a.1 b.1
    (λ z m. ⊎_elim
    (λ (e : y ≡ z). absurd (self z (subst (λ w. r w z ≡ true) (heads ∙ e) (a.0 z m)))) (λ n. n)
    (there z (inr m)))
    (λ z m. ⊎_elim
    (λ (e : x ≡ z). absurd (self z (subst (λ w. r w z ≡ true) (sym heads ∙ e) (b.0 z m))))
    (λ n. n) (back z (inr m))))
  where
    self : (z : _) → r z z ≡ true → ⊥
    self z h = apart z z h h

    heads : x ≡ y
    heads = ⊎_elim (λ (e : y ≡ x). sym e)
        (λ m. ⊎_elim (λ (e : x ≡ y). e) (λ n. absurd (apart x y (a.0 y n) (b.0 x m)))
        (back y (inl refl))) (there x (inl refl))

sorted_pairs : {X : Type 0} (r : X → X → Bool) (xs : List X) →
    ((i j : ℕ) (x y : X) → i < j → slice_get xs i ≡ Some x → slice_get xs j ≡ Some y →
    r x y ≡ true) → AreSorted r xs
sorted_pairs r [] h = tt
sorted_pairs r (x ∷ xs) h = (
  λ y m. let k = place_in xs y m in
      h 0 (suc k.0) x y (omega arith) refl k.1,
  sorted_pairs r xs
      (λ i j y z l e f. h (suc i) (suc j) y z (omega (arith, l)) e f),
)

not_both : (a b x y : ℕ) → (nat_lt a x || (a == x && nat_lt b y)) ≡ true →
    (nat_lt x a || (x == a && nat_lt y b)) ≡ true → ⊥
not_both a b x y h k = grind (arith, nat_tests)

-- ---- the qubits of regions, from their keys

module _ (regions : List Region) (keys distinct : List Key) (given : keys
    ≡ flat_map (region_keys 0) regions) (d : AreDistinct keys distinct) where
  of_region : (key : Key) → Contains distinct key → (q : Place) × (key ≡ key_of 0 q)
      × (list_any (λ r. has_qubit r q) regions ≡ true)
  of_region key m =
      let r = in_flat_map (region_keys 0) regions key
      (subst (In key) given (in_contains keys key (d.inhabited key m))) in
      let q = in_region 0 r.0 key r.2 in
      (q.0, q.2, in_any (λ r. has_qubit r q.0) regions r.0 r.1 q.1)

  below : (a b x y : ℕ) → (nat_lt a x || (a == x && (nat_lt b y || (b == y && nat_lt 0 0))))
      ≡ true → (nat_lt a x || (a == x && nat_lt b y)) ≡ true
  below a b x y h = grind (arith, nat_tests)

  key_read : (i : ℕ) (q : Place) → slice_get (map key_place distinct) i ≡ Some q →
      slice_get distinct i ≡ Some (key_of 0 q)
  key_read i q e =
      let k = mapped_at key_place distinct i q e in
      let s = of_region k.0 (is_there distinct i k.0 k.1) in
      let same : s.0 ≡ q = sym (k.2 ∙ ap key_place s.1) in
      k.1 ∙ ap Some (s.1 ∙ ap (key_of 0) same)

  pub are_qubits : (qubits : List Place) → qubits ≡ map key_place distinct →
      AreQubits regions qubits
  are_qubits qubits e = subst (AreQubits regions) (sym e) (record {
    rising = λ i j p q l f g. below p.row p.column q.row q.column
        (sym (below_is p.row p.column 0 q.row q.column 0)
        ∙ ap is_lt (rises distinct d.rising i j (key_of 0 p) (key_of 0 q) l (key_read i p f)
        (key_read j q g)));
    complete = λ q h. let r = any_in (λ r. has_qubit r q) regions h in
        let m = flat_map_in (region_keys 0) regions r.0 (key_of 0 q) r.1 (region_in 0 r.0 q r.2) in
        contains_in (map key_place distinct) q
        (map_in key_place distinct (key_of 0 q)
        (in_contains distinct (key_of 0 q)
        (d.complete (key_of 0 q)
        (contains_in keys (key_of 0 q) (subst (In (key_of 0 q)) (sym given) m)))));
    sound = λ q m. let k = in_map key_place distinct q (in_contains (map key_place distinct) q m) in
        let s = of_region k.0 (contains_in distinct k.0 k.1) in
        subst (λ p. list_any (λ r. has_qubit r p) regions ≡ true) (sym (ap key_place s.1)
        ∙ k.2) s.2;
  })

-- ---- those of a slot

active_on_board : (s : Schedule) → IsAccepted s → (t : ℕ) (q : Place) → is_active_at s t q ≡ true →
    In q (board s)
active_on_board s a t q h =
    let f = found s (sound s a) t (λ r. has_qubit r q) h in
    let k = has_is (region s f.spot) q f.passes in
    on_board s (sound s a) f.spot f.known q (omega (arith, k.high)) (omega (arith, k.right))

pub active_are : (s : Schedule) → IsAccepted s → (t : ℕ) (regions read : List Region) →
    regions ≡ regions_at s t → read ≡ regions → (qubits : List Place) → AreQubits read qubits →
    qubits ≡ filter (is_active_at s t) (board s)
active_are s a t regions read g h qubits k =
    same_sorted is_before (λ p q. not_both p.row p.column q.row q.column) qubits
    (filter (is_active_at s t) (board s)) (sorted_pairs is_before qubits k.rising)
    (sorted-filter is_before (is_active_at s t) (board s) (sorted_board s))
    (λ q m. let l = subst (λ rs. list_any (λ r. has_qubit r q) rs ≡ true) (h
    ∙ g) (k.sound q (contains_in qubits q m)) in
    filter_in (is_active_at s t) (board s) q (active_on_board s a t q l) l)
    (λ q m. in_contains qubits q
    (k.complete q (subst (λ rs. list_any (λ r. has_qubit r q) rs ≡ true) (sym (h ∙ g))
    (in_filter (is_active_at s t) (board s) q m).1)))
