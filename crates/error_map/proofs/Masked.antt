-- The observables that a mechanism flips, one by one.
use Rattle.std.proofs.Common.{◌≡◌, ◌==◌, ℕ, zero, suc, ◌+◌, ◌<◌, ◌≤◌, ⊎_elim, inl, inr, flat_map, fold, max, ◌*◌, false, refl, sym, ap, ◌∙◌, arith, subst, length, Some, List, [], ◌∷◌, map, filter, slice_get, get_or, Contains, All}
use Rattle.std.specs.Prelude.{option_map}
use Rattle.std.specs.List.{range_with_len}
use Rattle.std.specs.Option.{option_map_or}
use Rattle.std.proofs.lemmas.Option.{slice_get-map, slice_get_within}
use Rattle.patch_layout.specs.Seen.{most_coordinate}
use Rattle.graph_model.specs.Parity.{parity}
use Rattle.surface_model.specs.Schedules.{MergeLine, PatchLine, ReadLine, Schedule}
use Rattle.surface_model.specs.Layout.{Place, board, board_height, board_width, last_slot}
use Rattle.surface_model.specs.Measurements as measurements
use Rattle.surface_model.specs.Measurements.{bits_of_slot, Observable, observables, merge_observables, read_observable}
use Rattle.surface_model.specs.Errors.{Mechanism, flips_bit, mechanisms, watched}
use Rattle.surface_model.specs.Accepted.{IsAccepted}
use Rattle.surface_model.specs.Limits.{last_named_slot}
use Rattle.graph_model.specs.Members.{In}
use Rattle.graph_model.proofs.Elements.{in_append, in_flat_map, in_map, in_filter, in_at, all_at}
use Rattle.surface_laws.proofs.Sound.{Sound}
use Rattle.surface_laws.proofs.Acceptance.{sound}
use Rattle.surface_laws.proofs.Flips.{in_grid}
use Rattle.std.proofs.Math.Nat.{mul-le-mul_right}
use Rattle.surface_laws.proofs.Graphs.{length_map}
use Rattle.surface_laws.proofs.Ends.{IsMechanism, mechanism_is}
use Rattle.surface_laws.proofs.Slots.{line_observables, masks_law}
use Rattle.measure_map.specs.Placed.{map_of, Placed, PlacedObservable, place_of, placed_observable}
use Rattle.error_map.specs.declared.types.Effect.{Effect}
use Rattle.error_map.specs.Seen.{error_in}
use Rattle.error_map.specs.Sees.{IsEffect, flips_observable, sees_place}
use Rattle.error_map.proofs.Listed.{lines_count, line_at}
use Rattle.error_map.proofs.Nearest.{read_by_last, split_by_last}
use Rattle.error_map.proofs.Seeing.{in_contains, observable_odd, places_within, placed_at}

pub member_is : (s : Schedule) (e : Mechanism) → Contains (mechanisms s) e → IsMechanism s e
member_is s e c = mechanism_is s e (in_contains (mechanisms s) e c)

-- the slot of an observable is one up to the last
slot_by_last : (s : Schedule) → Sound s → (o : Observable) → In o (observables s) →
    o.slot ≤ last_slot s
slot_by_last s ok o h =
    let k = in_flat_map (line_observables s) (range_with_len 0 s.rounds_line) o h in
    ⊎_elim (λ b. let i = in_flat_map (merge_observables s)
    (filter (λ (n : MergeLine). n.line == k.0) s.merges) o b in
    of_merge i.0 (in_filter (λ (n : MergeLine). n.line == k.0) s.merges i.0 i.1).0 i.2)
    (λ b. let i = in_map (read_observable s) (filter (λ (r : ReadLine). r.line == k.0) s.reads) o
    b in
    subst (λ (x : Observable). x.slot ≤ last_slot s) i.2
    (read_by_last s i.0 (in_filter (λ (r : ReadLine). r.line == k.0) s.reads i.0 i.1).0))
    (in_append (flat_map (merge_observables s) (filter (λ (n : MergeLine). n.line == k.0) s.merges))
    (map (read_observable s) (filter (λ (r : ReadLine). r.line == k.0) s.reads)) o k.2)
  where
    of_merge : (n : MergeLine) → In n s.merges → In o (merge_observables s n) → o.slot ≤ last_slot s
    of_merge n i m =
        let l = split_by_last s ok n i in
        ⊎_elim (λ e. let f = ap (λ (x : Observable). x.slot) e in omega (arith, l, f))
        (λ m. ⊎_elim (λ e. let f = ap (λ (x : Observable). x.slot) e in
        omega (arith, l, f)) (λ m. absurd m) m) m

-- what is known of the observable of a number
pub record Watching (s : Schedule) (x : PlacedObservable) (number : ℕ) : Type 0 where
  pub slot : x.slot < length (map_of s).lines
  pub within : (line : List measurements.Bit) → slice_get (map_of s).lines x.slot ≡ Some line →
      All (λ k. k < length line) x.places
  pub odd : (f : Effect) → IsMechanism s (error_in f) → IsEffect s f →
      (line : List measurements.Bit) → slice_get (map_of s).lines x.slot ≡ Some line →
      parity (sees_place f x.slot line) x.places ≡ flips_observable s (error_in f) number
  pub small : number < 512

pub watching : (s : Schedule) → IsAccepted s → (m : Placed) → m ≡ map_of s →
    (os : List PlacedObservable) → os ≡ m.observables → (number : ℕ) (x : PlacedObservable) →
    number < length os → x ≡ get_or os number x → Watching s x number
watching s a m e os f number x l at =
    let same : os ≡ (map_of s).observables = f ∙ ap (λ (p : Placed). p.observables) e in
    let k = placed_at s number x (subst (λ xs. number < length xs) same l) (at
    ∙ ap (λ xs. get_or xs number x) same) in
    let known : In k.0 (observables s) = in_at (observables s) number k.0 k.1 in
    let low : k.0.slot ≤ last_slot s = slot_by_last s (sound s a) k.0 known in
    let within : k.0.slot < length (map_of s).lines = omega (arith, low, lines_count s) in
    subst (λ (y : PlacedObservable). Watching s y number) (sym k.2) (record {
      slot = within;
      within = λ line h i d b. all_places (map (place_of s) k.0.bits) (λ j. j < length line)
          (λ j n. places_within s a k.0 known line (line_at s k.0.slot line within h) j n) i d b;
      odd = λ f i shown line h. observable_odd s a k.0 known f i shown line
          (line_at s k.0.slot line within h)
          ∙ sym (ap (λ v. option_map_or (λ bits. parity (flips_bit s (error_in f)) bits) v false)
          (slice_get-map (λ (o : Observable). o.bits) (observables s) number
          ∙ ap (option_map (λ (o : Observable). o.bits)) k.1));
      small = let n = (masks_law s a).0 in
          omega (arith, n, slice_get_within (observables s) number k.0 k.1);
    })
  where
    all_places : (xs : List ℕ) (P : ℕ → Type 0) → ((x : ℕ) → In x xs → P x) → (i d : ℕ) →
        i < length xs → P (get_or xs i d)
    all_places [] P h i d b = absurd (omega arith)
    all_places (x ∷ xs) P h zero d b = h x (inl refl)
    all_places (x ∷ xs) P h (suc i) d b = all_places xs P (λ y m. h y (inr m)) i d (omega arith)

pub observables_count : (s : Schedule) → length (map_of s).observables ≡ length (watched s)
unfolding map_of
observables_count s =
    length_map (placed_observable s) (observables s)
    ∙ sym (length_map (λ (o : Observable). o.bits) (observables s))

fold_bound : (b a : ℕ) (ns : List ℕ) → a ≤ b → ((n : ℕ) → In n ns → n ≤ b) → fold max a ns ≤ b
fold_bound b a [] l h = l
fold_bound b a (n ∷ ns) l h =
    fold_bound b (max a n) ns (omega (arith, l, h n (inl refl))) (λ m i. h m (inr i))

pub last_small : (s : Schedule) → IsAccepted s → last_slot s ≤ last_named_slot
last_small s a =
    fold_bound last_named_slot 0 (map (λ (r : ReadLine). r.slot) s.reads) (omega arith)
    (λ n i. let k = in_map (λ (r : ReadLine). r.slot) s.reads n i in
    let r = all_at (λ (x : ReadLine). (x.patch < length s.patches) × (x.slot ≤ last_named_slot))
    s.reads k.0 a.ranges.reads k.1 in omega (arith, r.1, k.2))

-- the board is small, and so its places are near
board_small : (s : Schedule) → IsAccepted s → (board_height s ≤ 192) × (board_width s ≤ 192)
board_small s a =
    let rows = fold_bound 15 0 (map (λ (x : PatchLine). x.row) s.patches) (omega arith)
    (λ n i. let k = in_map (λ (x : PatchLine). x.row) s.patches n i in
    let r = all_at (λ (x : PatchLine). (x.row ≤ 15) × (x.column ≤ 15)) s.patches k.0 a.ranges.tiles
    k.1 in omega (arith, r.0, k.2)) in
    let columns = fold_bound 15 0 (map (λ (x : PatchLine). x.column) s.patches) (omega arith)
    (λ n i. let k = in_map (λ (x : PatchLine). x.column) s.patches n i in
    let r = all_at (λ (x : PatchLine). (x.row ≤ 15) × (x.column ≤ 15)) s.patches k.0 a.ranges.tiles
    k.1 in omega (arith, r.1, k.2)) in
    let d = a.ranges.greatest in
    let h : board_height s ≤ 16 * (s.distance + 1) =
    mul-le-mul_right (s.distance + 1) (omega (arith, rows)) in
    let w : board_width s ≤ 16 * (s.distance + 1) =
    mul-le-mul_right (s.distance + 1) (omega (arith, columns)) in
    (omega (arith, h, d), omega (arith, w, d))

pub place_near : (s : Schedule) → IsAccepted s → (p : Place) → In p (board s) →
    (p.row < most_coordinate) × (p.column < most_coordinate)
place_near s a p m =
    let k = in_grid (board_height s) (board_width s) p m in
    let b = board_small s a in
    (omega (arith, k.0, b.0), omega (arith, k.1, b.1))
