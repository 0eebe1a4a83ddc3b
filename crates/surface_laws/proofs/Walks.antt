-- Walks from a detector to an edge with one end, inside its slot and tile.
use Rattle.std.proofs.Common.{◌≡◌, ℕ, zero, suc, ◌+◌, ◌*◌, ◌/◌, ◌<◌, ◌≤◌, ⊎_elim, inl, inr, Bool, true, false, cond, refl, sym, ap, ◌∙◌, arith, eq-eqb, subst, List, [], ◌∷◌, map, length, fold, max, Some, None, slice_get, get_or}
use Rattle.std.specs.Prelude.{option_map}
use Rattle.std.specs.List.{range_with_len, filter_map}
use Rattle.std.specs.Option.{option_map_or}
use Rattle.std.proofs.lemmas.Bool.{cases_eq, and_from, false≢true}
use Rattle.std.proofs.lemmas.Option.{none-some, same_Some, slice_get-map}
use Rattle.std.proofs.Math.Nat.{mul-le-mul_right}
use Rattle.graph_model.specs.declared.Tag.{Tag}
use Rattle.window_model.specs.Grounded.{ReachesOut, leaves, stays}
use Rattle.surface_model.specs.Schedules.{Schedule, PatchLine}
use Rattle.surface_model.specs.Layout.{Place, Region, last_slot, grid, board, board_height, board_width, patch_at}
use Rattle.surface_model.specs.Measurements.{Measurement, same_place, Detector, detector_bits, detector_at, detectors}
use Rattle.surface_model.specs.Errors.{Mechanism, flips_bit, mechanisms, graph_of}
use Rattle.surface_model.specs.Tags.{tag_of, tags_of}
use Rattle.graph_model.specs.Members.{In}
use Rattle.graph_model.proofs.Elements.{map_in, flat_map_in, filter_map_in, place_in, in_at, get_in, range_in, greatest_from, greatest_in}
use Rattle.surface_laws.proofs.Sound.{Sound}
use Rattle.surface_laws.proofs.Geometry.{IsCheck, Covers, HasQubit, IsBlock, tile_order}
use Rattle.surface_laws.proofs.Spots.{Spot, region, IsSpot, top, left, tall, wide, block, tile_of}
use Rattle.surface_laws.proofs.Flips.{flipped, same_place_self}
use Rattle.surface_laws.proofs.Ends.{detector_is, flipped_is, flips_of, same_detector, one_detector}
use Rattle.surface_laws.proofs.Graphs.{edge_at, ends_at_is, only_end}
use Rattle.surface_laws.proofs.Tallies.{tally}
use Rattle.surface_laws.proofs.Steps.{InTile, Spans, Side, Faces, is_vertical, far_from, Parity, Step, goes, step, Up, Down, ToLeft, ToRight}
use Rattle.surface_laws.proofs.Steps.Step.{leaves as ends_here}

-- ---- tiles

row_tile : (n d : ℕ) → (n / (d + 1) * (d + 1) ≤ n) × (n ≤ n / (d + 1) * (d + 1) + d)
row_tile n d = (omega arith, omega arith)

pub in_tile : (d : ℕ) (c : Place) → InTile d (c.row / (d + 1)) (c.column / (d + 1)) c
in_tile d c = let r = row_tile c.row d in let l = row_tile c.column d in
    record { low = r.0; high = r.1; left = l.0; right = l.1 }

same_tile : (d x n : ℕ) → x * (d + 1) ≤ n → n ≤ x * (d + 1) + d → n / (d + 1) ≡ x
same_tile d x n l h =
    let k = row_tile n d in let a = tile_order d x (n / (d + 1)) n n l k.1 (omega arith) in
    let b = tile_order d (n / (d + 1)) x n n k.0 h (omega arith) in omega (arith, a, b)

pub spans_of : (d : ℕ) (r : Region) (a b k l x y : ℕ) (c : Place) → IsBlock d r a b k l →
    IsCheck r c → InTile d x y c → Spans d r x y
spans_of d r a b k l x y c e h t =
    let p = mul-le-mul_right (d + 1) (tile_order d a x c.row c.row (omega (arith, e.top, h.low))
    t.high (omega arith)) in
    let q = mul-le-mul_right (d + 1) (tile_order d x (a + k) c.row c.row t.low (omega (
      arith,
      e.bottom,
      h.high,
    )) (omega arith)) in
    let u = mul-le-mul_right (d + 1) (tile_order d b y c.column c.column (omega (
      arith,
      e.left,
      h.left,
    )) t.right (omega arith)) in
    let v = mul-le-mul_right (d + 1) (tile_order d y (b + l) c.column c.column t.left (omega (
      arith,
      e.right,
      h.right,
    )) (omega arith)) in
    record {
      low = omega (arith, e.top, p);
      high = omega (arith, e.bottom, q);
      left = omega (arith, e.left, u);
      right = omega (arith, e.right, v);
    }

-- the side that a tile of at most two faces
pub record Way (d : ℕ) (r : Region) (x y : ℕ) (vertical : Bool) : Type 0 where
  pub side : Side
  pub is : is_vertical side ≡ vertical
  pub faces : Faces d r x y side

pub way : (d : ℕ) (r : Region) (a b k l x y : ℕ) (c : Place) (vertical : Bool) → k ≤ 1 → l ≤ 1 →
    IsBlock d r a b k l → IsCheck r c → InTile d x y c → Way d r x y vertical
way d r a b k l x y c true small thin e h t =
    let p = tile_order d a x c.row c.row (omega (arith, e.top, h.low)) t.high (omega arith) in
    let q = tile_order d x (a + k) c.row c.row t.low (omega (arith, e.bottom, h.high))
    (omega arith) in
    ⊎_elim (λ m. record { side = Up; is = refl; faces = e.top ∙ ap (λ n. n * (d + 1)) m }) (λ m.
    record {
      side = Down;
      is = refl;
      faces = e.bottom ∙ ap (λ n. n * (d + 1) + d) (let o : a + k
          ≡ x = omega (arith, p, q, m) in o);
    }) (cases_eq a x)
way d r a b k l x y c false small thin e h t =
    let p = tile_order d b y c.column c.column (omega (arith, e.left, h.left)) t.right
    (omega arith) in
    let q = tile_order d y (b + l) c.column c.column t.left (omega (arith, e.right, h.right))
    (omega arith) in
    ⊎_elim (λ m. record { side = ToLeft; is = refl; faces = e.left ∙ ap (λ n. n * (d + 1)) m })
    (λ m. record {
      side = ToRight;
      is = refl;
      faces = e.right ∙ ap (λ n. n * (d + 1)
          + d) (let o : b + l ≡ y = omega (arith, p, q, m) in o);
    }) (cases_eq b y)

-- ---- the board

pub on_grid : (h w : ℕ) (p : Place) → p.row < h → p.column < w → In p (grid h w)
on_grid h w p a b =
    flat_map_in (λ i. map (λ j. record { row = i; column = j }) (range_with_len 0 w))
    (range_with_len 0 h) p.row p (range_in 0 h p.row (omega arith) (omega arith))
    (map_in (λ j. record { row = p.row; column = j }) (range_with_len 0 w) p.column
    (range_in 0 w p.column (omega arith) (omega arith)))

-- a region's corners, and so its qubits, are on the board
pub on_board : (s : Schedule) → Sound s → (a : Spot) → IsSpot s a → (p : Place) → p.row
    ≤ (region s a).row + (region s a).height → p.column ≤ (region s a).column + (region s a).width →
    In p (board s)
on_board s ok a i p h k =
    let t = tile_of s ok a i (top s a + tall s a) (left s a + wide s a) (omega arith) (omega arith)
    (omega arith) (omega arith) in
    let e = block s a in
    let rows = greatest_in 0 (map (λ (x : PatchLine). x.row) s.patches)
    (patch_at s t.patch).row (map_in (λ (x : PatchLine). x.row) s.patches (patch_at s t.patch)
    (get_in s.patches t.patch _ t.known)) in
    let columns = greatest_in 0 (map (λ (x : PatchLine). x.column) s.patches)
    (patch_at s t.patch).column (map_in (λ (x : PatchLine). x.column) s.patches
    (patch_at s t.patch) (get_in s.patches t.patch _ t.known)) in
    let below : top s a + tall s a ≤ fold max 0 (map (λ (x : PatchLine). x.row) s.patches) =
    omega (arith, t.row, rows) in
    let beside : left s a + wide s a ≤ fold max 0 (map (λ (x : PatchLine). x.column) s.patches) =
    omega (arith, t.column, columns) in
    let b = mul-le-mul_right (s.distance + 1) below in
    let c = mul-le-mul_right (s.distance + 1) beside in
    on_grid (board_height s) (board_width s) p (omega (arith, b, h, e.bottom)) (omega (
      arith,
      c,
      k,
      e.right,
    ))

-- ---- detectors by slot and corner

pub record Numbered (s : Schedule) (t : ℕ) (c : Place) : Type 0 where
  pub number : ℕ
  pub detector : Detector
  pub is : slice_get (detectors s) number ≡ Some detector
  pub slot : detector.slot ≡ t
  pub corner : detector.corner ≡ c

pub numbered : (s : Schedule) (t : ℕ) (c : Place) (bits : List Measurement) → t ≤ last_slot s →
    In c (board s) → detector_bits s t c ≡ Some bits → Numbered s t c
numbered s t c bits l m e =
    let d : Detector = record { slot = t; corner = c; bits = bits } in
    let k = place_in (detectors s) d
    (flat_map_in (λ u. filter_map (detector_at s u) (board s)) (range_with_len 0 (last_slot s + 1))
    t d (range_in 0 (last_slot s + 1) t (omega arith) (omega arith))
    (filter_map_in (detector_at s t) (board s) c d m (ap (λ o.
    option_map_or (λ b. Some (record { slot = t; corner = c; bits = b })) o None) e))) in
    record { number = k.0; detector = d; is = k.1; slot = refl; corner = refl }

cond_true : (b : Bool) → b ≡ true → cond {A = ℕ} b 1 0 ≡ 1
cond_true true h = refl
cond_true false h = absurd (false≢true h)

has_one : {X : Type 0} (p : X → Bool) (zs : List X) (v : ℕ) (y : X) → slice_get zs v ≡ Some y →
    p y ≡ true → 1 ≤ tally p zs
has_one p [] v y c e = absurd (none-some y c)
has_one p (z ∷ zs) zero y c e = let k = cond_true (p z) (ap p (same_Some z y c) ∙ e) in
    omega (arith, k)
has_one p (z ∷ zs) (suc v) y c e = let k = has_one p zs v y c e in omega (arith, k)

-- a test that at most one element passes
pub one_place : {X : Type 0} (p : X → Bool) (xs : List X) (u v : ℕ) (x y : X) → tally p xs ≤ 1 →
    slice_get xs u ≡ Some x → p x ≡ true → slice_get xs v ≡ Some y → p y ≡ true → u ≡ v
one_place p [] u v x y l a b c e = absurd (none-some x a)
one_place p (z ∷ zs) zero zero x y l a b c e = refl
one_place p (z ∷ zs) zero (suc v) x y l a b c e = let k = cond_true (p z) (ap p (same_Some z x a)
    ∙ b) in let h = has_one p zs v y c e in absurd (omega (arith, k, h, l))
one_place p (z ∷ zs) (suc u) zero x y l a b c e = let k = cond_true (p z) (ap p (same_Some z y c)
    ∙ e) in let h = has_one p zs u x a b in absurd (omega (arith, k, h, l))
one_place p (z ∷ zs) (suc u) (suc v) x y l a b c e =
    ap suc (one_place p zs u v x y (omega (arith, l)) a b c e)

-- ---- the walk

pub record Flipped (s : Schedule) (t : ℕ) (r : Region) (vertical : Bool) (q : Place) (u : ℕ)
    (e : Place) : Type 0 where
  pub slot : u ≡ t
  pub check : IsCheck r e
  pub near : Covers e q
  pub parity : Parity vertical e

-- errors at the qubits of a region that flip the detectors of its checks of one basis in a slot,
-- and no others
pub record IsLayer (s : Schedule) (t : ℕ) (r : Region) (x y : ℕ) (vertical : Bool) (mech : Place →
    Mechanism) (alive : Place → Type 0) : Type 0 where
  pub listed : (q : Place) → HasQubit r q → In (mech q) (mechanisms s)
  pub flips : (c q : Place) → alive c → IsCheck r c → Parity vertical c → HasQubit r q →
      Covers c q → flipped s (flips_bit s (mech q)) t c ≡ true
  pub only : (q : Place) (u : ℕ) (e : Place) → u ≤ last_slot s → HasQubit r q →
      flipped s (flips_bit s (mech q)) u e ≡ true → Flipped s t r vertical q u e
  pub carried : (c e : Place) → alive c → IsCheck r c → Parity vertical c → Parity vertical e →
      InTile s.distance x y c → InTile s.distance x y e → IsCheck r e →
      ((other : Region) → Spans s.distance other x y → IsCheck other c → IsCheck other e) → alive e
  pub stands : (c : Place) → alive c → IsCheck r c → Parity vertical c → (bits : List Measurement)
      × (detector_bits s t c ≡ Some bits)
  pub seen : (c : Place) → IsCheck r c → In c (board s)

module _ (s : Schedule) (ok : Sound s) (t : ℕ) (last : t ≤ last_slot s) (r : Region) (x y : ℕ)
    (side : Side) (faces : Faces s.distance r x y side) (spans : Spans s.distance r x y)
    (mech : Place → Mechanism) (alive : Place →
    Type 0) (layer : IsLayer s t r x y (is_vertical side) mech alive) where
  flips_here : (q c : Place) (n : Numbered s t c) → flipped s (flips_bit s (mech q)) t c ≡ true →
      flips_of s (mech q) n.detector ≡ true
  flips_here q c n h =
      sym (flipped_is s (flips_bit s (mech q)) n.detector
      (detector_is s n.detector (in_at (detectors s) n.number n.detector n.is)))
      ∙ ap (λ u. flipped s (flips_bit s (mech q)) u n.detector.corner) n.slot
      ∙ ap (λ e. flipped s (flips_bit s (mech q)) t e) n.corner ∙ h

  same_tag : (c e : Place) (n : Numbered s t c) (m : Numbered s t e) → InTile s.distance x y c →
      InTile s.distance x y e → slice_get (tags_of s) m.number ≡ slice_get (tags_of s) n.number
  same_tag c e n m i j =
      let a : slice_get (tags_of s) m.number ≡ Some (tag_of s m.detector) =
      slice_get-map (tag_of s) (detectors s) m.number ∙ ap (option_map (tag_of s)) m.is in
      let b : slice_get (tags_of s) n.number ≡ Some (tag_of s n.detector) =
      slice_get-map (tag_of s) (detectors s) n.number ∙ ap (option_map (tag_of s)) n.is in
      a ∙ ap Some (tag_eq (tag_of s m.detector) (tag_of s n.detector) (m.slot ∙ sym n.slot)
      (ap (λ (p : Place). p.row / (s.distance + 1)) m.corner ∙ same_tile s.distance
      x e.row j.low j.high ∙ sym (ap (λ (p : Place). p.row / (s.distance + 1)) n.corner
      ∙ same_tile s.distance x c.row i.low i.high))
      (ap (λ (p : Place). p.column / (s.distance + 1)) m.corner ∙ same_tile s.distance
      y e.column j.left j.right ∙ sym (ap (λ (p : Place). p.column / (s.distance + 1)) n.corner
      ∙ same_tile s.distance y c.column i.left i.right))) ∙ sym b
    where
      tag_eq : (a b : Tag) → a.slot ≡ b.slot → a.tile_row ≡ b.tile_row → a.tile_col ≡ b.tile_col →
          a ≡ b
      tag_eq a b e f g = λ k. record { slot = e k; tile_row = f k; tile_col = g k }

  same_number : (c : Place) (n : Numbered s t c) (v : ℕ) (d : Detector) → slice_get (detectors s) v
      ≡ Some d → d.slot ≡ t → d.corner ≡ c → v ≡ n.number
  same_number c n v d h e f =
      one_place (same_detector t c) (detectors s) v n.number d n.detector (one_detector s t c) h
      (named d e f) n.is (named n.detector n.slot n.corner)
    where
      named : (d : Detector) → d.slot ≡ t → d.corner ≡ c → same_detector t c d ≡ true
      named d e f = and_from _ _ (eq-eqb d.slot t e) (subst (λ p. same_place d.corner p
          ≡ true) f (same_place_self d.corner))

  walk : (fuel : ℕ) (c : Place) (n : Numbered s t c) → far_from r side c < fuel →
      alive c → InTile s.distance x y c → IsCheck r c → Parity (is_vertical side) c →
      ReachesOut (graph_of s) (tags_of s) n.number
  walk zero c n f a i k p = absurd (omega arith)
  walk (suc fuel) c n f a i k p = by_step (step s.distance ok.odd r x y spans c i k side faces p)
      (λ e m l b j g h. walk fuel e m (omega (arith, l, f)) b j g h)
    where
      by_step : Step s.distance r x y (is_vertical side) (far_from r side) c →
          ((e : Place) (m : Numbered s t e) → far_from r side e < far_from r side c →
          alive e → InTile s.distance x y e → IsCheck r e → Parity (is_vertical side) e →
          ReachesOut (graph_of s) (tags_of s) m.number) →
          ReachesOut (graph_of s) (tags_of s) n.number
      by_step (ends_here q has near only) more =
          let g = flips_here q c n (layer.flips c q a k p has near) in
          let w = edge_at s ok (mech q) (layer.listed q has) n.number n.detector n.is g in
          leaves w.number w.edge w.is (only_end s (mech q) w n.number n.detector n.is g alone)
        where
          alone : (u : ℕ) (d : Detector) → slice_get (detectors s) u ≡ Some d →
              flips_of s (mech q) d ≡ true → u ≡ n.number
          alone u d h e =
              let j = detector_is s d (in_at (detectors s) u d h) in
              let z = layer.only q d.slot d.corner j.last has
              (flipped_is s (flips_bit s (mech q)) d j ∙ e) in
              same_number c n u d h z.slot (only d.corner z.near z.parity z.check)
      by_step (goes q e has near also pe ie less ke other) more =
          let b = layer.carried c e a k p pe i ie ke other in
          let bits = layer.stands e b ke pe in
          let m = numbered s t e bits.0 last (layer.seen e ke) bits.1 in
          let g = flips_here q c n (layer.flips c q a k p has near) in
          let h = flips_here q e m (layer.flips e q b ke pe has also) in
          let w = edge_at s ok (mech q) (layer.listed q has) n.number n.detector n.is g in
          stays w.number m.number (ends_at_is s (mech q) w n.number n.detector n.is
          ∙ g) (ends_at_is s (mech q) w m.number m.detector m.is
          ∙ h) (same_tag c e n m i ie) (more e m less b ie ke pe)

  pub reaches : (c : Place) (n : Numbered s t c) → alive c → InTile s.distance x y c → IsCheck r c →
      Parity (is_vertical side) c → ReachesOut (graph_of s) (tags_of s) n.number
  reaches c n a i k p = walk (suc (far_from r side c)) c n (omega arith) a i k p
