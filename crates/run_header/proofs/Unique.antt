-- A graph has one plan: its cells are those of its detectors, by rank, and all else follows from
-- the cells.
use Rattle.std.proofs.Common.{◌≡◌, ℕ, zero, suc, ◌<◌, ◌≤◌, ◌⊎◌, ⊎_elim, inl, inr, List, [], ◌∷◌, refl, sym, ap, ◌∙◌, subst, arith, length, map, get_or, Contains, AllPairs, slice_get, Some}
use Rattle.std.specs.Ordering.{ordering_reverse}
use Rattle.std.specs.declared.cmp.Ordering.TheVariants.{Less, Greater}
use Rattle.std.specs.List.{range_with_len}
use Rattle.std.proofs.lemmas.Bool.{cases_lt}
use Rattle.std.proofs.lemmas.Cmp.{nat_list_cmp_total}
use Rattle.std.proofs.lemmas.List.{ext_get_or, get_or-map, length-map}
use Rattle.std.proofs.lemmas.List.Elements.{All-contains}
use Rattle.std.proofs.lemmas.Option.{slice_get-get_or, slice_get_within, get_or_from_slice_get}
use Rattle.graph_model.specs.Graph.{DetectorGraph}
use Rattle.graph_model.specs.declared.Tag.{Tag}
use Rattle.window_model.specs.Cells.{Cell, CellOrder, IsRankedBelow, AreWindowCells, AreHomes, rank_key, cell_of}
use Rattle.window_model.specs.Windows.{Window, WindowPlan, IsPlan, window_of}

-- ---- two lists that rise and have the same members
module _ {X : Type 0} (R : X → X → Type 0) (one_way : (x y : X) → R x y → R y x → ⊥) where
  heads : (x : X) (xs : List X) → AllPairs R (x ∷ xs) → (y : X) → Contains (x ∷ xs) y →
      (x ≡ y) ⊎ (Contains xs y × R x y)
  heads x xs up y (zero, l, e) = inl e
  heads x xs up y (suc k, l, e) =
      inr ((k, omega arith, e), subst (R x) e (up 0 (suc k) y (omega arith) l))

  tail : (x : X) (xs : List X) → AllPairs R (x ∷ xs) → AllPairs R xs
  tail x xs up i j d l within = up (suc i) (suc j) d (omega arith) (omega arith)

  first : (x : X) (xs : List X) → Contains (x ∷ xs) x
  first x xs = (0, omega arith, refl)

  later : (x : X) (xs : List X) (y : X) → Contains xs y → Contains (x ∷ xs) y
  later x xs y (k, l, e) = (suc k, omega arith, e)

  -- a member of one tail isn't the head of the other
  behind : (x : X) (xs ys : List X) → AllPairs R (x ∷ xs) → AllPairs R (x ∷ ys) → ((z : X) →
      Contains (x ∷ xs) z → Contains (x ∷ ys) z) → (z : X) → Contains xs z → Contains ys z
  behind x xs ys up up' within z (k, l, e) =
      let above : R x z = subst (R x) e (up 0 (suc k) z (omega arith) (omega arith)) in
      ⊎_elim
      (λ (same : x ≡ z). let itself : R x x = subst (R x) (sym same) above in
      absurd (one_way x x itself itself))
      (λ (m : Contains ys z × R x z). m.0)
      (heads x ys up' z (within z (later x xs z (k, l, e))))

  same_head : (x y : X) (xs ys : List X) → AllPairs R (x ∷ xs) → AllPairs R (y ∷ ys) →
      Contains (x ∷ xs) y → Contains (y ∷ ys) x → x ≡ y
  same_head x y xs ys up up' m n =
      ⊎_elim
      (λ (e : x ≡ y). e)
      (λ (p : Contains xs y × R x y). ⊎_elim (λ (e : y ≡ x). sym e) (λ (q : Contains ys x × R y x).
      absurd (one_way x y p.1 q.1)) (heads y ys up' x n))
      (heads x xs up y m)

  pub same_members : (xs ys : List X) → AllPairs R xs → AllPairs R ys → ((z : X) → Contains xs z →
      Contains ys z) → ((z : X) → Contains ys z → Contains xs z) → xs ≡ ys
  same_members [] [] up up' there back = refl
  same_members [] (y ∷ ys) up up' there back = let m = back y (first y ys) in
      absurd (omega (arith, m.1))
  same_members (x ∷ xs) [] up up' there back = let m = there x (first x xs) in
      absurd (omega (arith, m.1))
  same_members (x ∷ xs) (y ∷ ys) up up' there back =
      let e : x ≡ y = same_head x y xs ys up up' (back y (first y ys)) (there x (first x xs)) in
      let up'' : AllPairs R (x ∷ ys) = subst (λ w. AllPairs R (w ∷ ys)) (sym e) up' in
      let there' : (z : X) → Contains (x ∷ xs) z → Contains (x ∷ ys) z =
      λ z m. subst (λ w. Contains (w ∷ ys) z) (sym e) (there z m) in
      let back' : (z : X) → Contains (x ∷ ys) z → Contains (x ∷ xs) z =
      λ z m. back z (subst (λ w. Contains (w ∷ ys) z) e m) in
      let rest : xs ≡ ys = same_members xs ys (tail x xs up) (tail x ys up'')
      (behind x xs ys up up'' there') (behind x ys xs up'' up back') in cc

  -- a member stands in one place
  not_before : (xs : List X) (i j : ℕ) (x : X) → AllPairs R xs → slice_get xs i ≡ Some x →
      slice_get xs j ≡ Some x → i < j → ⊥
  not_before xs i j x up a b l =
      let above = up i j x l (slice_get_within xs j x b) in
      let itself : R x x = subst (λ w. R w x) (get_or_from_slice_get xs i x x a)
      (subst (λ w. R (get_or xs i x) w) (get_or_from_slice_get xs j x x b) above) in
      one_way x x itself itself

  pub one_place : (xs : List X) (i j : ℕ) (x : X) → AllPairs R xs → slice_get xs i ≡ Some x →
      slice_get xs j ≡ Some x → i ≡ j
  one_place xs i j x up a b =
      ⊎_elim
      (λ (l : i < j). absurd (not_before xs i j x up a b l))
      (λ (g : j ≤ i). ⊎_elim (λ (l : j < i). absurd (not_before xs j i x up b a l)) (λ (h : i ≤ j).
      omega arith) (cases_lt j i))
      (cases_lt i j)

ranked_one_way : (order : CellOrder) (one two : Cell) → IsRankedBelow order one two →
    IsRankedBelow order two one → ⊥
ranked_one_way order one two h k =
    let turned = nat_list_cmp_total.antisymm (rank_key order one) (rank_key order two) in
    let both : Less ≡ Greater = sym h ∙ turned ∙ ap ordering_reverse k in cc

-- ---- plans
no_tag : Tag
no_tag = record { slot = 0; tile_row = 0; tile_col = 0 }

-- what is among the cells of a plan is the cell of a detector, and so among those of any other
among : (order : CellOrder) (commit : ℕ) (tags : List Tag) (one two : List Cell) →
    AreWindowCells order commit tags one → AreWindowCells order commit tags two → (cell : Cell) →
    Contains one cell → Contains two cell
among order commit tags one two is also cell m =
    let of_tag = All-contains (λ c. Contains (map (cell_of commit) tags) c) one cell is.inhabited
    m in
    let inside : of_tag.0 < length tags =
    omega (arith, of_tag.1, length-map tags (cell_of commit)) in
    let here : cell_of commit (get_or tags of_tag.0 no_tag) ≡ cell =
    sym (get_or-map (cell_of commit) tags of_tag.0 no_tag cell inside) ∙ of_tag.2 in
    subst (Contains two) here (also.complete of_tag.0 no_tag inside)

same_cells : (order : CellOrder) (commit : ℕ) (tags : List Tag) (one two : List Cell) →
    AreWindowCells order commit tags one → AreWindowCells order commit tags two → one ≡ two
same_cells order commit tags one two is also =
    same_members (IsRankedBelow order) (ranked_one_way order) one two is.ranked also.ranked
    (among order commit tags one two is also) (among order commit tags two one also is)

same_homes : (order : CellOrder) (commit : ℕ) (tags : List Tag) (cells : List Cell)
    (one two : List ℕ) → AreWindowCells order commit tags cells → AreHomes commit tags cells one →
    AreHomes commit tags cells two → one ≡ two
same_homes order commit tags cells one two are is also =
    ext_get_or 0 one two (is.each_one ∙ sym also.each_one) (λ v l.
    let tag : slice_get tags v ≡ Some (get_or tags v no_tag) =
    slice_get-get_or tags v no_tag (let e = is.each_one in omega (arith, e, l)) in
    one_place (IsRankedBelow order) (ranked_one_way order) cells (get_or one v 0) (get_or two v 0)
    (cell_of commit (get_or tags v no_tag)) are.ranked (is.home v _ tag) (also.home v _ tag))

abbrev made : List Cell → List ℕ → List Window → WindowPlan
made cells homes windows = record { cells = cells; homes = homes; windows = windows }

pub plan_unique : (g : DetectorGraph) (tags : List Tag) (order : CellOrder) (commit buffer : ℕ)
    (p q : WindowPlan) → IsPlan g tags order commit buffer p → IsPlan g tags order commit buffer q →
    p ≡ q
plan_unique g tags order commit buffer p q is also =
    let cells : p.cells ≡ q.cells =
    same_cells order commit tags p.cells q.cells is.cells also.cells in
    let homes : p.homes ≡ q.homes = same_homes order commit tags q.cells p.homes q.homes also.cells
    (subst (λ cells. AreHomes commit tags cells p.homes) cells is.homes) also.homes in
    let windows : p.windows ≡ q.windows =
    is.windows ∙ ap (λ cells. map (window_of g tags p.homes (length cells) buffer)
    (range_with_len 0 (length cells))) cells
    ∙ ap (λ homes. map (window_of g tags homes (length q.cells) buffer)
    (range_with_len 0 (length q.cells))) homes ∙ sym also.windows in
    let same : made p.cells p.homes p.windows ≡ made q.cells q.homes q.windows = cc in same
