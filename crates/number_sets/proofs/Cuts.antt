-- Lists in a flat list: where they lie, and what one more list changes.
use Rattle.std.proofs.Common.{◌≡◌, ℕ, zero, suc, ◌+◌, ◌-◌, ◌<◌, ◌≤◌, ⊎_elim, List, [], ◌∷◌, ◌++◌, length, length-append, get_or, map, slice_get, Some, take, drop, refl, sym, ap, ◌∙◌, subst, arith, zero-add}
use Rattle.std.specs.Prelude.{slice_index, slice_range, sum_by}
use Rattle.std.specs.List.{range_with_len}
use Rattle.std.proofs.Math.Nat.{eq-or-lt_of_le}
use Rattle.std.proofs.Math.ListN.{get_or-append}
use Rattle.std.proofs.Math.Seq.{get_or-append_seam}
use Rattle.std.proofs.lemmas.List.{drop-append-le, drop_all, take-append-le, take_all, length-drop, take_more}
use Rattle.std.proofs.lemmas.List.Edits.{length-between}
use Rattle.std.proofs.lemmas.List.FromFn.{get_or-map-range_with_len, length-map-range_with_len, map-range_with_len_more}
use Rattle.std.proofs.lemmas.List.Sums.{sum_by-append}
use Rattle.std.proofs.lemmas.Option.{slice_get-get_or}
use Rattle.graph_model.proofs.Members.{is_in-range, map_same_in}
use Rattle.number_sets.specs.Lists.{IsCut, before, lists_in}

-- what stands before an end stays
range_kept : (xs ys : List ℕ) (i j : ℕ) → i ≤ j → j ≤ length xs →
    slice_range (xs ++ ys) i j ≡ slice_range xs i j
range_kept xs ys i j le within =
    ap (take (j - i)) (drop-append-le i xs ys (omega arith))
    ∙ take-append-le (j - i) (drop i xs) ys (let k = length-drop i xs in omega (arith, k))

range_added : (xs ys : List ℕ) → slice_range (xs ++ ys) (length xs) (length xs + length ys) ≡ ys
range_added xs ys =
    ap (take ((length xs + length ys) - length xs)) (drop-append-le (length xs) xs ys (omega arith)
    ∙ ap (λ zs. zs ++ ys) (drop_all (length xs) xs (omega arith)))
    ∙ take_all ((length xs + length ys) - length xs) ys (omega arith)

pub length-lists_in : (bounds values : List ℕ) → length (lists_in bounds values) ≡ length bounds - 1
length-lists_in bounds values =
    length-map-range_with_len (λ i. slice_range values (slice_index bounds i)
    (slice_index bounds (i + 1))) 0 (length bounds - 1)

pub no_lists : (bounds values : List ℕ) → bounds ≡ 0 ∷ [] → values ≡ [] → IsCut bounds values
no_lists bounds values b v =
    subst (λ xs. IsCut xs values) (sym b) (subst (IsCut (0 ∷ [])) (sym v)
    (record {
      begun = omega arith;
      first = refl;
      rising = λ i l. absurd (omega (arith, l));
      within = λ i l. only i l;
      full = refl;
    }))
  where
    only : (i : ℕ) → i < 1 → get_or (0 ∷ []) i 0 ≤ 0
    only i l = let e : i ≡ 0 = omega arith in
        subst (λ k. get_or (0 ∷ []) k 0 ≤ 0) (sym e) (omega arith)

pub before_more : (lists : List (List ℕ)) (i : ℕ) → i < length lists →
    before lists (i + 1) ≡ before lists i + length (get_or lists i [])
before_more lists i l =
    ap (sum_by length) (take_more lists i [] l)
    ∙ sum_by-append length (take i lists) (get_or lists i [] ∷ []) ∙ omega arith

module _ (bounds values : List ℕ) (cut : IsCut bounds values) where
  pub list_at : (i : ℕ) (d : List ℕ) → i < length (lists_in bounds values) →
      get_or (lists_in bounds values) i d ≡ slice_range values (slice_index bounds i)
      (slice_index bounds (i + 1))
  list_at i d l = get_or-map-range_with_len
      (λ i. slice_range values (slice_index bounds i) (slice_index bounds (i + 1))) 0
      (length bounds - 1) i i d (let k = length-lists_in bounds values in
      omega (arith, k, l)) (zero-add i)

  pub next_bound : (i : ℕ) → i < length (lists_in bounds values) → i + 1 < length bounds
  next_bound i l = let k = length-lists_in bounds values in omega (arith, k, l)

  pub list_read : (i start end : ℕ) (xs ys : List ℕ) → i < length (lists_in bounds values) →
      start ≡ slice_index bounds i → end ≡ slice_index bounds (i + 1) → xs ≡ values →
      ys ≡ slice_range xs start end → slice_get (lists_in bounds values) i ≡ Some ys
  list_read i start end xs ys l s e v r =
      slice_get-get_or (lists_in bounds values) i [] l
      ∙ ap Some (list_at i [] l ∙ sym (r ∙ ap (λ zs. slice_range zs start end) v
      ∙ ap (λ n. slice_range values n end) s
      ∙ ap (slice_range values (slice_index bounds i)) e))

  -- the bound of a list is the number of what stands before it
  pub bound_is : (i : ℕ) → i ≤ length (lists_in bounds values) →
      slice_index bounds i ≡ before (lists_in bounds values) i
  bound_is zero l = cut.first
  bound_is (suc i) l =
      let here : i < length (lists_in bounds values) = omega arith in
      let next : i + 1 ≡ suc i = omega arith in
      let more = before_more (lists_in bounds values) i here in
      let size = ap length (list_at i [] here)
      ∙ length-between values (slice_index bounds i) (slice_index bounds (i + 1))
      (cut.within (i + 1) (next_bound i here)) in
      let rise = cut.rising i (next_bound i here) in
      let old = bound_is i (omega arith) in
      subst (λ k. slice_index bounds k ≡ before (lists_in bounds values) k) next
      (omega (arith, more, size, rise, old))

  module _ (list : List ℕ) where
    abbrev more_bounds : List ℕ
    more_bounds = bounds ++ (length (values ++ list)) ∷ []

    same_bound : (i : ℕ) → i < length bounds → slice_index more_bounds i ≡ slice_index bounds i
    same_bound i l = get_or-append bounds (length (values ++ list) ∷ []) 0 i l

    last_bound : slice_index more_bounds (length bounds) ≡ length (values ++ list)
    last_bound = get_or-append_seam bounds (length (values ++ list)) [] 0

    count : length more_bounds ≡ length bounds + 1
    count = length-append bounds (length (values ++ list) ∷ [])

    end_is : slice_index bounds (length bounds - 1) ≡ length values
    end_is = cut.full

    pub pushed_cut : IsCut more_bounds (values ++ list)
    pushed_cut = record {
      begun = omega (arith, count);
      first = same_bound 0 cut.begun ∙ cut.first;
      rising = rising;
      within = within;
      full = subst (λ n. slice_index more_bounds n ≡ length (values ++ list)) (let k = count in
          omega (arith, k)) last_bound;
    }
      where
        within : (i : ℕ) → i < length more_bounds →
            slice_index more_bounds i ≤ length (values ++ list)
        within i l =
            ⊎_elim
            (λ (e : i ≡ length bounds). subst (λ n. slice_index more_bounds n
            ≤ length (values ++ list)) (sym e) (let k = last_bound in omega (arith, k)))
            (λ (s : i < length bounds). let k = cut.within i s in let a = same_bound i s in
            let b = length-append values list in omega (arith, k, a, b))
            (eq-or-lt_of_le (let k = count in omega (arith, k, l)))

        rising : (i : ℕ) → i + 1 < length more_bounds →
            slice_index more_bounds i ≤ slice_index more_bounds (i + 1)
        rising i l =
            let short : i < length bounds = let k = count in omega (arith, k, l) in
            ⊎_elim
            (λ (e : i + 1 ≡ length bounds).
            let k = subst (λ n. slice_index more_bounds n ≡ length (values ++ list))
            (sym e) last_bound in
            let a = same_bound i short in let b = cut.within i short in
            let c = length-append values list in omega (arith, k, a, b, c))
            (λ (s : i + 1 < length bounds). let k = cut.rising i s in let a = same_bound i short in
            let b = same_bound (i + 1) s in omega (arith, k, a, b))
            (eq-or-lt_of_le (let k = count in omega (arith, k, l)))

    pub pushed_lists : lists_in more_bounds (values ++ list) ≡ lists_in bounds values ++ list ∷ []
    pushed_lists =
        let n = length bounds - 1 in
        let f : ℕ → List ℕ =
        λ i. slice_range values (slice_index bounds i) (slice_index bounds (i + 1)) in
        let g : ℕ → List ℕ =
        λ i. slice_range (values ++ list) (slice_index more_bounds i)
        (slice_index more_bounds (i + 1)) in
        let some = cut.begun in
        let long : length more_bounds - 1 ≡ n + 1 = let k = count in omega (arith, k, some) in
        let next : n + 1 ≡ length bounds = omega (arith, some) in
        ap (λ k. map g (range_with_len 0 k)) long
        ∙ map-range_with_len_more g 0 n n (zero-add n)
        ∙ ap (λ xs. xs ++ g n ∷ [])
        (map_same_in g f (range_with_len 0 n) (λ i m. let r = is_in-range 0 n i m in
        same i (omega (arith, r.1))))
        ∙ ap (λ xs. lists_in bounds values ++ xs ∷ [])
        (ap (λ k. slice_range (values ++ list) k (slice_index more_bounds (n + 1)))
        (same_bound n (omega (arith, some)) ∙ end_is)
        ∙ ap (slice_range (values ++ list) (length values)) (ap (slice_index more_bounds) next
        ∙ last_bound ∙ length-append values list)
        ∙ range_added values list)
      where
        same : (i : ℕ) → i < length bounds - 1 →
            slice_range (values ++ list) (slice_index more_bounds i)
            (slice_index more_bounds (i + 1)) ≡ slice_range values (slice_index bounds i)
            (slice_index bounds (i + 1))
        same i l =
            ap (λ k. slice_range (values ++ list) k (slice_index more_bounds (i + 1)))
            (same_bound i (omega (arith, l)))
            ∙ ap (slice_range (values ++ list) (slice_index bounds i))
            (same_bound (i + 1) (omega (arith, l)))
            ∙ range_kept values list (slice_index bounds i) (slice_index bounds (i + 1))
            (cut.rising i (omega (arith, l))) (cut.within (i + 1) (omega (arith, l)))

-- ---- the lists that are seen
module _ (bounds values : List ℕ) (cut : IsCut bounds values) (seen : List (List ℕ))
    (is : lists_in bounds values ≡ seen) where
  pub seen_length : length seen ≡ length bounds - 1
  seen_length = sym (ap length is) ∙ length-lists_in bounds values

  pub seen_bound : (i : ℕ) → i ≤ length seen → i < length bounds
  seen_bound i l = let k = seen_length in let b = cut.begun in omega (arith, k, b, l)

  pub seen_before : (i : ℕ) → i ≤ length seen → slice_index bounds i ≡ before seen i
  seen_before i l = bound_is bounds values cut i (let k = ap length is in omega (arith, k, l))
      ∙ ap (λ ls. before ls i) is

  pub seen_list : (i start end : ℕ) (xs ys : List ℕ) → i < length seen →
      start ≡ slice_index bounds i → end ≡ slice_index bounds (i + 1) → xs ≡ values →
      ys ≡ slice_range xs start end → slice_get seen i ≡ Some ys
  seen_list i start end xs ys l s e v r = ap (λ ls. slice_get ls i) (sym is)
      ∙ list_read bounds values cut i start end xs ys (let k = ap length is in
      omega (arith, k, l)) s e v r
