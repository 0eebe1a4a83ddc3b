-- What is read from the lists of a plan.
use Rattle.std.proofs.Common.{◌≡◌, ℕ, zero, suc, ◌+◌, ◌-◌, ◌<◌, ◌≤◌, ⊎_elim, true, cond, List, [], ◌∷◌, sym, ap, ◌∙◌, arith, length, get_or, map, drop, subst, Some, None, Option, option_map, slice_get, slice_range, eq-eqb, Err, zero-add}
use Rattle.std.specs.Prelude.{sum_by}
use Rattle.std.specs.List.Sorted.{IsStrictlyIncreasing, IsBinarySearchResult}
use Rattle.std.specs.Option.{option_map_or}
use Rattle.std.specs.Ordering.{nat_cmp}
use Rattle.std.proofs.lemmas.Bool.{cases_lt, false≢true, ne_eqb}
use Rattle.std.proofs.lemmas.List.{get_or_past, length-map, length-take}
use Rattle.std.proofs.lemmas.List.Edits.{get_or-between}
use Rattle.std.proofs.lemmas.List.Sums.{sum_by-take-le}
use Rattle.std.proofs.lemmas.List.FromFn.{get_or-map-range_with_len, length-map-range_with_len}
use Rattle.std.proofs.lemmas.Option.{get_or_from_slice_get}
use Rattle.graph_model.specs.Graph.{is_in}
use Rattle.graph_model.specs.declared.Tag.{Tag}
use Rattle.graph_model.proofs.Ascending.{increasing_rest, increasing_above, found_or_not}
use Rattle.graph_model.proofs.Members.{is_in_at}
use Rattle.window_model.specs.Parts.{place_of}
use Rattle.window_model.specs.Windows.{Window, no_window, window_at, window_count}
use Rattle.window_plan.specs.Limits.{most_detectors}
use Rattle.number_sets.specs.Lists.{before}
use Rattle.window_plan.specs.Placed.{IsOrdered, IsTable, PlacedPlan, places_at, places_by_window, window_by, windows_by}
use Rattle.window_plan.specs.Ranks.{cell_at}
use Rattle.number_sets.proofs.Cuts.{before_more}

pub not_missed : (xs : List ℕ) (x i : ℕ) → IsStrictlyIncreasing xs →
    IsBinarySearchResult (λ y. nat_cmp y x) xs (Err i) → is_in xs x ≡ true → ⊥
not_missed xs x i up told m = false≢true (found_or_not xs x (Err i) up told ∙ m)

-- ---- windows by their lists
module _ (ds es os ps : List (List ℕ)) (ls : List ℕ) where
  pub windows_long : length (windows_by ds es os ps ls) ≡ length ds
  windows_long = length-map-range_with_len (window_by ds es os ps ls) 0 (length ds)

  pub window_is : (w : ℕ) → w < length ds →
      get_or (windows_by ds es os ps ls) w no_window ≡ window_by ds es os ps ls w
  window_is w l =
      get_or-map-range_with_len (window_by ds es os ps ls) 0 (length ds) w w no_window l
      (omega arith)

-- ---- places by link
module _ (ps links : List (List ℕ)) (w : ℕ) (within : w < length ps) where
  row_is : get_or (places_by_window ps links) w []
      ≡ slice_range links (before ps w) (before ps (w + 1))
  row_is = get_or-map-range_with_len (λ v. slice_range links (before ps v) (before ps (v + 1))) 0
      (length ps) w w [] within (zero-add w)

  pub link_at : (i : ℕ) → i < length (get_or ps w []) →
      get_or (get_or (places_by_window ps links) w []) i [] ≡ get_or links (before ps w + i) []
  link_at i l = ap (λ row. get_or row i []) row_is
      ∙ get_or-between links (before ps w) (before ps (w + 1)) i []
      (let m = before_more ps w within in omega (arith, m, l))

  pub link_within : length links ≡ sum_by length ps → (i : ℕ) → i < length (get_or ps w []) →
      before ps w + i < length links
  link_within long i l = let m = before_more ps w within in
      let k = sum_by-take-le length ps (w + 1) in omega (arith, m, k, l, long)

no_numbers : IsStrictlyIncreasing []
no_numbers k l = absurd (omega (arith, l))

place_rises : (ps links : List (List ℕ)) → length links ≡ sum_by length ps →
    ((i : ℕ) → IsStrictlyIncreasing (get_or links i [])) → (w i : ℕ) →
    IsStrictlyIncreasing (get_or (get_or (places_by_window ps links) w []) i [])
place_rises ps links long up w i = ⊎_elim inside past (cases_lt w (length ps))
  where
    inside : w < length ps →
        IsStrictlyIncreasing (get_or (get_or (places_by_window ps links) w []) i [])
    inside l =
        ⊎_elim
        (λ here. subst IsStrictlyIncreasing (sym (link_at ps links w l i here))
        (up (before ps w + i)))
        (λ beyond.
        let row = row_is ps links w l in
        let short : length (slice_range links (before ps w) (before ps (w + 1)))
        ≤ i = let m = before_more ps w l in
        let k = length-take (before ps (w + 1) - before ps w) (drop (before ps w) links) in
        omega (arith, m, k, beyond) in
        subst IsStrictlyIncreasing (sym (ap (λ r. get_or r i []) row
        ∙ get_or_past (slice_range links (before ps w) (before ps (w + 1))) i [] short))
        no_numbers)
        (cases_lt i (length (get_or ps w [])))

    past : length ps ≤ w →
        IsStrictlyIncreasing (get_or (get_or (places_by_window ps links) w []) i [])
    past l =
        let none : get_or (places_by_window ps links) w []
        ≡ [] = get_or_past (places_by_window ps links) w []
        (let k = length-map-range_with_len
        (λ v. slice_range links (before ps v) (before ps (v + 1))) 0 (length ps) in
        omega (arith, k, l)) in
        subst IsStrictlyIncreasing (sym (ap (λ r. get_or r i []) none)) no_numbers

-- a value of the plan whose lists these are
module _ (cells : List Tag) (homes : List ℕ) (ds es os ps : List (List ℕ)) (ls : List ℕ)
    (links : List (List ℕ)) (table : IsTable cells ds es os ps ls links) where
  abbrev pub shown : PlacedPlan
  shown = record {
    plan = record {
      cells = map cell_at cells;
      homes = homes;
      windows = windows_by ds es os ps ls;
    };
    places = places_by_window ps links;
  }

  read_at : (w : ℕ) (P : Window → Type 0) → P (window_by ds es os ps ls w) → P no_window →
      P (window_at shown.plan w)
  read_at w P inside none =
      ⊎_elim
      (λ l. subst P (sym (window_is ds es os ps ls w l)) inside)
      (λ l. subst P
      (sym (get_or_past (windows_by ds es os ps ls) w no_window
      (let k = windows_long ds es os ps ls in omega (arith, k, l)))) none)
      (cases_lt w (length ds))

  is_ordered : IsOrdered shown
  is_ordered = record {
    cells = length-map cells cell_at ∙ table.cells_long ∙ sym (windows_long ds es os ps ls);
    few_windows = let k = windows_long ds es os ps ls in let f = table.few_windows in
        omega (arith, k, f);
    few_detectors =
        λ w. read_at w (λ (v : Window). length v.detectors ≤ most_detectors) (table.few_detectors w)
        (omega arith);
    detectors_rise =
        λ w. read_at w (λ (v : Window). IsStrictlyIncreasing v.detectors) (table.detectors_rise w)
        no_numbers;
    edges_rise =
        λ w. read_at w (λ (v : Window). IsStrictlyIncreasing v.edges) (table.edges_rise w)
        no_numbers;
    owned_rise =
        λ w. read_at w (λ (v : Window). IsStrictlyIncreasing v.owned) (table.owned_rise w)
        no_numbers;
    deps_rise = λ w. read_at w (λ (v : Window). IsStrictlyIncreasing v.deps) (table.deps_rise w)
        no_numbers;
    places_rise = λ x w. by_place w (place_of (window_at shown.plan w).deps x);
  }
    where
      by_place : (w : ℕ) (o : Option ℕ) →
          IsStrictlyIncreasing
          (option_map_or (λ i. get_or (get_or (places_by_window ps links) w []) i []) o [])
      by_place w None = no_numbers
      by_place w (Some i) = place_rises ps links table.links_long table.places_rise w i

  module _ (p : PlacedPlan) (is : shown ≡ p) where
    pub ordered : IsOrdered p
    ordered = subst IsOrdered is is_ordered

    pub count_is : window_count p.plan ≡ length ds
    count_is = ap (λ (q : PlacedPlan). window_count q.plan) (sym is) ∙ windows_long ds es os ps ls

    pub within : (w : ℕ) → w < window_count p.plan → w < length ds
    within w l = let c = count_is in omega (arith, c, l)

    pub read_window : (w : ℕ) → w < window_count p.plan →
        window_at p.plan w ≡ window_by ds es os ps ls w
    read_window w l =
        ap (λ (q : PlacedPlan). window_at q.plan w) (sym is)
        ∙ window_is ds es os ps ls w (within w l)

    pub read_list : (part : Window → List ℕ) (lists : List (List ℕ)) (w : ℕ) (r : List ℕ) →
        w < window_count p.plan → slice_get lists w ≡ Some r →
        part (window_by ds es os ps ls w) ≡ get_or lists w [] → r ≡ part (window_at p.plan w)
    read_list part lists w r l at same = sym (get_or_from_slice_get lists w r [] at) ∙ sym same
        ∙ ap part (sym (read_window w l))

    pub dep_within : (w : ℕ) → w < window_count p.plan → w < length ps
    dep_within w l = let c = count_is in let k = table.deps_long in omega (arith, c, k, l)

    pub read_places : (x w i : ℕ) (r : List ℕ) → w < window_count p.plan →
        place_of (get_or ps w []) x ≡ Some i → i < length (get_or ps w []) →
        slice_get links (before ps w + i) ≡ Some r → r ≡ places_at p x w
    read_places x w i r l at short read =
        sym (get_or_from_slice_get links (before ps w + i) r [] read)
        ∙ sym (link_at ps links w (dep_within w l) i short)
        ∙ ap (λ o. option_map_or (λ k. get_or (get_or (places_by_window ps links) w []) k []) o [])
        (sym at)
        ∙ ap (λ (v : Window). option_map_or
        (λ k. get_or (get_or (places_by_window ps links) w []) k []) (place_of v.deps x) [])
        (sym (window_is ds es os ps ls w (within w l)))
        ∙ ap (λ (q : PlacedPlan). places_at q x w) is
