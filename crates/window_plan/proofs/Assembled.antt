-- A plan by its lists is the plan by definition.
use Rattle.std.proofs.Common.{◌≡◌, ℕ, zero, suc, ◌+◌, ◌-◌, ◌<◌, ◌≤◌, ◌==◌, ⊎_elim, Bool, true, false, ◌&&◌, not, cond, List, [], ◌∷◌, ◌++◌, take, zero-add, refl, sym, ap, ◌∙◌, arith, length, get_or, map, All, subst, Some, None, Option, option_map, filter, nat_lt, Contains}
use Rattle.std.specs.Prelude.{slice_index}
use Rattle.std.specs.List.{range_with_len, find, flat_map, sum_by, list_any}
use Rattle.std.specs.List.Sorted.{IsStrictlyIncreasing}
use Rattle.std.proofs.lemmas.Bool.{false≢true, cases_lt, lt-ltb, le-ltb, ltb-false}
use Rattle.std.proofs.Math.ListN.{get_or-append}
use Rattle.std.proofs.Math.Seq.{get_or-append_right}
use Rattle.std.proofs.lemmas.List.{length-map, map-id, take-map, get_or-map, get_or_past, get_or_default}
use Rattle.std.proofs.lemmas.List.Concat.{flat_map-cons, get_or-flat_map, length-flat_map}
use Rattle.std.proofs.lemmas.List.FromFn.{get_or-map-range_with_len, length-map-range_with_len, length-range_with_len}
use Rattle.std.proofs.lemmas.List.Kept.{IsStrictlyIncreasing-filter}
use Rattle.std.proofs.lemmas.List.Sums.{sum_by-cons}
use Rattle.std.specs.Option.{option_map_or}
use Rattle.std.proofs.lemmas.Option.{slice_get_within, slice_get-get_or}
use Rattle.graph_model.specs.Graph.{DetectorGraph, IsGraph, ends_at, is_in}
use Rattle.graph_model.specs.declared.Tag.{Tag}
use Rattle.graph_model.proofs.Members.{is_in-range, is_in_range, Contains-is_in, find_in, find_same, map_same_in, not_found}
use Rattle.graph_model.proofs.Incidence.{increasing_range}
use Rattle.window_model.specs.Cells.{Cell, CellOrder, AreWindowCells, AreHomes}
use Rattle.window_model.specs.Gates.{PlanFault, TooManyWindows, TooManyLinks, WindowTooLarge, plan_fault, link_count, size_of, first_larger}
use Rattle.window_model.specs.Parts.{place_of}
use Rattle.window_model.specs.Windows.{Window, WindowPlan, IsPlan, all_below, detectors_of, edge_passes, goes_below, is_reached, no_window, owned_of, owner_of, places, touches, window_at, window_count, window_of}
use Rattle.window_model.proofs.Plans.{in_below}
use Rattle.window_model.proofs.PartLaws.{place_rising}
use Rattle.window_plan.specs.Limits.{most_detectors, most_links, most_windows}
use Rattle.window_plan.specs.declared.plan_error.PlanError.{PlanError}
use Rattle.window_plan.specs.declared.plan_error.PlanError.TheVariants as error
use Rattle.window_plan.specs.declared.survey.LargeWindow.{LargeWindow}
use Rattle.window_plan.specs.Contents.{AreContents, edges_at, last_at, places_in}
use Rattle.window_plan.specs.Layouts.{IsBeyond, IsLayout, deps_at, is_large, large_window}
use Rattle.number_sets.specs.Lists.{before}
use Rattle.window_plan.specs.Placed.{HasFault, IsPlacedPlan, IsRefusal, IsTable, PlacedPlan, places_at, places_by_window, window_by, windows_by}
use Rattle.window_plan.specs.Ranks.{cell_at}
use Rattle.window_plan.proofs.Gathered.{owned_are}
use Rattle.window_plan.proofs.Tables.{link_at}

pub none_mapped : {X Y : Type 0} (f : X → Y) (o : Option X) → option_map f o ≡ None → o ≡ None
none_mapped f None e = refl
none_mapped f (Some x) e = cc

-- a cell that some detector has is there
pub homes_within : (commit : ℕ) (tags : List Tag) (cells : List Cell) (homes : List ℕ) →
    AreHomes commit tags cells homes → All (λ home. home < length cells) homes
homes_within commit tags cells homes h k d l =
    let within : k < length tags = let e = h.each_one in omega (arith, e, l) in
    let at = slice_get_within cells (slice_index homes k) _
    (h.home k (get_or tags k no_tag) (slice_get-get_or tags k no_tag within)) in
    let same : get_or homes k d ≡ get_or homes k 0 = get_or_default homes k d 0 l in
    omega (arith, at, same)
  where
    no_tag : Tag
    no_tag = record { slot = 0; tile_row = 0; tile_col = 0 }

none_rise : IsStrictlyIncreasing []
none_rise k l = absurd (omega (arith, l))

below_rises : (n : ℕ) (p : ℕ → Bool) → IsStrictlyIncreasing (all_below n p)
below_rises n p = IsStrictlyIncreasing-filter p (range_with_len 0 n) (increasing_range 0 n)

-- the layout has the edges that each window owns
pub own_lists : (g : DetectorGraph) → IsGraph g → (held homes : List ℕ) → held ≡ homes →
    (owners : List ℕ) (members mine : List (List ℕ)) (count : ℕ) →
    IsLayout g held owners members mine count → (w : ℕ) → get_or mine w [] ≡ owned_of g homes w
own_lists g graph held homes same owners members mine count layout w = layout.mine_are w
    ∙ owned_are g graph held owners layout.owned w ∙ ap (λ hs. owned_of g hs w) same

same_window : (a b : Window) → a.detectors ≡ b.detectors → a.edges ≡ b.edges → a.owned ≡ b.owned →
    a.deps ≡ b.deps → a.last ≡ b.last → a ≡ b
same_window a b d e o p l =
    λ i. record { detectors = d i; edges = e i; owned = o i; deps = p i; last = l i }

sum_map : {X Y : Type 0} (f : X → ℕ) (g : Y → ℕ) (p : ℕ → X) (q : ℕ → Y) (xs : List ℕ) →
    ((x : ℕ) → f (p x) ≡ g (q x)) → sum_by f (map p xs) ≡ sum_by g (map q xs)
sum_map f g p q [] same = refl
sum_map f g p q (x ∷ xs) same =
    sum_by-cons f (p x) (map p xs) ∙ ap (λ k. k + sum_by f (map p xs)) (same x)
    ∙ ap (λ k. g (q x) + k) (sum_map f g p q xs same) ∙ sym (sum_by-cons g (q x) (map q xs))

module _ (g : DetectorGraph) (tags : List Tag) (order : CellOrder) (commit buffer : ℕ)
    (cells : List Tag) (homes : List ℕ)
    (are_cells : AreWindowCells order commit tags (map cell_at cells))
    (are_homes : AreHomes commit tags (map cell_at cells) homes) where
  abbrev count : ℕ
  count = length (map cell_at cells)

  abbrev made : ℕ → Window
  made w = window_of g tags homes count buffer w

  abbrev pub defined : WindowPlan
  defined = record {
    cells = map cell_at cells;
    homes = homes;
    windows = map made (range_with_len 0 count);
  }

  defined_is : IsPlan g tags order commit buffer defined
  defined_is = record { cells = are_cells; homes = are_homes; windows = refl }

  windows_long : window_count defined ≡ count
  windows_long = length-map-range_with_len made 0 count

  made_at : (w : ℕ) → w < count → window_at defined w ≡ made w
  made_at w l = get_or-map-range_with_len made 0 count w w no_window l (omega arith)

  abbrev links : ℕ
  links = sum_by length (map (deps_at g homes count buffer) (range_with_len 0 count))

  links_are : link_count defined ≡ links
  links_are = sum_map (λ (w : Window). length w.deps) length made (deps_at g homes count buffer)
      (range_with_len 0 count) (λ x. refl)

  abbrev large : Option ℕ
  large = find (is_large g homes buffer) (range_with_len 0 count)

  abbrev reported : ℕ → PlanFault
  reported w = WindowTooLarge w (length (detectors_of g homes buffer w))

  size_is : (w : ℕ) → w < count → size_of defined w ≡ length (detectors_of g homes buffer w)
  size_is w l = ap (λ (v : Window). length v.detectors) (made_at w l)

  in_count : (w : ℕ) → is_in (range_with_len 0 count) w ≡ true → w < count
  in_count w m = let k = is_in-range 0 count w m in omega (arith, k.1)

  larger_is : first_larger most_detectors defined ≡ option_map reported large
  larger_is =
      ap (λ n. option_map (λ w. WindowTooLarge w (size_of defined w))
      (find (λ w. nat_lt most_detectors (size_of defined w)) (range_with_len 0 n))) windows_long
      ∙ ap (option_map (λ w. WindowTooLarge w (size_of defined w)))
      (find_same (λ w. nat_lt most_detectors (size_of defined w)) (is_large g homes buffer)
      (range_with_len 0 count) (λ w m. ap (nat_lt most_detectors) (size_is w (in_count w m))))
      ∙ by_found large refl
    where
      by_found : (o : Option ℕ) → large ≡ o →
          option_map (λ w. WindowTooLarge w (size_of defined w)) o ≡ option_map reported o
      by_found None e = refl
      by_found (Some w) e =
          ap (λ n. Some (WindowTooLarge w n))
          (size_is w (in_count w (find_in (is_large g homes buffer) (range_with_len 0 count) w e)))

  fault_by : (a b : Bool) → nat_lt most_windows count ≡ a → nat_lt most_links links ≡ b →
      plan_fault defined ≡ cond a (Some (TooManyWindows count))
      (cond b (Some (TooManyLinks links)) (option_map reported large))
  fault_by a b p q =
      ap (λ n. cond (nat_lt most_windows n) (Some (TooManyWindows n))
      (cond (nat_lt most_links (link_count defined)) (Some (TooManyLinks (link_count defined)))
      (first_larger most_detectors defined))) windows_long
      ∙ ap (λ n. cond (nat_lt most_windows count) (Some (TooManyWindows count))
      (cond (nat_lt most_links n) (Some (TooManyLinks n))
      (first_larger most_detectors defined))) links_are
      ∙ ap (λ o. cond (nat_lt most_windows count) (Some (TooManyWindows count))
      (cond (nat_lt most_links links) (Some (TooManyLinks links)) o)) larger_is
      ∙ ap (λ t. cond t (Some (TooManyWindows count))
      (cond (nat_lt most_links links) (Some (TooManyLinks links)) (option_map reported large)))
      p
      ∙ ap (λ t. cond a (Some (TooManyWindows count))
      (cond t (Some (TooManyLinks links)) (option_map reported large))) q

  rises : (n w : ℕ) → IsStrictlyIncreasing (deps_at g homes n buffer w)
  rises n w = IsStrictlyIncreasing-filter
      (λ x. list_any (λ edge. touches (detectors_of g homes buffer w) edge
      && goes_below homes w edge && owner_of homes edge == x) g.edges) (range_with_len 0 n)
      (increasing_range 0 n)

  dep_within : (x w : ℕ) → is_in (deps_at g homes count buffer w) x ≡ true → x < count
  dep_within x w m =
      (in_below (λ y. list_any (λ edge. touches (detectors_of g homes buffer w) edge
      && goes_below homes w edge && owner_of homes edge == y) g.edges) count x m).0

  -- ---- the refusals
  pub many_windows : (n : ℕ) → n ≡ length cells → most_windows < n →
      HasFault g tags order commit buffer (TooManyWindows n)
  many_windows n is over =
      let same : count ≡ n = length-map cells cell_at ∙ sym is in (
        defined,
        defined_is,
        fault_by true (nat_lt most_links links)
            (lt-ltb most_windows count (omega (arith, same, over))) refl
            ∙ ap (λ k. Some (TooManyWindows k)) same,
      )

  pub many_links : (n : ℕ) → length cells ≤ most_windows → n ≡ links → most_links < n →
      HasFault g tags order commit buffer (TooManyLinks n)
  many_links n few is over =
      let same : count ≡ length cells = length-map cells cell_at in (
        defined,
        defined_is,
        fault_by false true (le-ltb most_windows count (omega (arith, same, few)))
            (lt-ltb most_links links (omega (arith, is, over)))
            ∙ ap (λ k. Some (TooManyLinks k)) (sym is),
      )

  pub large_one : (one : LargeWindow) → length cells ≤ most_windows → links ≤ most_links →
      option_map (large_window g homes buffer) large ≡ Some one →
      HasFault g tags order commit buffer (WindowTooLarge one.window one.detectors)
  large_one one few short is =
      let same : count ≡ length cells = length-map cells cell_at in (
        defined,
        defined_is,
        fault_by false false (le-ltb most_windows count (omega (arith, same, few)))
            (le-ltb most_links links short) ∙ by_found large is,
      )
    where
      by_found : (o : Option ℕ) → option_map (large_window g homes buffer) o ≡ Some one →
          option_map reported o ≡ Some (WindowTooLarge one.window one.detectors)
      by_found None e = cc
      by_found (Some w) e = let s : large_window g homes buffer w ≡ one = cc in
          ap (λ (x : LargeWindow). Some (WindowTooLarge x.window x.detectors)) s

  pub beyond : (n : ℕ) (larger : Option LargeWindow) → length cells ≤ most_windows → n ≡ links →
      larger ≡ option_map (large_window g homes buffer) large → (e : PlanError) →
      IsBeyond n larger e → IsRefusal g tags order commit buffer e
  beyond n larger few is first (error.TooManyLinks k) p =
      many_links k few (p.0 ∙ is) (let same = p.0 in let over = p.1 in omega (arith, same, over))
  beyond n larger few is first (error.WindowTooLarge w k) p =
      large_one (record { window = w; detectors = k }) few
      (let short = p.0 in omega (arith, is, short)) (sym first ∙ p.1)
  beyond n larger few is first (error.TooManyWindows k) never = absurd never
  beyond n larger few is first error.Memory never = absurd never

  -- ---- the plan
  module _ (few : length cells ≤ most_windows) (ds es os ps : List (List ℕ)) (ls : List ℕ)
      (qs : List (List ℕ)) (n : ℕ) (all : n ≡ length cells)
      (ds_are : ds ≡ map (detectors_of g homes buffer) (range_with_len 0 n)) (ps_are : ps
      ≡ map (deps_at g homes n buffer) (range_with_len 0 n))
      (contents : AreContents g tags homes n buffer n es ls qs) (mine : length os ≡ n)
      (os_are : (w : ℕ) → w < n → get_or os w [] ≡ owned_of g homes w)
      (short : sum_by length (map (deps_at g homes n buffer) (range_with_len 0 n)) ≤ most_links)
      (small : find (is_large g homes buffer) (range_with_len 0 n) ≡ None) where
    n_is : n ≡ count
    n_is = all ∙ sym (length-map cells cell_at)

    long_as : {X : Type 0} (f : ℕ → X) (xs : List X) → xs ≡ map f (range_with_len 0 n) →
        length xs ≡ n
    long_as f xs is = ap length is ∙ length-map-range_with_len f 0 n

    read_as : {X : Type 0} (f : ℕ → X) (xs : List X) (d : X) (w : ℕ) →
        xs ≡ map f (range_with_len 0 n) → w < n → get_or xs w d ≡ f w
    read_as f xs d w is l =
        ap (λ ys. get_or ys w d) is ∙ get_or-map-range_with_len f 0 n w w d l (omega arith)

    ds_long : length ds ≡ n
    ds_long = long_as (detectors_of g homes buffer) ds ds_are

    ps_long : length ps ≡ n
    ps_long = long_as (deps_at g homes n buffer) ps ps_are

    -- what holds of each list of windows, and of no list, holds of what is read at a place
    at_each : {X : Type 0} (P : X → Type 0) (f : ℕ → X) (xs : List X) (d : X) →
        xs ≡ map f (range_with_len 0 n) → ((w : ℕ) → w < n → P (f w)) → P d → (w : ℕ) →
        P (get_or xs w d)
    at_each P f xs d is each none w =
        ⊎_elim
        (λ l. subst P (sym (read_as f xs d w is l)) (each w l))
        (λ l. subst P (sym (get_or_past xs w d (let k = long_as f xs is in omega (arith, k, l))))
        none)
        (cases_lt w n)

    -- each window has a list of places for each dependency
    sizes : (xs : List ℕ) → sum_by (λ w. length (places_in g homes n buffer w)) xs
        ≡ sum_by length (map (deps_at g homes n buffer) xs)
    sizes xs = sym (ap (sum_by (λ w. length (places_in g homes n buffer w))) (map-id xs))
        ∙ sum_map (λ w. length (places_in g homes n buffer w)) length (λ (x : ℕ). x)
        (deps_at g homes n buffer) xs
        (λ x. length-map (deps_at g homes n buffer x)
        (λ y. filter (λ v. list_any (ends_at g v) (owned_of g homes y))
        (detectors_of g homes buffer x)))

    links_long : length qs ≡ sum_by length ps
    links_long =
        ap length contents.places_are
        ∙ length-flat_map (places_in g homes n buffer) (range_with_len 0 n)
        ∙ sizes (range_with_len 0 n)
        ∙ ap (sum_by length) (sym ps_are)

    pub is_table : IsTable cells ds es os ps ls qs
    is_table = record {
      cells_long = sym all ∙ sym ds_long;
      edges_long = long_as (edges_at g homes buffer) es contents.edges_are ∙ sym ds_long;
      owned_long = mine ∙ sym ds_long;
      deps_long = ps_long ∙ sym ds_long;
      lasts_long = long_as (last_at g tags homes buffer) ls contents.lasts_are ∙ sym ds_long;
      links_long = links_long;
      few_windows = let d = ds_long in omega (arith, d, all, few);
      few_links = let k = links_long in let e = ap (sum_by length) ps_are in
          omega (arith, k, e, short);
      few_detectors =
          at_each (λ (xs : List ℕ). length xs ≤ most_detectors) (detectors_of g homes buffer)
          ds [] ds_are (λ w l. ltb-false most_detectors (length (detectors_of g homes buffer w))
          (not_found (is_large g homes buffer) (range_with_len 0 n) small w
          (is_in_range 0 n w (omega arith) (omega (arith, l))))) (omega arith);
      detectors_rise =
          at_each IsStrictlyIncreasing (detectors_of g homes buffer) ds [] ds_are
          (λ w l. below_rises g.vertices (is_reached g homes w buffer)) none_rise;
      edges_rise =
          at_each IsStrictlyIncreasing (edges_at g homes buffer) es [] contents.edges_are
          (λ w l. below_rises (length g.edges)
          (edge_passes g (λ edge. touches (detectors_of g homes buffer w) edge
          && not (goes_below homes w edge)))) none_rise;
      owned_rise = λ w. ⊎_elim
          (λ l. subst IsStrictlyIncreasing (sym (os_are w l))
          (below_rises (length g.edges) (edge_passes g (λ edge. owner_of homes edge == w))))
          (λ l. subst IsStrictlyIncreasing (sym (get_or_past os w [] (omega (arith, mine, l))))
          none_rise)
          (cases_lt w n);
      deps_rise = at_each IsStrictlyIncreasing (deps_at g homes n buffer) ps [] ps_are
          (λ w l. rises n w) none_rise;
      places_rise =
          λ i. subst IsStrictlyIncreasing (ap (λ xs. get_or xs i []) (sym contents.places_are))
          (all_rise (range_with_len 0 n) i);
    }
      where
        row_rises : (w : ℕ) (xs : List ℕ) (i : ℕ) →
            IsStrictlyIncreasing
            (get_or (map (λ y. filter (λ v. list_any (ends_at g v) (owned_of g homes y))
            (detectors_of g homes buffer w)) xs) i [])
        row_rises w [] i = none_rise
        row_rises w (x ∷ xs) zero =
            IsStrictlyIncreasing-filter (λ v. list_any (ends_at g v) (owned_of g homes x))
            (detectors_of g homes buffer w) (below_rises g.vertices (is_reached g homes w buffer))
        row_rises w (x ∷ xs) (suc i) = row_rises w xs i

        either : (xs ys : List (List ℕ)) → ((i : ℕ) → IsStrictlyIncreasing (get_or xs i [])) →
            ((i : ℕ) → IsStrictlyIncreasing (get_or ys i [])) → (i : ℕ) →
            IsStrictlyIncreasing (get_or (xs ++ ys) i [])
        either xs ys one two i =
            ⊎_elim
            (λ l. subst IsStrictlyIncreasing (sym (get_or-append xs ys [] i l)) (one i))
            (λ l. subst IsStrictlyIncreasing (sym (get_or-append_right xs ys i [] l))
            (two (i - length xs)))
            (cases_lt i (length xs))

        all_rise : (xs : List ℕ) (i : ℕ) →
            IsStrictlyIncreasing (get_or (flat_map (places_in g homes n buffer) xs) i [])
        all_rise [] i = none_rise
        all_rise (x ∷ xs) i =
            subst (λ ys. IsStrictlyIncreasing (get_or ys i []))
            (sym (flat_map-cons (places_in g homes n buffer) x xs))
            (either (places_in g homes n buffer x) (flat_map (places_in g homes n buffer) xs)
            (row_rises x (deps_at g homes n buffer x)) (all_rise xs) i)

    -- the windows are those of the definition
    windows_are : windows_by ds es os ps ls ≡ map made (range_with_len 0 count)
    windows_are =
        ap (λ k. map (window_by ds es os ps ls) (range_with_len 0 k))
        (long_as (detectors_of g homes buffer) ds ds_are ∙ n_is)
        ∙ map_same_in (window_by ds es os ps ls) made (range_with_len 0 count)
        (λ w m. same w (let k = in_count w m in let e = n_is in omega (arith, k, e)))
      where
        same : (w : ℕ) → w < n → window_by ds es os ps ls w ≡ made w
        same w l =
            same_window (window_by ds es os ps ls w) (made w)
            (read_as (detectors_of g homes buffer) ds [] w ds_are l)
            (read_as (edges_at g homes buffer) es [] w contents.edges_are l)
            (os_are w l)
            (read_as (deps_at g homes n buffer) ps [] w ps_are l
            ∙ ap (λ k. deps_at g homes k buffer w) n_is)
            (read_as (last_at g tags homes buffer) ls 0 w contents.lasts_are l)

    abbrev pub whole : PlacedPlan
    whole = record {
      plan = record {
        cells = map cell_at cells;
        homes = homes;
        windows = windows_by ds es os ps ls;
      };
      places = places_by_window ps qs;
    }

    whole_is : (λ (x : PlacedPlan). x) whole ≡ record {
      plan = defined;
      places = places_by_window ps qs;
    }
    whole_is = ap (λ ws. record {
      plan = record {
        cells = map cell_at cells;
        homes = homes;
        windows = ws;
      };
      places = places_by_window ps qs;
    }) windows_are

    -- the places of the links of one window
    place_is : (w i : ℕ) → w < n → i < length (deps_at g homes n buffer w) →
        get_or (get_or (places_by_window ps qs) w []) i []
        ≡ get_or (places_in g homes n buffer w) i []
    place_is w i l short =
        let long = ps_long in
        let inside : w < length ps = omega (arith, l, long) in
        let row : get_or ps w [] ≡ deps_at g homes n buffer w =
        read_as (deps_at g homes n buffer) ps [] w ps_are l in
        let many = ap length row in
        link_at ps qs w inside i (omega (arith, many, short))
        ∙ ap (λ k. get_or qs (k + i) []) (so_far w (omega (arith, l)))
        ∙ ap (λ xs. get_or xs
        (length (flat_map (places_in g homes n buffer) (take w (range_with_len 0 n)))
        + i) []) contents.places_are
        ∙ get_or-flat_map (places_in g homes n buffer) (range_with_len 0 n) w i 0 []
        (let k = length-range_with_len 0 n in omega (arith, k, l))
        (subst (λ v. i < length (places_in g homes n buffer v)) (sym (number w l))
        (let k = length-map (deps_at g homes n buffer w)
        (λ y. filter (λ v. list_any (ends_at g v) (owned_of g homes y))
        (detectors_of g homes buffer w)) in omega (arith, k, short)))
        ∙ ap (λ v. get_or (places_in g homes n buffer v) i []) (number w l)
      where
        number : (w : ℕ) → w < n → get_or (range_with_len 0 n) w 0 ≡ w
        number w l = ap (λ xs. get_or xs w 0) (sym (map-id (range_with_len 0 n)))
            ∙ get_or-map-range_with_len (λ (x : ℕ). x) 0 n w w 0 l (zero-add w)

        so_far : (w : ℕ) → w ≤ n →
            before ps w ≡ length
            (flat_map (places_in g homes n buffer) (take w (range_with_len 0 n)))
        so_far w l =
            ap (λ xs. before xs w) ps_are
            ∙ ap (sum_by length) (take-map (deps_at g homes n buffer) w (range_with_len 0 n))
            ∙ sym (sizes (take w (range_with_len 0 n)))
            ∙ sym (length-flat_map (places_in g homes n buffer) (take w (range_with_len 0 n)))

    -- the places of a dependency
    placed : (x w : ℕ) → is_in (window_at defined w).deps x ≡ true →
        places_at (record { plan = defined; places = places_by_window ps qs }) x w
        ≡ places g defined x w
    placed x w m =
        ⊎_elim
        (λ (l : w < count). inside l (ap (λ (v : Window). is_in v.deps x) (sym (made_at w l)) ∙ m))
        (λ (l : count ≤ w). absurd
        (false≢true (sym
        (ap (λ (v : Window). is_in v.deps x)
        (get_or_past defined.windows w no_window (let k = windows_long in omega (arith, k, l))))
        ∙ m)))
        (cases_lt w count)
      where
        inside : w < count → is_in (deps_at g homes count buffer w) x ≡ true →
            places_at (record { plan = defined; places = places_by_window ps qs }) x w
            ≡ places g defined x w
        inside l member =
            let deps = deps_at g homes count buffer w in
            let at : Contains deps x = Contains-is_in deps x member in
            let read : get_or deps at.0 0 ≡ x = get_or_default deps at.0 0 x at.1 ∙ at.2 in
            let place : place_of deps x ≡ Some at.0 =
            place_rising deps x at.0 (rises count w) at.1 read in
            let same : deps_at g homes n buffer w ≡ deps =
            ap (λ k. deps_at g homes k buffer w) n_is in
            let long = ap length same in
            let read_links = place_is w at.0 (let e = n_is in omega (arith, e, l)) (let k = at.1 in
            omega (arith, k, long)) in
            ap (λ (v : Window). option_map_or
            (λ i. get_or (get_or (places_by_window ps qs) w []) i []) (place_of v.deps x) [])
            (made_at w l)
            ∙ ap (λ o. option_map_or
            (λ i. get_or (get_or (places_by_window ps qs) w []) i []) o []) place
            ∙ read_links
            ∙ ap (λ k. get_or (places_in g homes k buffer w) at.0 []) n_is
            ∙ get_or-map (λ y. filter (λ v. list_any (ends_at g v) (owned_of g homes y))
            (detectors_of g homes buffer w)) deps at.0 0 [] at.1
            ∙ ap (λ y. filter (λ v. list_any (ends_at g v) (owned_of g homes y))
            (detectors_of g homes buffer w)) read
            ∙ ap (λ (u : Window). filter (λ v. list_any (ends_at g v) u.owned)
            (detectors_of g homes buffer w)) (sym (made_at x (dep_within x w member)))
            ∙ ap (λ (u : Window). filter
            (λ v. list_any (ends_at g v) (window_at defined x).owned) u.detectors)
            (sym (made_at w l))

    pub is_placed : IsPlacedPlan g tags order commit buffer whole
    is_placed =
        let few_links : links ≤ most_links =
        subst (λ k. sum_by length (map (deps_at g homes k buffer) (range_with_len 0 k))
        ≤ most_links) n_is short in
        let none : large ≡ None =
        subst (λ k. find (is_large g homes buffer) (range_with_len 0 k) ≡ None) n_is small in
        subst (IsPlacedPlan g tags order commit buffer) (sym whole_is)
        (record {
          is_plan = defined_is;
          within = fault_by false false
              (le-ltb most_windows count
              (let s = length-map cells cell_at in omega (arith, s, few)))
              (le-ltb most_links links few_links) ∙ ap (option_map reported) none;
          placed = placed;
        })
