-- Detectors grouped by their homes, and windows looked at one by one.
use Rattle.std.proofs.Common.{◌≡◌, ℕ, suc, ◌+◌, ◌<◌, ◌≤◌, ◌==◌, Bool, true, false, ◌&&◌, cond, List, [], ◌∷◌, ◌++◌, refl, sym, ap, ◌∙◌, arith, length, map, All, Some, Option, None, option_map, filter, zero-add}
use Rattle.std.specs.List.{range_with_len, find, sum_by, list_any}
use Rattle.std.proofs.lemmas.List.FromFn.{map-range_with_len_more, sum_by-map-range_with_len_more, length-range_with_len}
use Rattle.graph_model.specs.Graph.{DetectorGraph, is_in}
use Rattle.graph_model.proofs.Members.{all_within}
use Rattle.graph_model.specs.Graph.{IsGraph}
use Rattle.graph_model.proofs.Ranges.{below_more}
use Rattle.window_model.specs.Windows.{home_of, owner_of, detectors_of, all_below, is_reached, touches, goes_below}
use Rattle.window_model.proofs.Plans.{in_below}
use Rattle.window_plan.specs.Limits.{most_windows}
use Rattle.window_plan.specs.Gathers.{deps_by}
use Rattle.window_plan.proofs.Gathered.{deps_are}
use Rattle.window_plan.proofs.Grouped.{group_member, group_within}
use Rattle.window_plan.specs.declared.survey.LargeWindow.{LargeWindow}
use Rattle.detector_graph.specs.Rows.{group_of}
use Rattle.window_plan.specs.Layouts.{IsSurvey, deps_at, is_large, large_window, first_large}

-- ---- the first number that passes
abbrev or_else : Option ℕ → Option ℕ → Option ℕ
or_else (Some x) o = Some x
or_else None o = o

find_push : (p : ℕ → Bool) (xs : List ℕ) (y : ℕ) →
    find p (xs ++ y ∷ []) ≡ or_else (find p xs) (cond (p y) (Some y) None)
find_push p [] y = by_test (p y)
  where
    by_test : (b : Bool) → cond b (Some y) None ≡ or_else None (cond b (Some y) None)
    by_test true = refl
    by_test false = refl
find_push p (x ∷ xs) y = ap (λ o. cond (p x) (Some x) o) (find_push p xs y) ∙ by_test (p x)
  where
    by_test : (b : Bool) → cond b (Some x) (or_else (find p xs) (cond (p y) (Some y) None))
        ≡ or_else (cond b (Some x) (find p xs)) (cond (p y) (Some y) None)
    by_test true = refl
    by_test false = refl

none_before : (o : Option LargeWindow) (w size : ℕ) → first_large o w size ≡ None → o ≡ None
none_before (Some large) w size e = e
none_before None w size e = refl

-- ---- one more window
module _ (g : DetectorGraph) (homes : List ℕ) (count buffer n : ℕ) (ds ps : List (List ℕ))
    (links : ℕ) (larger : Option LargeWindow)
    (old : IsSurvey g homes count buffer n ds ps links larger) where
  first_more : first_large larger n (length (detectors_of g homes buffer n))
      ≡ option_map (large_window g homes buffer)
      (find (is_large g homes buffer) (range_with_len 0 (n + 1)))
  first_more =
      ap (λ o. first_large o n (length (detectors_of g homes buffer n))) old.first
      ∙ by_found (find (is_large g homes buffer) (range_with_len 0 n))
      ∙ ap (option_map (large_window g homes buffer))
      (sym (ap (find (is_large g homes buffer)) (below_more n)
      ∙ find_push (is_large g homes buffer) (range_with_len 0 n) n))
    where
      by_test : (b : Bool) → cond b (Some (large_window g homes buffer n)) None
          ≡ option_map (large_window g homes buffer) (or_else None (cond b (Some n) None))
      by_test true = refl
      by_test false = refl

      by_found : (o : Option ℕ) →
          first_large (option_map (large_window g homes buffer) o) n
          (length (detectors_of g homes buffer n)) ≡ option_map (large_window g homes buffer)
          (or_else o (cond (is_large g homes buffer n) (Some n) None))
      by_found (Some x) = refl
      by_found None = by_test (is_large g homes buffer n)

  pub survey_more : (detectors deps : List ℕ) (ds' ps' : List (List ℕ)) (links' : ℕ)
      (larger' : Option LargeWindow) → detectors ≡ detectors_of g homes buffer n →
      deps ≡ deps_at g homes count buffer n → length deps ≤ most_windows →
      links' ≡ links + length deps → larger' ≡ first_large larger n (length detectors) →
      (larger' ≡ None → ds' ≡ ds ++ detectors ∷ []) → (larger' ≡ None → ps' ≡ ps ++ deps ∷ []) →
      IsSurvey g homes count buffer (n + 1) ds' ps' links' larger'
  survey_more detectors deps ds' ps' links' larger' d_is p_is short links_is larger_is ds_is ps_is =
      record {
        linked =
            let more : sum_by length (map (deps_at g homes count buffer) (range_with_len 0 (n + 1)))
            ≡ sum_by length (map (deps_at g homes count buffer) (range_with_len 0 n))
            + length (deps_at g homes count buffer n) =
            sum_by-map-range_with_len_more length (deps_at g homes count buffer) 0 n n
            (zero-add n) in
            links_is ∙ ap (λ k. k + length deps) old.linked
            ∙ ap (λ xs. sum_by length (map (deps_at g homes count buffer) (range_with_len 0 n))
            + length xs) p_is ∙ sym more;
        first = larger_is ∙ ap (λ xs. first_large larger n (length xs)) d_is ∙ first_more;
        searched = λ none.
            let before = none_before larger n (length detectors) (sym larger_is ∙ none) in
            ds_is none ∙ ap (λ xs. xs ++ detectors ∷ []) (old.searched before)
            ∙ ap (λ x. map (detectors_of g homes buffer) (range_with_len 0 n) ++ x ∷ []) d_is
            ∙ sym (map-range_with_len_more (detectors_of g homes buffer) 0 n n (zero-add n));
        depended = λ none.
            let before = none_before larger n (length detectors) (sym larger_is ∙ none) in
            ps_is none ∙ ap (λ xs. xs ++ deps ∷ []) (old.depended before)
            ∙ ap (λ x. map (deps_at g homes count buffer) (range_with_len 0 n) ++ x ∷ []) p_is
            ∙ sym (map-range_with_len_more (deps_at g homes count buffer) 0 n n (zero-add n));
        bound = let b = old.bound in omega (arith, b, short, links_is);
      }

-- there are at most n numbers below n
pub length-below : (n : ℕ) (p : ℕ → Bool) → length (all_below n p) ≤ n
length-below n p = let k = shorter (range_with_len 0 n) in let l = length-range_with_len 0 n in
    omega (arith, k, l)
  where
    one : (b : Bool) (x : ℕ) (ys : List ℕ) (m : ℕ) → length ys ≤ m →
        length (cond b (x ∷ ys) ys) ≤ suc m
    one true x ys m l = omega (arith, l)
    one false x ys m l = omega (arith, l)

    shorter : (xs : List ℕ) → length (filter p xs) ≤ length xs
    shorter [] = omega arith
    shorter (x ∷ xs) = one (p x) x (filter p xs) (length xs) (shorter xs)

-- ---- what the calls of one turn ask and give
module _ (homes : List ℕ) (n w : ℕ) (long : length homes ≡ n) (cell : List ℕ)
    (is : cell ≡ group_of homes w) where
  pub cell_below : All (λ x. x < n) cell
  cell_below = all_within (λ x. x < n) cell
      (λ x m. let k = group_within homes w x (ap (λ xs. is_in xs x) (sym is) ∙ m) in
      omega (arith, k, long))

  pub cell_members : (x : ℕ) → x < n → is_in cell x ≡ (home_of homes x == w)
  cell_members x l = ap (λ xs. is_in xs x) is ∙ group_member homes w x (omega (arith, l, long))

pub detectors_below : (g : DetectorGraph) (homes : List ℕ) (buffer w : ℕ) →
    All (λ x. x < g.vertices) (detectors_of g homes buffer w)
detectors_below g homes buffer w =
    all_within (λ x. x < g.vertices) (detectors_of g homes buffer w)
    (λ x m. (in_below (is_reached g homes w buffer) g.vertices x m).0)

pub deps_found : (g : DetectorGraph) (graph : IsGraph g) (homes owners : List ℕ) (owned : owners
    ≡ map (owner_of homes) g.edges) (count buffer w : ℕ) (read ds deps : List ℕ) (bound : ℕ) →
    read ≡ owners → bound ≡ count → ds ≡ detectors_of g homes buffer w →
    deps ≡ deps_by g read bound w ds → deps ≡ deps_at g homes count buffer w
deps_found g graph homes owners owned count buffer w read ds deps bound same full found is =
    is ∙ ap (λ os. deps_by g os bound w ds) same ∙ ap (λ n. deps_by g owners n w ds) full
    ∙ ap (deps_by g owners count w) found
    ∙ deps_are g graph homes owners owned count w (detectors_of g homes buffer w)

pub deps_few : (g : DetectorGraph) (homes : List ℕ) (count buffer w : ℕ) →
    length (deps_at g homes count buffer w) ≤ count
deps_few g homes count buffer w =
    length-below count
    (λ x. list_any (λ edge. touches (detectors_of g homes buffer w) edge && goes_below homes w edge
    && owner_of homes edge == x) g.edges)
