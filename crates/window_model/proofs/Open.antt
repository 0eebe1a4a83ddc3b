-- Where the graph is grounded, each window's part is open.
use Rattle.std.proofs.Common.{◌≡◌, ℕ, zero, suc, ◌<◌, ◌≤◌, ◌&&◌, not, ◌⊎◌, ⊎_elim, inl, inr, true, List, [], ◌∷◌, refl, sym, ap, ◌∙◌, subst, filter_map, arith, Option, Some, None, option_map, option_to_list, AllPairs, Any, length, get_or, slice_get, slice_index, eqb-true, nat_le, nat_lt, leb-true, ltb-true}
use Rattle.std.specs.List.{list_any, cons_option}
use Rattle.std.specs.Ordering.{nat_cmp}
use Rattle.std.specs.declared.cmp.Ordering.TheVariants.{Less}
use Rattle.std.specs.Ordering.{ordering_reverse}
use Rattle.std.specs.Cmp.Lexicographic.{slice_cmp, nat_list_cmp_total}
use Rattle.std.proofs.lemmas.Bool.{cases_eq, cases_lt, false≢true, and_parts, and_from, or_cases, false_from_ne_true}
use Rattle.std.proofs.lemmas.List.{get_or_default}
use Rattle.std.proofs.lemmas.Option.{same_Some, slice_get_within, get_or_from_slice_get, slice_get-get_or}
use Rattle.graph_model.specs.Graph.{GraphEdge, DetectorGraph, ends_of, ends_at, is_in}
use Rattle.graph_model.specs.Problems.{Part, places_of, IsOpen, free, along}
use Rattle.graph_model.specs.declared.PartEdge.{PartEdge}
use Rattle.graph_model.proofs.Members.{is_in_first, is_in_cases, is_in-Contains, any_found, any_from}
use Rattle.window_model.specs.Cells.{Cell, CellOrder, rank_key, cell_of}
use Rattle.graph_model.specs.declared.Tag.{Tag}
use Rattle.window_model.specs.Windows.{Window, home_of, is_reached, touches, goes_below, detectors_of, window_of, window_at}
use Rattle.window_model.specs.Parts.{place_of, part_edge, part_over}
use Rattle.window_model.specs.Grounded.{ReachesOut, leaves, stays, OpenLaw}
use Rattle.window_model.proofs.Plans.{at_window, count_is, edge_below, passing, in_below}
use Rattle.window_model.proofs.Quiet.{IsApart, filter_apart}
use Rattle.window_model.proofs.PartLaws.{place_at, place_found, ends_places}

-- ---- one cell has one number

not_below_itself : (key : List ℕ) → slice_cmp nat_cmp key key ≡ Less → ⊥
not_below_itself key e = less_greater (sym e ∙ nat_list_cmp_total.antisymm key key
    ∙ ap ordering_reverse e)
  where
    less_greater : Less ≡ ordering_reverse Less → ⊥
    less_greater h = cc

same_number : (order : CellOrder) (cells : List Cell) →
    AllPairs (λ a b. slice_cmp nat_cmp (rank_key order a) (rank_key order b) ≡ Less) cells →
    (i j : ℕ) (c : Cell) → slice_get cells i ≡ Some c → slice_get cells j ≡ Some c → i ≡ j
same_number order cells apart i j c e f =
    ⊎_elim (λ l. absurd (clash i j l e f)) (λ ge. ⊎_elim (λ l. absurd (clash j i l f e)) (λ le.
    omega (arith, ge, le)) (cases_lt j i)) (cases_lt i j)
  where
    clash : (a b : ℕ) → a < b → slice_get cells a ≡ Some c → slice_get cells b ≡ Some c → ⊥
    clash a b l x y =
        not_below_itself (rank_key order c)
        (subst (λ d. slice_cmp nat_cmp (rank_key order d) (rank_key order c)
        ≡ Less) (get_or_from_slice_get cells a c c x)
        (subst (λ d. slice_cmp nat_cmp (rank_key order (get_or cells a c)) (rank_key order d)
        ≡ Less) (get_or_from_slice_get cells b c c y)
        (apart a b c l (slice_get_within cells b c y))))

-- ---- the entries of a part

any_later : {X : Type 0} (P : X → Type 0) (o : Option X) (xs : List X) → Any P xs →
    Any P (cons_option o xs)
any_later P None xs h = h
any_later P (Some x) xs h = (suc h.0, h.1, omega (arith, h.2), h.3, h.4)

any_entry_at : (P : PartEdge → Type 0) (g : DetectorGraph) (window : Window) (e : ℕ)
    (edge : GraphEdge) → slice_get g.edges e ≡ Some edge → (es : List ℕ) → is_in es e ≡ true →
    P (part_edge window e edge) →
    Any P (filter_map (λ x. option_map (part_edge window x) (slice_get g.edges x)) es)
any_entry_at P g window e edge at [] m h = absurd (false≢true m)
any_entry_at P g window e edge at (x ∷ es) m h =
    ⊎_elim
    (λ same.
    subst (λ o. Any P (cons_option o
    (filter_map (λ y. option_map (part_edge window y) (slice_get g.edges y)) es)))
    (sym (ap (λ n. option_map (part_edge window n) (slice_get g.edges n)) same
    ∙ ap (option_map (part_edge window e)) at))
    (0, part_edge window e edge, omega arith, refl, h))
    (λ later. any_later P (option_map (part_edge window x) (slice_get g.edges x)) _
    (any_entry_at P g window e edge at es later h))
    (is_in_cases x e es m)

-- the ends of an edge with two different ones
two_ends : (edge : GraphEdge) (u v : ℕ) → (u ≡ v → ⊥) → is_in (ends_of edge) u ≡ true →
    is_in (ends_of edge) v ≡ true → (ends_of edge ≡ u ∷ v ∷ []) ⊎ (ends_of edge ≡ v ∷ u ∷ [])
two_ends edge u v ne = by_second edge.second
  where
    in_one : (a x : ℕ) → is_in (a ∷ []) x ≡ true → a ≡ x
    in_one a x m = ⊎_elim (λ e. e) (λ r. absurd (false≢true r)) (is_in_cases a x [] m)

    in_two : (a b x : ℕ) → is_in (a ∷ b ∷ []) x ≡ true → (a ≡ x) ⊎ (b ≡ x)
    in_two a b x m = ⊎_elim inl (λ r. inr (in_one b x r)) (is_in_cases a x (b ∷ []) m)

    pair : (a b : ℕ) → (a ≡ u) ⊎ (b ≡ u) → (a ≡ v) ⊎ (b ≡ v) → (a ∷ b ∷ [] ≡ u ∷ v ∷ [])
        ⊎ (a ∷ b ∷ [] ≡ v ∷ u ∷ [])
    pair a b (inl p) (inl q) = absurd (ne (sym p ∙ q))
    pair a b (inl p) (inr q) = inl (ap (λ x. x ∷ b ∷ []) p ∙ ap (λ y. u ∷ y ∷ []) q)
    pair a b (inr p) (inl q) = inr (ap (λ x. x ∷ b ∷ []) q ∙ ap (λ y. v ∷ y ∷ []) p)
    pair a b (inr p) (inr q) = absurd (ne (sym p ∙ q))

    by_second : (o : Option ℕ) → is_in (edge.first ∷ option_to_list o) u ≡ true →
        is_in (edge.first ∷ option_to_list o) v ≡ true →
        (edge.first ∷ option_to_list o ≡ u ∷ v ∷ []) ⊎ (edge.first ∷ option_to_list o ≡ v ∷ u ∷ [])
    by_second None m n = absurd (ne (sym (in_one edge.first u m) ∙ in_one edge.first v n))
    by_second (Some b) m n = pair edge.first b (in_two edge.first b u m) (in_two edge.first b v n)

-- ---- a window of a grounded graph

reached_above : (g : DetectorGraph) (homes : List ℕ) (w n v : ℕ) → is_reached g homes w n v ≡ true →
    w ≤ home_of homes v
reached_above g homes w zero v h = omega (arith, eqb-true (home_of homes v) w h)
reached_above g homes w (suc n) v h =
    ⊎_elim (λ l. reached_above g homes w n v l)
    (λ r. leb-true w (home_of homes v) (and_parts (nat_le w (home_of homes v)) (list_any (λ edge.
    is_in (ends_of edge) v && list_any (is_reached g homes w n) (ends_of edge)) g.edges) r).0)
    (or_cases (is_reached g homes w n v) (nat_le w (home_of homes v) && list_any (λ edge.
    is_in (ends_of edge) v && list_any (is_reached g homes w n) (ends_of edge)) g.edges) h)

module _ (g : DetectorGraph) (tags : List Tag) (homes : List ℕ) (count buffer w : ℕ)
    (same_home : (u v : ℕ) → v < g.vertices → slice_get tags u ≡ slice_get tags v →
    home_of homes u ≡ home_of homes v) where
  abbrev inside : List ℕ
  inside = detectors_of g homes buffer w

  abbrev window : Window
  window = window_of g tags homes count buffer w

  abbrev part : Part
  part = part_over g w window

  apart : IsApart inside
  apart = filter_apart (is_reached g homes w buffer) 0 g.vertices

  above : (v : ℕ) → is_in inside v ≡ true → (v < g.vertices) × (w ≤ home_of homes v)
  above v m = let k = in_below (is_reached g homes w buffer) g.vertices v m in
      (k.0, reached_above g homes w buffer v k.1)

  -- an edge at one of the window's detectors, with no lower end, is one of the window's
  is_edge : (e : ℕ) (edge : GraphEdge) → slice_get g.edges e ≡ Some edge →
      (v : ℕ) → is_in (ends_of edge) v ≡ true → is_in inside v ≡ true →
      ((x : ℕ) → is_in (ends_of edge) x ≡ true → w ≤ home_of homes x) → is_in window.edges e ≡ true
  is_edge e edge at v end m high =
      edge_below g (λ x. touches inside x && not (goes_below homes w x)) e edge at
      (and_from (touches inside edge) (not (goes_below homes w edge))
      (any_from (is_in inside) (ends_of edge) v end m)
      (ap not (false_from_ne_true (goes_below homes w edge) (λ low.
      let f = any_found (λ x. nat_lt (home_of homes x) w) (ends_of edge) low in
      let l = ltb-true (home_of homes f.0) w f.2 in
      let k = high f.0 f.1 in omega (arith, l, k)))))

  abbrev places_in : List ℕ → List ℕ
  places_in ends = let places = filter_map (place_of inside) ends in
      slice_index places 0 ∷ option_to_list (slice_get places 1)

  alone : (p : ℕ) (e : ℕ) (edge : GraphEdge) → slice_get g.edges e ≡ Some edge →
      is_in window.edges e ≡ true → places_in (ends_of edge) ≡ p ∷ [] → IsOpen part p
  alone p e edge at m only =
      free (any_entry_at (λ x. places_of x ≡ p ∷ []) g window e edge at window.edges m only)

  step : (v u e : ℕ) → is_in inside v ≡ true → (p : ℕ) → place_of inside v ≡ Some p →
      ends_at g v e ≡ true → ends_at g u e ≡ true → slice_get tags u ≡ slice_get tags v →
      (is_in inside u ≡ true → (q : ℕ) → place_of inside u ≡ Some q → IsOpen part q) → IsOpen part p
  step v u e m p place end_v end_u same later = ⊎_elim (λ s. later (subst (λ x. is_in inside x
      ≡ true) (sym s) m) p (ap (place_of inside) s ∙ place)) different (cases_eq u v)
    where
      f : (edge : GraphEdge) × (slice_get g.edges e ≡ Some edge) × (is_in (ends_of edge) v ≡ true)
      f = passing (λ edge. is_in (ends_of edge) v) (slice_get g.edges e) end_v

      there : is_in (ends_of f.0) u ≡ true
      there =
          let k = passing (λ edge. is_in (ends_of edge) u) (slice_get g.edges e) end_u in
          subst (λ edge. is_in (ends_of edge) u ≡ true) (same_Some k.0 f.0 (sym k.1 ∙ f.1)) k.2

      high : (u ≡ v → ⊥) → (x : ℕ) → is_in (ends_of f.0) x ≡ true → w ≤ home_of homes x
      high ne x i =
          let a = above v m in
          let both : (x ≡ u) ⊎ (x ≡ v) = ⊎_elim
          (λ ends. ⊎_elim (λ s. inl (sym s)) (λ r.
          ⊎_elim (λ s. inr (sym s)) (λ z. absurd (false≢true z)) (is_in_cases v x [] r))
          (is_in_cases u x (v ∷ []) (subst (λ xs. is_in xs x ≡ true) ends i)))
          (λ ends. ⊎_elim (λ s. inr (sym s)) (λ r.
          ⊎_elim (λ s. inl (sym s)) (λ z. absurd (false≢true z)) (is_in_cases u x [] r))
          (is_in_cases v x (u ∷ []) (subst (λ xs. is_in xs x ≡ true) ends i)))
          (two_ends f.0 u v ne there f.2) in
          ⊎_elim (λ s. subst (λ n. w ≤ n) (sym (ap (home_of homes) s ∙ same_home u v a.0 same)) a.1)
          (λ s. subst (λ n. w ≤ n) (sym (ap (home_of homes) s)) a.1) both

      by_place : (ne : u ≡ v → ⊥) (o : Option ℕ) → place_of inside u ≡ o → is_in window.edges e
          ≡ true → IsOpen part p
      by_place ne None none_ mine =
          alone p e f.0 f.1 mine
          (⊎_elim
          (λ ends. ap places_in ends
          ∙ ap (λ o. let places = cons_option o (cons_option (place_of inside v) []) in
          slice_index places 0 ∷ option_to_list (slice_get places 1)) none_
          ∙ ap (λ o. let places = cons_option o [] in
          slice_index places 0 ∷ option_to_list (slice_get places 1)) place)
          (λ ends. ap places_in ends
          ∙ ap (λ o. let places = cons_option o (cons_option (place_of inside u) []) in
          slice_index places 0 ∷ option_to_list (slice_get places 1)) place
          ∙ ap (λ o. let places = cons_option (Some p) (cons_option o []) in
          slice_index places 0 ∷ option_to_list (slice_get places 1)) none_)
          (two_ends f.0 u v ne there f.2))
      by_place ne (Some q) some_ mine =
          let at_p = place_found inside v p place in
          let at_q = place_found inside u q some_ in
          let touched : touches inside f.0 ≡ true = any_from (is_in inside) (ends_of f.0) v f.2 m in
          along
          (any_entry_at (λ x. (is_in (places_of x) p ≡ true) × (is_in (places_of x) q ≡ true)) g
          window e f.0 f.1 window.edges mine (
            ends_places inside apart p at_p.0 f.0 touched ∙ ap (is_in (ends_of f.0)) at_p.1 ∙ f.2,
            ends_places inside apart q at_q.0 f.0 touched ∙ ap (is_in (ends_of f.0)) at_q.1 ∙ there,
          ))
          (later (is_in-Contains inside u (q, at_q.0, get_or_at q at_q.0 at_q.1)) q some_)
        where
          get_or_at : (i : ℕ) → i < length inside → get_or inside i 0 ≡ u → get_or inside i u ≡ u
          get_or_at i l h = get_or_default inside i u 0 l ∙ h

      different : (u ≡ v → ⊥) → IsOpen part p
      different ne = by_place ne (place_of inside u) refl (is_edge e f.0 f.1 v f.2 m (high ne))

  open_from : (v : ℕ) → ReachesOut g tags v → is_in inside v ≡ true → (p : ℕ) → place_of inside v
      ≡ Some p → IsOpen part p
  open_from v (leaves e edge at ends) m p place =
      alone p e edge at
      (is_edge e edge at v (subst (λ xs. is_in xs v ≡ true) (sym ends) (is_in_first v [])) m
      (λ x i. ⊎_elim (λ s. subst (λ y. w ≤ home_of homes y) s (above v m).1) (λ r.
      absurd (false≢true r)) (is_in_cases v x [] (subst (λ xs. is_in xs x ≡ true) ends i))))
      (ap places_in ends ∙ ap (λ o. let places = cons_option o [] in
      slice_index places 0 ∷ option_to_list (slice_get places 1)) place)
  open_from v (stays e u end_v end_u same rest) m p place =
      step v u e m p place end_v end_u same (λ inside_u q place_u.
      open_from u rest inside_u q place_u)

pub open_law : OpenLaw
open_law g tags order commit buffer plan graph each_tag h grounded w place within_plan within =
    subst (λ (x : Window). IsOpen (part_over g w x) place) (sym made)
    (open_from g tags plan.homes (length plan.cells) buffer w same_home (get_or inside_ place 0)
    (grounded (get_or inside_ place 0) vertex) member place
    (place_at inside_ place (filter_apart (is_reached g plan.homes w buffer) 0 g.vertices)
    within_inside))
  where
    inside_ : List ℕ
    inside_ = detectors_of g plan.homes buffer w

    made : window_at plan w ≡ window_of g tags plan.homes (length plan.cells) buffer w
    made = at_window g tags order commit buffer plan graph each_tag h w (let c =
        count_is g tags order commit buffer plan graph each_tag h in omega (arith, c, within_plan))

    within_inside : place < length inside_
    within_inside = subst (λ (x : Window). place < length x.detectors) made within

    member : is_in inside_ (get_or inside_ place 0) ≡ true
    member = is_in-Contains inside_ (get_or inside_ place 0) (
      place,
      within_inside,
      get_or_default inside_ place (get_or inside_ place 0) 0 within_inside,
    )

    vertex : get_or inside_ place 0 < g.vertices
    vertex =
        (in_below (is_reached g plan.homes w buffer) g.vertices (get_or inside_ place 0) member).0

    no_tag : Tag
    no_tag = record { slot = 0; tile_row = 0; tile_col = 0 }

    same_home : (u v : ℕ) → v < g.vertices → slice_get tags u ≡ slice_get tags v →
        home_of plan.homes u ≡ home_of plan.homes v
    same_home u v l e =
        let at_v : slice_get tags v ≡ Some (get_or tags v no_tag) =
        slice_get-get_or tags v no_tag (omega (arith, each_tag, l)) in
        same_number order plan.cells h.cells.ranked (home_of plan.homes u) (home_of plan.homes v)
        (cell_of commit (get_or tags v no_tag))
        (h.homes.home u (get_or tags v no_tag) (e ∙ at_v))
        (h.homes.home v (get_or tags v no_tag) at_v)
