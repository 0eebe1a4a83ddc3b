-- Weights of walks to the free ends, where one is lowered.
use Rattle.std.proofs.Common.{◌≡◌, ◌≢◌, ℕ, Bool, true, false, ◌||◌, suc, ◌+◌, ◌<◌, ◌≤◌, List, [], ◌∷◌, ◌++◌, zero, All, Contains, Option, Some, None, get_or, length, set, take, replicate, refl, sym, ap, ◌∙◌, arith, subst, ⊎_elim, ◌⊎◌, inl, inr}
use Rattle.std.specs.Prelude.{IfSome, sum}
use Rattle.std.specs.Option.{option_map_or, unwrap_or}
use Rattle.std.proofs.lemmas.Bool.{cases_eq, false≢true}
use Rattle.std.proofs.lemmas.List.{get_or_default, get_or-replicate, get_or-set_other, get_or-set_same, length-replicate, length-set, take_more}
use Rattle.std.proofs.lemmas.List.Elements.{All-replicate, All-set}
use Rattle.std.proofs.lemmas.List.Sums.{sum_by-set}
use Rattle.graph_model.specs.Problems.{IsPartEdge}
use Rattle.graph_model.specs.declared.PartEdge.{PartEdge}
use Rattle.detector_graph.specs.Steps.{AreLed, back, far_of, forth, home, IsCloseEdge, LeadsHome, no_way, step_starts}

pub unwrap_far : (o : Option ℕ) (d : ℕ) → unwrap_or o d ≡ option_map_or (λ x. x) o d
unwrap_far None d = refl
unwrap_far (Some x) d = refl

module _ (places : ℕ) where
  starts_append : (es : List PartEdge) (edge : PartEdge) →
      step_starts places (es ++ edge ∷ []) ≡ (step_starts places es ++ edge.first ∷ [])
      ++ far_of places edge ∷ []
  starts_append [] edge = refl
  starts_append (x ∷ xs) edge = ap (λ vs. x.first ∷ far_of places x ∷ vs) (starts_append xs edge)

  pub starts_more : (es : List PartEdge) (i : ℕ) (d : PartEdge) → i < length es →
      step_starts places (take (i + 1) es)
      ≡ (step_starts places (take i es) ++ (get_or es i d).first ∷ [])
      ++ far_of places (get_or es i d) ∷ []
  starts_more es i d l = ap (step_starts places) (take_more es i d l)
      ∙ starts_append (take i es) (get_or es i d)

  pub starts_long : (es : List PartEdge) → length (step_starts places es) ≡ length es + length es
  starts_long [] = refl
  starts_long (x ∷ xs) = let n = starts_long xs in omega (arith, n)

  far_cases : (o : Option ℕ) (first : ℕ) → first < places →
      IfSome o (λ other. (other < places) × (other ≢ first)) →
      (option_map_or (λ x. x) o places < suc places) × (option_map_or (λ x. x) o places ≢ first)
  far_cases None first low so = (omega arith, λ e. omega (arith, e, low))
  far_cases (Some x) first low so = let l = so.0 in (omega (arith, l), so.1)

  -- the ends of an edge are two vertices
  pub far_in : (edge : PartEdge) → IsPartEdge places edge → (far_of places edge < suc places)
      × (far_of places edge ≢ edge.first)
  far_in edge fits_ = far_cases edge.second edge.first fits_.first fits_.second

  pub starts_in : (es : List PartEdge) → All (IsPartEdge places) es →
      All (λ v. v < suc places) (step_starts places es)
  starts_in [] fit k d l = absurd (omega (arith, l))
  starts_in (x ∷ xs) fit zero d l = let f = (fit 0 x (omega arith)).first in omega (arith, f)
  starts_in (x ∷ xs) fit (suc zero) d l = (far_in x (fit 0 x (omega arith))).0
  starts_in (x ∷ xs) fit (suc (suc k)) d l =
      starts_in xs (λ j e m. fit (suc j) e (omega (arith, m))) k d (omega (arith, l))

  -- ---- a walk of less weight is found
  module _ (homes : List ℕ) (v x : ℕ) (in_ : v < length homes) (less : x < get_or homes v 0) where
    pub sum_falls : sum (set homes v x) < sum homes
    sum_falls = let s = sum_by-set (λ n. n) homes v x 0 in_ in let k = s in omega (arith, k, less)

    pub lowered : (edges : List PartEdge) → LeadsHome places edges v x → AreLed places edges homes →
        AreLed places edges (set homes v x)
    lowered edges leads are = record {
      count = length-set homes v x ∙ are.count;
      low = All-set (λ d. d ≤ no_way) homes v x (let l = are.low v 0 in_ in
          omega (arith, l, less)) are.low;
      end_ = get_or-set_other homes v places x 0 (λ e. let z = are.end_ in let k =
          ap (λ u. get_or homes u 0) e in omega (arith, z, k, less)) ∙ are.end_;
      led = λ u l. ⊎_elim
          (λ e. inr (subst (LeadsHome places edges u)
          (sym (ap (λ w. get_or (set homes v x) w 0) e ∙ get_or-set_same homes v x 0 in_))
          (subst (λ w. LeadsHome places edges w x) (sym e) leads)))
          (λ ne. subst (λ d. (d ≡ no_way) ⊎ LeadsHome places edges u d)
          (sym (get_or-set_other homes v u x 0 ne)) (are.led u l))
          (cases_eq u v);
    }

  -- what a vertex has that is left by an edge from another
  led_there : (homes : List ℕ) (edges : List PartEdge) (v y : ℕ) → AreLed places edges homes → v
      < suc places →
      get_or homes v 0 + y < no_way → LeadsHome places edges v (get_or homes v 0)
  led_there homes edges v y are l low = ⊎_elim (λ e. absurd (omega (arith, e, low))) (λ k. k)
      (are.led v l)

  module _ (homes : List ℕ) (count : length homes ≡ suc places)
      (low : All (λ d. d ≤ no_way) homes) (edge : PartEdge) (fits_ : IsPartEdge places edge) where
    first_in : edge.first < length homes
    first_in = let f = fits_.first in omega (arith, f, count)

    far_in_ : far_of places edge < length homes
    far_in_ = let f = (far_in edge fits_).0 in omega (arith, f, count)

    pub lower_first : (n : ℕ) → n ≡ get_or homes (far_of places edge) 0 + edge.weight → n
        < get_or homes edge.first 0 →
        (edges : List PartEdge) → Contains edges edge → AreLed places edges homes →
        AreLed places edges (set homes edge.first n)
    lower_first n is less edges has are =
        let most = low edge.first 0 first_in in
        let walk = led_there homes edges (far_of places edge) edge.weight are (far_in edge fits_).0
        (omega (arith, is, less, most)) in
        lowered homes edge.first n first_in less edges
        (subst (LeadsHome places edges edge.first) (omega (arith, is)) (forth edge has walk)) are

    pub lower_far : (n : ℕ) → n ≡ get_or homes edge.first 0 + edge.weight → n
        < get_or homes (far_of places edge) 0 →
        (edges : List PartEdge) → Contains edges edge → AreLed places edges homes →
        AreLed places edges (set homes (far_of places edge) n)
    lower_far n is less edges has are =
        let most = low (far_of places edge) 0 far_in_ in
        let f = fits_.first in
        let walk = led_there homes edges edge.first edge.weight are (omega (arith, f))
        (omega (arith, is, less, most)) in
        lowered homes (far_of places edge) n far_in_ less edges
        (subst (LeadsHome places edges (far_of places edge)) (omega (arith, is))
        (back edge has walk)) are

  -- ---- nothing is found yet but at the free ends
  pub start_led : (edges : List PartEdge) (homes : List ℕ) → homes
      ≡ replicate (places + 1) no_way → AreLed places edges (set homes places 0)
  start_led edges homes is = record {
    count = length-set homes places 0 ∙ long;
    low = All-set (λ d. d ≤ no_way) homes places 0 (omega arith)
        (subst (All (λ d. d ≤ no_way)) (sym is) (All-replicate (λ d. d ≤ no_way) (places + 1)
        no_way (omega arith)));
    end_ = at_end;
    led = λ v l. ⊎_elim
        (λ e. inr (subst (λ u. LeadsHome places edges u (get_or (set homes places 0) u 0)) (sym e)
        (subst (LeadsHome places edges places) (sym at_end) home)))
        (λ ne. inl (get_or-set_other homes places v 0 0 ne ∙ ap (λ hs. get_or hs v 0) is
        ∙ get_or-replicate (places + 1) v no_way 0 (omega (arith, l))))
        (cases_eq v places);
  }
    where
      long : length homes ≡ suc places
      long = ap length is ∙ length-replicate (places + 1) no_way ∙ omega arith

      at_end : get_or (set homes places 0) places 0 ≡ 0
      at_end = get_or-set_same homes places 0 0 (omega (arith, long))

  -- ---- one edge more is looked at
  module _ (edges : List PartEdge) (old cur new : List ℕ) where
    pub most_on : (now : Bool) → (now ≡ true → sum new < sum cur) → (now ≡ false → new ≡ cur) →
        sum cur ≤ sum old → sum new ≤ sum old
    most_on true less same most = let l = less refl in omega (arith, l, most)
    most_on false less same most = let e = ap sum (same refl) in omega (arith, e, most)

    pub less_on : (before now : Bool) → (before ≡ true → sum cur < sum old) → sum cur ≤ sum old →
        (now ≡ true → sum new < sum cur) →
        (now ≡ false → new ≡ cur) → before || now ≡ true → sum new < sum old
    less_on true true falls most less same h = let l = less refl in omega (arith, l, most)
    less_on true false falls most less same h = let e = ap sum (same refl) in let l = falls refl in
        omega (arith, e, l)
    less_on false true falls most less same h = let l = less refl in omega (arith, l, most)
    less_on false false falls most less same h = absurd (false≢true h)

    pub close_on : (before now : Bool) (i : ℕ) (e : PartEdge) → i < length edges →
        (before ≡ false → (k : ℕ) (d : PartEdge) → k < i →
        IsCloseEdge places cur (get_or edges k d)) →
        (now ≡ false → new ≡ cur) → (now ≡ false → IsCloseEdge places cur (get_or edges i e)) →
        before || now ≡ false →
        (k : ℕ) (d : PartEdge) → k < i + 1 → IsCloseEdge places new (get_or edges k d)
    close_on true now i e l earlier same last h k d m = absurd (false≢true (sym h))
    close_on false true i e l earlier same last h k d m = absurd (false≢true (sym h))
    close_on false false i e l earlier same last h k d m =
        subst (λ hs. IsCloseEdge places hs (get_or edges k d)) (sym (same refl))
        (⊎_elim (λ eq. subst (IsCloseEdge places cur)
        (get_or_default edges i e d l ∙ ap (λ j. get_or edges j d) (sym eq)) (last refl))
        (λ ne. earlier refl k d (omega (arith, m, ne))) (cases_eq k i))
