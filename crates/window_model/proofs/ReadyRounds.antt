-- Ready rounds: computed from ready slots, attained, and enough to wait for.
use Rattle.std.proofs.Common.{◌≡◌, ℕ, zero, suc, ◌<◌, ◌≤◌, ◌⊎◌, ⊎_elim, inl, inr, max, true, List, [], ◌∷◌, ◌++◌, length, map, get_or, fold, refl, sym, ap, ◌∙◌, subst, arith, IsSome, All, length-append, slice_index}
use Rattle.std.proofs.Math.ListN.{get_or-append}
use Rattle.std.proofs.Math.Seq.{get_or-append_seam}
use Rattle.std.proofs.lemmas.Bool.{cases_lt, false≢true, or_cases, or_left, or_right}
use Rattle.graph_model.specs.Parity.{parity}
use Rattle.graph_model.specs.Graph.{flips, is_in}
use Rattle.graph_model.proofs.Members.{is_in_first, is_in_rest, is_in_cases, is_in-Contains, Contains-is_in, is_in-append, any_found, All-at, all_within, map_same_in}
use Rattle.window_model.specs.Windows.{WindowPlan, IsAncestor, direct, through, window_at, window_count}
use Rattle.window_model.specs.Decoder.{Task, Decoder, needs, operation_at, HasRaw}
use Rattle.window_model.specs.Gates.{WaitsFor, raw, needed, older, latest, AreReadySlots, round_over}
use Rattle.window_model.specs.Laws.{IsSettled}
use Rattle.window_model.specs.GateLaws.{RoundLaw, OneRoundLaw, ComputedRoundLaw, PromptLaw, OpenGateLaw}
use Rattle.window_model.proofs.Plans.{in_below}

-- ---- the greatest of a list

from_first : (a : ℕ) (xs : List ℕ) → a ≤ fold max a xs
from_first a [] = omega arith
from_first a (x ∷ xs) = let ih = from_first (max a x) xs in omega (arith, ih)

bounds : (a : ℕ) (xs : List ℕ) (x : ℕ) → is_in xs x ≡ true → x ≤ fold max a xs
bounds a [] x m = absurd (false≢true m)
bounds a (y ∷ ys) x m = ⊎_elim (λ e. let b = from_first (max a y) ys in omega (arith, b, e)) (λ r.
    bounds (max a y) ys x r) (is_in_cases y x ys m)

reached : (a : ℕ) (xs : List ℕ) → (fold max a xs ≡ a) ⊎ (is_in xs (fold max a xs) ≡ true)
reached a [] = inl refl
reached a (x ∷ xs) =
    ⊎_elim
    (λ e. ⊎_elim
    (λ (low : a < x). let top : x ≡ fold max (max a x) xs = omega (arith, e, low) in
    inr (subst (λ y. is_in (x ∷ xs) y ≡ true) top (is_in_first x xs)))
    (λ (high : x ≤ a). inl (omega (arith, e, high)))
    (cases_lt a x))
    (λ r. inr (is_in_rest x (fold max (max a x) xs) xs r))
    (reached (max a x) xs)

in_map : (f : ℕ → ℕ) (xs : List ℕ) (y : ℕ) → is_in (map f xs) y ≡ true →
    (x : ℕ) × (is_in xs x ≡ true) × (f x ≡ y)
in_map f [] y m = absurd (false≢true m)
in_map f (x ∷ xs) y m =
    ⊎_elim (λ e. (x, is_in_first x xs, e)) (λ r. let k = in_map f xs y r in
    (k.0, is_in_rest x k.0 xs k.1, k.2)) (is_in_cases (f x) y (map f xs) m)

map_in : (f : ℕ → ℕ) (xs : List ℕ) (x : ℕ) → is_in xs x ≡ true → is_in (map f xs) (f x) ≡ true
map_in f [] x m = absurd (false≢true m)
map_in f (y ∷ ys) x m =
    ⊎_elim (λ e. subst (λ z. is_in (f y ∷ map f ys) (f z) ≡ true) e (is_in_first (f y) (map f ys)))
    (λ r. is_in_rest (f y) (f x) (map f ys) (map_in f ys x r)) (is_in_cases y x ys m)

in_left : (xs ys : List ℕ) (x : ℕ) → is_in xs x ≡ true → is_in (xs ++ ys) x ≡ true
in_left xs ys x m = is_in-append xs ys x ∙ or_left (is_in xs x) (is_in ys x) m

in_right : (xs ys : List ℕ) (x : ℕ) → is_in ys x ≡ true → is_in (xs ++ ys) x ≡ true
in_right xs ys x m = is_in-append xs ys x ∙ or_right (is_in xs x) (is_in ys x) m

-- ---- ready slots

module _ (plan : WindowPlan) (lower : (w x : ℕ) → is_in (window_at plan w).deps x ≡ true →
    x < w) (slots : List ℕ) (are : AreReadySlots plan slots) where
  last_low : (w : ℕ) → w < window_count plan → (window_at plan w).last ≤ get_or slots w 0
  last_low w l = let b = from_first (window_at plan w).last
      (map (slice_index slots) (window_at plan w).deps) in omega (arith, b, are.ready w l)

  dep_low : (w x : ℕ) → w < window_count plan → is_in (window_at plan w).deps x ≡ true →
      get_or slots x 0 ≤ get_or slots w 0
  dep_low w x l dep =
      let b = bounds (window_at plan w).last (map (slice_index slots) (window_at plan w).deps)
      (get_or slots x 0) (map_in (slice_index slots) (window_at plan w).deps x dep) in
      omega (arith, b, are.ready w l)

  older_low : (x w : ℕ) → w < window_count plan → IsAncestor plan x w →
      (window_at plan x).last ≤ get_or slots w 0
  older_low x w l (direct dep) = let low = lower w x dep in
      let a = last_low x (omega (arith, low, l)) in let b = dep_low w x l dep in omega (arith, a, b)
  older_low x w l (through {y = y} anc dep) =
      let low = lower w y dep in let a = older_low x y (omega (arith, low, l)) anc in
      let b = dep_low w y l dep in omega (arith, a, b)

  -- a ready slot is the last slot of the window or of an ancestor
  attained : (n w : ℕ) → w < n → w < window_count plan → ((window_at plan w).last ≡ get_or slots w
      0) ⊎ ((x : ℕ) × IsAncestor plan x w × ((window_at plan x).last ≡ get_or slots w 0))
  attained zero w l within = absurd (omega arith)
  attained (suc n) w l within =
      ⊎_elim (λ own. inl (sym (are.ready w within ∙ own)))
      (λ r.
      let k = in_map (slice_index slots) (window_at plan w).deps (latest plan slots w) r in
      let low = lower w k.0 k.1 in
      inr (from_dep k.0 k.1 (k.2 ∙ sym (are.ready w within)) (attained n k.0 (omega (arith, low, l))
      (omega (arith, low, within)))))
      (reached (window_at plan w).last (map (slice_index slots) (window_at plan w).deps))
    where
      from_dep : (x : ℕ) → is_in (window_at plan w).deps x ≡ true → get_or slots x 0
          ≡ get_or slots w 0 →
          ((window_at plan x).last ≡ get_or slots x 0)
          ⊎ ((y : ℕ) × IsAncestor plan y x × ((window_at plan y).last ≡ get_or slots x 0)) →
          (y : ℕ) × IsAncestor plan y w × ((window_at plan y).last ≡ get_or slots w 0)
      from_dep x dep same (inl own) = (x, direct dep, own ∙ same)
      from_dep x dep same (inr anc) = (anc.0, through anc.1 dep, anc.2 ∙ same)

-- ---- ready rounds

needed_within : (task : Task) (op w : ℕ) → is_in (needs task op) w ≡ true →
    w < window_count task.plan
needed_within task op w m = (in_below _ (window_count task.plan) w m).0

pub computed_round_law : ComputedRoundLaw
computed_round_law task slots op laws are some_label =
    record { waited = waited; greatest = greatest }
  where
    labels : List ℕ
    labels = (operation_at task op).labels

    raws : List ℕ
    raws = map (slice_index task.raw_slots) labels

    readies : List ℕ
    readies = map (slice_index slots) (needs task op)

    round : ℕ
    round = round_over task slots op

    label_low : (l : ℕ) → is_in labels l ≡ true → get_or task.raw_slots l 0 ≤ round
    label_low l m = bounds 0 (raws ++ readies) (get_or task.raw_slots l 0) (in_left raws readies
        (get_or task.raw_slots l 0) (map_in (slice_index task.raw_slots) labels l m))

    window_low : (w : ℕ) → is_in (needs task op) w ≡ true → get_or slots w 0 ≤ round
    window_low w m = bounds 0 (raws ++ readies) (get_or slots w 0)
        (in_right raws readies (get_or slots w 0) (map_in (slice_index slots) (needs task op) w m))

    greatest : (slot : ℕ) → WaitsFor task op slot → slot ≤ round
    greatest slot (raw l c) = label_low l (is_in-Contains labels l c)
    greatest slot (needed w m) =
        let a = last_low task.plan laws.deps_lower slots are w (needed_within task op w m) in
        let b = window_low w m in omega (arith, a, b)
    greatest slot (older x w m anc) =
        let a = older_low task.plan laws.deps_lower slots are x w (needed_within task op w m) anc in
        let b = window_low w m in omega (arith, a, b)

    at_label : (l : ℕ) → is_in labels l ≡ true → get_or task.raw_slots l 0 ≡ round →
        WaitsFor task op round
    at_label l m e = subst (WaitsFor task op) e (raw l (Contains-is_in labels l m))

    at_window : (w : ℕ) → is_in (needs task op) w ≡ true → get_or slots w 0 ≡ round →
        WaitsFor task op round
    at_window w m e =
        ⊎_elim (λ own. subst (WaitsFor task op) (own ∙ e) (needed w m)) (λ anc.
        subst (WaitsFor task op) (anc.2 ∙ e) (older anc.0 w m anc.1))
        (attained task.plan laws.deps_lower slots are (suc w) w (omega arith)
        (needed_within task op w m))

    -- the least round is that of a first observable
    at_zero : (ls : List ℕ) → ls ≡ labels → round ≡ 0 → WaitsFor task op round
    at_zero [] same none_ = absurd (some_label (sym same))
    at_zero (l ∷ ls) same none_ =
        let m : is_in labels l ≡ true = subst (λ xs. is_in xs l ≡ true) same (is_in_first l ls) in
        let low = label_low l m in at_label l m (omega (arith, low, none_))

    waited : WaitsFor task op round
    waited =
        ⊎_elim (at_zero labels refl)
        (λ m. ⊎_elim
        (λ r. let k = in_map (slice_index task.raw_slots) labels round r in at_label k.0 k.1 k.2)
        (λ r. let k = in_map (slice_index slots) (needs task op) round r in at_window k.0 k.1 k.2)
        (or_cases (is_in raws round) (is_in readies round) (sym (is_in-append raws readies round)
        ∙ m)))
        (reached 0 (raws ++ readies))

-- ---- there are ready slots

same_latest : (plan : WindowPlan) (one two : List ℕ) (w : ℕ) →
    ((x : ℕ) → is_in (window_at plan w).deps x ≡ true → get_or one x 0 ≡ get_or two x 0) →
    latest plan one w ≡ latest plan two w
same_latest plan one two w same = ap (fold max (window_at plan w).last)
    (map_same_in (slice_index one) (slice_index two) (window_at plan w).deps same)

record AreReadyBelow (plan : WindowPlan) (n : ℕ) (slots : List ℕ) : Type 0 where
  each_window : length slots ≡ n
  ready : (w : ℕ) → w < n → get_or slots w 0 ≡ latest plan slots w

ready_below : (plan : WindowPlan) → ((w x : ℕ) → is_in (window_at plan w).deps x ≡ true → x < w) →
    (n : ℕ) → (slots : List ℕ) × AreReadyBelow plan n slots
ready_below plan lower zero =
    ([], record { each_window = refl; ready = λ w l. absurd (omega arith) })
ready_below plan lower (suc n) = let k = ready_below plan lower n in one_more k.0 k.1
  where
    one_more : (slots : List ℕ) → AreReadyBelow plan n slots → (slots : List ℕ)
        × AreReadyBelow plan (suc n) slots
    one_more slots are = (
      more,
      record {
        each_window = omega (
          arith,
          length-append slots (latest plan slots n ∷ []),
          are.each_window,
        );
        ready = ready;
      },
    )
      where
        more : List ℕ
        more = slots ++ latest plan slots n ∷ []

        below : (w : ℕ) → w < n → get_or more w 0 ≡ get_or slots w 0
        below w l =
            get_or-append slots (latest plan slots n ∷ []) 0 w (omega (arith, l, are.each_window))

        kept : (w : ℕ) → w ≤ n → latest plan slots w ≡ latest plan more w
        kept w l = same_latest plan slots more w (λ x dep.
            sym (below x (let low = lower w x dep in omega (arith, low, l))))

        ready : (w : ℕ) → w < suc n → get_or more w 0 ≡ latest plan more w
        ready w l =
            ⊎_elim (λ (low : w < n). below w low ∙ are.ready w low ∙ kept w (omega (arith, low)))
            (λ (high : n ≤ w).
            let e : w ≡ length slots = omega (arith, l, high, are.each_window) in
            let f : n ≡ w = omega (arith, l, high) in
            ap (λ k. get_or more k 0) e ∙ get_or-append_seam slots (latest plan slots n) [] 0
            ∙ ap (latest plan slots) f ∙ kept w (omega (arith, f)))
            (cases_lt w n)

pub round_law : RoundLaw
round_law task op laws some_label =
    let k = ready_below task.plan laws.deps_lower (window_count task.plan) in (
      round_over task k.0 op,
      computed_round_law task k.0 op
          laws (record { each_window = k.1.each_window; ready = k.1.ready }) some_label,
    )

pub one_round_law : OneRoundLaw
one_round_law task op one two a b = let p = b.greatest one a.waited in
    let q = a.greatest two b.waited in omega (arith, p, q)

-- ---- what may be released

-- where all that it waits for has arrived
released_in_time : (task : Task) (d : Decoder) (op : ℕ) → IsSettled task d → op
    < length task.operations → All (λ l. l < length task.raw_slots) (operation_at task op).labels →
    ((slot : ℕ) → WaitsFor task op slot → slot < d.arrived) → IsSome (d.released op)
released_in_time task d op settled within named arrived =
    settled.operations op within
    (all_within (λ w. IsSome (d.kept w)) (needs task op) (λ w m. settled.windows w (needed_within
    task op w m) (arrived _ (needed w m)) (λ x anc. arrived _ (older x w m anc))))
    (all_within (HasRaw task d) (operation_at task op).labels (λ l m. record {
      in_range = All-at (λ x. x < length task.raw_slots) (operation_at task op).labels l named m;
      arrived = arrived _ (raw l (Contains-is_in (operation_at task op).labels l m));
    }))

pub prompt_law : PromptLaw
prompt_law task d op round settled within named ready low =
    released_in_time task d op settled within named (λ slot waits.
    let g = ready.greatest slot waits in omega (arith, g, low))

-- an operation with no observable needs no window, and waits for nothing
needs_nothing : (task : Task) (op : ℕ) → (operation_at task op).labels ≡ [] → (w : ℕ) →
    is_in (needs task op) w ≡ true → ⊥
needs_nothing task op none_ w m =
    let some_edge = any_found (λ e. parity (λ l. flips task.graph l e) (operation_at task
    op).labels) (window_at task.plan w).owned (in_below _ (window_count task.plan) w m).1 in
    false≢true (sym (ap (parity (λ l. flips task.graph l some_edge.0)) none_) ∙ some_edge.2)

waits_for_nothing : (task : Task) (op : ℕ) → (operation_at task op).labels ≡ [] → (slot : ℕ) →
    WaitsFor task op slot → ⊥
waits_for_nothing task op none_ slot (raw l c) = false≢true
    (subst (λ ls. is_in ls l ≡ true) none_ (is_in-Contains (operation_at task op).labels l c))
waits_for_nothing task op none_ slot (needed w m) = needs_nothing task op none_ w m
waits_for_nothing task op none_ slot (older x w m anc) = needs_nothing task op none_ w m

pub open_gate_law : OpenGateLaw
open_gate_law task d laws settled timely in_range = record {
  next = refl;
  in_range = in_range;
  released = λ op within early. in_time op within early (operation_at task op).labels refl;
}
  where
    in_time : (op : ℕ) → op < length task.operations → (operation_at task op).slot ≤ d.arrived →
        (labels : List ℕ) → (operation_at task op).labels ≡ labels → IsSome (d.released op)
    in_time op within early [] none_ = released_in_time task d op settled within
        (timely.named op within) (λ slot waits. absurd (waits_for_nothing task op none_ slot waits))
    in_time op within early (l ∷ ls) some_ =
        let k = round_law task op laws (λ none_. cons_not_nil l ls (sym some_ ∙ none_)) in
        prompt_law task d op k.0 settled within (timely.named op within) k.1
        (⊎_elim (λ (low : k.0 < (operation_at task op).slot).
        omega (arith, low, early)) (λ (late : (operation_at task op).slot ≤ k.0).
        absurd (timely.none_early op k.0 within (record { ready = k.1; not_below = late })))
        (cases_lt k.0 (operation_at task op).slot))
      where
        cons_not_nil : (x : ℕ) (xs : List ℕ) → x ∷ xs ≡ [] → ⊥
        cons_not_nil x xs h = cc
