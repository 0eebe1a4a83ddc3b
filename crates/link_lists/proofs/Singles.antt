-- Lists that each stand by themselves over the same nodes.
use Rattle.std.proofs.Common.{◌≡◌, ℕ, ◌<◌, List, [], ◌∷◌, length, get_or, replicate, slice_set, ⊎_elim, refl, sym, ap, ◌∙◌, subst, arith, zero, suc}
use Rattle.std.proofs.lemmas.Bool.{cases_eq, false≢true}
use Rattle.std.proofs.lemmas.List.{get_or-map, get_or-set_same, get_or-set_other, map-set}
use Rattle.std.proofs.lemmas.List.Elements.{All-set, All-replicate}
use Rattle.std.proofs.Math.ListN.{length-map, length-set}
use Rattle.graph_model.specs.Graph.{is_in}
use Rattle.link_lists.specs.Lists.{Lists, AreSingle, IsApart, IsOrderly, bare, firsts_of, list_at, with_list}

abbrev pub shown : ℕ → List Lists → Lists
shown nodes lists = record { nodes = nodes; lists = firsts_of lists }

first_at : (lists : List Lists) (l : ℕ) (one : Lists) → l < length lists →
    one ≡ get_or lists l one → get_or (firsts_of lists) l [] ≡ list_at one 0
first_at lists l one lt e = get_or-map (λ (c : Lists). list_at c 0) lists l one [] lt
    ∙ ap (λ (c : Lists). list_at c 0) (sym e)

put : (lists : List Lists) (l : ℕ) (s : Lists) → firsts_of (slice_set lists l s)
    ≡ slice_set (firsts_of lists) l (list_at s 0)
put lists l s = map-set (λ (c : Lists). list_at c 0) lists l s

pub in_range : (nodes : ℕ) (lists : List Lists) (l : ℕ) (t : Lists) → shown nodes lists ≡ t →
    l < length t.lists → l < length lists
in_range nodes lists l t e lt = omega (
  arith,
  lt,
  ap (λ (s : Lists). length s.lists) e,
  length-map lists (λ (c : Lists). list_at c 0),
)

-- one of them replaced
pub singles : (nodes : ℕ) (lists : List Lists) (l : ℕ) (one s : Lists) (ys : List ℕ) →
    AreSingle nodes lists → l < length lists → one ≡ get_or lists l one → s ≡ with_list one 0 ys →
    IsOrderly s → AreSingle nodes (slice_set lists l s)
singles nodes lists l one s ys r lt e w o =
    let was = subst (λ (c : Lists). (c.nodes ≡ nodes) × (length c.lists ≡ 1)) (sym e)
    (r.each l one lt) in
    let same_nodes : s.nodes ≡ nodes = ap (λ (c : Lists). c.nodes) w ∙ was.0 in
    let same_count : length s.lists ≡ 1 = ap (λ (c : Lists). length c.lists) w
    ∙ length-set one.lists 0 ys ∙ was.1 in
    let count : l < length (firsts_of lists) =
    omega (arith, lt, length-map lists (λ (c : Lists). list_at c 0)) in
    let here : list_at (shown nodes (slice_set lists l s)) l ≡ list_at s 0 =
    ap (λ ls. get_or ls l []) (put lists l s)
    ∙ get_or-set_same (firsts_of lists) l (list_at s 0) [] count in
    let other : (m : ℕ) → (m ≡ l → ⊥) → list_at (shown nodes (slice_set lists l s)) m
    ≡ list_at (shown nodes lists) m = λ m d.
    ap (λ ls. get_or ls m []) (put lists l s)
    ∙ get_or-set_other (firsts_of lists) l m (list_at s 0) [] d in
    record {
      each = All-set (λ (c : Lists). (c.nodes ≡ nodes) × (length c.lists ≡ 1)) lists l s
          (same_nodes, same_count) r.each;
      orderly = record {
        apart = λ m. ⊎_elim (λ k. subst IsApart (sym here
            ∙ ap (list_at (shown nodes (slice_set lists l s))) (sym k)) (o.apart 0)) (λ d.
            subst IsApart (sym (other m d)) (r.orderly.apart m)) (cases_eq m l);
        below = λ m v t. ⊎_elim
            (λ k. subst (λ n. v < n) same_nodes (o.below 0 v (ap (λ xs. is_in xs v)
            (sym (ap (list_at (shown nodes (slice_set lists l s))) k ∙ here)) ∙ t)))
            (λ d. r.orderly.below m v (ap (λ xs. is_in xs v) (sym (other m d)) ∙ t))
            (cases_eq m l);
      };
    }

pub view_is : (nodes : ℕ) (lists : List Lists) (l : ℕ) (one s t : Lists) (f : List ℕ → List ℕ) →
    AreSingle nodes lists → l < length lists → one ≡ get_or lists l one →
    s ≡ with_list one 0 (f (list_at one 0)) → shown nodes lists ≡ t
    → shown nodes (slice_set lists l s) ≡ with_list t l (f (list_at t l))
view_is nodes lists l one s t f r lt e w v =
    let was = subst (λ (c : Lists). (c.nodes ≡ nodes) × (length c.lists ≡ 1)) (sym e)
    (r.each l one lt) in
    let ys : List ℕ = f (list_at one 0) in
    let here : list_at s 0 ≡ ys = ap (λ (c : Lists). list_at c 0) w
    ∙ get_or-set_same one.lists 0 ys [] (omega (arith, was.1)) in
    subst (λ (u : Lists). shown nodes (slice_set lists l s) ≡ with_list u l (f (list_at u l))) v
    (ap (λ ls. record { nodes = nodes; lists = ls })
    (put lists l s ∙ ap (λ ys. slice_set (firsts_of lists) l ys) (here
    ∙ ap f (sym (first_at lists l one lt e)))))

-- lists without a node
pub begun : (nodes count : ℕ) → AreSingle nodes (replicate count (bare nodes 1))
begun nodes count = record {
  each = All-replicate (λ (c : Lists). (c.nodes ≡ nodes) × (length c.lists ≡ 1)) count
      (bare nodes 1) (refl, refl);
  orderly = record {
    apart = λ l. subst IsApart (sym (none l)) tt;
    below = λ l v t. absurd (false≢true (ap (λ xs. is_in xs v) (sym (none l)) ∙ t));
  };
}
  where
    all_empty : (n : ℕ) → firsts_of (replicate n (bare nodes 1)) ≡ replicate {A = List ℕ} n []
    all_empty zero = refl
    all_empty (suc n) = ap (λ ls. [] ∷ ls) (all_empty n)

    empty_at : (n l : ℕ) → get_or (replicate {A = List ℕ} n []) l [] ≡ []
    empty_at zero l = refl
    empty_at (suc n) zero = refl
    empty_at (suc n) (suc l) = empty_at n l

    none : (l : ℕ) → list_at (shown nodes (replicate count (bare nodes 1))) l ≡ []
    none l = ap (λ ls. get_or ls l []) (all_empty count) ∙ empty_at count l

pub begun_view : (nodes count : ℕ) → shown nodes (replicate count (bare nodes 1)) ≡ bare nodes count
begun_view nodes count = ap (λ ls. record { nodes = nodes; lists = ls }) (all_empty count)
  where
    all_empty : (n : ℕ) → firsts_of (replicate n (bare nodes 1)) ≡ replicate {A = List ℕ} n []
    all_empty zero = refl
    all_empty (suc n) = ap (λ ls. [] ∷ ls) (all_empty n)
