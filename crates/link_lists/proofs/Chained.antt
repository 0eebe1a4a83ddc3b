-- Lists over shared numbers: what a write makes of one list, and that it leaves the others.
use Rattle.std.proofs.Common.{◌≡◌, ◌≢◌, ℕ, zero, suc, ◌+◌, ◌<◌, ◌≤◌, ◌==◌, eqb, Bool, true, false, cond, List, [], ◌∷◌, length, map, slice_set, refl, sym, ap, ◌∙◌, subst, arith, eqb-true, eq-eqb, ⊎_elim}
use Rattle.std.proofs.lemmas.Bool.{false≢true, true≢false, ne_eqb, cases_eq}
use Rattle.std.proofs.lemmas.Bool.Decides.{nat_tests}
use Rattle.std.proofs.lemmas.List.FromFn.{get_or-map-range_with_len, length-map-range_with_len}
use Rattle.std.proofs.lemmas.Map.Steps.{length-le_from_distinct_below}
use Rattle.std.specs.List.{AllByRecursion, IsDistinct, list_any, range_with_len}
use Rattle.graph_model.specs.Graph.{is_in}
use Rattle.graph_model.proofs.Members.{is_in_first, is_in_rest}
use Rattle.link_lists.specs.Lists.{Lists, IsApart, Lacks, list_at, with_list}
use Rattle.link_lists.specs.Chains.{AreChains, Joins, at, chain, chains, follow, seen}
use Rattle.link_lists.proofs.Apart.{all_map, lacks_from_test}
use Rattle.link_lists.proofs.Joined.{framed}
use Rattle.link_lists.proofs.Paths.{IsPath, IsWritten}

-- ---- what holds of each node of a list
pub all_in : (P : ℕ → Type 0) (xs : List ℕ) → ((v : ℕ) → is_in xs v ≡ true → P v) →
    AllByRecursion P xs
all_in P [] h = tt
all_in P (x ∷ xs) h = (h x (is_in_first x xs), all_in P xs (λ v m. h v (is_in_rest x v xs m)))

pub in_all : (P : ℕ → Type 0) (xs : List ℕ) → AllByRecursion P xs → (v : ℕ) → is_in xs v ≡ true →
    P v
in_all P [] h v m = absurd (false≢true m)
in_all P (x ∷ xs) h v m = pick (x == v) refl (λ e. in_all P xs h.1 v (rw e at m))
  where
    pick : (b : Bool) → (x == v) ≡ b → ((x == v) ≡ false → P v) → P v
    pick true e later = subst P (eqb-true x v e) h.0
    pick false e later = later e

pub lacks_none : (x : ℕ) (xs : List ℕ) → Lacks x xs → is_in xs x ≡ false
lacks_none x [] l = refl
lacks_none x (y ∷ ys) l = rw (ne_eqb y x l.0) (lacks_none x ys l.1)

lacks_beyond : (e n : ℕ) (xs : List ℕ) → n ≤ e → AllByRecursion (λ v. v < n) xs → Lacks e xs
lacks_beyond e n xs h b = all_map (λ v low k. absurd (omega arith)) xs b

equal_or : (v x : ℕ) (G : Type 0) → (v ≡ x → G) → (v ≢ x → G) → G
equal_or v x G same other = ⊎_elim same other (cases_eq v x)

-- ---- the list of one number replaced
chosen : (m l : ℕ) (xs ys : List ℕ) (P : List ℕ → Type 0) → (m ≡ l → P ys) → (m ≢ l → P xs) →
    P (cond (m == l) ys xs)
chosen m l xs ys P same other = pick (m == l) refl
  where
    pick : (b : Bool) → (m == l) ≡ b → P (cond b ys xs)
    pick true e = same (eqb-true m l e)
    pick false e = other (λ k. false≢true (sym e ∙ eq-eqb m l k))

-- which list each node is in, as x comes into list l or leaves it
pub record IsRehomed (count : ℕ) (home home' xs ys : List ℕ) (l x : ℕ) : Type 0 where
  pub members : (v : ℕ) → v ≢ x → is_in ys v ≡ is_in xs v
  pub others : (v : ℕ) → v ≢ x → at home' v ≡ at home v
  pub was : (m : ℕ) → m < count → m ≢ l → (at home x == m) ≡ false
  pub now : (m : ℕ) → m < count → m ≢ l → (at home' x == m) ≡ false
  pub here : is_in ys x ≡ (at home' x == l)

pub record AreWritten (nodes : ℕ) (next prev home next' prev' home' xs ys : List ℕ)
    (count l x : ℕ) : Type 0 where
  pub path : IsWritten (at next) (at prev) (at next') (at prev') (nodes + l) x xs ys
  pub homes : IsRehomed count home home' xs ys l x
  pub below : AllByRecursion (λ v. v < nodes) ys
  pub next_len : length next' ≡ length next
  pub prev_len : length prev' ≡ length prev
  pub home_len : length home' ≡ length home

pub changed : (nodes count : ℕ) (next prev home : List ℕ) (list : ℕ →
    List ℕ) (l x : ℕ) (next' prev' home' ys : List ℕ) → AreChains nodes count next prev home list →
    l < count → x < nodes
    → AreWritten nodes next prev home next' prev' home' (list l) ys count l x →
    AreChains nodes count next' prev' home' (λ m. cond (m == l) ys (list m))
changed nodes count next prev home list l x next' prev' home' ys r lc xn w =
    let h = w.homes in
    -- a node of another list is untouched
    let still : (m : ℕ) → m < count → m ≢ l → AllByRecursion (λ v. (at next' v ≡ at next v)
    × (at prev' v ≡ at prev v)) (list m) = λ m mc ml.
    all_in (λ v. (at next' v ≡ at next v) × (at prev' v ≡ at prev v)) (list m) (λ v t.
    let low : v < nodes = in_all (λ y. y < nodes) (list m) (r.below m mc) v t in
    let at_m : at home v ≡ m = eqb-true (at home v) m (sym (r.homes m v mc low) ∙ t) in
    let vx : v ≢ x = λ e. true≢false (sym t ∙ r.homes m v mc low ∙ ap (λ z. at home z == m) e
    ∙ h.was m mc ml) in
    let not_l : (at home v == l) ≡ false = ne_eqb (at home v) l (λ e. ml (sym at_m ∙ e)) in
    w.path.others v (λ e. absurd (omega arith)) vx (lacks_from_test v (list l) (r.homes l v lc low
    ∙ not_l))) in
    let end : (m : ℕ) → m < count → m ≢ l → (at next' (nodes + m) ≡ at next (nodes + m))
    × (at prev' (nodes + m) ≡ at prev (nodes + m)) = λ m mc ml.
    w.path.others (nodes + m) (λ e. ml (omega (arith, e))) (λ e. absurd (omega arith))
    (lacks_beyond (nodes + m) nodes (list l) (omega arith) (r.below l lc)) in
    record {
      joins = λ m mc.
          chosen m l (list m) ys (λ zs. Joins (at next') (at prev') (nodes + m) zs (nodes + m))
          (λ e. subst (λ k. Joins (at next') (at prev') (nodes + k) ys (nodes + k)) (sym e)
          w.path.path.joins)
          (λ ml. framed (at next) (at prev) (at next') (at prev') (nodes + m) (list m) (nodes + m)
          (r.joins m mc) (end m mc ml).0 (still m mc ml) (end m mc ml).1);
      apart = λ m mc. chosen m l (list m) ys IsApart (λ e. w.path.path.apart) (λ ml. r.apart m mc);
      below = λ m mc. chosen m l (list m) ys (AllByRecursion (λ v. v < nodes)) (λ e. w.below) (λ ml.
          r.below m mc);
      homes = λ m v mc low. chosen m l (list m) ys (λ zs. is_in zs v ≡ (at home' v == m))
          (λ e. equal_or v x (is_in ys v ≡ (at home' v == m))
          (λ s. ap (λ z. is_in ys z) s ∙ h.here ∙ ap (λ z. at home' z == l) (sym s)
          ∙ ap (λ k. at home' v == k) (sym e))
          (λ d. h.members v d ∙ r.homes l v lc low ∙ ap (λ z. z == l) (sym (h.others v d))
          ∙ ap (λ k. at home' v == k) (sym e)))
          (λ ml. equal_or v x (is_in (list m) v ≡ (at home' v == m))
          (λ s. r.homes m v mc low ∙ ap (λ z. at home z == m) s ∙ h.was m mc ml
          ∙ sym (h.now m mc ml) ∙ ap (λ z. at home' z == m) (sym s))
          (λ d. r.homes m v mc low ∙ ap (λ z. z == m) (sym (h.others v d))));
      next_len = w.next_len ∙ r.next_len;
      prev_len = w.prev_len ∙ r.prev_len;
      home_len = w.home_len ∙ r.home_len;
      few_nodes = r.few_nodes;
      few_lists = r.few_lists;
    }

-- ---- the list that the numbers stand for is read off them
distinct : (xs : List ℕ) → IsApart xs → IsDistinct eqb xs
unfolding IsDistinct
distinct [] h = tt
distinct (x ∷ xs) h = (all_map (λ v n. differ x v n) xs h.0, distinct xs h.1)
  where
    differ : (a b : ℕ) → b ≢ a → eqb a b ≡ false
    differ a b n = grind (arith, nat_tests)

member_below : (n : ℕ) (xs : List ℕ) (q : ℕ) → AllByRecursion (λ x. x < n) xs → list_any (eqb q) xs
    ≡ true → q < n
member_below n [] q h t = absurd (false≢true t)
member_below n (x ∷ xs) q h t = pick (eqb q x) refl (λ e. member_below n xs q h.1 (rw e at t))
  where
    pick : (b : Bool) → eqb q x ≡ b → (eqb q x ≡ false → q < n) → q < n
    pick true e later = subst (λ z. z < n) (sym (eqb-true q x e)) h.0
    pick false e later = later e

pub count_le : (n : ℕ) (xs : List ℕ) → IsApart xs → AllByRecursion (λ x. x < n) xs → length xs ≤ n
count_le n xs a b =
    length-le_from_distinct_below xs n (distinct xs a) (λ q t. member_below n xs q b t)

followed : (f g : ℕ → ℕ) (e a : ℕ) (xs : List ℕ) (k : ℕ) → Joins f g a xs e → Lacks e xs →
    length xs ≤ k → follow f e k (f a) ≡ xs
followed f g e a [] zero j h l = refl
followed f g e a [] (suc k) j h l = rw (eq-eqb (f a) e j.0) refl
followed f g e a (x ∷ xs) zero j h l = absurd (omega arith)
followed f g e a (x ∷ xs) (suc k) j h l =
    rw (j.0, ne_eqb x e h.0) (ap (λ ys. x ∷ ys) (followed f g e x xs k j.2 h.1 (omega arith)))

module _ (nodes count : ℕ) (next prev home : List ℕ) where
  pub path_of : (list : ℕ → List ℕ) → AreChains nodes count next prev home list → (m : ℕ) →
      m < count → IsPath (at next) (at prev) (nodes + m) (list m)
  path_of list r m mc = record {
    joins = r.joins m mc;
    apart = r.apart m mc;
    away = lacks_beyond (nodes + m) nodes (list m) (omega arith) (r.below m mc);
  }

  pub read : (list : ℕ → List ℕ) → AreChains nodes count next prev home list → (m : ℕ) → m < count →
      chain nodes next m ≡ list m
  read list r m mc =
      let p = path_of list r m mc in
      followed (at next) (at prev) (nodes + m) (nodes + m) (list m) nodes p.joins p.away
      (count_le nodes (list m) p.apart (r.below m mc))

  same_lists : (list list' : ℕ → List ℕ) → ((m : ℕ) → m < count → list m ≡ list' m) →
      AreChains nodes count next prev home list → AreChains nodes count next prev home list'
  same_lists list list' same r = record {
    joins = λ m mc. subst (λ xs. Joins (at next) (at prev) (nodes + m) xs (nodes + m)) (same m mc)
        (r.joins m mc);
    apart = λ m mc. subst IsApart (same m mc) (r.apart m mc);
    below = λ m mc. subst (AllByRecursion (λ v. v < nodes)) (same m mc) (r.below m mc);
    homes = λ m v mc low. subst (λ xs. is_in xs v ≡ (at home v == m)) (same m mc)
        (r.homes m v mc low);
    next_len = r.next_len;
    prev_len = r.prev_len;
    home_len = r.home_len;
    few_nodes = r.few_nodes;
    few_lists = r.few_lists;
  }

  pub kept : (list : ℕ → List ℕ) → AreChains nodes count next prev home list →
      AreChains nodes count next prev home (chain nodes next)
  kept list r = same_lists list (chain nodes next) (λ m mc. sym (read list r m mc)) r

-- ---- all lists in order
pub seen_len : (nodes count : ℕ) (next : List ℕ) → length (chains nodes count next) ≡ count
seen_len nodes count next = length-map-range_with_len (chain nodes next) 0 count

pub seen_at : (nodes count : ℕ) (next : List ℕ) (m : ℕ) → m < count →
    list_at (seen nodes count next) m ≡ chain nodes next m
seen_at nodes count next m mc =
    get_or-map-range_with_len (chain nodes next) 0 count m m [] mc (omega arith)

replaced : (f f' : ℕ → List ℕ) (a n k l : ℕ) (ys : List ℕ) → k < n → a + k ≡ l → f' l ≡ ys →
    ((m : ℕ) → m < a + n → m ≢ l → f' m ≡ f m)
    → map f' (range_with_len a n) ≡ slice_set (map f (range_with_len a n)) k ys
replaced f f' a zero k l ys kn e here other = absurd (omega arith)
replaced f f' a (suc n) zero l ys kn e here other =
    ap (λ z. z ∷ map f' (range_with_len (a + 1) n)) (subst (λ z. f' z ≡ ys) (omega (arith, e)) here)
    ∙ ap (λ zs. ys ∷ zs) (all_same (a + 1) n (omega (arith, e)) (λ m low high.
    other m (omega arith) (λ q. absurd (omega (arith, q, e)))))
  where
    all_same : (b i : ℕ) → l < b → ((m : ℕ) → b ≤ m → m < b + i → f' m ≡ f m) →
        map f' (range_with_len b i) ≡ map f (range_with_len b i)
    all_same b zero h same = refl
    all_same b (suc i) h same =
        ap (λ z. z ∷ map f' (range_with_len (b + 1) i)) (same b (omega arith) (omega arith))
        ∙ ap (λ zs. f b ∷ zs) (all_same (b + 1) i (omega arith) (λ m low high.
        same m (omega arith) (omega arith)))
replaced f f' a (suc n) (suc k) l ys kn e here other =
    ap (λ z. z ∷ map f' (range_with_len (a + 1) n))
    (other a (omega arith) (λ q. absurd (omega (arith, q, e))))
    ∙ ap (λ zs. f a ∷ zs) (replaced f f' (a + 1) n k l ys (omega arith) (omega (arith, e)) here
    (λ m low d. other m (omega arith) d))

-- what a call leaves
pub record IsLeft (nodes count : ℕ) (next' prev' home' : List ℕ) (s : Lists) : Type 0 where
  pub chains : AreChains nodes count next' prev' home' (chain nodes next')
  pub view : seen nodes count next' ≡ s

pub left : (nodes count : ℕ) (next prev home : List ℕ) (l x : ℕ) (next' prev' home' ys : List ℕ) →
    AreChains nodes count next prev home (chain nodes next) → l < count → x < nodes
    → AreWritten nodes next prev home next' prev' home' (chain nodes next l) ys count l x →
    IsLeft nodes count next' prev' home' (with_list (seen nodes count next) l ys)
left nodes count next prev home l x next' prev' home' ys r lc xn w =
    let list : ℕ → List ℕ = λ m. cond (m == l) ys (chain nodes next m) in
    let k = changed nodes count next prev home (chain nodes next) l x next' prev' home' ys r lc xn
    w in
    let is : (m : ℕ) → m < count → chain nodes next' m ≡ list m =
    read nodes count next' prev' home' list k in
    record {
      chains = kept nodes count next' prev' home' list k;
      view = ap (λ ls. record { nodes = nodes; lists = ls })
          (replaced (chain nodes next) (chain nodes next') 0 count l l ys lc (omega arith)
          (is l lc ∙ ap (λ b. cond b ys (chain nodes next l)) (eq-eqb l l refl))
          (λ m mc ml. is m (omega arith)
          ∙ ap (λ b. cond b ys (chain nodes next m)) (ne_eqb m l ml)));
    }
