-- Pairings of a first member and others: one of the others is joined with the first.
use Rattle.std.proofs.Common.{◌≡◌, ◌≢◌, ℕ, zero, suc, ◌+◌, ◌-◌, ◌<◌, ◌==◌, ◌||◌, Bool, true, false, List, [], ◌∷◌, ◌++◌, length, refl, sym, ap, ◌∙◌, arith, subst, ⊎_elim, All, get_or, eq-eqb, zero-add}
use Rattle.std.specs.List.{remove, range_with_len}
use Rattle.std.proofs.lemmas.Bool.{cases_eq, ne_eqb, false≢true, true≢false, or_left, or_from, or_parts}
use Rattle.std.proofs.lemmas.List.Sums.{sum_by-cons, sum_by-append}
use Rattle.std.proofs.lemmas.List.Elements.{All-cons, All-tail}
use Rattle.std.proofs.lemmas.List.Sorted.{All-permutation, IsPermutation-remove, length_permutation}
use Rattle.std.proofs.lemmas.List.{get_or_default}
use Rattle.graph_model.specs.Graph.{is_in}
use Rattle.graph_model.proofs.Members.{is_in_first, is_in_cases, is_in-range, is_in_range, All-at, is_in-append, is_in_at}
use Rattle.matching_model.specs.Matchings.{AreApart, pair_ends, IsPerfectMatching, matching_cost}
use Rattle.matching_model.proofs.Rearranged.{not_in_cases, not_in_rest}
use Rattle.matching_model.proofs.Walks.{all_by_member}
use Rattle.pair_plain.specs.Pairings.{IsPairing, IsCheapest, IsLeastAt, without}

or_assoc : (a b c : Bool) → a || (b || c) ≡ (a || b) || c
or_assoc true b c = refl
or_assoc false b c = refl

or_swap : (a b c : Bool) → a || (b || c) ≡ b || (a || c)
or_swap true true c = refl
or_swap true false c = refl
or_swap false true c = refl
or_swap false false c = refl

or_last : (r a b : Bool) → r || (a || (b || false)) ≡ a || (b || r)
or_last true true b = refl
or_last true false true = refl
or_last true false false = refl
or_last false true b = refl
or_last false false true = refl
or_last false false false = refl

push_apart : (xs : List ℕ) (f s : ℕ) → AreApart xs → is_in xs f ≡ false → is_in xs s ≡ false →
    f ≢ s → AreApart (xs ++ f ∷ s ∷ [])
push_apart [] f s apart no_f no_s ne = (not_in_cases s f [] (λ e. ne (sym e)) refl, (refl, tt))
push_apart (x ∷ xs) f s apart no_f no_s ne =
    let a = not_in_rest x f xs no_f in
    let b = not_in_rest x s xs no_s in (
      is_in-append xs (f ∷ s ∷ []) x
          ∙ or_from (is_in xs x) (is_in (f ∷ s ∷ []) x) apart.0 (not_in_cases
          f x (s ∷ []) (λ e. a.0 (sym e)) (not_in_cases s x [] (λ e. b.0 (sym e)) refl)),
      push_apart xs f s apart.1 a.1 b.1 ne,
    )

ends_push : (pairs : List (ℕ × ℕ)) (f s : ℕ) → pair_ends (pairs ++ (f, s) ∷ []) ≡ pair_ends pairs
    ++ f ∷ s ∷ []
ends_push [] f s = refl
ends_push (pair ∷ pairs) f s = ap (λ xs. pair.0 ∷ pair.1 ∷ xs) (ends_push pairs f s)

-- ---- a list without one of its members
remove_in : (xs : List ℕ) (i x : ℕ) → i < length xs → is_in xs x ≡ (get_or xs i 0 == x)
    || is_in (remove xs i) x
remove_in [] i x l = absurd (omega (arith, l))
remove_in (y ∷ ys) zero x l = refl
remove_in (y ∷ ys) (suc i) x l = ap (λ b. (y == x) || b) (remove_in ys i x (omega (arith, l)))
    ∙ or_swap (y == x) (get_or ys i 0 == x) (is_in (remove ys i) x)

remove_out : (xs : List ℕ) (i x : ℕ) → i < length xs → is_in xs x ≡ false → is_in (remove xs i) x
    ≡ false
remove_out xs i x l out =
    (or_parts (get_or xs i 0 == x) (is_in (remove xs i) x) (sym (remove_in xs i x l) ∙ out)).1

remove_apart : (xs : List ℕ) (i : ℕ) → i < length xs → AreApart xs → AreApart (remove xs i)
    × (is_in (remove xs i) (get_or xs i 0) ≡ false)
remove_apart [] i l apart = absurd (omega (arith, l))
remove_apart (y ∷ ys) zero l apart = (apart.1, apart.0)
remove_apart (y ∷ ys) (suc i) l apart =
    let low : i < length ys = omega (arith, l) in
    let r = remove_apart ys i low apart.1 in (
      (remove_out ys i y low apart.0, r.0),
      not_in_cases y (get_or ys i 0) (remove ys i) (λ e. false≢true (sym apart.0
          ∙ subst (λ z. is_in ys z ≡ true) (sym e) (is_in_at ys i low))) r.1,
    )

place_of : (xs : List ℕ) (x : ℕ) → is_in xs x ≡ true → (k : ℕ) × (k < length xs)
    × (get_or xs k 0 ≡ x)
place_of [] x m = absurd (false≢true m)
place_of (y ∷ ys) x m = ⊎_elim (λ e. (0, omega arith, e)) (λ r. let k = place_of ys x r in
    (suc k.0, omega (arith, k.1), k.2)) (is_in_cases y x ys m)

-- ---- the first member and another
module _ (f : ℕ) (tail : List ℕ) (apart : AreApart (f ∷ tail)) where
  first_differs : (k : ℕ) → k < length tail → f ≢ get_or tail k 0
  first_differs k l e =
      false≢true (sym apart.0 ∙ subst (λ z. is_in tail z ≡ true) (sym e) (is_in_at tail k l))

  joined_tail : (k : ℕ) → k < length tail → (pairs : List (ℕ × ℕ)) →
      IsPairing (remove tail k) pairs → IsPairing (f ∷ tail) (pairs ++ (f, get_or tail k 0) ∷ [])
  joined_tail k l pairs made = record {
    apart = subst AreApart (sym (ends_push pairs f s)) (push_apart (pair_ends pairs) f s
        made.apart (made.same f ∙ remove_out tail k f l apart.0) (made.same s
        ∙ (remove_apart tail k l apart.1).1) (first_differs k l));
    same = λ x.
        ap (λ es. is_in es x) (ends_push pairs f s) ∙ is_in-append (pair_ends pairs) (f ∷ s ∷ []) x
        ∙ ap (λ b. b || is_in (f ∷ s ∷ []) x) (made.same x)
        ∙ or_last (is_in (remove tail k) x) (f == x) (s == x)
        ∙ ap (λ b. (f == x) || b) (sym (remove_in tail k x l));
  }
    where
      s : ℕ
      s = get_or tail k 0

module _ (dist : ℕ → ℕ → ℕ) (turn : (i j : ℕ) → dist i j ≡ dist j i) where
  -- the pair of a member taken out
  record Without (f : ℕ) (pairs : List (ℕ × ℕ)) (y : ℕ) (rest : List (ℕ × ℕ)) : Type 0 where
    apart : AreApart (pair_ends rest)
    differ : f ≢ y
    no_first : is_in (pair_ends rest) f ≡ false
    no_second : is_in (pair_ends rest) y ≡ false
    same : (x : ℕ) → is_in (pair_ends pairs) x ≡ (f == x) || ((y == x) || is_in (pair_ends rest) x)
    cost : dist f y + matching_cost dist rest ≡ matching_cost dist pairs

  cost_cons : (pair : ℕ × ℕ) (pairs : List (ℕ × ℕ)) → matching_cost dist (pair ∷ pairs)
      ≡ dist pair.0 pair.1 + matching_cost dist pairs
  cost_cons pair pairs = sum_by-cons (λ (q : ℕ × ℕ). dist q.0 q.1) pair pairs

  take_out : (f : ℕ) (pairs : List (ℕ × ℕ)) → AreApart (pair_ends pairs) → is_in (pair_ends pairs) f
      ≡ true → (y : ℕ) × (rest : List (ℕ × ℕ)) × Without f pairs y rest
  take_out f [] apart m = absurd (false≢true m)
  take_out f (pair ∷ pairs) apart m =
      ⊎_elim first (λ r. ⊎_elim second (λ n. later (λ e. out0 e n) (λ e.
      out1 e n) (take_out f pairs apart.1.1 n)) (is_in_cases pair.1 f (pair_ends pairs) r))
      (is_in_cases pair.0 f (pair.1 ∷ pair_ends pairs) m)
    where
      ends' : List ℕ
      ends' = pair_ends pairs

      parts : (pair.1 ≡ pair.0 → ⊥) × (is_in (pair_ends pairs) pair.0 ≡ false)
      parts = not_in_rest pair.1 pair.0 (pair_ends pairs) apart.0

      out0 : pair.0 ≡ f → is_in (pair_ends pairs) f ≡ true → ⊥
      out0 e n = false≢true (sym parts.1 ∙ subst (λ z. is_in (pair_ends pairs) z ≡ true) (sym e) n)

      out1 : pair.1 ≡ f → is_in (pair_ends pairs) f ≡ true → ⊥
      out1 e n =
          false≢true (sym apart.1.0 ∙ subst (λ z. is_in (pair_ends pairs) z ≡ true) (sym e) n)

      first : pair.0 ≡ f → (y : ℕ) × (rest : List (ℕ × ℕ)) × Without f (pair ∷ pairs) y rest
      first e = (
        pair.1,
        pairs,
        record {
          apart = apart.1.1;
          differ = λ s. parts.0 (sym s ∙ sym e);
          no_first = subst (λ z. is_in (pair_ends pairs) z ≡ false) e parts.1;
          no_second = apart.1.0;
          same = λ x. ap (λ z. (z == x) || ((pair.1 == x) || is_in (pair_ends pairs) x)) e;
          cost = ap (λ z. dist z pair.1 + matching_cost dist pairs) (sym e)
              ∙ sym (cost_cons pair pairs);
        },
      )

      second : pair.1 ≡ f → (y : ℕ) × (rest : List (ℕ × ℕ)) × Without f (pair ∷ pairs) y rest
      second e = (
        pair.0,
        pairs,
        record {
          apart = apart.1.1;
          differ = λ s. parts.0 (e ∙ s);
          no_first = subst (λ z. is_in (pair_ends pairs) z ≡ false) e apart.1.0;
          no_second = parts.1;
          same = λ x. or_swap (pair.0 == x) (pair.1 == x) (is_in (pair_ends pairs) x)
              ∙ ap (λ z. (z == x) || ((pair.0 == x) || is_in (pair_ends pairs) x)) e;
          cost = ap (λ d. d + matching_cost dist pairs) (turn f pair.0) ∙ ap (λ z. dist pair.0 z
              + matching_cost dist pairs) (sym e) ∙ sym (cost_cons pair pairs);
        },
      )

      later : (pair.0 ≡ f → ⊥) → (pair.1 ≡ f → ⊥) →
          ((y : ℕ) × (rest : List (ℕ × ℕ)) × Without f pairs y rest) →
          (y : ℕ) × (rest : List (ℕ × ℕ)) × Without f (pair ∷ pairs) y rest
      later n0 n1 k = (
        k.0,
        pair ∷ k.1,
        record {
          apart = (
            not_in_cases pair.1 pair.0 (pair_ends k.1) parts.0 (away pair.0 parts.1),
            (away pair.1 apart.1.0, w.apart),
          );
          differ = w.differ;
          no_first = not_in_cases pair.0 f (pair.1 ∷ pair_ends k.1) n0
              (not_in_cases pair.1 f (pair_ends k.1) n1 w.no_first);
          no_second = not_in_cases pair.0 k.0 (pair.1 ∷ pair_ends k.1) (λ e. here pair.0 parts.1 e)
              (not_in_cases pair.1 k.0 (pair_ends k.1) (λ e. here pair.1 apart.1.0 e) w.no_second);
          same = λ x. ap (λ b. (pair.0 == x) || ((pair.1 == x) || b)) (w.same x)
              ∙ around (pair.0 == x) (pair.1 == x) (f == x) (k.0 == x) (is_in (pair_ends k.1) x);
          cost = let a = w.cost in let b = cost_cons pair pairs in let c = cost_cons pair k.1 in
              omega (arith, a, b, c);
        },
      )
        where
          w : Without f pairs k.0 k.1
          w = k.2

          away : (x : ℕ) → is_in (pair_ends pairs) x ≡ false → is_in (pair_ends k.1) x ≡ false
          away x out = (or_parts (k.0 == x) (is_in (pair_ends k.1) x) (or_parts (f == x) ((k.0 == x)
              || is_in (pair_ends k.1) x) (sym (w.same x) ∙ out)).1).1

          here : (x : ℕ) → is_in (pair_ends pairs) x ≡ false → x ≡ k.0 → ⊥
          here x out e = false≢true (sym (or_parts (k.0 == x) (is_in (pair_ends k.1) x) (or_parts
              (f == x) ((k.0 == x) || is_in (pair_ends k.1) x) (sym (w.same x) ∙ out)).1).0
              ∙ eq-eqb k.0 x (sym e))

          around : (a b c d r : Bool) → a || (b || (c || (d || r))) ≡ c || (d || (a || (b || r)))
          around true true true d r = refl
          around true true false true r = refl
          around true true false false r = refl
          around true false true d r = refl
          around true false false true r = refl
          around true false false false r = refl
          around false b true d r = or_true b
            where
              or_true : (b : Bool) → b || true ≡ true
              or_true true = refl
              or_true false = refl
          around false true false true r = refl
          around false true false false r = refl
          around false false false true r = refl
          around false false false false r = refl

  -- a pairing joins the first with one of the others
  parted : (f : ℕ) (tail : List ℕ) → AreApart (f ∷ tail) → (others : List (ℕ × ℕ)) →
      IsPairing (f ∷ tail) others →
      (k : ℕ) × (rest : List (ℕ × ℕ)) × (k < length tail) × IsPairing (remove tail k) rest
      × (dist f (get_or tail k 0) + matching_cost dist rest ≡ matching_cost dist others)
  parted f tail apart others made =
      found (take_out f others made.apart (made.same f ∙ is_in_first f tail))
    where
      found : ((y : ℕ) × (rest : List (ℕ × ℕ)) × Without f others y rest) →
          (k : ℕ) × (rest : List (ℕ × ℕ)) × (k < length tail) × IsPairing (remove tail k) rest
          × (dist f (get_or tail k 0) + matching_cost dist rest ≡ matching_cost dist others)
      found t = (
        place.0,
        t.1,
        place.1,
        record { apart = t.2.apart; same = same },
        ap (λ z. dist f z + matching_cost dist t.1) place.2 ∙ t.2.cost,
      )
        where
          in_tail : is_in tail t.0 ≡ true
          in_tail = ⊎_elim (λ e. absurd (t.2.differ e)) (λ r.
              r) (is_in_cases f t.0 tail (sym (made.same t.0) ∙ t.2.same t.0 ∙ second_in (f == t.0)
              (t.0 == t.0) (is_in (pair_ends t.1) t.0) (eq-eqb t.0 t.0 refl)))
            where
              second_in : (a b c : Bool) → b ≡ true → a || (b || c) ≡ true
              second_in true b c h = refl
              second_in false true c h = refl
              second_in false false c h = absurd (false≢true h)

          place : (k : ℕ) × (k < length tail) × (get_or tail k 0 ≡ t.0)
          place = place_of tail t.0 in_tail

          y_is : (x : ℕ) → is_in tail x ≡ (t.0 == x) || is_in (remove tail place.0) x
          y_is x = remove_in tail place.0 x place.1
              ∙ ap (λ z. (z == x) || is_in (remove tail place.0) x) place.2

          same : (x : ℕ) → is_in (pair_ends t.1) x ≡ is_in (remove tail place.0) x
          same x =
              ⊎_elim (λ e. subst (λ z. is_in (pair_ends t.1) z ≡ is_in (remove tail place.0) z) e
              (t.2.no_first ∙ sym (remove_out tail place.0 f place.1 apart.0)))
              (λ nf. ⊎_elim (λ e. subst (λ z. is_in (pair_ends t.1) z ≡ is_in (remove tail place.0)
              z) e (t.2.no_second ∙ sym (ap (is_in (remove tail place.0)) (sym place.2)
              ∙ (remove_apart tail place.0 place.1 apart.1).1)))
              (λ ny. sym (ap (λ b. b || ((t.0 == x) || is_in (pair_ends t.1) x)) (ne_eqb f x nf)
              ∙ ap (λ b. b || is_in (pair_ends t.1) x) (ne_eqb t.0 x ny)) ∙ sym (t.2.same x)
              ∙ made.same x
              ∙ ap (λ b. b || is_in tail x) (ne_eqb f x nf) ∙ y_is x ∙ ap (λ b. b
              || is_in (remove tail place.0) x) (ne_eqb t.0 x ny)) (cases_eq t.0 x))
              (cases_eq f x)

  -- what is least for each partner of the first is least
  pub cheapest_by : (left : List ℕ) (cost : ℕ) (pairs : List (ℕ × ℕ)) → 0 < length left →
      AreApart left → cost ≡ matching_cost dist pairs → IsPairing left pairs →
      ((at : ℕ) → 0 < at → at < length left → IsLeastAt dist left at cost) →
      IsCheapest dist left pairs
  cheapest_by [] cost pairs some apart is made least = absurd (omega (arith, some))
  cheapest_by (f ∷ tail) cost pairs some apart is made least = record {
    pairing = made;
    least = λ others other.
        let k = parted f tail apart others other in
        let place : suc k.0 - 1 ≡ k.0 = omega arith in
        let l = least (suc k.0) (omega arith) (let low = k.2 in
        omega (arith, low)) k.1 (subst (λ i. IsPairing (remove tail i) k.1) (sym place) k.3) in
        let c = k.4 in omega (arith, is, l, c);
  }

pub cheapest_none : (dist : ℕ → ℕ → ℕ) (left : List ℕ) (pairs : List (ℕ × ℕ)) → length left ≡ 0 →
    pairs ≡ [] → IsCheapest dist left pairs
cheapest_none dist [] pairs none is = record {
  pairing = record {
    apart = subst (λ ps.
        AreApart (pair_ends ps)) (sym is) tt;
    same = λ x. ap (λ ps. is_in (pair_ends ps) x) is;
  };
  least = λ others other. let e = ap (matching_cost dist) is in omega (arith, e);
}
cheapest_none dist (x ∷ xs) pairs none is = absurd (omega (arith, none))

-- ---- the pairing that joins the first with the member at a place
pub joined_is : (left : List ℕ) (at : ℕ) → 0 < at →
    at < length left → AreApart left → (pairs : List (ℕ × ℕ)) → IsPairing (without left at) pairs →
    IsPairing left (pairs ++ (get_or left 0 0, get_or left at 0) ∷ [])
joined_is [] at some low apart pairs made = absurd (omega (arith, low))
joined_is (f ∷ tail) zero some low apart pairs made = absurd (omega (arith, some))
joined_is (f ∷ tail) (suc k) some low apart pairs made =
    let place : suc k - 1 ≡ k = omega arith in
    joined_tail f tail apart k (omega (arith, low)) pairs
    (subst (λ i. IsPairing (remove tail i) pairs) place made)

pub cost_push : (dist : ℕ → ℕ → ℕ) (pairs : List (ℕ × ℕ)) (f s : ℕ) →
    matching_cost dist (pairs ++ (f, s) ∷ []) ≡ matching_cost dist pairs + dist f s
cost_push dist pairs f s = sum_by-append (λ (q : ℕ × ℕ). dist q.0 q.1) pairs ((f, s) ∷ [])
    ∙ ap (λ n. matching_cost dist pairs + n) (zero-add (dist f s))

-- ---- the members that are left
pub record Fewer (P : ℕ → Type 0) (left : List ℕ) (at : ℕ) : Type 0 where
  pub all : All P (without left at)
  pub apart : AreApart (without left at)
  pub count : length (without left at) + 2 ≡ length left

pub fewer : (P : ℕ → Type 0) (left : List ℕ) (at : ℕ) → 0 < at → at < length left → All P left →
    AreApart left → Fewer P left at
fewer P [] at some low all apart = absurd (omega (arith, low))
fewer P (f ∷ tail) at some low all apart =
    let in_ : at - 1 < length tail = omega (arith, some, low) in
    let moved = IsPermutation-remove tail (at - 1) (get_or tail (at - 1) 0) in_
    (get_or_default tail (at - 1) 0 (get_or tail (at - 1) 0) in_) in
    let count = length_permutation tail (get_or tail (at - 1) 0 ∷ remove tail (at - 1)) moved in
    record {
      all = All-tail P (get_or tail (at - 1) 0) (remove tail (at - 1)) (All-permutation P tail
          (get_or tail (at - 1) 0 ∷ remove tail (at - 1)) moved (All-tail P f tail all));
      apart = (remove_apart tail (at - 1) in_ apart.1).0;
      count = omega (arith, count);
    }

-- ---- pairings of all members
pub perfect_of : (n : ℕ) (pairs : List (ℕ × ℕ)) → IsPairing (range_with_len 0 n) pairs →
    IsPerfectMatching n pairs
perfect_of n pairs made = record {
  apart = made.apart;
  within = all_by_member (λ i. i < n) (pair_ends pairs) (λ i m.
      let k = is_in-range 0 n i (sym (made.same i) ∙ m) in omega (arith, k.1));
  covers = λ i l. made.same i ∙ is_in_range 0 n i (omega arith) (omega (arith, l));
}

pub pairing_of : (n : ℕ) (pairs : List (ℕ × ℕ)) → IsPerfectMatching n pairs →
    IsPairing (range_with_len 0 n) pairs
pairing_of n pairs perfect = record {
  apart = perfect.apart;
  same = λ x. same_tests (is_in (pair_ends pairs) x) (is_in (range_with_len 0 n) x)
      (λ m. is_in_range 0 n x (omega arith) (let l = All-at (λ i. i < n) (pair_ends pairs) x
      perfect.within m in omega (arith, l)))
      (λ m. perfect.covers x (let k = is_in-range 0 n x m in omega (arith, k.1)));
}
  where
    same_tests : (a b : Bool) → (a ≡ true → b ≡ true) → (b ≡ true → a ≡ true) → a ≡ b
    same_tests true b to from = sym (to refl)
    same_tests false true to from = from refl
    same_tests false false to from = refl

pub some_left : (xs : List ℕ) (b : Bool) → b ≡ (length xs == 0) → b ≡ false → 0 < length xs
some_left xs b is none = ⊎_elim (λ e. absurd (true≢false (sym (eq-eqb (length xs) 0 e) ∙ sym is
    ∙ none))) (λ ne. omega (arith, ne)) (cases_eq (length xs) 0)

pub range_low : (n : ℕ) → All (λ i. i < n) (range_with_len 0 n)
range_low n = all_by_member (λ i. i < n) (range_with_len 0 n) (λ i m. let k = is_in-range 0 n i m in
    omega (arith, k.1))

pub pairs_low : (n : ℕ) (pairs : List (ℕ × ℕ)) → All (λ i. i < n) (pair_ends pairs) →
    All (λ (pair : ℕ × ℕ). (pair.0 < n) × (pair.1 < n)) pairs
pairs_low n [] all = λ k d l. absurd (omega (arith, l))
pairs_low n (pair ∷ pairs) all =
    All-cons (λ (q : ℕ × ℕ). (q.0 < n) × (q.1 < n)) pair pairs (
      all 0 0 (omega arith),
      all 1 0 (omega arith),
    )
    (pairs_low n pairs (All-tail (λ i. i < n) pair.1 (pair_ends pairs)
    (All-tail (λ i. i < n) pair.0 (pair.1 ∷ pair_ends pairs) all)))
