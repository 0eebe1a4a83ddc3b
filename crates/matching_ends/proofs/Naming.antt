-- Sums over the named sets are those over the nested rings.
use Rattle.std.proofs.Common.{◌≡◌, ℕ, ◌<◌, Bool, true, false, cond, List, [], ◌∷◌, map, filter, get_or, refl, sym, ap, ◌∙◌, arith, subst, ⊎_elim, All}
use Rattle.std.specs.Prelude.{ℤ, pos, ◌+ℤ◌}
use Rattle.std.specs.List.{range_with_len}
use Rattle.std.proofs.lemmas.Int.{ints}
use Rattle.std.proofs.lemmas.Bool.{false≢true, true≢false}
use Rattle.std.proofs.lemmas.List.Elements.{All-cons, All-nil, All-head, All-tail}
use Rattle.std.proofs.lemmas.List.FromFn.{get_or-map-range_with_len, length-map-range_with_len}
use Rattle.graph_model.specs.Graph.{is_in}
use Rattle.graph_model.proofs.Members.{is_in_first, is_in_rest, is_in_cases, is_in-range}
use Rattle.matching_model.specs.Sums.{int_sum_by, counted}
use Rattle.matching_model.specs.Certificates.{IsOddSet, parts}
use Rattle.matching_model.specs.Numbers.{own, rings, is_positive, ascending_set}
use Rattle.matching_model.proofs.IntSums.{int_sum_by-cons, int_sum_by-map, int_sum_by-same_in}
use Rattle.matching_model.proofs.Rearranged.{same_sum}
use Rattle.matching_ends.specs.Named.{AreNamed, AreSame, named_set, NamesLaw}
use Rattle.matching_ends.proofs.Mating.{sum_filter}

abbrev set_positive : List ℕ × ℤ → Bool
set_positive s = is_positive s.1

module _ (n : ℕ) (has : ℕ → ℕ → Bool) (number : ℕ → ℤ) where
  -- a ring and the set of its name
  same_set : (s : ℕ) (r : List ℕ × ℤ) → ((u : ℕ) → is_in r.0 u ≡ has s u) → r.1 ≡ number s →
      ascending_set n r ≡ named_set n has number s
  same_set s r same e = ap (λ p. (filter p (range_with_len 0 n), r.1)) (λ i u. same u i)
      ∙ ap (λ z. (filter (has s) (range_with_len 0 n), z)) e

  -- a sum over all sets above 0
  module _ (g : List ℕ × ℤ → ℤ) where
    sum_named : (names : List ℕ) →
        int_sum_by g (map (named_set n has number) (filter (λ s. is_positive (number s)) names))
        ≡ int_sum_by (λ s. counted (is_positive (number s)) (g (named_set n has number s))) names
    sum_named names =
        int_sum_by-map g (named_set n has number) (filter (λ s. is_positive (number s)) names)
        ∙ sum_filter (λ s. is_positive (number s)) (λ s. g (named_set n has number s)) names

    sum_rings : (ss : List ℕ) (rs : List (List ℕ × ℤ)) → AreNamed has number ss rs →
        int_sum_by g (map (ascending_set n) (filter set_positive rs))
        ≡ int_sum_by (λ s. counted (is_positive (number s)) (g (named_set n has number s))) ss
    sum_rings [] [] named = refl
    sum_rings [] (r ∷ rs) named = absurd named
    sum_rings (s ∷ ss) [] named = absurd named
    sum_rings (s ∷ ss) (r ∷ rs) named =
        by_test (is_positive r.1) (sum_rings ss rs named.2)
        ∙ ap (λ b. counted b (g (ascending_set n r)) +ℤ rest) (ap is_positive named.1)
        ∙ ap (λ x. counted (is_positive (number s)) (g x) +ℤ rest) (same_set s r named.0 named.1)
        ∙ sym (int_sum_by-cons (λ s. counted (is_positive (number s))
        (g (named_set n has number s))) s ss)
      where
        rest : ℤ
        rest = int_sum_by (λ s. counted (is_positive (number s)) (g (named_set n has number s))) ss

        by_test : (b : Bool) → int_sum_by g (map (ascending_set n) (filter set_positive rs))
            ≡ rest →
            int_sum_by g (map (ascending_set n) (cond b (r ∷ filter set_positive rs)
            (filter set_positive rs))) ≡ counted b (g (ascending_set n r)) +ℤ rest
        by_test true k = let c = int_sum_by-cons g (ascending_set n r)
            (map (ascending_set n) (filter set_positive rs)) in omega (arith, ints, k, c)
        by_test false k = omega (arith, ints, k)

    same_sums : (ss names : List ℕ) (rs : List (List ℕ × ℤ)) → AreNamed has number ss rs →
        AreSame ss names →
        int_sum_by g (map (named_set n has number) (filter (λ s. is_positive (number s)) names))
        ≡ int_sum_by g (map (ascending_set n) (filter set_positive rs))
    same_sums ss names rs named same =
        sum_named names
        ∙ sym (same_sum (λ s. counted (is_positive (number s))
        (g (named_set n has number s))) ss names same.apart same.others_apart same.to same.from)
        ∙ sym (sum_rings ss rs named)

  -- what holds of all sets
  module _ (P : List ℕ × ℤ → Type 0) where
    each_named : (ss : List ℕ) (rs : List (List ℕ × ℤ)) → AreNamed has number ss rs →
        All P (map (ascending_set n) (filter set_positive rs)) →
        (s : ℕ) → is_in ss s ≡ true → is_positive (number s) ≡ true → P (named_set n has number s)
    each_named [] rs named all_of s m positive = absurd (false≢true m)
    each_named (t ∷ ss) [] named all_of s m positive = absurd named
    each_named (t ∷ ss) (r ∷ rs) named all_of s m positive =
        by_test (is_positive r.1) refl all_of (λ rest k. each_named ss rs named.2 rest s k positive)
      where
        here : t ≡ s → P (ascending_set n r) → P (named_set n has number s)
        here e p = subst (λ z. P (named_set n has number z)) e
            (subst P (same_set t r named.0 named.1) p)

        by_test : (b : Bool) → is_positive r.1 ≡ b → All P
            (map (ascending_set n) (cond b (r ∷ filter set_positive rs) (filter set_positive rs))) →
            (All P (map (ascending_set n) (filter set_positive rs)) → is_in ss s ≡ true →
            P (named_set n has number s)) → P (named_set n has number s)
        by_test true e h later =
            ⊎_elim (λ k. here k (All-head P (ascending_set n r)
            (map (ascending_set n) (filter set_positive rs)) h))
            (λ k. later (All-tail P (ascending_set n r) (map (ascending_set n)
            (filter set_positive rs)) h) k) (is_in_cases t s ss m)
        by_test false e h later =
            ⊎_elim (λ k. absurd (true≢false (sym positive
            ∙ ap (λ z. is_positive (number z)) (sym k) ∙ ap is_positive (sym named.1) ∙ e)))
            (λ k. later h k) (is_in_cases t s ss m)

    all_named : (names : List ℕ) → ((s : ℕ) → is_in names s ≡ true →
        is_positive (number s) ≡ true → P (named_set n has number s)) →
        All P (map (named_set n has number) (filter (λ s. is_positive (number s)) names))
    all_named [] each = All-nil P
    all_named (s ∷ names) each = by_test (is_positive (number s))
        (λ e. each s (is_in_first s names) e) (all_named names
        (λ t m e. each t (is_in_rest s t names m) e))
      where
        by_test : (b : Bool) → (b ≡ true → P (named_set n has number s)) →
            All P (map (named_set n has number) (filter (λ s. is_positive (number s)) names)) →
            All P (map (named_set n has number)
            (cond b (s ∷ filter (λ s. is_positive (number s)) names)
            (filter (λ s. is_positive (number s)) names)))
        by_test true p rest = All-cons P (named_set n has number s) _ (p refl) rest
        by_test false p rest = rest

pub names_law : NamesLaw
names_law dist n r dual alone same_alone has number ss names named same = (
  record {
    each_member = length-map-range_with_len alone 0 n;
    odd_sets = all_named n has number (IsOddSet n) names
        (λ s m e. each_named n has number (IsOddSet n) ss (rings r) named dual.odd_sets s
        (same.from s m) e);
    cheap = λ i j l h.
        let at : (k : ℕ) → k < n → get_or (map alone (range_with_len 0 n)) k (pos 0)
        ≡ get_or (map (own r) (range_with_len 0 n)) k (pos 0) =
        (λ k b. get_or-map-range_with_len alone 0 n k k (pos 0) b (omega arith) ∙ same_alone k b
        ∙ sym (get_or-map-range_with_len (own r) 0 n k k (pos 0) b (omega arith))) in
        let a = at i (omega (arith, l, h)) in
        let b = at j h in
        let c = same_sums n has number (λ (s : List ℕ × ℤ). counted (parts i j s.0) s.1) ss names
        (rings r) named same in
        let d = dual.cheap i j l h in
        omega (arith, ints, a, b, c, d);
  },
  (let a = int_sum_by-map (λ z. z) alone (range_with_len 0 n) in
      let b = int_sum_by-map (λ z. z) (own r) (range_with_len 0 n) in
      let c = int_sum_by-same_in alone (own r) (range_with_len 0 n)
      (λ u m. same_alone u (let k = is_in-range 0 n u m in omega (arith, k.1))) in
      let d = same_sums n has number (λ (s : List ℕ × ℤ). s.1) ss names (rings r) named same in
      omega (arith, ints, a, b, c, d)),
)
