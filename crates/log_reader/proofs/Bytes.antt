-- Bytes that are cut at the first of one value.
use Rattle.std.proofs.Common.{◌≡◌, ◌≢◌, ◌<◌, ◌≤◌, ℕ, suc, ◌+◌, Bool, true, false, not, ◌&&◌, eqb, cond, List, [], ◌∷◌, ◌++◌, length, take, drop, get_or, All, refl, sym, ap, ◌∙◌, subst, bytes_eq, codes, eq-eqb, eqb-true, arith}
use Rattle.std.specs.List.{onto_first, position_or_len}
use Rattle.std.proofs.lemmas.Bool.{and_parts, and_from, false≢true, ne_eqb, not-true}
use Rattle.std.proofs.lemmas.List.{at_drop_all, at_drop_more}
use Rattle.std.proofs.lemmas.List.Elements.{All-cons, All-head, All-nil, All-tail}
use Rattle.std.proofs.lemmas.List.Splits.{slice_split_at, slice_split_none}
use Rattle.report_model.specs.Logs.{HasNoFeed}
use Rattle.log_reader.specs.Words.{IsCut, is_tail, lacks, words_behind, words_in}

pub lacks_first : (v x : ℕ) (xs : List ℕ) → lacks v (x ∷ xs) ≡ true → eqb x v ≡ false
lacks_first v x xs n = not-true (eqb x v) (and_parts (not (eqb x v)) (lacks v xs) n).0

pub lacks_rest : (v x : ℕ) (xs : List ℕ) → lacks v (x ∷ xs) ≡ true → lacks v xs ≡ true
lacks_rest v x xs n = (and_parts (not (eqb x v)) (lacks v xs) n).1

pub lacks_append : (v : ℕ) (xs ys : List ℕ) → lacks v xs ≡ true → lacks v ys ≡ true →
    lacks v (xs ++ ys) ≡ true
lacks_append v [] ys p q = q
lacks_append v (x ∷ xs) ys p q =
    and_from (not (eqb x v)) (lacks v (xs ++ ys)) (and_parts (not (eqb x v)) (lacks v xs) p).0
    (lacks_append v xs ys (lacks_rest v x xs p) q)

lacks_all : (v : ℕ) (xs : List ℕ) → lacks v xs ≡ true → All (λ b. eqb b v ≡ false) xs
lacks_all v [] n = All-nil (λ b. eqb b v ≡ false)
lacks_all v (x ∷ xs) n =
    All-cons (λ b. eqb b v ≡ false) x xs (lacks_first v x xs n)
    (lacks_all v xs (lacks_rest v x xs n))

pub no_feed : (xs : List ℕ) → lacks 10 xs ≡ true → HasNoFeed xs
no_feed [] n = All-nil (λ b. b ≡ 10 → ⊥)
no_feed (x ∷ xs) n =
    All-cons (λ b. b ≡ 10 → ⊥) x xs
    (λ e. false≢true (sym (lacks_first 10 x xs n) ∙ eq-eqb x 10 e))
    (no_feed xs (lacks_rest 10 x xs n))

pub lacks_feed : (xs : List ℕ) → HasNoFeed xs → lacks 10 xs ≡ true
lacks_feed [] n = refl
lacks_feed (x ∷ xs) n =
    and_from (not (eqb x 10)) (lacks 10 xs)
    (ap not (ne_eqb x 10 (All-head (λ b. b ≡ 10 → ⊥) x xs n)))
    (lacks_feed xs (All-tail (λ b. b ≡ 10 → ⊥) x xs n))

-- a byte that two lists lack cuts them at one place
pub same_front : (v : ℕ) (a b x y : List ℕ) → lacks v a ≡ true → lacks v b ≡ true →
    a ++ v ∷ x ≡ b ++ v ∷ y → (a ≡ b) × (x ≡ y)
same_front v [] [] x y p q e = (refl, cc)
same_front v [] (c ∷ b) x y p q e =
    let same : c ≡ v = cc in absurd (false≢true (sym (lacks_first v c b q) ∙ eq-eqb c v same))
same_front v (c ∷ a) [] x y p q e =
    let same : c ≡ v = cc in absurd (false≢true (sym (lacks_first v c a p) ∙ eq-eqb c v same))
same_front v (c ∷ a) (d ∷ b) x y p q e =
    let heads : c ≡ d = cc in
    let tails : a ++ v ∷ x ≡ b ++ v ∷ y = cc in
    let rest = same_front v a b x y (lacks_rest v c a p) (lacks_rest v d b q) tails in
    let fronts : a ≡ b = rest.0 in
    (cc, rest.1)

-- ---- the place of the first

abbrev pub place : ℕ → List ℕ → ℕ
place v xs = position_or_len (λ b. eqb b v) xs

pub place_within : (v : ℕ) (xs : List ℕ) → place v xs ≤ length xs
place_within v [] = omega arith
place_within v (x ∷ xs) = step (eqb x v) (place_within v xs)
  where
    step : (here : Bool) → place v xs ≤ length xs →
        cond (not here) (1 + place v xs) 0 ≤ length (x ∷ xs)
    step true l = omega arith
    step false l = omega (arith, l)

place_here : (v x : ℕ) (xs : List ℕ) → eqb x v ≡ true → place v (x ∷ xs) ≡ 0
place_here v x xs e = ap (λ t. cond (not t) (1 + place v xs) 0) e

place_later : (v x : ℕ) (xs : List ℕ) → eqb x v ≡ false → place v (x ∷ xs) ≡ suc (place v xs)
place_later v x xs e =
    let next : 1 + place v xs ≡ suc (place v xs) = omega arith in
    ap (λ t. cond (not t) (1 + place v xs) 0) e ∙ next

-- a turn of a search, and its end
pub place_at : (v : ℕ) (xs : List ℕ) (i : ℕ) → i < length xs →
    place v (drop i xs) ≡ place v (get_or xs i 0 ∷ drop (i + 1) xs)
place_at v xs i h = at_drop_more (place v) xs i 0 h

pub place_end : (v : ℕ) (xs : List ℕ) → place v (drop (length xs) xs) ≡ 0
place_end v xs = at_drop_all (place v) xs (length xs) (omega arith)

pub found_at : (v : ℕ) (xs : List ℕ) (x : ℕ) (back : List ℕ) → drop (place v xs) xs ≡ x ∷ back →
    IsCut v xs (take (place v xs) xs) back
found_at v [] x back e = absurd (cc)
found_at v (y ∷ xs) x back e = by (eqb y v) refl (λ rest. found_at v xs x back rest)
  where
    by : (here : Bool) → eqb y v ≡ here →
        (drop (place v xs) xs ≡ x ∷ back → IsCut v xs (take (place v xs) xs) back) →
        IsCut v (y ∷ xs) (take (place v (y ∷ xs)) (y ∷ xs)) back
    by true is later =
        let at = place_here v y xs is in
        let rest : y ∷ xs ≡ x ∷ back = subst (λ k. drop k (y ∷ xs) ≡ x ∷ back) at e in
        let behind : xs ≡ back = cc in
        let same = eqb-true y v is in
        let cut : IsCut v (y ∷ xs) [] back = record {
          whole = ap (λ b. b ∷ xs) same ∙ ap (λ t. v ∷ t) behind;
          first = refl;
        } in
        subst (λ k. IsCut v (y ∷ xs) (take k (y ∷ xs)) back) (sym at) cut
    by false is later =
        let at = place_later v y xs is in
        let rest = later (subst (λ k. drop k (y ∷ xs) ≡ x ∷ back) at e) in
        let cut : IsCut v (y ∷ xs) (y ∷ take (place v xs) xs) back = record {
          whole = ap (λ t. y ∷ t) rest.whole;
          first = and_from (not (eqb y v)) (lacks v (take (place v xs) xs)) (ap not is) rest.first;
        } in
        subst (λ k. IsCut v (y ∷ xs) (take k (y ∷ xs)) back) (sym at) cut

pub none_at : (v : ℕ) (xs : List ℕ) → drop (place v xs) xs ≡ [] → lacks v xs ≡ true
none_at v [] e = refl
none_at v (y ∷ xs) e = by (eqb y v) refl (λ rest. none_at v xs rest)
  where
    by : (here : Bool) → eqb y v ≡ here → (drop (place v xs) xs ≡ [] → lacks v xs ≡ true) →
        lacks v (y ∷ xs) ≡ true
    by true is later =
        let rest : y ∷ xs ≡ [] = subst (λ k. drop k (y ∷ xs) ≡ []) (place_here v y xs is) e in
        absurd (cc)
    by false is later =
        and_from (not (eqb y v)) (lacks v xs) (ap not is)
        (later (subst (λ k. drop k (y ∷ xs) ≡ []) (place_later v y xs is) e))

-- the parts of a split at that place
pub cut_is : (v n : ℕ) (xs front rest : List ℕ) (x : ℕ) (back : List ℕ) → n ≡ place v xs →
    front ≡ take n xs → rest ≡ drop n xs → rest ≡ x ∷ back → IsCut v xs front back
cut_is v n xs front rest x back at f r e =
    subst (λ t. IsCut v xs t back) (sym (f ∙ ap (λ k. take k xs) at))
    (found_at v xs x back (sym (r ∙ ap (λ k. drop k xs) at) ∙ e))

pub lacks_is : (v n : ℕ) (xs rest : List ℕ) → n ≡ place v xs → rest ≡ drop n xs →
    length rest ≡ 0 → lacks v xs ≡ true
lacks_is v n xs rest at r e = none_at v xs (sym (r ∙ ap (λ k. drop k xs) at) ∙ empty rest e)
  where
    empty : (ys : List ℕ) → length ys ≡ 0 → ys ≡ []
    empty [] h = refl
    empty (y ∷ ys) h = absurd (omega (arith, h))

pub none_there : (xs : List ℕ) → eqb (length xs) 0 ≡ true → xs ≡ []
none_there [] e = refl
none_there (x ∷ xs) e = absurd (omega (arith, eqb-true (length (x ∷ xs)) 0 e))

pub some_there : (xs : List ℕ) → eqb (length xs) 0 ≡ false → xs ≢ []
some_there [] e is = absurd (cc)
some_there (x ∷ xs) e is = absurd (cc)

pub split_one : (rest back : List ℕ) → eqb (length rest) 0 ≡ false → back ≡ drop 1 rest →
    (x : ℕ) × (rest ≡ x ∷ back)
split_one [] back n e = absurd (cc)
split_one (x ∷ rest) back n e = (x, ap (λ t. x ∷ t) (sym e))

-- ---- words

pub words_cut : (bytes front back : List ℕ) → IsCut 32 bytes front back →
    words_in bytes ≡ front ∷ words_in back
words_cut bytes front back h =
    ap words_in h.whole
    ∙ slice_split_at (λ b. eqb b 32) front 32 back (lacks_all 32 front h.first) refl

pub one_word : (bytes : List ℕ) → lacks 32 bytes ≡ true → words_in bytes ≡ bytes ∷ []
one_word bytes n = slice_split_none (λ b. eqb b 32) bytes (lacks_all 32 bytes n)

-- the first word, and what stands from its space on
abbrev BeginsAt : List ℕ → ℕ → Type 0
BeginsAt xs at =
    (words_in xs ≡ take at xs ∷ words_behind (drop at xs)) × (is_tail (drop at xs) ≡ true)

first_words : (v : ℕ) (xs : List ℕ) → v ≡ 32 → BeginsAt xs (place v xs)
first_words v [] e = (refl, refl)
first_words v (x ∷ xs) e = by (eqb x v) refl (first_words v xs e)
  where
    by : (here : Bool) → eqb x v ≡ here → BeginsAt xs (place v xs) →
        BeginsAt (x ∷ xs) (place v (x ∷ xs))
    by true is h =
        let space = eq-eqb x 32 (eqb-true x v is ∙ e) in
        let begins : BeginsAt (x ∷ xs) 0 = (
          ap (λ t. cond t ([] ∷ words_in xs) (onto_first x (words_in xs))) space,
          space,
        ) in
        subst (BeginsAt (x ∷ xs)) (sym (place_here v x xs is)) begins
    by false is h =
        let begins : BeginsAt (x ∷ xs) (suc (place v xs)) = (
          ap (λ t. cond t ([] ∷ words_in xs) (onto_first x (words_in xs)))
              (ap (λ w. eqb x w) (sym e) ∙ is) ∙ ap (onto_first x) h.0,
          h.1,
        ) in
        subst (BeginsAt (x ∷ xs)) (sym (place_later v x xs is)) begins

pub first_is : (xs : List ℕ) → BeginsAt xs (place 32 xs)
first_is xs = first_words 32 xs refl

pub first_split : (n : ℕ) (xs word tail : List ℕ) → n ≡ place 32 xs → word ≡ take n xs →
    tail ≡ drop n xs → (words_in xs ≡ word ∷ words_behind tail) × (is_tail tail ≡ true)
first_split n xs word tail at w t =
    let h = first_is xs in (
      h.0
          ∙ ap (λ k. take k xs ∷ words_behind (drop k xs)) (sym at)
          ∙ ap (λ f. f ∷ words_behind (drop n xs)) (sym w)
          ∙ ap (λ r. word ∷ words_behind r) (sym t),
      ap is_tail (t ∙ ap (λ k. drop k xs) at) ∙ h.1,
    )

-- a tail that doesn't begin with a space is empty
pub no_tail : (tail : List ℕ) → is_tail tail ≡ true → bytes_eq (take 1 tail) (codes " ") ≡ false →
    words_behind tail ≡ []
no_tail [] t n = refl
no_tail (b ∷ tail) t n =
    absurd (false≢true (sym n ∙ ap (λ k. k && true) t))

pub more_words : (tail rest : List ℕ) → bytes_eq (take 1 tail) (codes " ") ≡ true →
    rest ≡ drop 1 tail → words_behind tail ≡ words_in rest
more_words [] rest n e = absurd (false≢true n)
more_words (b ∷ tail) rest n e = ap words_in (sym e)

-- a list that has the byte doesn't lack it
pub not_lacking : (v : ℕ) (a b : List ℕ) → lacks v (a ++ v ∷ b) ≡ true → ⊥
not_lacking v [] b n = false≢true (sym (lacks_first v v b n) ∙ eq-eqb v v refl)
not_lacking v (x ∷ a) b n = not_lacking v a b (lacks_rest v x (a ++ v ∷ b) n)
