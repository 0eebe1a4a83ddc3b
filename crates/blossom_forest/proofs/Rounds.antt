-- A ring is listed down one way and up another.
use Rattle.std.proofs.Common.{◌≡◌, ℕ, ◌+◌, ◌-◌, ◌<◌, ◌≤◌, List, [], ◌∷◌, ◌++◌, length, reverse, take, sym, ap, ◌∙◌, arith, append_assoc, append-nil}
use Rattle.std.specs.Prelude.{slice_index}
use Rattle.std.proofs.lemmas.List.{get_or-reverse, length-reverse, take_all, take_more}

module _ (c : ℕ) (xs ys ring : List ℕ) (i x : ℕ) where
  pub one_down : i < length xs → x ≡ slice_index xs (length xs - 1 - i) →
      ring ≡ c ∷ take i (reverse xs) → ring ++ x ∷ [] ≡ c ∷ take (i + 1) (reverse xs)
  one_down low is e =
      let low' : i < length (reverse xs) = omega (arith, low, length-reverse xs) in
      ap (λ zs. zs ++ x ∷ []) e
      ∙ sym (ap (λ zs. c ∷ zs) (take_more (reverse xs) i 0 low'
      ∙ ap (λ y. take i (reverse xs) ++ y ∷ []) (get_or-reverse xs i 0 low ∙ sym is)))

  pub all_down : length xs ≤ i → ring ≡ c ∷ take i (reverse xs) →
      ring ≡ c ∷ (reverse xs ++ take 0 ys)
  all_down past e =
      e ∙ ap (λ zs. c ∷ zs) (take_all i (reverse xs) (omega (arith, past, length-reverse xs))
      ∙ sym (append-nil (reverse xs)))

  pub one_up : i < length ys → x ≡ slice_index ys i →
      ring ≡ c ∷ (reverse xs ++ take i ys) → ring ++ x ∷ [] ≡ c ∷ (reverse xs ++ take (i + 1) ys)
  one_up low is e =
      ap (λ zs. zs ++ x ∷ []) e
      ∙ ap (λ zs. c ∷ zs) (append_assoc (reverse xs) (take i ys) (x ∷ [])
      ∙ ap (λ zs. reverse xs ++ zs) (sym (take_more ys i 0 low
      ∙ ap (λ y. take i ys ++ y ∷ []) (sym is))))

  pub all_up : length ys ≤ i → ring ≡ c ∷ (reverse xs ++ take i ys) →
      ring ≡ c ∷ (reverse xs ++ ys)
  all_up past e = e ∙ ap (λ zs. c ∷ (reverse xs ++ zs)) (take_all i ys past)
