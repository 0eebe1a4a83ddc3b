-- A ring that is begun with another of its children.
use Rattle.std.proofs.Common.{◌≡◌, ℕ, true, List, [], ◌∷◌, ◌++◌, refl, sym, ap, ◌∙◌, subst, append_assoc}
use Rattle.std.proofs.lemmas.Bool.{false≢true}
use Rattle.graph_model.specs.Graph.{is_in}
use Rattle.matching_model.specs.Matchings.{AreApart}
use Rattle.shown_search.proofs.Frames.{in_middle}
use Rattle.shown_openings.specs.Opening.{behind_first}

abbrev pub first_of : List ℕ → ℕ
first_of [] = 0
first_of (c ∷ cs) = c

-- an element that comes once parts a list in one way
one_split : (xs ys xs' ys' : List ℕ) (c : ℕ) → AreApart (xs ++ c ∷ ys) →
    xs ++ c ∷ ys ≡ xs' ++ c ∷ ys' → (xs ≡ xs') × (ys ≡ ys')
one_split [] ys [] ys' c apart e = (refl, ap behind_first e)
one_split [] ys (x ∷ xs') ys' c apart e =
    absurd (false≢true (sym apart.0 ∙ subst (λ zs. is_in zs c ≡ true) (sym (ap behind_first e))
    (in_middle xs' c ys')))
one_split (x ∷ xs) ys [] ys' c apart e =
    absurd (false≢true (sym apart.0 ∙ subst (λ z. is_in (xs ++ c ∷ ys) z ≡ true)
    (sym (ap first_of e)) (in_middle xs c ys)))
one_split (x ∷ xs) ys (x' ∷ xs') ys' c apart e =
    let k = one_split xs ys xs' ys' c apart.1 (ap behind_first e) in
    (ap (λ z. z ∷ xs) (ap first_of e) ∙ ap (λ zs. x' ∷ zs) k.0, k.1)

-- where the element c of two lists, end to end, lies
data Parting (front back way : List ℕ) (c : ℕ) (beyond : List ℕ) : Type 0 where
  in_front : (rest : List ℕ) → front ≡ way ++ c ∷ rest → beyond ≡ rest ++ back →
      Parting front back way c beyond
  in_back : (rest : List ℕ) → way ≡ front ++ rest → back ≡ rest ++ c ∷ beyond →
      Parting front back way c beyond

part : (front back way : List ℕ) (c : ℕ) (beyond : List ℕ) → front ++ back ≡ way ++ c ∷ beyond →
    Parting front back way c beyond
part [] back way c beyond e = in_back way refl e
part (x ∷ front) back [] c beyond e =
    in_front front (ap (λ z. z ∷ front) (ap first_of e)) (sym (ap behind_first e))
part (x ∷ front) back (y ∷ way) c beyond e =
    more (part front back way c beyond (ap behind_first e))
  where
    more : Parting front back way c beyond → Parting (x ∷ front) back (y ∷ way) c beyond
    more (in_front rest a b) =
        in_front rest (ap (λ z. z ∷ front) (ap first_of e) ∙ ap (λ zs. y ∷ zs) a) b
    more (in_back rest a b) =
        in_back rest (ap (λ z. z ∷ way) (sym (ap first_of e)) ∙ ap (λ zs. x ∷ zs) a) b

-- the same ring from its upper child on, parted at the lower one, and in its own order
pub turned_round : (before : List ℕ) (upper : ℕ) (behind way : List ℕ) (lower : ℕ)
    (beyond front back : List ℕ) → AreApart (before ++ upper ∷ behind) →
    upper ∷ (behind ++ before) ≡ way ++ lower ∷ beyond →
    before ++ upper ∷ behind ≡ front ++ lower ∷ back → back ++ front ≡ beyond ++ way
turned_round before upper behind way lower beyond front back apart round whole =
    by_part (part (upper ∷ behind) before way lower beyond round)
  where
    once : AreApart (front ++ lower ∷ back)
    once = subst AreApart whole apart

    by_part : Parting (upper ∷ behind) before way lower beyond → back ++ front ≡ beyond ++ way
    by_part (in_front rest a b) =
        let same : front ++ lower ∷ back ≡ (before ++ way) ++ lower ∷ rest =
        sym whole ∙ ap (λ zs. before ++ zs) a ∙ sym (append_assoc before way (lower ∷ rest)) in
        let k = one_split front back (before ++ way) rest lower once same in
        ap (λ zs. zs ++ front) k.1 ∙ ap (λ zs. rest ++ zs) k.0
        ∙ sym (append_assoc rest before way) ∙ ap (λ zs. zs ++ way) (sym b)
    by_part (in_back rest a b) =
        let same : front ++ lower ∷ back ≡ rest ++ lower ∷ (beyond ++ upper ∷ behind) =
        sym whole ∙ ap (λ zs. zs ++ upper ∷ behind) b
        ∙ append_assoc rest (lower ∷ beyond) (upper ∷ behind) in
        let k = one_split front back rest (beyond ++ upper ∷ behind) lower once same in
        ap (λ zs. zs ++ front) k.1 ∙ ap (λ zs. (beyond ++ upper ∷ behind) ++ zs) k.0
        ∙ append_assoc beyond (upper ∷ behind) rest ∙ ap (λ zs. beyond ++ zs) (sym a)
