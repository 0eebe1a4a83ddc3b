-- Two lists that end alike.
use Rattle.std.proofs.Common.{◌≡◌, ℕ, ◌+◌, ◌-◌, ◌<◌, List, ◌∷◌, drop, get_or, length, sym, ap, ◌∙◌, arith}
use Rattle.std.specs.Prelude.{slice_index}
use Rattle.std.proofs.lemmas.List.{drop_more}
use Rattle.blossom_forest.proofs.Sets.{none_left}

pub none_alike : (xs ys : List ℕ) → drop (length xs - 0) xs ≡ drop (length ys - 0) ys
none_alike xs ys = none_left xs (length xs - 0) (omega arith)
    ∙ sym (none_left ys (length ys - 0) (omega arith))

one_before : (zs : List ℕ) (count : ℕ) → count < length zs → drop (length zs - (count + 1)) zs
    ≡ get_or zs (length zs - 1 - count) 0 ∷ drop (length zs - count) zs
one_before zs count low =
    let place : length zs - (count + 1) < length zs = omega (arith, low) in
    let at : length zs - (count + 1) ≡ length zs - 1 - count = omega (arith, low) in
    let next : (length zs - (count + 1)) + 1 ≡ length zs - count = omega (arith, low) in
    drop_more zs (length zs - (count + 1)) 0 place
    ∙ ap (λ j. get_or zs j 0 ∷ drop ((length zs - (count + 1)) + 1) zs) at
    ∙ ap (λ j. get_or zs (length zs - 1 - count) 0 ∷ drop j zs) next

pub one_more_alike : (xs ys : List ℕ) (count : ℕ) → count < length xs → count < length ys →
    slice_index xs (length xs - 1 - count) ≡ slice_index ys (length ys - 1 - count) →
    drop (length xs - count) xs ≡ drop (length ys - count) ys →
    drop (length xs - (count + 1)) xs ≡ drop (length ys - (count + 1)) ys
one_more_alike xs ys count low low' same e =
    one_before xs count low
    ∙ ap (λ z. z ∷ drop (length xs - count) xs) same
    ∙ ap (λ zs. get_or ys (length ys - 1 - count) 0 ∷ zs) e
    ∙ sym (one_before ys count low')
