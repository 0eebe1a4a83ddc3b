-- Rows of zeros, and the rows with some errors that are made of them.
use Rattle.std.proofs.Common.{◌≡◌, ℕ, zero, suc, ◌+◌, ◌<◌, Bool, false, List, [], ◌∷◌, ◌++◌, length, map, take, get_or, replicate, refl, sym, ap, ◌∙◌}
use Rattle.std.proofs.lemmas.List.{map-append, take_more}
use Rattle.workload_maker.specs.Turns.{bit_in, blank_row}

pub blank_more : {X : Type 0} (lines : List (List X)) (i : ℕ) (old new : List (List Bool))
    (row : List Bool) → i < length lines → old ≡ map blank_row (take i lines) →
    row ≡ replicate (length (get_or lines i [])) false → new ≡ old ++ row ∷ [] →
    new ≡ map blank_row (take (i + 1) lines)
blank_more lines i old new row l was is push =
    push ∙ ap (λ rs. rs ++ row ∷ []) was
    ∙ ap (λ r. map blank_row (take i lines) ++ r ∷ []) is
    ∙ sym (map-append blank_row (take i lines) (get_or lines i [] ∷ []))
    ∙ ap (map blank_row) (sym (take_more lines i [] l))

zeros_at : (n k : ℕ) → get_or (replicate n false) k false ≡ false
zeros_at zero k = refl
zeros_at (suc n) zero = refl
zeros_at (suc n) (suc k) = zeros_at n k

pub blank_bits : {X : Type 0} (lines : List (List X)) (t k : ℕ) →
    bit_in (map blank_row lines) t k ≡ false
blank_bits [] t k = refl
blank_bits (line ∷ lines) zero k = zeros_at (length line) k
blank_bits (line ∷ lines) (suc t) k = blank_bits lines t k

zeros_long : (n : ℕ) → length (replicate n false) ≡ n
zeros_long zero = refl
zeros_long (suc n) = ap suc (zeros_long n)

pub blank_widths : {X : Type 0} (lines : List (List X)) →
    map length (map blank_row lines) ≡ map length lines
blank_widths [] = refl
blank_widths (line ∷ lines) =
    ap (λ n. n ∷ map length (map blank_row lines)) (zeros_long (length line))
    ∙ ap (λ ns. length line ∷ ns) (blank_widths lines)
