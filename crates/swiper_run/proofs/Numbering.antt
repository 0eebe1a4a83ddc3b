-- The number of a text's last line is no larger than the text is long, but for one.
use Rattle.std.proofs.Common.{◌≤◌, ℕ, zero, suc, ◌+◌, ◌-◌, ◌==◌, Bool, true, false, not, if◌then◌else◌, List, [], ◌∷◌, length, map, filter, arith}
use Rattle.surface_model.specs.Text.{TextLine, pieces_at, onto, with_numbers, without_empty_end, is_empty, is_skipped, fields_of}
use Rattle.surface_model.specs.Parse.{text_lines, line_at, schedule_of}

few_pieces : (at : ℕ) (bytes : List ℕ) → length (pieces_at at bytes) ≤ length bytes + 1
few_pieces at [] = omega arith
few_pieces at (byte ∷ bytes) = by (byte == at) (pieces_at at bytes) (few_pieces at bytes)
  where
    long : (byte : ℕ) (pieces : List (List ℕ)) (n : ℕ) → length pieces ≤ n + 1 →
        length (onto byte pieces) ≤ suc n + 1
    long byte [] n l = omega arith
    long byte (piece ∷ pieces) n l = omega (arith, l)

    by : (feed : Bool) (pieces : List (List ℕ)) → length pieces ≤ length bytes + 1 →
        length (if feed then [] ∷ pieces else onto byte pieces) ≤ suc (length bytes) + 1
    by true pieces l = omega (arith, l)
    by false pieces l = long byte pieces (length bytes) l

fewer : (pieces : List (List ℕ)) → length (without_empty_end pieces) ≤ length pieces
fewer [] = omega arith
fewer (piece ∷ []) = by (is_empty piece)
  where
    by : (empty : Bool) → length (if empty then [] else piece ∷ []) ≤ 1
    by true = omega arith
    by false = omega arith
fewer (piece ∷ next ∷ pieces) = let k = fewer (next ∷ pieces) in omega (arith, k)

-- the lines of those numbered pieces that pass the test
abbrev lines_with : (ℕ × List ℕ → Bool) → List (ℕ × List ℕ) → List TextLine
lines_with test pieces = map (λ (p : ℕ × List ℕ). record { number = p.0; fields = fields_of p.1 })
    (filter test pieces)

kept_or_not : (kept : Bool) (number : ℕ) (bytes : List ℕ) (test : ℕ × List ℕ →
    Bool) (rest : List (ℕ × List ℕ)) (limit k : ℕ) → number ≤ limit →
    ((j : ℕ) → (line_at (lines_with test rest) j).number ≤ limit) →
    (line_at (map (λ (p : ℕ × List ℕ). record { number = p.0; fields = fields_of p.1 }) (if kept
    then (number, bytes) ∷ filter test rest else filter test rest)) k).number ≤ limit
kept_or_not true number bytes test rest limit zero l others = l
kept_or_not true number bytes test rest limit (suc j) l others = others j
kept_or_not false number bytes test rest limit k l others = others k

-- whichever of the numbered lines are taken, each number is below those that come after
numbered : (test : ℕ × List ℕ → Bool) (n limit : ℕ) (pieces : List (List ℕ)) (k : ℕ) →
    n + length pieces ≤ limit → (line_at (lines_with test (with_numbers n pieces)) k).number ≤ limit
numbered test n limit [] k l = omega arith
numbered test n limit (piece ∷ pieces) k l =
    kept_or_not (test (n, piece)) n piece test (with_numbers (n + 1) pieces) limit k (omega (
      arith,
      l,
    )) (λ j. numbered test (n + 1) limit pieces j (omega (arith, l)))

pub few_lines : (text : List ℕ) → (schedule_of text).rounds_line ≤ length text + 2
few_lines text =
    let a = few_pieces 10 text in
    let b = fewer (pieces_at 10 text) in
    numbered (λ p. not (is_skipped p.1)) 1 (length text + 2) (without_empty_end (pieces_at 10 text))
    (length (text_lines text) - 1) (omega (arith, a, b))
