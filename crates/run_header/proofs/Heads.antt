-- What is taken as a header: the beginning of an input, of which there is one.
use Rattle.std.proofs.Common.{◌≡◌, ℕ, zero, suc, ◌+◌, ◌<◌, ◌≤◌, ◌==◌, Bool, true, false, List, [], ◌∷◌, ◌++◌, length, sym, ap, ◌∙◌, arith}
use Rattle.std.specs.Prelude.{if◌then◌else◌}
use Rattle.surface_model.specs.Header.{Header, Taken, EndedIn, with_byte, is_rounds_alone, header_within, header_of}
use Rattle.surface_model.specs.Limits.{most_taken_bytes}
use Rattle.run_header.specs.Openings.{IsHeader}

-- two headers of one input are one
pub one_header : (a b x y : List ℕ) → IsHeader a → IsHeader b → a ++ x ≡ b ++ y → a ≡ b
one_header a b x y is also same = let taken : Taken a x ≡ Taken b y = sym (is x) ∙ ap header_of same
    ∙ also y in cc

-- an input that begins with a header doesn't end before it
pub header_stands : (text bytes rest : List ℕ) (line : ℕ) → IsHeader text →
    header_of bytes ≡ EndedIn line → text ++ rest ≡ bytes → ⊥
header_stands text bytes rest line is ended same = let taken : Taken text rest ≡ EndedIn line =
    sym (is rest) ∙ ap header_of same ∙ ended in cc

-- ---- how long a header is

record IsUpTo (room : ℕ) (text : List ℕ) : Type 0 where
  most : length text ≤ room
  least : 0 < room → 0 < length text

one_more : (room byte : ℕ) (header : Header) (text rest : List ℕ) →
    ((t : List ℕ) → header ≡ Taken t rest → IsUpTo room t) → with_byte byte header
    ≡ Taken text rest → IsUpTo (suc room) text
one_more room byte (Taken t left) text rest more e =
    let here : Taken t left ≡ Taken t rest = cc in
    let same : text ≡ byte ∷ t = cc in
    let short = more t here in
    record {
      most = omega (arith, short.most, ap length same);
      least = λ l. omega (arith, ap length same);
    }
one_more room byte (EndedIn line) text rest more e = absurd (cc)

taken_within : (room number : ℕ) (begun bytes text rest : List ℕ) →
    header_within room number begun bytes ≡ Taken text rest → IsUpTo room text
taken_within zero number begun bytes text rest e = let same : [] ≡ text = cc in
    record { most = omega (arith, ap length same); least = λ l. absurd (omega (arith, l)) }
taken_within (suc room) number begun [] text rest e = absurd (cc)
taken_within (suc room) number begun (byte ∷ bytes) text rest e =
    by_tests (byte == 10) (is_rounds_alone begun) e (λ t. taken_within room (number + 1) [] bytes t
    rest) (λ t. taken_within room number (begun ++ byte ∷ []) bytes t rest)
  where
    by_tests : (a b : Bool) → (if a then (if b then Taken (byte ∷ []) bytes
        else with_byte byte (header_within room (number + 1) [] bytes)) else with_byte byte
        (header_within room number (begun ++ byte ∷ []) bytes)) ≡ Taken text rest
        → ((t : List ℕ) → header_within room (number + 1) [] bytes ≡ Taken t rest → IsUpTo room t) →
        ((t : List ℕ) → header_within room number (begun ++ byte ∷ []) bytes ≡ Taken t rest →
        IsUpTo room t) → IsUpTo (suc room) text
    by_tests true true e next same = let one : byte ∷ [] ≡ text = cc in
        record { most = omega (arith, ap length one); least = λ l. omega (arith, ap length one) }
    by_tests true false e next same =
        one_more room byte (header_within room (number + 1) [] bytes) text rest next e
    by_tests false b e next same =
        one_more room byte (header_within room number (begun ++ byte ∷ []) bytes) text rest same e

pub header_sized : (text : List ℕ) → IsHeader text →
    (1 ≤ length text) × (length text ≤ most_taken_bytes)
header_sized text is = let h = taken_within most_taken_bytes 1 [] (text ++ []) text [] (is []) in
    (h.least (omega arith), h.most)
