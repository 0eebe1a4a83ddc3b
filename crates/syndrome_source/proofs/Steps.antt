-- The reading of a row after bits that were taken, and of its next byte.
use Rattle.std.proofs.Common.{◌≡◌, ◌≢◌, ◌≤◌, ◌<◌, ◌⊎◌, arith, ℕ, suc, ◌+◌, Bool, true, false, eqb, List, [], ◌∷◌, ◌++◌, length, inl, inr, refl, sym, ap, subst, ◌∙◌, append_assoc, add-zero, zero-add}
use Rattle.std.proofs.Math.Nat.{suc-add}
use Rattle.std.proofs.lemmas.Bool.{ne_eqb}
use Rattle.std.proofs.lemmas.Bool.Decides.{eqb_tells}
use Rattle.std.specs.declared.option.Option.{Option}
use Rattle.port_io.specs.Traffic.{IsAtEnd}
use Rattle.surface_model.specs.Reading.{RowKind, NextRow, Whole, Fault as Wrong, Ended as NoMore, Short as TooShort, Long as TooLong, Foreign, begun, next_row}
use Rattle.syndrome_source.specs.Rows.{IsRow, IsOffence, IsNoRow, written}
use Rattle.syndrome_source.specs.declared.error.RowError.{RowError}
use Rattle.syndrome_source.specs.declared.error.RowError.TheVariants.{Fault, Ended, ReadFault, Memory}

-- ---- bits in front

abbrev all_begun : List Bool → NextRow → NextRow
all_begun [] found = found
all_begun (bit ∷ row) found = begun bit (all_begun row found)

bits_first : (row : List Bool) (n : ℕ) (last : Bool) (bytes : List ℕ) →
    next_row (length row + n) last (written row ++ bytes) ≡ all_begun row (next_row n last bytes)
bits_first [] n last bytes = ap (λ k. next_row k last bytes) (zero-add n)
bits_first (true ∷ row) n last bytes =
    ap (λ k. next_row k last (49 ∷ (written row ++ bytes))) (suc-add (length row) n)
    ∙ ap (begun true) (bits_first row n last bytes)
bits_first (false ∷ row) n last bytes =
    ap (λ k. next_row k last (48 ∷ (written row ++ bytes))) (suc-add (length row) n)
    ∙ ap (begun false) (bits_first row n last bytes)

all_ended : (row : List Bool) → all_begun row NoMore ≡ NoMore
all_ended [] = refl
all_ended (bit ∷ row) = ap (begun bit) (all_ended row)

all_wrong : (row : List Bool) (kind : RowKind) → all_begun row (Wrong kind) ≡ Wrong kind
all_wrong [] kind = refl
all_wrong (bit ∷ row) kind = ap (begun bit) (all_wrong row kind)

all_whole : (row : List Bool) (rest : List ℕ) → all_begun row (Whole [] rest) ≡ Whole row rest
all_whole [] rest = refl
all_whole (bit ∷ row) rest = ap (begun bit) (all_whole row rest)

-- the end of a row after its bits
pub row_behind : (row : List Bool) (last : Bool) (bytes : List ℕ) (left : Option (List ℕ)) →
    IsRow 0 last [] bytes left → IsRow (length row) last row (written row ++ bytes) left
row_behind row last bytes left is = by last is
  where
    reads : (last : Bool) (all : List ℕ) (rest : List ℕ) → next_row 0 last all ≡ Whole [] rest →
        next_row (length row) last (written row ++ all) ≡ Whole row rest
    reads last all rest e =
        ap (λ k. next_row k last (written row ++ all)) (sym (add-zero (length row)))
        ∙ bits_first row 0 last all ∙ ap (all_begun row) e ∙ all_whole row rest

    followed : (last : Bool) → ((rest : List ℕ) → next_row 0 last (bytes ++ rest) ≡ Whole [] rest) →
        (rest : List ℕ) → next_row (length row) last ((written row ++ bytes) ++ rest)
        ≡ Whole row rest
    followed last is rest = ap (next_row (length row) last) (append_assoc (written row) bytes rest)
        ∙ reads last (bytes ++ rest) rest (is rest)

    by : (last : Bool) → IsRow 0 last [] bytes left →
        IsRow (length row) last row (written row ++ bytes) left
    by false is = followed false is
    by true (inl is) = inl (followed true is)
    by true (inr is) = inr (is.0, reads true bytes [] is.1)

-- the rest of a row is none, and so the row is none
pub none_behind : (row : List Bool) (number n count : ℕ) (last : Bool) (bytes : List ℕ)
    (left : Option (List ℕ)) (error : RowError) → count ≡ length row + n → (error ≡ Memory → ⊥) →
    IsNoRow number n last bytes left error →
    IsNoRow number count last (written row ++ bytes) left error
none_behind row number n count last bytes left error e some is =
    subst (λ k. IsNoRow number k last (written row ++ bytes) left error) (sym e) (by error some is)
  where
    ended : (last : Bool) (all : List ℕ) → next_row n last all ≡ NoMore →
        next_row (length row + n) last (written row ++ all) ≡ NoMore
    ended last all e = bits_first row n last all ∙ ap (all_begun row) e ∙ all_ended row

    offended : (kind : RowKind) → IsOffence n last bytes kind →
        IsOffence (length row + n) last (written row ++ bytes) kind
    offended kind o = record {
      front = written row ++ o.front;
      byte = o.byte;
      bytes_are = ap (λ l. written row ++ l) o.bytes_are
          ∙ sym (append_assoc (written row) o.front (o.byte ∷ []));
      sound = ended false o.front o.sound;
      wrong = λ rest. ap (next_row (length row + n) last) (append_assoc (written row) bytes rest)
          ∙ bits_first row n last (bytes ++ rest) ∙ ap (all_begun row) (o.wrong rest)
          ∙ all_wrong row kind;
    }

    by : (error : RowError) → (error ≡ Memory → ⊥) → IsNoRow number n last bytes left error →
        IsNoRow number (length row + n) last (written row ++ bytes) left error
    by (Fault line kind) some is = (is.0, offended _ is.1)
    by (Ended line) some is = (is.0, is.1, ended last bytes is.2)
    by ReadFault some is = ended false bytes is
    by Memory some is = absurd (some refl)

-- ---- one byte

one_byte : (count : ℕ) (last : Bool) (byte : ℕ) (kind : RowKind) →
    next_row count false [] ≡ NoMore →
    ((rest : List ℕ) → next_row count last (byte ∷ rest) ≡ Wrong kind) →
    IsOffence count last (byte ∷ []) kind
one_byte count last byte kind sound wrong =
    record { front = []; byte = byte; bytes_are = refl; sound = sound; wrong = wrong }

pub feed_for_bit : (n : ℕ) (last : Bool) → IsOffence (suc n) last (10 ∷ []) TooShort
feed_for_bit n last = one_byte (suc n) last 10 TooShort refl (λ rest. refl)

pub byte_for_bit : (n byte : ℕ) (last : Bool) → byte ≢ 48 → byte ≢ 49 → byte ≢ 10 →
    IsOffence (suc n) last (byte ∷ []) Foreign
byte_for_bit n byte last a b c =
    one_byte (suc n) last byte Foreign refl (λ rest. simp (
      ne_eqb byte 48 a,
      ne_eqb byte 49 b,
      ne_eqb byte 10 c,
    ))

pub bit_for_feed : (byte : ℕ) (last : Bool) → 48 ≤ byte → byte < 50 →
    IsOffence 0 last (byte ∷ []) TooLong
bit_for_feed byte last low high = by (eqb_tells byte 48)
  where
    by : ((eqb byte 48 ≡ true) × (byte ≡ 48)) ⊎ ((eqb byte 48 ≡ false) × (byte ≢ 48)) →
        IsOffence 0 last (byte ∷ []) TooLong
    by (inl h) =
        subst (λ b. IsOffence 0 last (b ∷ []) TooLong) (sym h.1)
        (one_byte 0 last 48 TooLong refl (λ rest. refl))
    by (inr h) =
        let e : byte ≡ 49 = omega (arith, h.1) in
        subst (λ b. IsOffence 0 last (b ∷ []) TooLong) (sym e)
        (one_byte 0 last 49 TooLong refl (λ rest. refl))

pub byte_for_feed : (byte : ℕ) (last : Bool) → byte ≢ 48 → byte ≢ 49 → byte ≢ 10 →
    IsOffence 0 last (byte ∷ []) Foreign
byte_for_feed byte last a b c =
    one_byte 0 last byte Foreign refl (λ rest. simp (
      ne_eqb byte 48 a,
      ne_eqb byte 49 b,
      ne_eqb byte 10 c,
    ))

-- the line feed ends a row without bits, whether it is the last or not
pub feed_ends : (last : Bool) (left : Option (List ℕ)) → IsRow 0 last [] (10 ∷ []) left
feed_ends false left = λ rest. refl
feed_ends true left = inl (λ rest. refl)

pub end_ends : (last : Bool) (left : Option (List ℕ)) → last ≡ true → IsAtEnd left →
    IsRow 0 last [] [] left
end_ends last left is end = subst (λ b. IsRow 0 b [] [] left) (sym is) (inr (end, refl))

pub end_lacks : (last : Bool) → last ≡ false → next_row 0 last [] ≡ NoMore
end_lacks last is = ap (λ b. next_row 0 b []) is
