-- What was taken of a row that isn't whole begins one line at most.
use Rattle.std.proofs.Common.{◌≡◌, ◌≢◌, ◌≤◌, ℕ, zero, suc, ◌+◌, ◌==◌, ◌||◌, Bool, true, false, if◌then◌else◌, List, [], ◌∷◌, ◌++◌, length, map, refl, sym, ap, ◌∙◌, subst, arith}
use Rattle.std.specs.declared.option.Option.{Option}
use Rattle.std.proofs.lemmas.List.{map-append}
use Rattle.std.proofs.lemmas.Bool.Decides.{nat_tests}
use Rattle.surface_model.specs.Reading.{NextRow, RowKind, Short, Long, Foreign, Whole, Fault as Wrong, Ended as NoMore, begun, next_row}
use Rattle.syndrome_source.specs.Rows.{IsNoRow}
use Rattle.syndrome_source.specs.declared.error.RowError.{RowError}
use Rattle.syndrome_source.specs.declared.error.RowError.TheVariants as row
use Rattle.report_model.specs.Tapes.{Move, Take}
use Rattle.run_rounds.specs.Moves.{begun_after, fresh_after}
use Rattle.run_rounds.specs.Slots.{At, IsSlotUnread, is_last_slot, line_of, width_of}
use Rattle.run_rounds.proofs.Moving.{begun_append}

-- a bit is no line feed
no_feed : (byte : ℕ) → (byte == 48 || byte == 49) ≡ true → (byte == 10) ≡ false
no_feed byte bit = grind (arith, nat_tests)

begun_none : (bit : Bool) (next : NextRow) → begun bit next ≡ NoMore → next ≡ NoMore
begun_none bit (Whole row rest) e = absurd cc
begun_none bit (Wrong kind) e = absurd cc
begun_none bit NoMore e = refl

-- within its line, the bytes of a row that is not whole begin no other
begun_within : (n : ℕ) (last : Bool) (bytes : List ℕ) (count : ℕ) →
    next_row n last bytes ≡ NoMore → begun_after count false (map Take bytes) ≡ count
begun_within n last [] count short = refl
begun_within zero last (byte ∷ rest) count short =
    by (byte == 10) (if byte == 48 || byte == 49 then Long else Foreign) rest short
  where
    by : (feed : Bool) (kind : RowKind) (rest : List ℕ) → (if feed then Whole [] rest
        else Wrong kind) ≡ NoMore → begun_after count feed (map Take rest) ≡ count
    by true kind rest e = absurd cc
    by false kind rest e = absurd cc
begun_within (suc n) last (byte ∷ rest) count short =
    by (byte == 48 || byte == 49) (if byte == 10 then Short else Foreign) (no_feed byte) short
    (λ e. begun_within n last rest count e)
  where
    by : (bit : Bool) (kind : RowKind) → (bit ≡ true → (byte == 10) ≡ false) →
        (if bit then begun (byte == 49) (next_row n last rest) else Wrong kind) ≡ NoMore →
        (next_row n last rest ≡ NoMore → begun_after count false (map Take rest) ≡ count) →
        begun_after count (byte == 10) (map Take rest) ≡ count
    by true kind feed e go =
        ap (λ f. begun_after count f (map Take rest)) (feed refl)
        ∙ go (begun_none (byte == 49) (next_row n last rest) e)
    by false kind feed e go = absurd cc

begun_short : (n : ℕ) (last : Bool) (bytes : List ℕ) (count : ℕ) (fresh : Bool) →
    next_row n last bytes ≡ NoMore → begun_after count fresh (map Take bytes) ≤ count + 1
begun_short n last bytes count false short =
    let k = begun_within n last bytes count short in omega (arith, k)
begun_short n last [] count true short = omega arith
begun_short n last (byte ∷ rest) count true short =
    let k : begun_after (count + 1) (byte == 10) (map Take rest) ≡ count + 1 =
    begun_within n last (byte ∷ rest) (count + 1) short in omega (arith, k)

-- nor does the last of them end it
fresh_within : (n : ℕ) (last : Bool) (bytes : List ℕ) → next_row n last bytes ≡ NoMore →
    fresh_after false (map Take bytes) ≡ false
fresh_within n last [] short = refl
fresh_within zero last (byte ∷ rest) short =
    by (byte == 10) (if byte == 48 || byte == 49 then Long else Foreign) short
  where
    by : (feed : Bool) (kind : RowKind) → (if feed then Whole [] rest else Wrong kind) ≡ NoMore →
        fresh_after feed (map Take rest) ≡ false
    by true kind e = absurd cc
    by false kind e = absurd cc
fresh_within (suc n) last (byte ∷ rest) short =
    by (byte == 48 || byte == 49) (if byte == 10 then Short else Foreign) (no_feed byte) short
    (λ e. fresh_within n last rest e)
  where
    by : (bit : Bool) (kind : RowKind) → (bit ≡ true → (byte == 10) ≡ false) →
        (if bit then begun (byte == 49) (next_row n last rest) else Wrong kind) ≡ NoMore →
        (next_row n last rest ≡ NoMore → fresh_after false (map Take rest) ≡ false) →
        fresh_after (byte == 10) (map Take rest) ≡ false
    by true kind feed e go =
        ap (λ f. fresh_after f (map Take rest)) (feed refl)
        ∙ go (begun_none (byte == 49) (next_row n last rest) e)
    by false kind feed e go = absurd cc

-- and one byte more
begun_offence : (n : ℕ) (front : List ℕ) (byte count : ℕ) (fresh : Bool) →
    next_row n false front ≡ NoMore →
    begun_after count fresh (map Take (front ++ byte ∷ [])) ≤ count + 1
begun_offence n [] byte count true short = omega arith
begun_offence n [] byte count false short = omega arith
begun_offence n (b ∷ bs) byte count fresh short =
    let front = begun_short n false (b ∷ bs) count fresh short in
    let split = ap (begun_after count fresh) (map-append Take (b ∷ bs) (byte ∷ []))
    ∙ begun_append count fresh (map Take (b ∷ bs)) (Take byte ∷ [])
    ∙ ap (λ f. begun_after (begun_after count fresh (map Take (b ∷ bs))) f (Take byte ∷ []))
    (fresh_within n false (b ∷ bs) short) in
    omega (arith, front, split)

-- what was taken of a row that isn't whole begins one line at most
pub unread_begins : (at : At) (left : Option (List ℕ)) (bytes : List ℕ) (error : RowError)
    (count : ℕ) (fresh : Bool) → IsSlotUnread at left bytes error → error ≢ row.Memory →
    begun_after count fresh (map Take bytes) ≤ count + 1
unread_begins at left bytes (row.Fault line kind) count fresh (number, offence) other =
    subst (λ l. begun_after count fresh (map Take l) ≤ count + 1) (sym offence.bytes_are)
    (begun_offence (width_of at) offence.front offence.byte count fresh offence.sound)
unread_begins at left bytes (row.Ended line) count fresh (number, end, short) other =
    begun_short (width_of at) (is_last_slot at) bytes count fresh short
unread_begins at left bytes row.ReadFault count fresh short other =
    begun_short (width_of at) false bytes count fresh short
unread_begins at left bytes row.Memory count fresh unread other = absurd (other refl)
