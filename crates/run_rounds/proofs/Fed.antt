-- The reading of rows that a script is to follow, slot by slot.
use Rattle.std.proofs.Common.{◌≡◌, ◌≢◌, ◌≤◌, ℕ, zero, suc, ◌+◌, ◌==◌, ◌||◌, Bool, true, false, if◌then◌else◌, List, [], ◌∷◌, ◌++◌, drop, length, refl, sym, ap, ◌∙◌, arith, subst, append_assoc, append-nil}
use Rattle.std.specs.declared.option.Option.{Option}
use Rattle.surface_model.specs.Schedules.{Schedule}
use Rattle.surface_model.specs.Layout.{last_slot}
use Rattle.surface_model.specs.Measurements.{bits_of_slot}
use Rattle.surface_model.specs.Reading.{RowKind, NextRow, Whole, Fault as Wrong, Ended as NoMore, EndedAt, RowFault, after_row, begun, next_row, reading_before_more}
use Rattle.syndrome_source.specs.Rows.{IsOffence, IsRow, kind_of}
use Rattle.syndrome_source.specs.declared.error.RowError.{RowError}
use Rattle.syndrome_source.specs.declared.error.RowError.TheVariants.{Fault, Ended, ReadFault, Memory}
use Rattle.run_rounds.specs.Courses.{AreFed, IsPast, with_rows}
use Rattle.run_rounds.specs.Fed.{AreUnfed, IsSlotUnfed, rows_before_more}
use Rattle.run_rounds.specs.Rounds.{lengths_of}
use Rattle.run_rounds.specs.Slots.{At, line_of, width_of}
use Rattle.run_rounds.proofs.Courses.{ahead_of, last_is, length_here, no_lengths, not_last}
use Rattle.run_rounds.proofs.Readings.{past_last, past_more, past_none}

-- ---- the start

pub fed_start : (s : Schedule) → AreFed s 0 [] []
fed_start s = subst (λ n. IsPast (lengths_of s) (s.rounds_line + 1) [] [] (lengths_of s) n)
    (let k : s.rounds_line + 1 ≡ s.rounds_line + 1 + 0 = omega arith in k)
    (past_none (lengths_of s) (s.rounds_line + 1))

-- ---- one more row

one_bit : (bit is_one : Bool) (kind : RowKind) (fed last : NextRow) (row : List Bool)
    (rest : List ℕ) →
    ((r : List Bool) → fed ≡ Whole r rest → last ≡ Whole r rest) →
    (if bit then begun is_one fed else Wrong kind) ≡ Whole row rest →
    (if bit then begun is_one last else Wrong kind) ≡ Whole row rest
one_bit true is_one kind (Whole r rs) last row rest go e =
    let same : rs ≡ rest = cc in
    ap (begun is_one) (go r (ap (Whole r) same)) ∙ ap (Whole (is_one ∷ r)) (sym same) ∙ e
one_bit true is_one kind (Wrong k) last row rest go e = absurd cc
one_bit true is_one kind NoMore last row rest go e = absurd cc
one_bit false is_one kind fed last row rest go e = e

-- a row with its line feed reads so in the last place too
as_last : (n : ℕ) (bytes : List ℕ) (row : List Bool) (rest : List ℕ) →
    next_row n false bytes ≡ Whole row rest → next_row n true bytes ≡ Whole row rest
as_last zero [] row rest e = absurd cc
as_last zero (byte ∷ bytes) row rest e = e
as_last (suc n) [] row rest e = absurd cc
as_last (suc n) (byte ∷ bytes) row rest e =
    one_bit (byte == 48 || byte == 49) (byte == 49) _ (next_row n false bytes)
    (next_row n true bytes) row rest (λ r h. as_last n bytes r rest h) e

by_place : (s : Schedule) (slot : ℕ) (bytes more : List ℕ) (rows : List (List Bool))
    (row : List Bool) (left : Option (List ℕ)) (last : Bool) → (slot == last_slot s) ≡ last →
    slot ≤ last_slot s → AreFed s slot bytes rows →
    IsRow (length (bits_of_slot s slot)) false row more left →
    AreFed s (slot + 1) (bytes ++ more) (rows ++ row ∷ [])
by_place s slot bytes more rows row left true flag within fed read =
    let at_last = last_is slot (last_slot s) flag in
    let line = s.rounds_line + 1 + slot in
    let n = length (bits_of_slot s slot) in
    let ahead : drop (slot + 1) (lengths_of s) ≡ [] = ap (λ k. drop (k + 1) (lengths_of s)) at_last
    ∙ no_lengths s in
    let here : IsPast (lengths_of s) (s.rounds_line + 1) bytes rows (n ∷ []) line =
    subst (λ l. IsPast (lengths_of s) (s.rounds_line + 1) bytes rows (n ∷ l) line) ahead
    (ahead_of s bytes rows slot within fed) in
    subst (λ k. IsPast (lengths_of s) (s.rounds_line + 1) (bytes ++ more) (rows ++ row ∷ [])
    (drop (slot + 1) (lengths_of s)) k)
    (let k : line + 1 ≡ s.rounds_line + 1 + (slot + 1) = omega arith in k)
    (subst (λ l. IsPast (lengths_of s) (s.rounds_line + 1) (bytes ++ more) (rows ++ row ∷ []) l
    (line + 1)) (sym ahead)
    (past_last (lengths_of s) (s.rounds_line + 1) bytes rows n line more row here
    (λ rest. as_last n (more ++ rest) row rest (read rest))))
by_place s slot bytes more rows row left false flag within fed read =
    let below = not_last slot (last_slot s) flag within in
    let next = slot + 1 in
    let line = s.rounds_line + 1 + slot in
    let n = length (bits_of_slot s slot) in
    let m = length (bits_of_slot s next) in
    let lengths = lengths_of s in
    let within_next : next ≤ last_slot s = omega (arith, below) in
    let two = subst (λ ahead. IsPast lengths (s.rounds_line + 1) bytes rows (n ∷ ahead) line)
    (length_here s next within_next) (ahead_of s bytes rows slot within fed) in
    let behind = past_more lengths (s.rounds_line + 1) bytes rows n m (drop (next + 1) lengths) line
    more row two read in
    subst (λ k. IsPast lengths (s.rounds_line + 1) (bytes ++ more) (rows ++ row ∷ [])
    (drop next lengths) k) (let k : line + 1 ≡ s.rounds_line + 1 + next = omega arith in k)
    (subst (λ ahead. IsPast lengths (s.rounds_line + 1) (bytes ++ more) (rows ++ row ∷ []) ahead
    (line + 1)) (sym (length_here s next within_next)) behind)

pub fed_more : (s : Schedule) (slot : ℕ) (bytes more : List ℕ) (rows : List (List Bool))
    (row : List Bool) (left : Option (List ℕ)) → slot ≤ last_slot s → AreFed s slot bytes rows →
    IsRow (length (bits_of_slot s slot)) false row more left →
    AreFed s (slot + 1) (bytes ++ more) (rows ++ row ∷ [])
fed_more s slot bytes more rows row left within fed read =
    by_place s slot bytes more rows row left (slot == last_slot s) refl within fed read

-- ---- a row that isn't whole

-- how the next row reads decides
next_decides : (lengths : List ℕ) (line : ℕ) (bytes : List ℕ) (rows : List (List Bool)) (n : ℕ)
    (ahead : List ℕ) (now : ℕ) (more : List ℕ) (next : NextRow) →
    IsPast lengths line bytes rows (n ∷ ahead) now → next_row n false more ≡ next →
    reading_before_more lengths line (bytes ++ more)
    ≡ with_rows rows (after_row (λ r. reading_before_more ahead (now + 1) r) now next)
next_decides lengths line bytes rows n ahead now more next past is =
    past.feeds more
    ∙ ap (λ t. with_rows rows (after_row (λ r. reading_before_more ahead (now + 1) r) now t)) is

begun_so : (s : Schedule) (bytes : List ℕ) (rows : List (List Bool)) (n : ℕ) (ahead : List ℕ)
    (now : ℕ) (more : List ℕ) →
    IsPast (lengths_of s) (s.rounds_line + 1) bytes rows (n ∷ ahead) now →
    next_row n false more ≡ NoMore →
    rows_before_more s (bytes ++ more) ≡ record { rows = rows; ending = EndedAt now }
begun_so s bytes rows n ahead now more past is =
    next_decides (lengths_of s) (s.rounds_line + 1) bytes rows n ahead now more NoMore past is
    ∙ ap (λ l. record { rows = l; ending = EndedAt now }) (append-nil rows)

wrong_so : (s : Schedule) (bytes : List ℕ) (rows : List (List Bool)) (n : ℕ) (ahead : List ℕ)
    (now : ℕ) (more rest : List ℕ) (kind : RowKind) →
    IsPast (lengths_of s) (s.rounds_line + 1) bytes rows (n ∷ ahead) now →
    next_row n false (more ++ rest) ≡ Wrong kind →
    rows_before_more s ((bytes ++ more) ++ rest)
    ≡ record { rows = rows; ending = RowFault now kind }
wrong_so s bytes rows n ahead now more rest kind past is =
    ap (rows_before_more s) (append_assoc bytes more rest)
    ∙ next_decides (lengths_of s) (s.rounds_line + 1) bytes rows n ahead now (more ++ rest)
    (Wrong kind) past is
    ∙ ap (λ l. record { rows = l; ending = RowFault now kind }) (append-nil rows)

pub unfed_by : (at : At) (front bytes : List ℕ) (rows : List (List Bool)) (left : Option (List ℕ))
    (error : RowError) → at.slot ≤ last_slot at.schedule → AreFed at.schedule at.slot front rows →
    IsSlotUnfed at left bytes error → error ≢ Memory →
    AreUnfed at.schedule (front ++ bytes) left rows error
unfed_by at front bytes rows left (Fault line kind) within fed why other =
    let s = at.schedule in
    let past = ahead_of s front rows at.slot within fed in
    let ahead = drop (at.slot + 1) (lengths_of s) in
    let offence : IsOffence (width_of at) false bytes (kind_of kind) = why.1 in
    record {
      front = front ++ offence.front;
      byte = offence.byte;
      bytes_are = ap (λ l. front ++ l) offence.bytes_are
          ∙ sym (append_assoc front offence.front (offence.byte ∷ []));
      sound = (
        line_of at,
        begun_so s front rows (width_of at) ahead (line_of at) offence.front past offence.sound,
      );
      wrong = λ rest. wrong_so s front rows (width_of at) ahead (line_of at) bytes rest
          (kind_of kind) past (offence.wrong rest)
          ∙ ap (λ k. record { rows = rows; ending = RowFault k (kind_of kind) }) (sym why.0);
    }
unfed_by at front bytes rows left (Ended line) within fed why other =
    let s = at.schedule in
    let past = ahead_of s front rows at.slot within fed in (
      why.1,
      begun_so s front rows (width_of at) (drop (at.slot + 1) (lengths_of s)) (line_of at) bytes
          past why.2
          ∙ ap (λ k. record { rows = rows; ending = EndedAt k }) (sym why.0),
    )
unfed_by at front bytes rows left ReadFault within fed why other =
    let s = at.schedule in
    let past = ahead_of s front rows at.slot within fed in (
      line_of at,
      begun_so s front rows (width_of at) (drop (at.slot + 1) (lengths_of s)) (line_of at) bytes
          past why,
    )
unfed_by at front bytes rows left Memory within fed why other = absurd (other refl)
