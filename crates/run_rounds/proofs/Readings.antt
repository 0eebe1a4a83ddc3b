-- How rows read one after another.
use Rattle.std.proofs.Common.{◌≡◌, ◌⊎◌, inl, inr, ℕ, zero, suc, ◌+◌, ◌==◌, Bool, true, false, if◌then◌else◌, List, [], ◌∷◌, ◌++◌, ◌||◌, drop, refl, sym, ap, ◌∙◌, subst, append_assoc, append-nil}
use Rattle.surface_model.specs.Reading.{Reading, RowKind, NextRow, Whole, Fault, Ended, begun, next_row, Good, RowFault, EndedAt, with_row, after_row, is_last, at_end, reading_of, reading_before_more, Trailing}
use Rattle.surface_model.specs.Schedules.{Schedule}
use Rattle.syndrome_source.specs.Rows.{IsOffence}
use Rattle.run_rounds.specs.Rounds.{IsFaultless, IsFirstOffence, lengths_of}
use Rattle.run_rounds.specs.Courses.{with_rows, IsPast}

pub past_none : (lengths : List ℕ) (line : ℕ) → IsPast lengths line [] [] lengths line
past_none lengths line = record { reads = λ rest. refl; feeds = λ rest. refl }

one_more : (rows : List (List Bool)) (row : List Bool) (reading : Reading) →
    with_rows rows (with_row row reading) ≡ with_rows (rows ++ row ∷ []) reading
one_more rows row reading = ap (λ l. record { rows = l; ending = reading.ending })
    (sym (append_assoc rows (row ∷ []) reading.rows))

-- after one more row that is not the last
pub past_more : (lengths : List ℕ) (line : ℕ) (bytes : List ℕ) (rows : List (List Bool)) (n m : ℕ)
    (ahead : List ℕ) (now : ℕ) (more : List ℕ) (row : List Bool) →
    IsPast lengths line bytes rows (n ∷ m ∷ ahead) now →
    ((rest : List ℕ) → next_row n false (more ++ rest) ≡ Whole row rest) →
    IsPast lengths line (bytes ++ more) (rows ++ row ∷ []) (m ∷ ahead) (now + 1)
past_more lengths line bytes rows n m ahead now more row past whole = record {
  reads = λ rest.
      ap (reading_of lengths line) (append_assoc bytes more rest)
      ∙ past.reads (more ++ rest)
      ∙ ap (λ next. with_rows rows (after_row (λ r. reading_of (m ∷ ahead) (now + 1) r) now next))
      (whole rest)
      ∙ one_more rows row (reading_of (m ∷ ahead) (now + 1) rest);
  feeds = λ rest.
      ap (reading_before_more lengths line) (append_assoc bytes more rest)
      ∙ past.feeds (more ++ rest)
      ∙ ap (λ next. with_rows rows (after_row (λ r. reading_before_more (m ∷ ahead) (now + 1) r) now
      next)) (whole rest)
      ∙ one_more rows row (reading_before_more (m ∷ ahead) (now + 1) rest);
}

begun_whole : (bit : Bool) (next : NextRow) (row : List Bool) (rest : List ℕ) →
    begun bit next ≡ Whole row rest → (next ≡ Whole (drop 1 row) rest) × (row ≡ bit ∷ drop 1 row)
begun_whole bit (Whole r rs) row rest e =
    let h : bit ∷ r ≡ row = cc in
    let k : rs ≡ rest = cc in (
      ap (λ l. Whole (drop 1 l) rs) h ∙ ap (Whole (drop 1 row)) k,
      sym h
          ∙ ap (λ l. bit ∷ drop 1 l) h,
    )
begun_whole bit (Fault kind) row rest e = absurd cc
begun_whole bit Ended row rest e = absurd cc

-- likewise of a first bit and of what follows it
fed_bit : (bit is_one : Bool) (kind : RowKind) (last fed : List ℕ → NextRow) (row : List Bool) →
    ((r : List Bool) → ((rest : List ℕ) → last rest ≡ Whole r rest) → (rest : List ℕ) →
    fed rest ≡ Whole r rest) →
    ((rest : List ℕ) → (if bit then begun is_one (last rest) else Fault kind) ≡ Whole row rest) →
    (rest : List ℕ) → (if bit then begun is_one (fed rest) else Fault kind) ≡ Whole row rest
fed_bit true is_one kind last fed row go whole rest =
    ap (begun is_one) (go (drop 1 row) (λ r. (begun_whole is_one (last r) row r (whole r)).0) rest)
    ∙ ap (λ l. Whole l rest) (sym (begun_whole is_one (last rest) row rest (whole rest)).1)
fed_bit false is_one kind last fed row go whole rest = let h = whole rest in absurd cc

-- a last row that reads the same whatever follows has its line feed
pub fed : (n : ℕ) (more : List ℕ) (row : List Bool) →
    ((rest : List ℕ) → next_row n true (more ++ rest) ≡ Whole row rest) → (rest : List ℕ) →
    next_row n false (more ++ rest) ≡ Whole row rest
fed zero [] row whole = let h = whole (48 ∷ []) in absurd cc
fed zero (byte ∷ more) row whole = whole
fed (suc n) [] row whole = let h = whole [] in absurd cc
fed (suc n) (byte ∷ more) row whole =
    fed_bit (byte == 48 || byte == 49) (byte == 49) _ (λ rest. next_row n true (more ++ rest))
    (λ rest. next_row n false (more ++ rest)) row (λ r w. fed n more r w) whole

-- after the last row and its line feed
pub past_last : (lengths : List ℕ) (line : ℕ) (bytes : List ℕ) (rows : List (List Bool)) (n now : ℕ)
    (more : List ℕ) (row : List Bool) →
    IsPast lengths line bytes rows (n ∷ []) now →
    ((rest : List ℕ) → next_row n true (more ++ rest) ≡ Whole row rest) →
    IsPast lengths line (bytes ++ more) (rows ++ row ∷ []) [] (now + 1)
past_last lengths line bytes rows n now more row past whole = record {
  reads = λ rest.
      ap (reading_of lengths line) (append_assoc bytes more rest)
      ∙ past.reads (more ++ rest)
      ∙ ap (λ next. with_rows rows (after_row (λ r. reading_of [] (now + 1) r) now next))
      (whole rest)
      ∙ one_more rows row (reading_of [] (now + 1) rest);
  feeds = λ rest.
      ap (reading_before_more lengths line) (append_assoc bytes more rest)
      ∙ past.feeds (more ++ rest)
      ∙ ap (λ next. with_rows rows (after_row (λ r. reading_before_more [] (now + 1) r) now next))
      (fed n more row whole rest)
      ∙ one_more rows row (reading_before_more [] (now + 1) rest);
}

-- the input ends after the last row's bits
pub read_last : (lengths : List ℕ) (line : ℕ) (bytes : List ℕ) (rows : List (List Bool)) (n now : ℕ)
    (more : List ℕ) (row : List Bool) →
    IsPast lengths line bytes rows (n ∷ []) now → next_row n true more ≡ Whole row [] →
    reading_of lengths line (bytes ++ more) ≡ record { rows = rows ++ row ∷ []; ending = Good }
read_last lengths line bytes rows n now more row past whole =
    past.reads more
    ∙ ap (λ next. with_rows rows (after_row (λ r. reading_of [] (now + 1) r) now next)) whole
    ∙ one_more rows row (at_end (now + 1) [])
    ∙ ap (λ l. record { rows = l; ending = Good }) (append-nil (rows ++ row ∷ []))

-- the input ends after the last row's line feed
pub read_fed : (lengths : List ℕ) (line : ℕ) (bytes : List ℕ) (rows : List (List Bool)) (now : ℕ) →
    IsPast lengths line bytes rows [] now → reading_of lengths line bytes ≡ record {
      rows = rows;
      ending = Good;
    }
read_fed lengths line bytes rows now past =
    ap (reading_of lengths line) (sym (append-nil bytes)) ∙ past.reads []
    ∙ ap (λ l. record { rows = l; ending = Good }) (append-nil rows)

-- ---- rows that are begun

-- of a row that is begun all bits may be there, and no more
begun_bit : (bit is_one : Bool) (kind : RowKind) (next last : NextRow) →
    (if bit then begun is_one next else Fault kind) ≡ Ended →
    (next ≡ Ended → (last ≡ Ended) ⊎ ((row : List Bool) × (last ≡ Whole row []))) →
    ((if bit then begun is_one last else Fault kind) ≡ Ended)
    ⊎ ((row : List Bool) × ((if bit then begun is_one last else Fault kind) ≡ Whole row []))
begun_bit true is_one kind (Whole r rs) last e go = absurd cc
begun_bit true is_one kind (Fault k) last e go = absurd cc
begun_bit true is_one kind Ended last e go = elim (go refl) [
  | inl ended ↦ inl
      (ap (begun is_one) ended)
  | inr whole ↦ inr (is_one ∷ whole.0, ap (begun is_one) whole.1)
]
begun_bit false is_one kind next last e go = absurd cc

not_ended : (feed : Bool) (rest : List ℕ) (kind : RowKind) →
    (if feed then Whole [] rest else Fault kind) ≡ Ended → ⊥
not_ended true rest kind e = cc
not_ended false rest kind e = cc

begun_open : (n : ℕ) (more : List ℕ) → next_row n false more ≡ Ended →
    (next_row n true more ≡ Ended) ⊎ ((row : List Bool) × (next_row n true more ≡ Whole row []))
begun_open zero [] e = inr ([], refl)
begun_open zero (byte ∷ more) e = absurd (not_ended (byte == 10) more _ e)
begun_open (suc n) [] e = inl refl
begun_open (suc n) (byte ∷ more) e = begun_bit (byte == 48 || byte == 49) (byte == 49) _
    (next_row n false more) (next_row n true more) e (λ h. begun_open n more h)

-- nothing is wrong in a row that is begun
pub begun_faultless : (lengths : List ℕ) (line : ℕ) (bytes : List ℕ) (rows : List (List Bool))
    (n : ℕ) (ahead : List ℕ) (now : ℕ) (more : List ℕ) →
    IsPast lengths line bytes rows (n ∷ ahead) now → next_row n false more ≡ Ended →
    IsFaultless (reading_of lengths line (bytes ++ more)).ending
begun_faultless lengths line bytes rows n [] now more past begun =
    elim (begun_open n more begun) [
      | inl ended ↦ subst (λ r. IsFaultless r.ending) (sym (past.reads more ∙ ap (λ next.
          with_rows rows (after_row (λ r. reading_of [] (now + 1) r) now next)) ended)) tt
      | inr whole ↦ subst (λ r. IsFaultless r.ending) (sym (past.reads more ∙ ap (λ next.
          with_rows rows (after_row (λ r. reading_of [] (now + 1) r) now next)) whole.1)) tt
    ]
begun_faultless lengths line bytes rows n (m ∷ ahead) now more past begun =
    subst (λ r. IsFaultless r.ending) (sym (past.reads more ∙ ap (λ next.
    with_rows rows (after_row (λ r. reading_of (m ∷ ahead) (now + 1) r) now next)) begun)) tt

-- and it is no row that has its line feed
pub begun_feeds : (lengths : List ℕ) (line : ℕ) (bytes : List ℕ) (rows : List (List Bool)) (n : ℕ)
    (ahead : List ℕ) (now : ℕ) (more : List ℕ) →
    IsPast lengths line bytes rows (n ∷ ahead) now → next_row n false more ≡ Ended →
    (reading_before_more lengths line (bytes ++ more)).rows ≡ rows
begun_feeds lengths line bytes rows n ahead now more past begun =
    ap (λ (r : Reading). r.rows) (past.feeds more ∙ ap (λ next.
    with_rows rows (after_row (λ r. reading_before_more ahead (now + 1) r) now next)) begun)
    ∙ append-nil rows

-- a row whose input ended
pub read_ended : (lengths : List ℕ) (line : ℕ) (bytes : List ℕ) (rows : List (List Bool)) (n : ℕ)
    (ahead : List ℕ) (now : ℕ) (more : List ℕ) →
    IsPast lengths line bytes rows (n ∷ ahead) now → next_row n (is_last ahead) more ≡ Ended →
    reading_of lengths line (bytes ++ more) ≡ record { rows = rows; ending = EndedAt now }
read_ended lengths line bytes rows n ahead now more past ended =
    past.reads more
    ∙ ap (λ next. with_rows rows (after_row (λ r. reading_of ahead (now + 1) r) now next)) ended
    ∙ ap (λ l. record { rows = l; ending = EndedAt now }) (append-nil rows)

-- a row with a byte that offends
pub read_wrong : (s : Schedule) (bytes : List ℕ) (rows : List (List Bool)) (n : ℕ) (ahead : List ℕ)
    (now : ℕ) (more : List ℕ) (kind : RowKind) →
    IsPast (lengths_of s) (s.rounds_line + 1) bytes rows (n ∷ ahead) now →
    IsOffence n (is_last ahead) more kind → IsFirstOffence s (bytes ++ more) rows now kind
read_wrong s bytes rows n ahead now more kind past offence = record {
  front = bytes ++ offence.front;
  byte = offence.byte;
  bytes_are = ap (λ m. bytes ++ m) offence.bytes_are
      ∙ sym (append_assoc bytes offence.front (offence.byte ∷ []));
  sound = begun_faultless (lengths_of s) (s.rounds_line + 1) bytes rows n ahead now offence.front
      past offence.sound;
  wrong = λ rest.
      ap (reading_of (lengths_of s) (s.rounds_line + 1)) (append_assoc bytes more rest)
      ∙ past.reads (more ++ rest)
      ∙ ap (λ next. with_rows rows (after_row (λ r. reading_of ahead (now + 1) r) now next))
      (offence.wrong rest)
      ∙ ap (λ l. record { rows = l; ending = RowFault now kind }) (append-nil rows);
}

-- a byte after the last row
pub read_behind : (s : Schedule) (bytes : List ℕ) (rows : List (List Bool)) (now : ℕ) (byte : ℕ) →
    IsPast (lengths_of s) (s.rounds_line + 1) bytes rows [] now →
    IsFirstOffence s (bytes ++ byte ∷ []) rows now Trailing
read_behind s bytes rows now byte past = record {
  front = bytes;
  byte = byte;
  bytes_are = refl;
  sound = subst (λ r. IsFaultless r.ending)
      (sym (read_fed (lengths_of s) (s.rounds_line + 1) bytes rows now past)) tt;
  wrong = λ rest.
      ap (reading_of (lengths_of s) (s.rounds_line + 1)) (append_assoc bytes (byte ∷ []) rest)
      ∙ past.reads (byte ∷ rest)
      ∙ ap (λ l. record { rows = l; ending = RowFault now Trailing }) (append-nil rows);
}

-- the rows that have their line feed, after the last
pub fed_all : (lengths : List ℕ) (line : ℕ) (bytes : List ℕ) (rows : List (List Bool)) (now : ℕ) →
    IsPast lengths line bytes rows [] now → (reading_before_more lengths line bytes).rows ≡ rows
fed_all lengths line bytes rows now past =
    ap (λ l. (reading_before_more lengths line l).rows) (sym (append-nil bytes))
    ∙ ap (λ (r : Reading). r.rows) (past.feeds []) ∙ append-nil rows
