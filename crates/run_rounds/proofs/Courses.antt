-- The reading of rows, slot by slot: from its start, over one more row or one release, to its end.
use Rattle.std.proofs.Common.{◌≡◌, ◌≢◌, ◌≤◌, ◌<◌, ◌⊎◌, inl, inr, ℕ, zero, suc, ◌+◌, ◌==◌, Bool, true, false, List, [], ◌∷◌, ◌++◌, None, Some, Ok, Err, drop, length, map, flat_map, filter_map, get_or, refl, sym, ap, ◌∙◌, arith, subst, append-nil, length-append, slice_index_or}
use Rattle.std.proofs.lemmas.List.FromFn.{length-map-range_with_len, get_or-map-range_with_len}
use Rattle.std.proofs.Math.Seq.{drop-cons}
use Rattle.std.specs.declared.option.Option.{Option}
use Rattle.std.proofs.lemmas.Bool.Decides.{nat_tests}
use Rattle.port_io.specs.Traffic.{Goes, IsAtEnd, Takes, taken}
use Rattle.port_io.specs.declared.port.TapeByte.{TapeByte}
use Rattle.port_io.proofs.Traffic.{goes_both, goes_nothing, goes_takes}
use Rattle.surface_model.specs.Schedules.{Schedule}
use Rattle.surface_model.specs.Layout.{last_slot}
use Rattle.surface_model.specs.Measurements.{bits_of_slot}
use Rattle.surface_model.specs.Reading.{Reading, Trailing, RowFault, Whole, Ended as NoMore, Good, EndedAt, is_last, next_row}
use Rattle.syndrome_source.specs.Rows.{IsOffence, IsRow, IsNoEnd, kind_of}
use Rattle.syndrome_source.specs.declared.error.RowKind.{RowKind}
use Rattle.syndrome_source.specs.declared.error.RowError.{RowError}
use Rattle.syndrome_source.specs.declared.error.RowError.TheVariants.{Fault, Ended, ReadFault, Memory}
use Rattle.measure_map.specs.Placed.{before_slot}
use Rattle.report_model.specs.Tapes.{Take, bytes_of, take_of}
use Rattle.run_rounds.specs.Moves.{begun_after, fresh_after, put_moves}
use Rattle.run_rounds.specs.Rounds.{AreRounds, AreSoFar, IsFaultless, IsFirstOffence, fed_rows, lengths_of, rounds_of}
use Rattle.run_rounds.specs.Slots.{At, IsSlotRead, IsSlotUnread, is_last_slot, line_of, next_at, width_of}
use Rattle.run_rounds.specs.Courses.{AreEnded, AreFed, IsPast, IsReadTo}
use Rattle.run_rounds.proofs.Readings.{past_none, past_more, past_last, read_last, read_fed, begun_faultless, begun_feeds, read_ended, read_wrong, read_behind, fed_all}
use Rattle.run_rounds.proofs.Moving.{begun_append, begun_put, moves_more, moves_put, row_begins, takes_more, takes_put}

-- ---- the lengths of the rows

dropped : (n : ℕ) (xs : List ℕ) (d : ℕ) → n < length xs →
    drop n xs ≡ get_or xs n d ∷ drop (n + 1) xs
dropped n xs d l = drop-cons xs n d l ∙ ap (λ k. get_or xs n d ∷ drop k xs) (let k : suc n ≡ n + 1 =
    omega arith in k)

all_dropped : (n : ℕ) (xs : List ℕ) → length xs ≤ n → drop n xs ≡ []
all_dropped zero [] l = refl
all_dropped zero (x ∷ xs) l = absurd (omega arith)
all_dropped (suc n) [] l = refl
all_dropped (suc n) (x ∷ xs) l = all_dropped n xs (omega (arith, l))

pub length_here : (s : Schedule) (t : ℕ) → t ≤ last_slot s → drop t (lengths_of s)
    ≡ length (bits_of_slot s t) ∷ drop (t + 1) (lengths_of s)
length_here s t l =
    let long = length-map-range_with_len (λ u. length (bits_of_slot s u)) 0 (last_slot s + 1) in
    dropped t (lengths_of s) 0 (omega (arith, l, long))
    ∙ ap (λ n. n ∷ drop (t + 1) (lengths_of s)) (get_or-map-range_with_len (λ u.
    length (bits_of_slot s u)) 0 (last_slot s + 1) t t 0 (omega (arith, l)) (omega arith))

pub no_lengths : (s : Schedule) → drop (last_slot s + 1) (lengths_of s) ≡ []
no_lengths s = let long = length-map-range_with_len (λ u. length (bits_of_slot s u)) 0 (last_slot s
    + 1) in all_dropped (last_slot s + 1) (lengths_of s) (omega (arith, long))

-- ---- the start

abbrev pub read_start : (labels : List (List ℕ))
    (s : Schedule) (left : Option (List ℕ)) (tape : Option (List TapeByte)) →
    IsReadTo labels (record { schedule = s; slot = 0; before = [] }) left left tape tape
read_start labels s left tape = record {
  moves = [];
  rows = [];
  goes = goes_nothing left tape;
  read = inl (subst (λ n. IsPast (lengths_of s) (s.rounds_line + 1) [] [] (lengths_of s) n)
      (omega arith) (past_none (lengths_of s) (s.rounds_line + 1)));
  each_slot = refl;
  before_is = refl;
  begun = omega arith;
}

-- ---- one more row

-- the last of these rows
last_behind : (rows : List (List Bool)) (row : List Bool) (more : List (List Bool)) →
    slice_index_or (rows ++ row ∷ more) (length rows) [] ≡ row
last_behind [] row more = refl
last_behind (r ∷ rows) row more = last_behind rows row more

-- the row of this slot, whatever follows
pub row_stays : (rows more : List (List Bool)) (row : List Bool) (slot : ℕ) → length rows ≡ slot →
    row ≡ slice_index_or (rows ++ row ∷ more) slot []
row_stays rows more row slot e =
    subst (λ t. row ≡ slice_index_or (rows ++ row ∷ more) t []) e (sym (last_behind rows row more))

-- the row before a slot stands whatever follows
pub before_stays : (rows more : List (List Bool)) (slot : ℕ) → length rows ≡ slot →
    before_slot rows slot ≡ before_slot (rows ++ more) slot
before_stays rows more zero e = refl
before_stays [] more (suc n) e = absurd (omega (arith, e))
before_stays (r ∷ []) more (suc zero) e = refl
before_stays (r ∷ []) more (suc (suc n)) e = absurd (omega (arith, e))
before_stays (r ∷ q ∷ rows) more (suc zero) e = absurd (omega (arith, e))
before_stays (r ∷ q ∷ rows) more (suc (suc n)) e =
    before_stays (q ∷ rows) more (suc n) (omega (arith, e))

pub one_longer : (rows : List (List Bool)) (row : List Bool) (slot : ℕ) → length rows ≡ slot →
    length (rows ++ row ∷ []) ≡ slot + 1
one_longer rows row slot e = length-append rows (row ∷ []) ∙ ap (λ n. n + 1) e

-- the row that was read stands before the next slot
pub before_next : (rows : List (List Bool)) (row : List Bool) (slot : ℕ) → length rows ≡ slot →
    row ≡ before_slot (rows ++ row ∷ []) (slot + 1)
before_next rows row slot e = subst (λ n. row ≡ before_slot (rows ++ row ∷ []) n) (let k : suc slot
    ≡ slot + 1 = omega arith in k) (row_stays rows [] row slot e)

-- the lengths ahead, of which the first is this slot's
pub ahead_of : (s : Schedule) (bytes : List ℕ) (rows : List (List Bool)) (slot : ℕ) →
    slot ≤ last_slot s → AreFed s slot bytes rows →
    IsPast (lengths_of s) (s.rounds_line + 1) bytes rows (length (bits_of_slot s slot)
    ∷ drop (slot + 1) (lengths_of s)) (s.rounds_line + 1 + slot)
ahead_of s bytes rows slot within fed =
    subst (λ ahead. IsPast (lengths_of s) (s.rounds_line + 1) bytes rows ahead (s.rounds_line + 1
    + slot)) (length_here s slot within) fed

-- whether a slot is the last
pub last_is : (a b : ℕ) → (a == b) ≡ true → a ≡ b
last_is a b e = grind (arith, nat_tests)

pub not_last : (a b : ℕ) → (a == b) ≡ false → a ≤ b → a < b
not_last a b e l = grind (arith, nat_tests)

-- the next rows
pub fed_on : (s : Schedule) (slot : ℕ) (bytes more : List ℕ) (rows : List (List Bool))
    (row : List Bool) (left : Option (List ℕ)) (last : Bool) → (slot == last_slot s) ≡ last →
    slot ≤ last_slot s → AreFed s slot bytes rows →
    IsRow (length (bits_of_slot s slot)) last row more left → AreFed s (slot + 1) (bytes
    ++ more) (rows ++ row ∷ []) ⊎ AreEnded s (slot + 1) (bytes ++ more) left (rows ++ row ∷ [])
fed_on s slot bytes more rows row left true flag within fed read =
    let at_last = last_is slot (last_slot s) flag in
    let line = s.rounds_line + 1 + slot in
    let n = length (bits_of_slot s slot) in
    let ahead : drop (slot + 1) (lengths_of s) ≡ [] = ap (λ k. drop (k + 1) (lengths_of s)) at_last
    ∙ no_lengths s in
    let here : IsPast (lengths_of s) (s.rounds_line + 1) bytes rows (n ∷ []) line =
    subst (λ l. IsPast (lengths_of s) (s.rounds_line + 1) bytes rows (n ∷ l) line) ahead
    (ahead_of s bytes rows slot within fed) in
    elim read [
      | inl whole ↦
          inl (subst (λ k. IsPast (lengths_of s) (s.rounds_line + 1) (bytes ++ more) (rows
          ++ row ∷ []) (drop (slot + 1) (lengths_of s)) k) (let k : line + 1 ≡ s.rounds_line + 1
          + (slot + 1) = omega arith in k)
          (subst (λ l. IsPast (lengths_of s) (s.rounds_line + 1) (bytes ++ more) (rows
          ++ row ∷ []) l (line + 1)) (sym ahead)
          (past_last (lengths_of s) (s.rounds_line + 1) bytes rows n line more row here whole)))
      | inr ended ↦ inr (
        ap (λ k. k + 1) at_last,
        ended.0,
        read_last (lengths_of s) (s.rounds_line + 1) bytes rows n line more row here ended.1,
      )
    ]
fed_on s slot bytes more rows row left false flag within fed read =
    let below = not_last slot (last_slot s) flag within in
    let next = slot + 1 in
    let line = s.rounds_line + 1 + slot in
    let n = length (bits_of_slot s slot) in
    let m = length (bits_of_slot s next) in
    let lengths = lengths_of s in
    let within_next : next ≤ last_slot s = omega (arith, below) in
    let two = subst (λ ahead. IsPast lengths (s.rounds_line + 1) bytes rows (n ∷ ahead) line)
    (length_here s next within_next) (ahead_of s bytes rows slot within fed) in
    let behind = past_more lengths (s.rounds_line + 1) bytes rows n m (drop (next + 1) lengths) line
    more row two read in
    inl (subst (λ k. IsPast lengths (s.rounds_line + 1) (bytes ++ more) (rows ++ row ∷ [])
    (drop next lengths) k) (let k : line + 1 ≡ s.rounds_line + 1 + next = omega arith in k)
    (subst (λ ahead. IsPast lengths (s.rounds_line + 1) (bytes ++ more) (rows
    ++ row ∷ []) ahead (line + 1)) (sym (length_here s next within_next)) behind))

pub row_whole : (n : ℕ) (last : Bool) (row : List Bool) (bytes : List ℕ) (left : Option (List ℕ)) →
    IsRow n last row bytes left → next_row n last bytes ≡ Whole row []
row_whole n true row bytes left read = elim read [
  | inl whole ↦ ap (next_row n true) (sym (append-nil bytes)) ∙ whole []
  | inr ended ↦ ended.1
]
row_whole n false row bytes left whole = ap (next_row n false) (sym (append-nil bytes)) ∙ whole []

pub no_more : (s : Schedule) (slot : ℕ) → slot ≤ last_slot s → slot ≡ last_slot s + 1 → ⊥
no_more s slot within past = omega (arith, within, past)

-- the row of the next slot was taken
abbrev pub read_row : (labels : List (List ℕ)) (at : At) (row : List Bool) (bytes : List ℕ)
    (a b c : Option (List ℕ)) (t u v : Option (List TapeByte)) → IsReadTo labels at a b t u →
    at.slot ≤ last_slot at.schedule →
    Goes (taken bytes) b c u v → IsRow (width_of at) (is_last_slot at) row bytes c →
    IsReadTo labels (next_at at row) a c t v
read_row labels at row bytes a b c t u v so_far within goes is_row = record {
  moves = so_far.moves ++ map Take bytes;
  rows = so_far.rows ++ row ∷ [];
  goes = subst (λ items. Goes items a c t v) (sym (moves_more labels so_far.moves bytes)) (goes_both
      (flat_map (bytes_of labels) so_far.moves) (taken bytes) a b c t u v so_far.goes goes);
  read = subst (λ l. AreFed at.schedule (at.slot + 1) l (so_far.rows ++ row ∷ []) ⊎ AreEnded
      at.schedule (at.slot + 1) l c (so_far.rows ++ row ∷ [])) (sym (takes_more so_far.moves bytes))
      (elim so_far.read [
        | inl fed ↦ fed_on at.schedule at.slot (filter_map take_of so_far.moves) bytes so_far.rows
            row c (is_last_slot at) refl within fed is_row
        | inr ended ↦ absurd (no_more at.schedule at.slot within ended.0)
      ]);
  each_slot = one_longer so_far.rows row at.slot so_far.each_slot;
  before_is = before_next so_far.rows row at.slot so_far.each_slot;
  begun =
      let clock = begun_append 0 true so_far.moves (map Take bytes) in
      let one = row_begins (width_of at) (is_last_slot at)
      bytes row (begun_after 0 true so_far.moves) (fresh_after true so_far.moves)
      (row_whole (width_of at) (is_last_slot at) row bytes c is_row) in
      omega (arith, clock, one, so_far.begun);
}

abbrev pub read_slot : (labels : List (List ℕ)) (old new : At) (values raws : List Bool)
    (a b c : Option (List ℕ)) (t u v : Option (List TapeByte)) → IsReadTo labels old a b t u →
    old.slot ≤ last_slot old.schedule →
    IsSlotRead old new values raws b c u v → IsReadTo labels new a c t v
read_slot labels old new values raws a b c t u v so_far within read =
    subst (λ at. IsReadTo labels at a c t v) (sym read.next)
    (read_row labels old read.row read.bytes a b c t u v so_far within read.goes read.is_row)

-- the lines of releases were put
abbrev pub read_put : (labels : List (List ℕ)) (at : At) (rs : List (ℕ × Bool))
    (a b c : Option (List ℕ)) (t u v : Option (List TapeByte)) → IsReadTo labels at a b t u →
    c ≡ b → Goes (flat_map (bytes_of labels) (put_moves rs)) b c u v →
    IsReadTo labels at a c t v
read_put labels at rs a b c t u v so_far same goes = record {
  moves = so_far.moves ++ put_moves rs;
  rows = so_far.rows;
  goes = subst (λ items. Goes items a c t v) (sym (moves_put labels so_far.moves rs)) (goes_both
      (flat_map (bytes_of labels) so_far.moves) (flat_map (bytes_of labels) (put_moves rs)) a b c t
      u v so_far.goes goes);
  read = subst (λ l. AreFed at.schedule at.slot l so_far.rows
      ⊎ AreEnded at.schedule at.slot l c so_far.rows) (sym (takes_put so_far.moves rs))
      (subst (λ left. AreFed at.schedule at.slot (filter_map take_of so_far.moves) so_far.rows
      ⊎ AreEnded at.schedule at.slot (filter_map take_of so_far.moves) left so_far.rows)
      (sym same) so_far.read);
  each_slot = so_far.each_slot;
  before_is = so_far.before_is;
  begun = let clock = begun_put so_far.moves rs in omega (arith, clock, so_far.begun);
}

-- ---- so far

-- nothing is begun of the next row
none_begun : (n : ℕ) → next_row n false [] ≡ NoMore
none_begun zero = refl
none_begun (suc n) = refl

-- after whole rows nothing is wrong
fed_so_far : (s : Schedule) (slot : ℕ)
    (bytes : List ℕ) (rows : List (List Bool)) (left : Option (List ℕ)) (ahead : List ℕ) (now : ℕ) →
    IsPast (lengths_of s) (s.rounds_line + 1) bytes rows ahead now → AreSoFar s bytes left rows
fed_so_far s slot bytes rows left [] now past = (
  subst (λ r. IsFaultless r.ending)
      (sym (read_fed (lengths_of s) (s.rounds_line + 1) bytes rows now past)) tt,
  inl (sym (fed_all (lengths_of s) (s.rounds_line + 1) bytes rows now past)),
)
fed_so_far s slot bytes rows left (n ∷ ahead) now past = (
  subst (λ l. IsFaultless (rounds_of s l).ending) (append-nil bytes) (begun_faultless (lengths_of s)
      (s.rounds_line + 1) bytes rows n ahead now [] past (none_begun n)),
  inl (sym (ap (fed_rows s) (sym (append-nil bytes)) ∙ begun_feeds (lengths_of s) (s.rounds_line
      + 1) bytes rows n ahead now [] past (none_begun n))),
)

ended_so_far : (s : Schedule) (bytes : List ℕ) (rows : List (List Bool)) (left : Option (List ℕ)) →
    IsAtEnd left → rounds_of s bytes ≡ record { rows = rows; ending = Good } →
    AreSoFar s bytes left rows
ended_so_far s bytes rows left end read = (
  subst (λ r. IsFaultless r.ending) (sym read) tt,
  inr (end, sym (ap (λ (r : Reading). r.rows) read)),
)

pub so_far_read : (labels : List (List ℕ)) (at : At)
    (a b : Option (List ℕ)) (t u : Option (List TapeByte)) (so_far : IsReadTo labels at a b t u) →
    AreSoFar at.schedule (filter_map take_of so_far.moves) b so_far.rows
so_far_read labels at a b t u so_far = elim so_far.read [
  | inl fed ↦ fed_so_far at.schedule at.slot (filter_map take_of so_far.moves) so_far.rows b
      (drop at.slot (lengths_of at.schedule)) (at.schedule.rounds_line + 1 + at.slot) fed
  | inr ended ↦ ended_so_far at.schedule (filter_map take_of so_far.moves) so_far.rows b ended.1
      ended.2
]

-- before the last row is read, the same is known whatever is left
fed_to : (labels : List (List ℕ)) (at : At) (a b c : Option (List ℕ)) (t u : Option (List TapeByte))
    (so_far : IsReadTo labels at a b t u) → at.slot ≤ last_slot at.schedule →
    AreSoFar at.schedule (filter_map take_of so_far.moves) c so_far.rows
fed_to labels at a b c t u so_far within = elim so_far.read [
  | inl fed ↦ fed_so_far at.schedule at.slot (filter_map take_of so_far.moves) so_far.rows c
      (drop at.slot (lengths_of at.schedule)) (at.schedule.rounds_line + 1 + at.slot) fed
  | inr ended ↦ absurd (no_more at.schedule at.slot within ended.0)
]

-- without memory nothing of the next row was taken, or all
pub unread_so_far : (labels : List (List ℕ)) (at : At) (bytes : List ℕ) (a b c : Option (List ℕ))
    (t u v : Option (List TapeByte)) (so_far : IsReadTo labels at a b t u) →
    at.slot ≤ last_slot at.schedule →
    Goes (taken bytes) b c u v → IsSlotUnread at c bytes Memory → (more : List (List Bool))
    × AreSoFar at.schedule (filter_map take_of (so_far.moves ++ map Take bytes)) c (so_far.rows
    ++ more)
unread_so_far labels at bytes a b c t u v so_far within goes unread = elim unread [
  | inl none ↦ (
    [],
    subst (λ l. AreSoFar at.schedule l c (so_far.rows ++ []))
        (sym (takes_more so_far.moves bytes ∙ ap (λ l. filter_map take_of so_far.moves ++ l) none
        ∙ append-nil (filter_map take_of so_far.moves)))
        (subst (AreSoFar at.schedule (filter_map take_of so_far.moves) c)
        (sym (append-nil so_far.rows)) (fed_to labels at a b c t u so_far within)),
  )
  | inr whole ↦ (
    whole.0 ∷ [],
    so_far_read labels (next_at at whole.0) a c t v
        (read_row labels at whole.0 bytes a b c t u v so_far within goes whole.1),
  )
]

-- ---- a row that isn't whole

-- whether a row of this slot is the last
last_flag : (s : Schedule) (slot : ℕ) (last : Bool) → (slot == last_slot s) ≡ last →
    slot ≤ last_slot s → is_last (drop (slot + 1) (lengths_of s)) ≡ last
last_flag s slot true flag within = ap (λ k. is_last (drop (k + 1) (lengths_of s)))
    (last_is slot (last_slot s) flag) ∙ ap is_last (no_lengths s)
last_flag s slot false flag within = let below = not_last slot (last_slot s) flag within in
    ap is_last (length_here s (slot + 1) (omega (arith, below)))

pub read_stopped : (labels : List (List ℕ)) (at : At) (bytes : List ℕ) (error : RowError)
    (a b c : Option (List ℕ)) (t u : Option (List TapeByte)) (so_far : IsReadTo labels at a b t u) →
    at.slot ≤ last_slot at.schedule →
    IsSlotUnread at c bytes error → error ≢ Memory → AreRounds {A = Unit {0}} at.schedule
    (filter_map take_of so_far.moves ++ bytes) c so_far.rows (Err error)
read_stopped labels at bytes error a b c t u so_far within unread other = elim so_far.read [
  | inl fed ↦ by error (ahead_of s front so_far.rows at.slot within fed) unread other
  | inr ended ↦ absurd (no_more s at.slot within ended.0)
]
  where
    s : Schedule
    s = at.schedule

    front : List ℕ
    front = filter_map take_of so_far.moves

    flag : is_last (drop (at.slot + 1) (lengths_of at.schedule)) ≡ is_last_slot at
    flag = last_flag at.schedule at.slot (is_last_slot at) refl within

    by : (e : RowError) → IsPast (lengths_of s) (s.rounds_line + 1) front so_far.rows
        (width_of at ∷ drop (at.slot + 1) (lengths_of s)) (s.rounds_line + 1 + at.slot) →
        IsSlotUnread at c bytes e → e ≢ Memory →
        AreRounds {A = Unit {0}} s (front ++ bytes) c so_far.rows (Err e)
    by (Fault line kind) here why not_memory =
        subst (λ k. IsFirstOffence s (front ++ bytes) so_far.rows k (kind_of kind)) (sym why.0)
        (read_wrong s front so_far.rows
        (width_of at) (drop (at.slot + 1) (lengths_of s)) (line_of at) bytes (kind_of kind) here
        (subst (λ f. IsOffence (width_of at) f bytes (kind_of kind)) (sym flag) why.1))
    by (Ended line) here why not_memory = (
      why.1,
      read_ended (lengths_of s) (s.rounds_line + 1) front
          so_far.rows (width_of at) (drop (at.slot + 1) (lengths_of s)) (line_of at) bytes here
          (ap (λ f. next_row (width_of at) f bytes) flag ∙ why.2)
          ∙ ap (λ k. record { rows = so_far.rows; ending = EndedAt k }) (sym why.0),
    )
    by ReadFault here why not_memory = (
      begun_faultless (lengths_of s) (s.rounds_line + 1) front so_far.rows (width_of at)
          (drop (at.slot + 1) (lengths_of s)) (line_of at) bytes here why,
      inl (sym (begun_feeds (lengths_of s) (s.rounds_line + 1) front so_far.rows (width_of at)
          (drop (at.slot + 1) (lengths_of s)) (line_of at) bytes here why)),
    )
    by Memory here why not_memory = absurd (not_memory refl)

-- ---- the end

past_all : (s : Schedule) (slot : ℕ) (bytes : List ℕ) (rows : List (List Bool)) →
    slot ≡ last_slot s + 1 → AreFed s slot bytes rows →
    IsPast (lengths_of s) (s.rounds_line + 1) bytes rows [] (s.rounds_line + 1 + slot)
past_all s slot bytes rows all fed =
    subst (λ ahead. IsPast (lengths_of s) (s.rounds_line + 1) bytes rows ahead (s.rounds_line + 1
    + slot)) (ap (λ k. drop k (lengths_of s)) all ∙ no_lengths s) fed

-- the input ends after the rows
pub read_end : (labels : List (List ℕ)) (at : At)
    (a b c : Option (List ℕ)) (t u : Option (List TapeByte)) (so_far : IsReadTo labels at a b t u) →
    at.slot ≡ last_slot at.schedule + 1 → IsAtEnd c →
    AreRounds {A = Unit {0}} at.schedule (filter_map take_of so_far.moves ++ []) c so_far.rows
    (Ok tt)
read_end labels at a b c t u so_far all end =
    let s = at.schedule in
    let front = filter_map take_of so_far.moves in (
      end,
      ap (rounds_of s) (append-nil front) ∙ elim so_far.read [
        | inl fed ↦ read_fed (lengths_of s) (s.rounds_line + 1) front so_far.rows (s.rounds_line + 1
            + at.slot) (past_all s at.slot front so_far.rows all fed)
        | inr ended ↦ ended.2
      ],
    )

-- where nothing is left, no byte is taken
none_taken : (left after : Option (List ℕ)) (bytes rest : List ℕ) (byte : ℕ) →
    Takes (byte ∷ bytes) left after → left ≡ Some rest → IsAtEnd left → ⊥
none_taken None after bytes rest byte takes told end = absurd cc
none_taken (Some []) None bytes rest byte takes told end = takes
none_taken (Some []) (Some after) bytes rest byte takes told end = cc
none_taken (Some (x ∷ xs)) after bytes rest byte takes told end = cc

-- where nothing is left and nothing is taken, nothing is left
still_none : (left after : Option (List ℕ)) → Takes [] left after → IsAtEnd left → IsAtEnd after
still_none None None takes end = tt
still_none None (Some after) takes end = absurd takes
still_none (Some left) None takes end = absurd takes
still_none (Some left) (Some after) takes end = sym takes ∙ end

still_end : (b c : Option (List ℕ)) (bytes : List ℕ) (u v : Option (List TapeByte)) →
    Goes (taken bytes) b c u v → bytes ≡ [] → IsAtEnd b → IsAtEnd c
still_end b c bytes u v goes none end =
    still_none b c (goes_takes [] b c u v (subst (λ l. Goes (taken l) b c u v) none goes)) end

-- a byte follows, or a take failed
pub read_no_end : (labels : List (List ℕ)) (at : At) (bytes rest : List ℕ) (error : RowError) (a
    b c : Option (List ℕ)) (t u v : Option (List TapeByte)) (so_far : IsReadTo labels at a b t u) →
    at.slot ≡ last_slot at.schedule + 1 →
    b ≡ Some rest → Goes (taken bytes) b c u v → IsNoEnd (line_of at) bytes error →
    AreRounds {A = Unit {0}} at.schedule (filter_map take_of so_far.moves
    ++ bytes) c so_far.rows (Err error)
read_no_end labels at bytes rest error a b c t u v so_far all told goes unread =
    by error bytes goes unread
  where
    s : Schedule
    s = at.schedule

    front : List ℕ
    front = filter_map take_of so_far.moves

    behind : (line : ℕ) (kind : RowKind) (byte : ℕ) → AreFed at.schedule at.slot front so_far.rows →
        RowFault (line_of at) Trailing ≡ RowFault line (kind_of kind) →
        IsFirstOffence s (front ++ byte ∷ []) so_far.rows line (kind_of kind)
    behind line kind byte fed e =
        let same_line : line_of at ≡ line = cc in
        let same_kind : Trailing ≡ kind_of kind = cc in
        subst (λ k. IsFirstOffence s (front ++ byte ∷ []) so_far.rows line k) same_kind
        (subst (λ k. IsFirstOffence s (front ++ byte ∷ []) so_far.rows k Trailing)
        same_line (read_behind s front so_far.rows (line_of at) byte
        (past_all s at.slot front so_far.rows all fed)))

    by : (e : RowError) (bytes : List ℕ) → Goes (taken bytes) b c u v → IsNoEnd (line_of at) bytes
        e → AreRounds {A = Unit {0}} s (front ++ bytes) c so_far.rows (Err e)
    by (Fault line kind) [] goes why = absurd (omega (arith, why.0))
    by (Fault line kind) (byte ∷ x ∷ bytes) goes why = absurd (omega (arith, why.0))
    by (Fault line kind) (byte ∷ []) goes why =
        elim so_far.read [
          | inl fed ↦ behind line kind byte fed (why.1 [])
          | inr ended ↦ absurd (none_taken b c [] rest byte (goes_takes (taken (byte ∷ [])) b c u v
              goes) told ended.1)
        ]
    by (Ended line) bytes goes why = absurd why
    by ReadFault bytes goes why =
        subst (λ l. AreSoFar s l c so_far.rows) (sym (ap (λ l. front ++ l) why ∙ append-nil front))
        (elim so_far.read [
          | inl fed ↦ fed_so_far s at.slot front so_far.rows c (drop at.slot (lengths_of s))
              (line_of at) fed
          | inr ended ↦ ended_so_far s front so_far.rows c
              (still_end b c bytes u v goes why ended.1) ended.2
        ])
    by Memory bytes goes why = absurd why
