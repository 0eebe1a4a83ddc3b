-- What moves take and put, one after another.
use Rattle.std.proofs.Common.{◌≡◌, ◌≤◌, ℕ, zero, suc, ◌+◌, ◌==◌, ◌||◌, Bool, true, false, if◌then◌else◌, List, [], ◌∷◌, ◌++◌, map, flat_map, filter_map, refl, sym, ap, ◌∙◌, append_assoc, append-nil, arith, All}
use Rattle.std.proofs.lemmas.List.{map-append}
use Rattle.std.proofs.lemmas.List.Elements.{All-head, All-tail, filter_map-append}
use Rattle.std.proofs.lemmas.Bool.Decides.{nat_tests}
use Rattle.port_io.specs.Port.{sent}
use Rattle.port_io.specs.Traffic.{taken, takings}
use Rattle.port_io.specs.declared.port.TapeByte.{TapeByte}
use Rattle.port_io.proofs.Traffic.{takings-append, takings-taken, takings-sent}
use Rattle.surface_model.specs.Reading.{NextRow, RowKind, Short, Long, Foreign, Whole, Fault, Ended, begun, next_row}
use Rattle.window_model.specs.Decoder.{Task, operation_at}
use Rattle.report_model.specs.Texts.{release_line}
use Rattle.report_model.specs.Tapes.{Move, Take, Put, IsTimed, bytes_of, take_of}
use Rattle.run_rounds.specs.Moves.{begun_after, fresh_after, put_in, put_moves, puts_of}

-- ---- what is taken

pub takings_moves : (labels : List (List ℕ)) (moves : List Move) →
    takings (flat_map (bytes_of labels) moves) ≡ filter_map take_of moves
takings_moves labels [] = refl
takings_moves labels (Take byte ∷ moves) = ap (λ l. byte ∷ l) (takings_moves labels moves)
takings_moves labels (Put op bit ∷ moves) =
    takings-append (sent (release_line labels op bit)) (flat_map (bytes_of labels) moves)
    ∙ ap (λ l. l ++ takings (flat_map (bytes_of labels) moves))
    (takings-sent (release_line labels op bit))
    ∙ takings_moves labels moves

-- what a whole tape takes
pub takings_whole : (labels : List (List ℕ)) (header output : List ℕ) (moves : List Move)
    (tape : List TapeByte) → tape ≡ taken header ++ flat_map (bytes_of labels) moves
    ++ sent output →
    takings tape ≡ header ++ filter_map take_of moves
takings_whole labels header output moves tape whole =
    let rows = flat_map (bytes_of labels) moves in
    ap takings whole
    ∙ takings-append (taken header ++ rows) (sent output)
    ∙ ap (λ l. takings (taken header ++ rows) ++ l) (takings-sent output)
    ∙ append-nil (takings (taken header ++ rows))
    ∙ takings-append (taken header) rows
    ∙ ap (λ l. l ++ takings rows) (takings-taken header)
    ∙ ap (λ l. header ++ l) (takings_moves labels moves)

-- ---- one after another

moves_append : (labels : List (List ℕ)) (xs ys : List Move) → flat_map (bytes_of labels) (xs ++ ys)
    ≡ flat_map (bytes_of labels) xs ++ flat_map (bytes_of labels) ys
moves_append labels [] ys = refl
moves_append labels (x ∷ xs) ys = ap (λ l. bytes_of labels x ++ l) (moves_append labels xs ys)
    ∙ sym (append_assoc (bytes_of labels x) (flat_map (bytes_of labels) xs)
    (flat_map (bytes_of labels) ys))

bytes_taken : (labels : List (List ℕ)) (bytes : List ℕ) →
    flat_map (bytes_of labels) (map Take bytes) ≡ taken bytes
bytes_taken labels [] = refl
bytes_taken labels (byte ∷ bytes) = ap (λ l. taken (byte ∷ []) ++ l) (bytes_taken labels bytes)

all_taken : (bytes : List ℕ) → filter_map take_of (map Take bytes) ≡ bytes
all_taken [] = refl
all_taken (byte ∷ bytes) = ap (λ l. byte ∷ l) (all_taken bytes)

none_put : (bytes : List ℕ) → puts_of (map Take bytes) ≡ []
none_put [] = refl
none_put (byte ∷ bytes) = none_put bytes

-- after the moves so far further bytes are taken
pub moves_more : (labels : List (List ℕ)) (moves : List Move) (bytes : List ℕ) →
    flat_map (bytes_of labels) (moves ++ map Take bytes) ≡ flat_map (bytes_of labels) moves
    ++ taken bytes
moves_more labels moves bytes = moves_append labels moves (map Take bytes)
    ∙ ap (λ l. flat_map (bytes_of labels) moves ++ l) (bytes_taken labels bytes)

pub takes_more : (moves : List Move) (bytes : List ℕ) → filter_map take_of (moves ++ map Take bytes)
    ≡ filter_map take_of moves ++ bytes
takes_more moves bytes = filter_map-append take_of moves (map Take bytes)
    ∙ ap (λ l. filter_map take_of moves ++ l) (all_taken bytes)

pub puts_more : (moves : List Move) (bytes : List ℕ) → puts_of (moves ++ map Take bytes)
    ≡ puts_of moves
puts_more moves bytes = filter_map-append put_in moves (map Take bytes)
    ∙ ap (λ l. puts_of moves ++ l) (none_put bytes) ∙ append-nil (puts_of moves)

puts_take_none : (rs : List (ℕ × Bool)) → filter_map take_of (put_moves rs) ≡ []
puts_take_none [] = refl
puts_take_none (r ∷ rs) = puts_take_none rs

puts_are : (rs : List (ℕ × Bool)) → puts_of (put_moves rs) ≡ rs
puts_are [] = refl
puts_are (r ∷ rs) = ap (λ l. r ∷ l) (puts_are rs)

-- after them releases are put
pub moves_put : (labels : List (List ℕ)) (moves : List Move) (rs : List (ℕ × Bool)) →
    flat_map (bytes_of labels) (moves ++ put_moves rs) ≡ flat_map (bytes_of labels) moves
    ++ flat_map (bytes_of labels) (put_moves rs)
moves_put labels moves rs = moves_append labels moves (put_moves rs)

pub takes_put : (moves : List Move) (rs : List (ℕ × Bool)) →
    filter_map take_of (moves ++ put_moves rs) ≡ filter_map take_of moves
takes_put moves rs = filter_map-append take_of moves (put_moves rs) ∙ ap (λ l.
    filter_map take_of moves ++ l) (puts_take_none rs) ∙ append-nil (filter_map take_of moves)

pub puts_put : (moves : List Move) (rs : List (ℕ × Bool)) → puts_of (moves ++ put_moves rs)
    ≡ puts_of moves ++ rs
puts_put moves rs = filter_map-append put_in moves (put_moves rs)
    ∙ ap (λ l. puts_of moves ++ l) (puts_are rs)

-- one release more
pub moves_put_more : (labels : List (List ℕ)) (rs : List (ℕ × Bool)) (op : ℕ) (bit : Bool) →
    flat_map (bytes_of labels) (put_moves (rs ++ (op, bit) ∷ []))
    ≡ flat_map (bytes_of labels) (put_moves rs) ++ sent (release_line labels op bit)
moves_put_more labels rs op bit =
    ap (flat_map (bytes_of labels)) (map-append (λ (r : ℕ × Bool). Put r.0 r.1) rs ((op, bit) ∷ []))
    ∙ moves_append labels (put_moves rs) (Put op bit ∷ [])
    ∙ ap (λ l. flat_map (bytes_of labels) (put_moves rs)
    ++ l) (append-nil (sent (release_line labels op bit)))

-- ---- the clock

pub begun_append : (begun : ℕ) (fresh : Bool) (xs ys : List Move) → begun_after begun fresh (xs
    ++ ys) ≡ begun_after (begun_after begun fresh xs) (fresh_after fresh xs) ys
begun_append begun fresh [] ys = refl
begun_append begun fresh (Take byte ∷ xs) ys =
    begun_append (if fresh then begun + 1 else begun) (byte == 10) xs ys
begun_append begun fresh (Put op bit ∷ xs) ys = begun_append begun fresh xs ys

timed_append : (task : Task) (begun : ℕ) (fresh : Bool) (xs ys : List Move) → IsTimed
    task begun fresh xs → IsTimed task (begun_after begun fresh xs) (fresh_after fresh xs) ys →
    IsTimed task begun fresh (xs ++ ys)
timed_append task begun fresh [] ys first second = second
timed_append task begun fresh (Take byte ∷ xs) ys first second =
    timed_append task (if fresh then begun + 1 else begun) (byte == 10) xs ys first second
timed_append task begun fresh (Put op bit ∷ xs) ys first second =
    (first.0, timed_append task begun fresh xs ys first.1 second)

takes_timed : (task : Task) (begun : ℕ) (fresh : Bool) (bytes : List ℕ) →
    IsTimed task begun fresh (map Take bytes)
takes_timed task begun fresh [] = tt
takes_timed task begun fresh (byte ∷ bytes) =
    takes_timed task (if fresh then begun + 1 else begun) (byte == 10) bytes

-- bytes that are taken come never too late
pub timed_more : (task : Task) (moves : List Move) (bytes : List ℕ) → IsTimed task 0 true moves →
    IsTimed task 0 true (moves ++ map Take bytes)
timed_more task moves bytes timed = timed_append task 0 true moves (map Take bytes) timed
    (takes_timed task (begun_after 0 true moves) (fresh_after true moves) bytes)

puts_timed : (task : Task) (begun : ℕ) (fresh : Bool) (rs : List (ℕ × Bool)) →
    All (λ (r : ℕ × Bool). begun ≤ (operation_at task r.0).slot) rs →
    IsTimed task begun fresh (put_moves rs)
puts_timed task begun fresh [] all = tt
puts_timed task begun fresh (r ∷ rs) all = (
  All-head (λ (q : ℕ × Bool). begun ≤ (operation_at task q.0).slot) r rs all,
  puts_timed task
      begun fresh rs (All-tail (λ (q : ℕ × Bool). begun ≤ (operation_at task q.0).slot) r rs all),
)

-- nor releases whose operations have slots that no line is begun of
pub timed_put : (task : Task) (moves : List Move) (rs : List (ℕ × Bool)) → IsTimed task 0 true
    moves → All (λ (r : ℕ × Bool). begun_after 0 true moves ≤ (operation_at task r.0).slot) rs →
    IsTimed task 0 true (moves ++ put_moves rs)
timed_put task moves rs timed all = timed_append task 0 true moves (put_moves rs) timed
    (puts_timed task (begun_after 0 true moves) (fresh_after true moves) rs all)

puts_begin_none : (begun : ℕ) (fresh : Bool) (rs : List (ℕ × Bool)) →
    begun_after begun fresh (put_moves rs) ≡ begun
puts_begin_none begun fresh [] = refl
puts_begin_none begun fresh (r ∷ rs) = puts_begin_none begun fresh rs

pub begun_put : (moves : List Move) (rs : List (ℕ × Bool)) →
    begun_after 0 true (moves ++ put_moves rs) ≡ begun_after 0 true moves
begun_put moves rs = begun_append 0 true moves (put_moves rs)
    ∙ puts_begin_none (begun_after 0 true moves) (fresh_after true moves) rs

-- a bit is no line feed
no_feed : (byte : ℕ) → (byte == 48 || byte == 49) ≡ true → (byte == 10) ≡ false
no_feed byte bit = grind (arith, nat_tests)

begun_whole : (bit : Bool) (next : NextRow) (row : List Bool) → begun bit next ≡ Whole row [] →
    (r : List Bool) × (next ≡ Whole r [])
begun_whole bit (Whole r rest) row e = let h : rest ≡ [] = cc in (r, ap (Whole r) h)
begun_whole bit (Fault kind) row e = absurd cc
begun_whole bit Ended row e = absurd cc

-- within its line, the bytes of a row begin no other
row_begun : (n : ℕ) (last : Bool) (bytes : List ℕ) (row : List Bool) (begun : ℕ) →
    next_row n last bytes ≡ Whole row [] → begun_after begun false (map Take bytes) ≡ begun
row_begun zero last [] row count whole = refl
row_begun zero last (byte ∷ rest) row count whole = by (byte == 10) (if byte == 48 || byte == 49
    then Long else Foreign) rest whole
  where
    by : (feed : Bool) (kind : RowKind) (rest : List ℕ) → (if feed then Whole [] rest
        else Fault kind) ≡ Whole row [] → begun_after count feed (map Take rest) ≡ count
    by true kind [] e = refl
    by true kind (x ∷ rest) e = absurd cc
    by false kind rest e = absurd cc
row_begun (suc n) last [] row count whole = absurd cc
row_begun (suc n) last (byte ∷ rest) row count whole = by (byte == 48 || byte == 49) (if byte == 10
    then Short else Foreign) (no_feed byte) whole (λ r e. row_begun n last rest r count e)
  where
    by : (bit : Bool) (kind : RowKind) → (bit ≡ true → (byte == 10) ≡ false) →
        (if bit then begun (byte == 49) (next_row n last rest) else Fault kind) ≡ Whole row [] →
        ((r : List Bool) → next_row n last rest ≡ Whole r [] → begun_after count false
        (map Take rest) ≡ count) → begun_after count (byte == 10) (map Take rest) ≡ count
    by true kind feed e go = let k = begun_whole (byte == 49) (next_row n last rest) row e in
        ap (λ f. begun_after count f (map Take rest)) (feed refl) ∙ go k.0 k.1
    by false kind feed e go = absurd cc

-- a row begins one line at most
pub row_begins : (n : ℕ) (last : Bool) (bytes : List ℕ) (row : List Bool) (begun : ℕ)
    (fresh : Bool) → next_row n last bytes ≡ Whole row [] → begun_after begun fresh (map Take bytes)
    ≤ begun + 1
row_begins n last bytes row count false whole = let k = row_begun n last bytes row count whole in
    omega (arith, k)
row_begins zero last [] row count true whole = omega arith
row_begins (suc n) last [] row count true whole = absurd cc
row_begins n last (byte ∷ rest) row count true whole = let k : begun_after (count + 1) (byte == 10)
    (map Take rest) ≡ count + 1 = later n last byte rest row count whole in omega (arith, k)
  where
    later : (n : ℕ) (last : Bool) (byte : ℕ) (rest : List ℕ) (row : List Bool) (count : ℕ) →
        next_row n last (byte ∷ rest) ≡ Whole row [] →
        begun_after (count + 1) (byte == 10) (map Take rest) ≡ count + 1
    later n last byte rest row count whole = row_begun n last (byte ∷ rest) row (count + 1) whole
