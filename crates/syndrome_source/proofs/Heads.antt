-- The taking of a header, byte by byte.
use Rattle.std.proofs.Common.{◌≡◌, ◌≢◌, ℕ, suc, ◌+◌, ◌-◌, ◌<◌, ◌≤◌, ◌⊎◌, inl, inr, subst, take, drop, length-drop, eqb, ◌&&◌, Bool, true, false, List, [], ◌∷◌, ◌++◌, length, refl, sym, ap, ◌∙◌, append_assoc, append-nil, add-zero, arith, length-append}
use Rattle.std.proofs.lemmas.Bool.{ne_eqb, eqb-true}
use Rattle.std.proofs.lemmas.List.{drop_all, drop-append-le, take_all}
use Rattle.surface_model.specs.Header.{Header, Taken, EndedIn, with_byte, header_within, header_of, is_rounds_alone}
use Rattle.surface_model.specs.Limits.{most_taken_bytes, most_text_bytes}
use Rattle.syndrome_source.specs.Headers.{IsBegun, with_text}

with_more : (text : List ℕ) (byte : ℕ) (header : Header) →
    with_text text (with_byte byte header) ≡ with_text (text ++ byte ∷ []) header
with_more [] byte header = refl
with_more (b ∷ text) byte header = ap (with_byte b) (with_more text byte header)

with_taken : (text front rest : List ℕ) →
    with_text text (Taken front rest) ≡ Taken (text ++ front) rest
with_taken [] front rest = refl
with_taken (b ∷ text) front rest = ap (with_byte b) (with_taken text front rest)

with_ended : (text : List ℕ) (line : ℕ) → with_text text (EndedIn line) ≡ EndedIn line
with_ended [] line = refl
with_ended (b ∷ text) line = ap (with_byte b) (with_ended text line)

pub nothing_begun : IsBegun 1 [] []
nothing_begun = record {
  goes_on = λ room e rest.
      let all : most_taken_bytes ≡ room = omega (arith, e) in
      ap (λ n. header_within n 1 [] rest) all;
}

-- one more byte
next_byte : (number number' byte : ℕ) (begun begun' text : List ℕ) → IsBegun number begun text
    → ((room : ℕ) (rest : List ℕ) → header_within (suc room) number begun (byte ∷ rest)
    ≡ with_byte byte (header_within room number' begun' rest))
    → IsBegun number' begun' (text ++ byte ∷ [])
next_byte number number' byte begun begun' text is step = record {
  goes_on = λ room e rest.
      let longer : length text + suc room ≡ most_taken_bytes =
      omega (arith, length-append text (byte ∷ []), e) in
      ap header_of (append_assoc text (byte ∷ []) rest) ∙ is.goes_on (suc room) longer (byte ∷ rest)
      ∙ ap (with_text text) (step room rest)
      ∙ with_more text byte (header_within room number' begun' rest);
}

pub within_line : (number byte : ℕ) (begun text : List ℕ) → IsBegun number begun text → byte ≢ 10 →
    IsBegun number (begun ++ byte ∷ []) (text ++ byte ∷ [])
within_line number byte begun text is other =
    next_byte number number byte begun (begun ++ byte ∷ []) text is
    (λ room rest. simp (ne_eqb byte 10 other))

pub line_ends : (number : ℕ) (begun text : List ℕ) → IsBegun number begun text →
    is_rounds_alone begun ≡ false → IsBegun (number + 1) [] (text ++ 10 ∷ [])
line_ends number begun text is other =
    next_byte number (number + 1) 10 begun [] text is (λ room rest. simp other)

-- the line `rounds` ends the header
pub header_ends : (number : ℕ) (begun text : List ℕ) → IsBegun number begun text →
    length text < most_taken_bytes → is_rounds_alone begun ≡ true → (rest : List ℕ) →
    header_of ((text ++ 10 ∷ []) ++ rest) ≡ Taken (text ++ 10 ∷ []) rest
header_ends number begun text is short alone rest =
    let longer : length text + suc (most_text_bytes - length text) ≡ most_taken_bytes =
    omega arith in
    let here : header_within (suc (most_text_bytes - length text)) number begun (10 ∷ rest)
    ≡ Taken (10 ∷ []) rest = simp alone in
    ap header_of (append_assoc text (10 ∷ []) rest)
    ∙ is.goes_on (suc (most_text_bytes - length text)) longer (10 ∷ rest) ∙ ap (with_text text) here
    ∙ with_taken text (10 ∷ []) rest

-- and so does want of room
pub room_ends : (number : ℕ) (begun text : List ℕ) → IsBegun number begun text →
    length text ≡ most_taken_bytes → (rest : List ℕ) → header_of (text ++ rest) ≡ Taken text rest
room_ends number begun text is full rest = is.goes_on 0 (add-zero (length text) ∙ full) rest
    ∙ with_taken text [] rest ∙ ap (λ l. Taken l rest) (append-nil text)

pub input_ends : (number : ℕ) (begun text : List ℕ) → IsBegun number begun text →
    length text < most_taken_bytes → header_of text ≡ EndedIn number
input_ends number begun text is short =
    let longer : length text + suc (most_text_bytes - length text) ≡ most_taken_bytes =
    omega arith in
    ap header_of (sym (append-nil text))
    ∙ is.goes_on (suc (most_text_bytes - length text)) longer []
    ∙ with_ended text number

-- ---- by the place in the text at which its last line begins

-- a line goes on, or the next begins
pub goes_on_by : (number number' byte start start' : ℕ) (text text' : List ℕ) →
    IsBegun number (drop start text) text → text' ≡ text ++ byte ∷ [] → start ≤ length text
    → (eqb byte 10 && is_rounds_alone (drop start text)) ≡ false
    → ((byte ≡ 10) × (number' ≡ number + 1) × (start' ≡ length text')) ⊎ ((byte ≢ 10)
    × (number' ≡ number) × (start' ≡ start))
    → IsBegun number' (drop start' text') text'
goes_on_by number number' byte start start' text text' is e within other (inl (feed, n, s)) =
    let alone : is_rounds_alone (drop start text) ≡ false =
    sym (ap (λ b. eqb b 10 && is_rounds_alone (drop start text)) feed) ∙ other in
    let longer : text ++ 10 ∷ [] ≡ text' = ap (λ b. text ++ b ∷ []) (sym feed) ∙ sym e in
    let past : [] ≡ drop start' text' = sym (drop_all start' text' (omega (arith, s))) in
    subst (λ k. IsBegun k (drop start' text') text') (sym n)
    (subst (λ l. IsBegun (number + 1) l text') past
    (subst (λ l. IsBegun (number + 1) [] l) longer
    (line_ends number (drop start text) text is alone)))
goes_on_by number number' byte start start' text text' is e within other (inr (none, n, s)) =
    let further : drop start text ++ byte ∷ [] ≡ drop start' text' =
    sym (drop-append-le start text (byte ∷ []) within) ∙ ap (drop start) (sym e)
    ∙ ap (λ k. drop k text') (sym s) in
    subst (λ k. IsBegun k (drop start' text') text') (sym n)
    (subst (λ l. IsBegun number l text') further
    (subst (λ l. IsBegun number (drop start text ++ byte ∷ []) l) (sym e)
    (within_line number byte (drop start text) text is none)))

both : (a b : Bool) → (a && b) ≡ true → (a ≡ true) × (b ≡ true)
both true b e = (refl, e)
both false b e = absurd (cc)

pub ends_by : (number byte : ℕ) (begun text text' : List ℕ) → IsBegun number begun text →
    text' ≡ text ++ byte ∷ [] → length text < most_taken_bytes →
    (eqb byte 10 && is_rounds_alone begun) ≡ true → (rest : List ℕ) →
    header_of (text' ++ rest) ≡ Taken text' rest
ends_by number byte begun text text' is e short ends rest =
    let parts = both (eqb byte 10) (is_rounds_alone begun) ends in
    let longer : text ++ 10 ∷ [] ≡ text' = ap (λ b. text ++ b ∷ []) (sym (eqb-true byte 10 parts.0))
    ∙ sym e in
    subst (λ l. header_of (l ++ rest) ≡ Taken l rest) longer
    (header_ends number begun text is short parts.1 rest)

-- the end of a text, as it is cut
pub cut_is : (start n : ℕ) (xs ys : List ℕ) → xs ≡ ys → n ≡ length xs - start →
    take n (drop start xs) ≡ drop start ys
cut_is start n xs ys e size = take_all n (drop start xs) (omega (arith, length-drop start xs, size))
    ∙ ap (drop start) e
