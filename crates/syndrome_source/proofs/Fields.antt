-- Whether `rounds` is a line's only field.
use Rattle.std.proofs.Common.{◌≡◌, ◌≢◌, ◌<◌, ℕ, suc, ◌+◌, Bool, true, false, not, ◌&&◌, eqb, cond, List, [], ◌∷◌, length, take, drop, get_or, filter, refl, ap, sym, ◌∙◌, arith, bytes_eq, codes, slice_index_or}
use Rattle.std.proofs.lemmas.Bool.{eqb-true, eqb-false, ne_eqb}
use Rattle.std.proofs.lemmas.List.{at_drop_more}
use Rattle.std.specs.List.{list_all}
use Rattle.surface_model.specs.Text.{pieces_at, onto, is_empty, fields_of}
use Rattle.surface_model.specs.Header.{is_rounds_alone}
use Rattle.syndrome_source.specs.Headers.{begins_with_space}

abbrev blank : List ℕ → Bool
blank bytes = list_all (λ b. eqb b 32) bytes

abbrev kept : List (List ℕ) → List (List ℕ)
kept pieces = filter (λ piece. not (is_empty piece)) pieces

-- a line without a field has spaces alone
blank_is : (xs : List ℕ) → is_empty (fields_of xs) ≡ blank xs
blank_is [] = refl
blank_is (x ∷ xs) = step (eqb x 32) (pieces_at 32 xs) (blank_is xs)
  where
    step : (b : Bool) (ps : List (List ℕ)) → is_empty (kept ps) ≡ blank xs →
        is_empty (kept (cond b ([] ∷ ps) (onto x ps))) ≡ (b && blank xs)
    step true ps h = h
    step false [] h = refl
    step false (p ∷ ps) h = refl

-- the first piece is the word, and after it stand no fields
abbrev is_alone : List ℕ → List (List ℕ) → Bool
is_alone word [] = bytes_eq [] word && true
is_alone word (p ∷ ps) = bytes_eq p word && is_empty (kept ps)

-- the bytes are the word and spaces
abbrev pub is_padded : List ℕ → List ℕ → Bool
is_padded word xs =
    bytes_eq (take (length word) xs) word && list_all (λ b. eqb b 32) (drop (length word) xs)

abbrev has_no_space : List ℕ → Bool
has_no_space [] = true
has_no_space (w ∷ word) = not (eqb w 32) && has_no_space word

and_assoc : (a b c : Bool) → ((a && b) && c) ≡ (a && (b && c))
and_assoc true b c = refl
and_assoc false b c = refl

and_swap : (a b : Bool) → (a && b) ≡ (b && a)
and_swap true true = refl
and_swap true false = refl
and_swap false true = refl
and_swap false false = refl

no_space : (w : ℕ) (word : List ℕ) → has_no_space (w ∷ word) ≡ true →
    (eqb w 32 ≡ false) × (has_no_space word ≡ true)
no_space w word h = by (eqb w 32) h
  where
    by : (b : Bool) → (not b && has_no_space word) ≡ true → (b ≡ false) × (has_no_space word ≡ true)
    by true h = absurd (cc)
    by false h = (refl, h)

no_word : (x : ℕ) (xs : List ℕ) (b : Bool) (ps : List (List ℕ)) → is_empty (kept ps) ≡ blank xs →
    (b && blank xs) ≡ is_alone [] (cond b ([] ∷ ps) (onto x ps))
no_word x xs true ps h = sym h
no_word x xs false [] h = refl
no_word x xs false (p ∷ ps) h = refl

some_word : (x w : ℕ) (xs word : List ℕ) (b : Bool) (ps : List (List ℕ)) → eqb x 32 ≡ b →
    eqb w 32 ≡ false → is_padded word xs ≡ is_alone word ps
    → is_padded (w ∷ word) (x ∷ xs) ≡ is_alone (w ∷ word) (cond b ([] ∷ ps) (onto x ps))
some_word x w xs word true ps e n h =
    let differ : eqb x w ≡ false =
    ne_eqb x w (λ same. eqb-false w 32 n (sym same ∙ eqb-true x 32 e)) in
    ap (λ b. (b && bytes_eq (take (length word) xs) word) && blank (drop (length word) xs)) differ
some_word x w xs word false [] e n h =
    and_assoc (eqb x w) (bytes_eq (take (length word) xs) word) (blank (drop (length word) xs))
    ∙ ap (λ b. eqb x w && b) h ∙ sym (and_assoc (eqb x w) (bytes_eq [] word) true)
some_word x w xs word false (p ∷ ps) e n h =
    and_assoc (eqb x w) (bytes_eq (take (length word) xs) word) (blank (drop (length word) xs))
    ∙ ap (λ b. eqb x w && b) h ∙ sym (and_assoc (eqb x w) (bytes_eq p word) (is_empty (kept ps)))

padded_is : (xs word : List ℕ) → has_no_space word ≡ true →
    is_padded word xs ≡ is_alone word (pieces_at 32 xs)
padded_is [] [] h = refl
padded_is [] (w ∷ word) h = refl
padded_is (x ∷ xs) [] h = no_word x xs (eqb x 32) (pieces_at 32 xs) (blank_is xs)
padded_is (x ∷ xs) (w ∷ word) h = let parts = no_space w word h in
    some_word x w xs word (eqb x 32) (pieces_at 32 xs) refl parts.0 (padded_is xs word parts.1)

one_is : (l : List (List ℕ)) → eqb (suc (length l)) 1 ≡ is_empty l
one_is [] = refl
one_is (x ∷ l) = ne_eqb (suc (suc (length l))) 1 (λ e. omega arith)

abbrev are_rounds : List (List ℕ) → Bool
are_rounds fields = eqb (length fields) 1 && bytes_eq (slice_index_or fields 0 []) (codes "rounds")

alone_is : (xs : List ℕ) → begins_with_space xs ≡ false →
    are_rounds (fields_of xs) ≡ is_alone (codes "rounds") (pieces_at 32 xs)
alone_is [] h = refl
alone_is (x ∷ xs) h = by (eqb x 32) (pieces_at 32 xs) h
  where
    by : (b : Bool) (ps : List (List ℕ)) → b ≡ false →
        are_rounds (kept (cond b ([] ∷ ps) (onto x ps)))
        ≡ is_alone (codes "rounds") (cond b ([] ∷ ps) (onto x ps))
    by true ps h = absurd (cc)
    by false [] h = and_swap true (bytes_eq (x ∷ []) (codes "rounds"))
    by false (p ∷ ps) h = ap (λ b. b && bytes_eq (x ∷ p) (codes "rounds")) (one_is (kept ps))
        ∙ and_swap (is_empty (kept ps)) (bytes_eq (x ∷ p) (codes "rounds"))

-- of a line without the spaces in front
pub rounds_alone : (line rest : List ℕ) → fields_of rest ≡ fields_of line →
    begins_with_space rest ≡ false → is_padded (codes "rounds") rest ≡ is_rounds_alone line
rounds_alone line rest same first = padded_is rest (codes "rounds") refl ∙ sym (alone_is rest first)
    ∙ ap are_rounds same

-- a space in front is no field
pub fields_behind : (xs : List ℕ) (i : ℕ) → i < length xs → get_or xs i 0 ≡ 32 →
    fields_of (drop (i + 1) xs) ≡ fields_of (drop i xs)
fields_behind xs i h e =
    sym (at_drop_more fields_of xs i 0 h ∙ ap (λ b. fields_of (b ∷ drop (i + 1) xs)) e)

pub first_is : (xs : List ℕ) (i : ℕ) → i < length xs → get_or xs i 0 ≢ 32 →
    begins_with_space (drop i xs) ≡ false
first_is xs i h e = at_drop_more begins_with_space xs i 0 h ∙ ne_eqb (get_or xs i 0) 32 e

-- by what stands before and after the first six bytes
pub with_word : (line w rest : List ℕ) (b : Bool) → fields_of w ≡ fields_of line →
    begins_with_space w ≡ false
    → (bytes_eq (take (length (codes "rounds")) w) (codes "rounds") ≡ true)
    × (rest ≡ drop (length (codes "rounds")) w)
    × (length rest + length (codes "rounds") ≡ length w) → b ≡ list_all (λ b. eqb b 32) rest →
    b ≡ is_rounds_alone line
with_word line w rest b same first (is, r, n) e =
    e ∙ ap blank r ∙ sym (ap (λ k. k && blank (drop (length (codes "rounds")) w)) is)
    ∙ rounds_alone line w same first

pub without_word : (line w : List ℕ) → fields_of w ≡ fields_of line → begins_with_space w ≡ false →
    bytes_eq (take (length (codes "rounds")) w) (codes "rounds") ≡ false →
    false ≡ is_rounds_alone line
without_word line w same first is = sym (ap (λ k. k && blank (drop (length (codes "rounds")) w)) is)
    ∙ rounds_alone line w same first
