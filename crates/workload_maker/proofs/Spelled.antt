-- Lines that are written word by word, as they are read again.
use Rattle.std.proofs.Common.{◌≡◌, ℕ, ◌==◌, Bool, true, false, not, ◌&&◌, List, [], ◌∷◌, ◌++◌, map, filter, flat_map, refl, ap, ◌∙◌, append_assoc, arith}
use Rattle.std.specs.List.{join_with_byte, list_all}
use Rattle.std.proofs.lemmas.Bool.{and_parts, and_from, cond-true, cond-false, eq-eqb, not-true}
use Rattle.std.proofs.lemmas.Bool.Decides.{nat_tests}
use Rattle.std.proofs.lemmas.List.Folds.{list_all-append}
use Rattle.report_model.specs.Texts.{line}
use Rattle.surface_model.specs.Text.{fields_of, is_between, is_empty, is_foreign, is_skipped, onto, pieces_at, starts_with_hash, without_empty_end}

-- ---- words and lines

-- some printable bytes, none of them a space
abbrev pub is_word : List ℕ → Bool
is_word word = not (is_empty word) && list_all (is_between 33 126) word

-- one word or more, of which the first doesn't begin with `#`
abbrev pub is_line : List (List ℕ) → Bool
is_line [] = false
is_line (word ∷ words) = not (starts_with_hash word) && (is_word word && list_all is_word words)

-- the words, one space apart
abbrev pub joined : List (List ℕ) → List ℕ
joined words = join_with_byte 32 words

abbrev pub lacks : ℕ → List ℕ → Bool
lacks v bytes = list_all (λ b. not (b == v)) bytes

pub all_weaker : {A : Type 0} (p q : A → Bool) → ((x : A) → p x ≡ true → q x ≡ true) →
    (xs : List A) → list_all p xs ≡ true → list_all q xs ≡ true
all_weaker p q weaker [] h = refl
all_weaker p q weaker (x ∷ xs) h =
    let parts = and_parts (p x) (list_all p xs) h in
    and_from (q x) (list_all q xs) (weaker x parts.0) (all_weaker p q weaker xs parts.1)

no_space : (b : ℕ) → is_between 33 126 b ≡ true → not (b == 32) ≡ true
no_space b h = grind (arith, nat_tests)

printable : (b : ℕ) → is_between 33 126 b ≡ true → is_between 32 126 b ≡ true
printable b h = grind (arith, nat_tests)

no_feed : (b : ℕ) → is_between 32 126 b ≡ true → not (b == 10) ≡ true
no_feed b h = grind (arith, nat_tests)

word_bytes : (word : List ℕ) → is_word word ≡ true → list_all (is_between 33 126) word ≡ true
word_bytes word h = (and_parts (not (is_empty word)) (list_all (is_between 33 126) word) h).1

word_lacks_space : (word : List ℕ) → is_word word ≡ true → lacks 32 word ≡ true
word_lacks_space word h =
    all_weaker (is_between 33 126) (λ b. not (b == 32)) no_space word (word_bytes word h)

-- the bytes of words with spaces between them are printable
joined_bytes : (words : List (List ℕ)) → list_all is_word words ≡ true →
    list_all (is_between 32 126) (joined words) ≡ true
joined_bytes [] h = refl
joined_bytes (w ∷ []) h =
    all_weaker (is_between 33 126) (is_between 32 126) printable w
    (word_bytes w (and_parts (is_word w) true h).0)
joined_bytes (w ∷ v ∷ words) h =
    let parts = and_parts (is_word w) (list_all is_word (v ∷ words)) h in
    list_all-append (is_between 32 126) w (32 ∷ joined (v ∷ words))
    ∙ and_from (list_all (is_between 32 126) w) (list_all (is_between 32 126) (joined (v ∷ words)))
    (all_weaker (is_between 33 126) (is_between 32 126) printable w (word_bytes w parts.0))
    (joined_bytes (v ∷ words) parts.1)

joined_lacks_feed : (words : List (List ℕ)) → list_all is_word words ≡ true →
    lacks 10 (joined words) ≡ true
joined_lacks_feed words h =
    all_weaker (is_between 32 126) (λ b. not (b == 10)) no_feed (joined words)
    (joined_bytes words h)

-- ---- pieces

pub pieces_cut : (v : ℕ) (xs rest : List ℕ) → lacks v xs ≡ true →
    pieces_at v (xs ++ v ∷ rest) ≡ xs ∷ pieces_at v rest
pieces_cut v [] rest h =
    cond-true (v == v) ([] ∷ pieces_at v rest) (onto v (pieces_at v rest)) (eq-eqb v v refl)
pieces_cut v (x ∷ xs) rest h =
    let parts = and_parts (not (x == v)) (lacks v xs) h in
    cond-false (x == v) ([] ∷ pieces_at v (xs ++ v ∷ rest)) (onto x (pieces_at v (xs ++ v ∷ rest)))
    (not-true (x == v) parts.0) ∙ ap (onto x) (pieces_cut v xs rest parts.1)

pub pieces_none : (v : ℕ) (xs : List ℕ) → lacks v xs ≡ true → pieces_at v xs ≡ xs ∷ []
pieces_none v [] h = refl
pieces_none v (x ∷ xs) h =
    let parts = and_parts (not (x == v)) (lacks v xs) h in
    cond-false (x == v) ([] ∷ pieces_at v xs) (onto x (pieces_at v xs))
    (not-true (x == v) parts.0) ∙ ap (onto x) (pieces_none v xs parts.1)

pieces_joined : (w : List ℕ) (words : List (List ℕ)) → list_all is_word (w ∷ words) ≡ true →
    pieces_at 32 (joined (w ∷ words)) ≡ w ∷ words
pieces_joined w [] h =
    pieces_none 32 w (word_lacks_space w (and_parts (is_word w) true h).0)
pieces_joined w (v ∷ words) h =
    let parts = and_parts (is_word w) (list_all is_word (v ∷ words)) h in
    pieces_cut 32 w (joined (v ∷ words)) (word_lacks_space w parts.0)
    ∙ ap (λ ws. w ∷ ws) (pieces_joined v words parts.1)

pub all_kept : {A : Type 0} (p : A → Bool) (xs : List A) → list_all p xs ≡ true → filter p xs ≡ xs
all_kept p [] h = refl
all_kept p (x ∷ xs) h =
    let parts = and_parts (p x) (list_all p xs) h in
    cond-true (p x) (x ∷ filter p xs) (filter p xs) parts.0
    ∙ ap (λ ys. x ∷ ys) (all_kept p xs parts.1)

some_bytes : (word : List ℕ) → is_word word ≡ true → not (is_empty word) ≡ true
some_bytes word h = (and_parts (not (is_empty word)) (list_all (is_between 33 126) word) h).0

-- ---- a line read again

words_of_line : (words : List (List ℕ)) → is_line words ≡ true → list_all is_word words ≡ true
words_of_line [] h = absurd cc
words_of_line (w ∷ words) h =
    (and_parts (not (starts_with_hash w)) (is_word w && list_all is_word words) h).1

pub fields_joined : (words : List (List ℕ)) → is_line words ≡ true →
    fields_of (joined words) ≡ words
fields_joined [] h = absurd cc
fields_joined (w ∷ words) h =
    let all = words_of_line (w ∷ words) h in
    ap (filter (λ piece. not (is_empty piece))) (pieces_joined w words all)
    ∙ all_kept (λ piece. not (is_empty piece)) (w ∷ words)
    (all_weaker is_word (λ piece. not (is_empty piece)) some_bytes (w ∷ words) all)

pub not_foreign : (words : List (List ℕ)) → is_line words ≡ true →
    is_foreign (joined words) ≡ false
not_foreign words h = ap not (joined_bytes words (words_of_line words h))

-- the first byte of a line is that of its first word
same_start : (w rest : List ℕ) → is_word w ≡ true →
    starts_with_hash (w ++ rest) ≡ starts_with_hash w
same_start [] rest h = absurd cc
same_start (b ∷ w) rest h = refl

starts_joined : (w : List ℕ) (words : List (List ℕ)) → is_word w ≡ true →
    starts_with_hash (joined (w ∷ words)) ≡ starts_with_hash w
starts_joined w [] h = refl
starts_joined w (v ∷ words) h = same_start w (32 ∷ joined (v ∷ words)) h

pub not_skipped : (words : List (List ℕ)) → is_line words ≡ true →
    is_skipped (joined words) ≡ false
not_skipped [] h = absurd cc
not_skipped (w ∷ words) h =
    let parts = and_parts (not (starts_with_hash w)) (is_word w && list_all is_word words) h in
    let all = and_parts (is_word w) (list_all is_word words) parts.1 in
    let fields : is_empty (fields_of (joined (w ∷ words))) ≡ false
    = ap is_empty (fields_joined (w ∷ words) h) in
    let hash : starts_with_hash (joined (w ∷ words)) ≡ false
    = starts_joined w words all.0 ∙ not-true (starts_with_hash w) parts.0 in
    rw (fields, hash) refl

-- ---- a text read again

-- the lines of a text, each by its words
abbrev pub text_of : List (List (List ℕ)) → List ℕ
text_of lines = flat_map line lines

pub pieces_of_text : (lines : List (List (List ℕ))) → list_all is_line lines ≡ true →
    pieces_at 10 (text_of lines) ≡ map joined lines ++ [] ∷ []
pieces_of_text [] h = refl
pieces_of_text (words ∷ lines) h =
    let parts = and_parts (is_line words) (list_all is_line lines) h in
    ap (pieces_at 10) (append_assoc (joined words) (10 ∷ []) (text_of lines))
    ∙ pieces_cut 10 (joined words) (text_of lines)
    (joined_lacks_feed words (words_of_line words parts.0))
    ∙ ap (λ pieces. joined words ∷ pieces) (pieces_of_text lines parts.1)

pub without_end : (pieces : List (List ℕ)) → without_empty_end (pieces ++ [] ∷ []) ≡ pieces
without_end [] = refl
without_end (piece ∷ []) = refl
without_end (piece ∷ next ∷ pieces) = ap (λ ps. piece ∷ ps) (without_end (next ∷ pieces))
