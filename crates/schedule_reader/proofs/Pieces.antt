-- Laws of the pieces of a text.
use Rattle.std.proofs.Common.{◌≡◌, ℕ, suc, ◌+◌, ◌<◌, Bool, true, false, not, ◌&&◌, ◌||◌, eqb, cond, List, [], ◌∷◌, ◌++◌, length, take, drop, get_or, filter, refl, ap, sym, ◌∙◌, arith, bytes_eq, codes, ◌⊎◌, inl, inr, ◌≢◌, slice_index_or, ◌≤◌, ◌-◌, add-one, length-drop, map, append_assoc}
use Rattle.std.proofs.lemmas.List.{take_all, drop_all, map-append}
use Rattle.std.specs.List.{list_all}
use Rattle.std.proofs.lemmas.Bool.{eqb-true}
use Rattle.std.proofs.lemmas.List.{at_drop_more, at_drop_all}
use Rattle.surface_model.specs.Text.{pieces_at, onto, without_empty_end, is_empty, fields_of, before_dot, is_name, seam_of, is_observable, is_skipped, starts_with_hash, is_rounds}
use Rattle.schedule_reader.specs.Pieces.{upto, past, lines_of, others}

and_assoc : (a b c : Bool) → (a && (b && c)) ≡ ((a && b) && c)
and_assoc true b c = refl
and_assoc false b c = refl

-- a text is two parts where its front is the one and the rest the other
pub joined : (s p b : List ℕ) → bytes_eq s (p ++ b) ≡ (bytes_eq (take (length p) s) p
    && bytes_eq (drop (length p) s) b)
joined s [] b = refl
joined [] (x ∷ p) b = refl
joined (y ∷ s) (x ∷ p) b = ap (λ t. eqb y x && t) (joined s p b)
    ∙ and_assoc (eqb y x) (bytes_eq (take (length p) s) p) (bytes_eq (drop (length p) s) b)

pub upto_at : (at : ℕ) (xs : List ℕ) (i : ℕ) → i < length xs → upto at (drop i xs)
    ≡ upto at (get_or xs i 0 ∷ drop (i + 1) xs)
upto_at at xs i h = at_drop_more (upto at) xs i 0 h

pub upto_end : (at : ℕ) (xs : List ℕ) → upto at (drop (length xs) xs) ≡ []
upto_end at xs = at_drop_all (upto at) xs (length xs) (omega arith)

-- the first piece, and the pieces after it
pub first_piece : (at : ℕ) (xs : List ℕ) →
    (pieces_at at xs ≡ upto at xs ∷ pieces_at at (past at xs))
    ⊎ ((pieces_at at xs ≡ upto at xs ∷ []) × (past at xs ≡ []) × (upto at xs ≡ xs))
first_piece at [] = inr (refl, refl, refl)
first_piece at (x ∷ xs) = step (eqb x at) (first_piece at xs)
  where
    step : (b : Bool)
        → (pieces_at at xs ≡ upto at xs ∷ pieces_at at (past at xs))
        ⊎ ((pieces_at at xs ≡ upto at xs ∷ []) × (past at xs ≡ []) × (upto at xs ≡ xs))
        → (cond b ([] ∷ pieces_at at xs) (onto x (pieces_at at xs)) ≡ cond b [] (x ∷ upto at xs)
        ∷ pieces_at at (drop (suc (length (cond b [] (x ∷ upto at xs)))) (x ∷ xs)))
        ⊎ ((cond b ([] ∷ pieces_at at xs) (onto x (pieces_at at xs)) ≡ cond b [] (x ∷ upto at xs)
        ∷ []) × (drop (suc (length (cond b [] (x ∷ upto at xs)))) (x ∷ xs) ≡ [])
        × (cond b [] (x ∷ upto at xs) ≡ x ∷ xs))
    step true h = inl refl
    step false (inl h) = inl (ap (onto x) h)
    step false (inr h) = inr (ap (onto x) h.0, h.1, ap (λ t. x ∷ t) h.2)

pub dot_upto : (xs : List ℕ) → before_dot xs ≡ upto 46 xs
dot_upto xs = by (first_piece 46 xs)
  where
    by : (pieces_at 46 xs ≡ upto 46 xs ∷ pieces_at 46 (past 46 xs))
        ⊎ ((pieces_at 46 xs ≡ upto 46 xs ∷ []) × (past 46 xs ≡ []) × (upto 46 xs ≡ xs)) →
        before_dot xs ≡ upto 46 xs
    by (inl h) = ap (λ ps. slice_index_or ps 0 []) h
    by (inr h) = ap (λ ps. slice_index_or ps 0 []) h.0

pub upto_taken : (at : ℕ) (xs : List ℕ) → take (length (upto at xs)) xs ≡ upto at xs
upto_taken at [] = refl
upto_taken at (x ∷ xs) = step (eqb x at) (upto_taken at xs)
  where
    step : (b : Bool) → take (length (upto at xs)) xs ≡ upto at xs →
        take (length (cond b [] (x ∷ upto at xs))) (x ∷ xs) ≡ cond b [] (x ∷ upto at xs)
    step true h = refl
    step false h = ap (λ t. x ∷ t) h

pub upto_all : (at : ℕ) (xs : List ℕ) → length xs ≤ length (upto at xs) → upto at xs ≡ xs
upto_all at xs h = sym (upto_taken at xs) ∙ take_all (length (upto at xs)) xs h

pub past_is : (at : ℕ) (xs : List ℕ) (n : ℕ) → n ≡ length (upto at xs) → n < length xs →
    take (length xs - (n + 1)) (drop (n + 1) xs) ≡ past at xs
past_is at xs n e h =
    let lt : length (drop (n + 1) xs) ≤ length xs - (n + 1) =
    omega (arith, length-drop (n + 1) xs) in
    take_all (length xs - (n + 1)) (drop (n + 1) xs) lt ∙ ap (λ k. drop k xs) (add-one n ∙ ap suc e)

pub past_none : (at : ℕ) (xs : List ℕ) (n : ℕ) → n ≡ length (upto at xs) → length xs ≤ n →
    [] ≡ past at xs
past_none at xs n e h = sym (drop_all (suc (length (upto at xs))) xs (omega arith))

-- an observable by what stands before its first dot
pub observable_is : (f l : List ℕ) → l ≡ upto 46 f →
    is_observable f ≡ (is_name l && (bytes_eq f l || bytes_eq f (seam_of l)))
observable_is f l e = ap (λ b. is_name b && (bytes_eq f b || bytes_eq f (seam_of b))) (dot_upto f
    ∙ sym e)

-- ---- the lines and the fields of a text

some_piece : (at : ℕ) (xs : List ℕ) → pieces_at at xs ≢ []
some_piece at xs e = by (first_piece at xs)
  where
    by : (pieces_at at xs ≡ upto at xs ∷ pieces_at at (past at xs))
        ⊎ ((pieces_at at xs ≡ upto at xs ∷ []) × (past at xs ≡ []) × (upto at xs ≡ xs)) → ⊥
    by (inl h) = absurd (cc)
    by (inr h) = let k = h.0 in absurd (cc)

without_more : (p : List ℕ) (ps : List (List ℕ)) → ps ≢ [] → without_empty_end (p ∷ ps)
    ≡ p ∷ without_empty_end ps
without_more p [] h = absurd (h refl)
without_more p (q ∷ qs) h = refl

-- the first line of a text, and the lines after it
pub first_line : (xs : List ℕ) → xs ≢ [] → lines_of xs ≡ upto 10 xs ∷ lines_of (past 10 xs)
first_line xs some = by (first_piece 10 xs)
  where
    full : (ys : List ℕ) → ys ≢ [] → without_empty_end (ys ∷ []) ≡ ys ∷ []
    full [] h = absurd (h refl)
    full (y ∷ ys) h = refl

    by : (pieces_at 10 xs ≡ upto 10 xs ∷ pieces_at 10 (past 10 xs))
        ⊎ ((pieces_at 10 xs ≡ upto 10 xs ∷ []) × (past 10 xs ≡ []) × (upto 10 xs ≡ xs)) →
        lines_of xs ≡ upto 10 xs ∷ lines_of (past 10 xs)
    by (inl h) = ap without_empty_end h
        ∙ without_more (upto 10 xs) (pieces_at 10 (past 10 xs)) (some_piece 10 (past 10 xs))
    by (inr h) = ap without_empty_end h.0 ∙ full (upto 10 xs) (λ e. some (sym h.2 ∙ e))
        ∙ ap (λ t. upto 10 xs ∷ lines_of t) (sym h.1)

-- a piece that is empty is no field
kept : (p : List ℕ) (ps : List (List ℕ)) → filter (λ piece. not (is_empty piece)) (p ∷ ps)
    ≡ cond (is_empty p) (filter (λ piece. not (is_empty piece)) ps) (p
    ∷ filter (λ piece. not (is_empty piece)) ps)
kept [] ps = refl
kept (x ∷ p) ps = refl

pub first_field : (xs : List ℕ) → fields_of xs
    ≡ cond (is_empty (upto 32 xs)) (fields_of (past 32 xs)) (upto 32 xs ∷ fields_of (past 32 xs))
first_field xs = by (first_piece 32 xs)
  where
    by : (pieces_at 32 xs ≡ upto 32 xs ∷ pieces_at 32 (past 32 xs))
        ⊎ ((pieces_at 32 xs ≡ upto 32 xs ∷ []) × (past 32 xs ≡ []) × (upto 32 xs ≡ xs))
        → fields_of xs ≡ cond (is_empty (upto 32 xs)) (fields_of (past 32 xs)) (upto 32 xs
        ∷ fields_of (past 32 xs))
    by (inl h) = ap (filter (λ piece. not (is_empty piece))) h
        ∙ kept (upto 32 xs) (pieces_at 32 (past 32 xs))
    by (inr h) = ap (filter (λ piece. not (is_empty piece))) h.0 ∙ kept (upto 32 xs) []
        ∙ ap (λ t. cond (is_empty (upto 32 xs)) (fields_of t) (upto 32 xs ∷ fields_of t)) (sym h.1)

-- a line without a field has spaces alone
pub blank_is : (xs : List ℕ) → is_empty (fields_of xs) ≡ list_all (λ b. eqb b 32) xs
blank_is [] = refl
blank_is (x ∷ xs) = step (eqb x 32) (pieces_at 32 xs) (some_piece 32 xs) (blank_is xs)
  where
    step : (b : Bool) (ps : List (List ℕ)) → ps ≢ [] →
        is_empty (filter (λ piece. not (is_empty piece)) ps) ≡ list_all (λ b. eqb b 32) xs
        → is_empty (filter (λ piece. not (is_empty piece)) (cond b ([] ∷ ps) (onto x ps)))
        ≡ (b && list_all (λ b. eqb b 32) xs)
    step true ps some h = h
    step false [] some h = absurd (some refl)
    step false (p ∷ ps) some h = refl

pub skipped_is : (xs : List ℕ) →
    is_skipped xs ≡ (list_all (λ b. eqb b 32) xs || starts_with_hash xs)
skipped_is xs = ap (λ b. b || starts_with_hash xs) (blank_is xs)

not_none : (xs : List ℕ) → eqb (length xs) 0 ≡ false → xs ≢ []
not_none [] h e = absurd (cc)
not_none (x ∷ xs) h e = absurd (cc)

-- one step over the lines of a text
pub first_line_is : (xs front back : List ℕ) → eqb (length xs) 0 ≡ false → front ≡ upto 10 xs →
    back ≡ past 10 xs → lines_of xs ≡ front ∷ lines_of back
first_line_is xs front back h f b = first_line xs (not_none xs h)
    ∙ ap (λ t. t ∷ lines_of (past 10 xs)) (sym f) ∙ ap (λ t. front ∷ lines_of t) (sym b)

pub other_line : (text rest front back : List ℕ) → eqb (length rest) 0 ≡ false →
    front ≡ upto 10 rest → back ≡ past 10 rest → others (lines_of rest) ≡ others (lines_of text) →
    is_skipped front ≡ false → true ≡ others (lines_of text)
other_line text rest front back h f b i s = sym (ap (λ t. not t || others (lines_of back)) s)
    ∙ sym (ap others (first_line_is rest front back h f b)) ∙ i

pub skipped_line : (text rest front back : List ℕ) → eqb (length rest) 0 ≡ false →
    front ≡ upto 10 rest → back ≡ past 10 rest → others (lines_of rest) ≡ others (lines_of text) →
    is_skipped front ≡ true → others (lines_of back) ≡ others (lines_of text)
skipped_line text rest front back h f b i s = sym (ap (λ t. not t || others (lines_of back)) s)
    ∙ sym (ap others (first_line_is rest front back h f b)) ∙ i

-- one step over the fields of a line
pub field_step : {X : Type 0} (now : X → List ℕ) (line rest front back : List ℕ)
    (items more : List X) (x : X)
    → front ≡ upto 32 rest → back ≡ past 32 rest → map now items ++ fields_of rest
    ≡ fields_of line → eqb (length front) 0 ≡ false → more ≡ items ++ x ∷ [] → now x ≡ front
    → map now more ++ fields_of back ≡ fields_of line
field_step now line rest front back items more x f b i some m n =
    ap (λ t. map now t ++ fields_of back) m ∙ ap (λ t. t ++ fields_of back)
    (map-append now items (x ∷ [])) ∙ append_assoc (map now items) (now x ∷ []) (fields_of back)
    ∙ ap (λ t. map now items ++ (t ∷ fields_of back)) n ∙ ap (λ t. map now items ++ t) (sym here)
    ∙ i
  where
    full : (p : List ℕ) → eqb (length p) 0 ≡ false → is_empty p ≡ false
    full [] e = absurd (cc)
    full (y ∷ p) e = refl

    here : fields_of rest ≡ front ∷ fields_of back
    here = first_field rest ∙ ap (λ t. cond (is_empty t) (fields_of (past 32 rest))
        (t ∷ fields_of (past 32 rest))) (sym f) ∙ ap (λ t. cond t (fields_of (past 32 rest)) (front
        ∷ fields_of (past 32 rest))) (full front some) ∙ ap (λ t. front ∷ fields_of t) (sym b)

pub past_shorter : (at : ℕ) (xs : List ℕ) → 0 < length xs → length (past at xs) < length xs
past_shorter at xs h = omega (arith, length-drop (suc (length (upto at xs))) xs)

-- ---- the first field

field_full : (p : List ℕ) → eqb (length p) 0 ≡ false → is_empty p ≡ false
field_full [] e = absurd (cc)
field_full (y ∷ p) e = refl

field_none : (p : List ℕ) → eqb (length p) 0 ≡ true → is_empty p ≡ true
field_none [] e = refl
field_none (y ∷ p) e = absurd (omega (arith, eqb-true (length (y ∷ p)) 0 e))

abbrev rounds_of : List (List ℕ) → Bool
rounds_of fields = bytes_eq (slice_index_or fields 0 []) (codes "rounds")

pub rounds_here : (line rest front : List ℕ) → front ≡ upto 32 rest →
    is_rounds rest ≡ is_rounds line → eqb (length front) 0 ≡ false → bytes_eq front (codes "rounds")
    ≡ is_rounds line
rounds_here line rest front f i some =
    sym (ap rounds_of (first_field rest ∙ ap (λ t. cond (is_empty t) (fields_of (past 32 rest))
    (t ∷ fields_of (past 32 rest))) (sym f) ∙ ap (λ t. cond t (fields_of (past 32 rest)) (front
    ∷ fields_of (past 32 rest))) (field_full front some))) ∙ i

pub rounds_later : (line rest front back : List ℕ) → front ≡ upto 32 rest → back ≡ past 32 rest →
    is_rounds rest ≡ is_rounds line → eqb (length front) 0 ≡ true → is_rounds back ≡ is_rounds line
rounds_later line rest front back f b i none =
    ap is_rounds b ∙ sym (ap rounds_of (first_field rest ∙ ap (λ t. cond (is_empty t)
    (fields_of (past 32 rest)) (t ∷ fields_of (past 32 rest))) (sym f) ∙ ap (λ t. cond t
    (fields_of (past 32 rest)) (front ∷ fields_of (past 32 rest))) (field_none front none))) ∙ i
