-- Lines by their line feeds.
use Rattle.std.proofs.Common.{◌≡◌, ◌++◌, ℕ, zero, suc, Bool, true, false, ◌||◌, ◌==◌, eqb, cond, List, [], ◌∷◌, drop, refl, sym, ap, ◌∙◌, eqb-true}
use Rattle.std.specs.List.{list_any}
use Rattle.replay_model.specs.Scripts.{Complete, TakenLine, TooLong, Whole, ends, line_within, script_within, whole_lines, with_byte}

-- ---- where a line has its line feed

whole_byte : (x : ℕ) (taken : TakenLine) (line rest : List ℕ) →
    with_byte x taken ≡ Whole line rest → taken ≡ Whole (drop 1 line) rest
whole_byte x (Whole bytes more) line rest e =
    let a : x ∷ bytes ≡ line = cc in
    let b : more ≡ rest = cc in
    ap (λ l. Whole (drop 1 l) more) a ∙ ap (Whole (drop 1 line)) b
whole_byte x (TooLong more) line rest e = absurd cc

none_left : (bytes : List ℕ) → bytes ++ [] ≡ [] → bytes ≡ []
none_left [] e = refl
none_left (x ∷ bytes) e = absurd cc

-- bytes that end with a line feed
abbrev EndsFed : List ℕ → Type 0
EndsFed bytes = (front : List ℕ) × (bytes ≡ front ++ 10 ∷ [])

-- a first byte ends the line, or the others do
by_feed : (x : ℕ) (feed : Bool) (bytes : List ℕ) (line : List ℕ)
    (other : List ℕ → TakenLine) → eqb x 10 ≡ feed →
    ((rest : List ℕ) → cond feed (Whole [] (bytes ++ rest)) (other rest) ≡ Whole line rest) →
    (((rest : List ℕ) → other rest ≡ Whole line rest) → EndsFed (x ∷ bytes)) → EndsFed (x ∷ bytes)
by_feed x true bytes line other is whole go =
    let all = whole [] in
    let none : bytes ++ [] ≡ [] = cc in (
      [],
      ap (λ b. b ∷ bytes) (eqb-true x 10 is) ∙ ap (λ l. 10 ∷ l) (none_left bytes none),
    )
by_feed x false bytes line other is whole go = go whole

pub ends_fed : (room : ℕ) (bytes line : List ℕ) →
    ((rest : List ℕ) → line_within room (bytes ++ rest) ≡ Whole line rest) → EndsFed bytes
ends_fed zero [] line whole = let h = whole (10 ∷ []) in absurd cc
ends_fed (suc room) [] line whole = let h = whole (10 ∷ []) in absurd cc
ends_fed zero (x ∷ bytes) line whole =
    by_feed x (eqb x 10) bytes line (λ rest. TooLong (bytes ++ rest)) refl whole
    (λ h. let k = h [] in absurd cc)
ends_fed (suc room) (x ∷ bytes) line whole =
    by_feed x (eqb x 10) bytes line (λ rest. with_byte x (line_within room (bytes ++ rest))) refl
    whole (λ h.
    let k = ends_fed room bytes (drop 1 line) (λ rest.
    whole_byte x (line_within room (bytes ++ rest)) line rest (h rest)) in
    (x ∷ k.0, ap (λ l. x ∷ l) k.1))

-- ---- whole lines

or_right : (a b : Bool) → b ≡ true → (a || b) ≡ true
or_right true b e = refl
or_right false b e = e

has_feed : (front rest : List ℕ) → list_any (λ b. b == 10) (front ++ 10 ∷ rest) ≡ true
has_feed [] rest = refl
has_feed (x ∷ front) rest = or_right (x == 10) (list_any (λ b. b == 10) (front ++ 10 ∷ rest))
    (has_feed front rest)

fed_whole : (front rest : List ℕ) → whole_lines (front ++ 10 ∷ rest)
    ≡ front ++ 10 ∷ whole_lines rest
fed_whole [] rest = refl
fed_whole (x ∷ front) rest =
    ap (λ t. cond t (x ∷ whole_lines (front ++ 10 ∷ rest)) []) (has_feed (x ∷ front) rest)
    ∙ ap (λ l. x ∷ l) (fed_whole front rest)

joined : (front rest : List ℕ) → (front ++ 10 ∷ []) ++ rest ≡ front ++ 10 ∷ rest
joined [] rest = refl
joined (x ∷ front) rest = ap (λ l. x ∷ l) (joined front rest)

-- a line with its line feed is whole
pub line_whole : (room : ℕ) (bytes line : List ℕ) →
    ((rest : List ℕ) → line_within room (bytes ++ rest) ≡ Whole line rest) →
    (rest : List ℕ) → whole_lines (bytes ++ rest) ≡ bytes ++ whole_lines rest
line_whole room bytes line whole rest =
    let k = ends_fed room bytes line whole in
    ap (λ l. whole_lines (l ++ rest)) k.1
    ∙ ap whole_lines (joined k.0 rest)
    ∙ fed_whole k.0 rest
    ∙ sym (joined k.0 (whole_lines rest))
    ∙ ap (λ l. l ++ whole_lines rest) (sym k.1)

-- ---- a line that is begun

no_feed_by : (x : ℕ) (feed : Bool) (bytes : List ℕ) (other : TakenLine) → eqb x 10 ≡ feed →
    cond feed (Whole [] bytes) other ≡ Whole (x ∷ bytes) [] →
    (other ≡ Whole (x ∷ bytes) [] → list_any (λ b. b == 10) bytes ≡ false) →
    list_any (λ b. b == 10) (x ∷ bytes) ≡ false
no_feed_by x true bytes other is e go = absurd cc
no_feed_by x false bytes other is e go =
    ap (λ t. t || list_any (λ b. b == 10) bytes) is ∙ go e

no_feed : (room : ℕ) (bytes : List ℕ) → line_within room bytes ≡ Whole bytes [] →
    list_any (λ b. b == 10) bytes ≡ false
no_feed room [] e = refl
no_feed zero (x ∷ bytes) e =
    no_feed_by x (eqb x 10) bytes (TooLong bytes) refl e (λ h. absurd cc)
no_feed (suc room) (x ∷ bytes) e =
    no_feed_by x (eqb x 10) bytes (with_byte x (line_within room bytes)) refl e
    (λ h. no_feed room bytes (whole_byte x (line_within room bytes) (x ∷ bytes) [] h))

none_whole : (bytes : List ℕ) → list_any (λ b. b == 10) bytes ≡ false → whole_lines bytes ≡ []
none_whole [] e = refl
none_whole (x ∷ bytes) e = ap (λ t. cond t (x ∷ whole_lines bytes) []) e

-- no line is whole of one that is begun
pub begun_not_whole : (room : ℕ) (bytes : List ℕ) → line_within room bytes ≡ Whole bytes [] →
    whole_lines bytes ≡ []
begun_not_whole room bytes e = none_whole bytes (no_feed room bytes e)

-- where nothing is left, no command is
pub nothing_more : (room number : ℕ) → script_within room number [] ≡ ends Complete
nothing_more zero number = refl
nothing_more (suc room) number = refl
