-- Where a line ends.
use Rattle.std.proofs.Common.{◌≡◌, ◌≢◌, ◌≤◌, ◌<◌, ℕ, zero, suc, Bool, true, false, not, ◌&&◌, eqb, cond, List, [], ◌∷◌, ◌++◌, length, refl, ap, ◌∙◌, arith}
use Rattle.std.specs.List.{list_all}
use Rattle.std.proofs.lemmas.Bool.{and_parts, and_from, eqb-true}
use Rattle.std.proofs.lemmas.Bool.Decides.{nat_tests}
use Rattle.replay_model.specs.Scripts.{TakenLine, Whole, TooLong, line_within, with_byte}

-- no byte is a line feed
abbrev pub has_no_feed : List ℕ → Bool
has_no_feed bytes = list_all (λ b. not (eqb b 10)) bytes

not_true : (b : Bool) → not b ≡ true → b ≡ false
not_true true e = absurd (cc)
not_true false e = refl

first : (x : ℕ) (line : List ℕ) → has_no_feed (x ∷ line) ≡ true → eqb x 10 ≡ false
first x line n = not_true (eqb x 10) (and_parts (not (eqb x 10)) (has_no_feed line) n).0

others : (x : ℕ) (line : List ℕ) → has_no_feed (x ∷ line) ≡ true → has_no_feed line ≡ true
others x line n = (and_parts (not (eqb x 10)) (has_no_feed line) n).1

pub pushed : (line : List ℕ) (b : ℕ) → has_no_feed line ≡ true → eqb b 10 ≡ false →
    has_no_feed (line ++ b ∷ []) ≡ true
pushed [] b n e = ap (λ t. not t && true) e
pushed (x ∷ line) b n e =
    and_from (not (eqb x 10)) (has_no_feed (line ++ b ∷ []))
    (and_parts (not (eqb x 10)) (has_no_feed line) n).0 (pushed line b (others x line n) e)

abbrev at_byte : ℕ → ℕ → List ℕ → Bool → TakenLine
at_byte room x bytes feed = cond feed (Whole [] bytes) (with_byte x (line_within room bytes))

-- at its line feed
pub fed : (room : ℕ) (line rest : List ℕ) → has_no_feed line ≡ true → length line ≤ room →
    line_within room (line ++ 10 ∷ rest) ≡ Whole line rest
fed zero [] rest n l = refl
fed (suc room) [] rest n l = refl
fed zero (x ∷ line) rest n l = absurd (omega arith)
fed (suc room) (x ∷ line) rest n l =
    ap (at_byte room x (line ++ 10 ∷ rest)) (first x line n)
    ∙ ap (with_byte x) (fed room line rest (others x line n) (omega arith))

-- at the end of input
pub unfed : (room : ℕ) (line : List ℕ) → has_no_feed line ≡ true → length line ≤ room →
    line_within room line ≡ Whole line []
unfed room [] n l = refl
unfed zero (x ∷ line) n l = absurd (omega arith)
unfed (suc room) (x ∷ line) n l =
    ap (at_byte room x line) (first x line n)
    ∙ ap (with_byte x) (unfed room line (others x line n) (omega arith))

-- at a byte too many
pub longer : (room : ℕ) (line : List ℕ) (b : ℕ) (rest : List ℕ) → has_no_feed line ≡ true →
    length line ≡ room → eqb b 10 ≡ false → line_within room (line ++ b ∷ rest) ≡ TooLong rest
longer zero [] b rest n l e = ap (λ t. cond t (Whole [] rest) (TooLong rest)) e
longer (suc room) [] b rest n l e = absurd (omega arith)
longer zero (x ∷ line) b rest n l e = absurd (omega arith)
longer (suc room) (x ∷ line) b rest n l e =
    ap (at_byte room x (line ++ b ∷ rest)) (first x line n)
    ∙ ap (with_byte x) (longer room line b rest (others x line n) (omega arith) e)

-- ---- how many bytes there are

pub none_there : (line : List ℕ) → eqb (length line) 0 ≡ true → line ≡ []
none_there [] e = refl
none_there (x ∷ line) e = absurd (omega (arith, eqb-true (length (x ∷ line)) 0 e))

pub some_there : (line : List ℕ) → eqb (length line) 0 ≡ false → line ≢ []
some_there [] e is = absurd (cc)
some_there (x ∷ line) e is = absurd (cc)

pub some_behind : (line : List ℕ) (b : ℕ) → line ++ b ∷ [] ≢ []
some_behind [] b e = absurd (cc)
some_behind (x ∷ line) b e = absurd (cc)

pub not_full : (n : ℕ) → n ≤ 32 → eqb n 32 ≡ false → n < 32
not_full n l e = grind (arith, nat_tests)
