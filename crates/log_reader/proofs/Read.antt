-- What the words of a line spell, kind by kind.
use Rattle.std.proofs.Common.{◌≡◌, ◌<◌, ◌≤◌, ◌-◌, ◌^◌, ℕ, Bool, true, false, List, [], ◌∷◌, ◌++◌, length, map, take, get_or, All, None, Some, bytes_eq, codes, decimal, refl, sym, ap, subst, ◌∙◌, arith}
use Rattle.std.specs.List.{join_with_byte}
use Rattle.std.specs.List.Sorted.{IsStrictlyIncreasing}
use Rattle.std.proofs.lemmas.Bool.{false≢true}
use Rattle.std.proofs.lemmas.Fmt.{decimal_injective}
use Rattle.std.proofs.lemmas.List.Elements.{All-head, All-tail}
use Rattle.std.proofs.lemmas.List.Splits.{join_with_byte-slice_split}
use Rattle.std.proofs.lemmas.List.{get_or_default}
use Rattle.graph_model.proofs.Ascending.{rises, take_below}
use Rattle.surface_model.specs.Text.{is_name}
use Rattle.report_model.specs.Texts.{bit_text}
use Rattle.report_model.specs.Logs.{IsLogNumber, Arrived, Committed, Released}
use Rattle.log_reader.specs.Words.{words_behind, words_in}
use Rattle.log_reader.specs.Steps.{AreEdges, IsSetIn, IsStepIn}
use Rattle.log_reader.specs.declared.step.LogStep.TheVariants as read
use Rattle.log_reader.proofs.Bytes.{one_word}
use Rattle.log_reader.proofs.Spelled.{initial, plain_decimal, plain_lacks, wide}

-- a line of one word
alone : (rest word : List ℕ) → words_in rest ≡ word ∷ [] → rest ≡ word
alone rest word e = sym (join_with_byte-slice_split 32 rest) ∙ ap (join_with_byte 32) e

number_alone : (n : ℕ) → n < 2 ^ 32 → words_in (decimal n) ≡ decimal n ∷ []
number_alone n l = one_word (decimal n)
    (plain_lacks 32 (omega arith) (decimal n) (plain_decimal n (wide n l)))

bit_alone : (bit : Bool) → words_in (bit_text bit) ≡ bit_text bit ∷ []
bit_alone true = refl
bit_alone false = refl

-- the bit is 0 or 1
pub no_bit : (word : List ℕ) → bytes_eq word (codes "0") ≡ false →
    bytes_eq word (codes "1") ≡ false → (bit : Bool) → word ≡ bit_text bit → ⊥
no_bit word zero_ one_ true e = false≢true (sym one_ ∙ ap (λ w. bytes_eq w (codes "1")) e)
no_bit word zero_ one_ false e = false≢true (sym zero_ ∙ ap (λ w. bytes_eq w (codes "0")) e)

-- ---- arrivals

pub arrival : (rest : List ℕ) (n : ℕ) → n < 2 ^ 32 → rest ≡ decimal n →
    IsStepIn (codes "arrive" ∷ words_in rest) (Some (read.Arrive n))
arrival rest n l e = (ap (λ ws. codes "arrive" ∷ ws) (ap words_in e ∙ number_alone n l), l)

pub no_arrival : (rest : List ℕ) → ((n : ℕ) → n < 2 ^ 32 → rest ≡ decimal n → ⊥) →
    IsStepIn (codes "arrive" ∷ words_in rest) None
no_arrival rest none (Arrived n) h e =
    let k : words_in rest ≡ decimal n ∷ [] = cc in none n h (alone rest (decimal n) k)
no_arrival rest none (Committed w es) h e = let k : 97 ≡ 99 = ap initial e in omega (arith, k)
no_arrival rest none (Released l b) h e = let k : 97 ≡ 114 = ap initial e in omega (arith, k)

-- ---- releases

pub release : (rest label tail last : List ℕ) (bit : Bool) →
    words_in rest ≡ label ∷ words_behind tail → words_behind tail ≡ words_in last →
    last ≡ bit_text bit → is_name label ≡ true →
    IsStepIn (codes "released" ∷ words_in rest) (Some (read.Released label bit))
release rest label tail last bit w t b n = (
  ap (λ ws. codes "released" ∷ ws)
      (w ∙ ap (λ ws. label ∷ ws) (t ∙ ap words_in b ∙ bit_alone bit)),
  n,
)

pub no_release : (rest label : List ℕ) (behind : List (List ℕ)) → words_in rest ≡ label ∷ behind →
    ((bit : Bool) → is_name label ≡ true → behind ≡ bit_text bit ∷ [] → ⊥) →
    IsStepIn (codes "released" ∷ words_in rest) None
no_release rest label behind w none (Released l b) h e =
    let same : label ≡ l = cc in
    let last : behind ≡ bit_text b ∷ [] = cc in
    none b (ap is_name same ∙ h) last
no_release rest label behind w none (Arrived n) h e = let k : 114 ≡ 97 =
    ap initial e in omega (arith, k)
no_release rest label behind w none (Committed v es) h e = let k : 114 ≡ 99 =
    ap initial e in omega (arith, k)

pub no_last : (rest label tail : List ℕ) → words_in rest ≡ label ∷ words_behind tail →
    words_behind tail ≡ [] → IsStepIn (codes "released" ∷ words_in rest) None
no_last rest label tail w t =
    no_release rest label (words_behind tail) w (λ bit n e. absurd (cc))

pub no_last_bit : (rest label tail last : List ℕ) → words_in rest ≡ label ∷ words_behind tail →
    words_behind tail ≡ words_in last → ((bit : Bool) → last ≡ bit_text bit → ⊥) →
    IsStepIn (codes "released" ∷ words_in rest) None
no_last_bit rest label tail last w t none =
    no_release rest label (words_behind tail) w
    (λ bit n e. none bit (alone last (bit_text bit) (sym t ∙ e)))

pub no_label : (rest label tail : List ℕ) → words_in rest ≡ label ∷ words_behind tail →
    is_name label ≡ false → IsStepIn (codes "released" ∷ words_in rest) None
no_label rest label tail w other =
    no_release rest label (words_behind tail) w (λ bit n e. false≢true (sym other ∙ n))

-- ---- commits

pub commit : (rest word tail : List ℕ) (window : ℕ) (edges : List ℕ) →
    words_in rest ≡ word ∷ words_behind tail → window < 2 ^ 32 → word ≡ decimal window →
    IsSetIn (words_behind tail) (Some edges) →
    IsStepIn (codes "commit" ∷ words_in rest) (Some (read.Commit window edges))
commit rest word tail window edges w l n h = (
  ap (λ ws. codes "commit" ∷ ws)
      (w ∙ ap (λ f. f ∷ words_behind tail) n ∙ ap (λ ws. decimal window ∷ ws) h.0),
  (l, h.1.each, h.1.rising),
)

pub no_commit : (rest word : List ℕ) (behind : List (List ℕ)) → words_in rest ≡ word ∷ behind →
    ((window : ℕ) (edges : List ℕ) → window < 2 ^ 32 → AreEdges edges → word ≡ decimal window →
    behind ≡ map decimal edges → ⊥) →
    IsStepIn (codes "commit" ∷ words_in rest) None
no_commit rest word behind w none (Committed v es) h e =
    let window : word ≡ decimal v = cc in
    let edges : behind ≡ map decimal es = cc in
    none v es h.0 (record { each = h.1; rising = h.2 }) window edges
no_commit rest word behind w none (Arrived n) h e = let k : 99 ≡ 97 =
    ap initial e in omega (arith, k)
no_commit rest word behind w none (Released l b) h e = let k : 99 ≡ 114 =
    ap initial e in omega (arith, k)

pub no_window : (rest word tail : List ℕ) → words_in rest ≡ word ∷ words_behind tail →
    ((n : ℕ) → n < 2 ^ 32 → word ≡ decimal n → ⊥) →
    IsStepIn (codes "commit" ∷ words_in rest) None
no_window rest word tail w none =
    no_commit rest word (words_behind tail) w (λ window edges l h n e. none window l n)

pub no_set : (rest word tail : List ℕ) → words_in rest ≡ word ∷ words_behind tail →
    IsSetIn (words_behind tail) None → IsStepIn (codes "commit" ∷ words_in rest) None
no_set rest word tail w none =
    no_commit rest word (words_behind tail) w (λ window edges l h n e. none edges h e)

-- ---- the edges of a commit

-- where the words go on after some numbers
pub record GoesOn (front edges : List ℕ) (word : List ℕ) : Type 0 where
  pub edge : ℕ
  pub more : List ℕ
  pub edges_are : edges ≡ front ++ edge ∷ more
  pub spelled : word ≡ decimal edge
  pub in_range : edge < 2 ^ 32

pub goes_on : (front edges : List ℕ) (word : List ℕ) (words : List (List ℕ)) →
    All IsLogNumber front → All IsLogNumber edges →
    map decimal front ++ word ∷ words ≡ map decimal edges → GoesOn front edges word
goes_on [] [] word words p q e = absurd (cc)
goes_on [] (f ∷ edges) word words p q e = record {
  edge = f;
  more = edges;
  edges_are = refl;
  spelled = cc;
  in_range = All-head IsLogNumber f edges q;
}
goes_on (f ∷ front) [] word words p q e = absurd (cc)
goes_on (f ∷ front) (g ∷ edges) word words p q e =
    let first : decimal f ≡ decimal g = cc in
    let others : map decimal front ++ word ∷ words ≡ map decimal edges = cc in
    let same = decimal_injective f g (wide f (All-head IsLogNumber f front p))
    (wide g (All-head IsLogNumber g edges q)) first in
    let rest = goes_on front edges word words (All-tail IsLogNumber f front p)
    (All-tail IsLogNumber g edges q) others in
    record {
      edge = rest.edge;
      more = rest.more;
      edges_are = ap (λ x. x ∷ edges) (sym same) ∙ ap (λ xs. f ∷ xs) rest.edges_are;
      spelled = rest.spelled;
      in_range = rest.in_range;
    }

pub no_edge : (front : List ℕ) (word : List ℕ) (words all : List (List ℕ)) →
    All IsLogNumber front → all ≡ map decimal front ++ word ∷ words →
    ((n : ℕ) → n < 2 ^ 32 → word ≡ decimal n → ⊥) → IsSetIn all None
no_edge front word words all p w none edges h e =
    let g = goes_on front edges word words p h.each (sym w ∙ e) in none g.edge g.in_range g.spelled

-- the next edge isn't above those before it
pub not_above : (front : List ℕ) (word : List ℕ) (words all : List (List ℕ)) (edge : ℕ) →
    All IsLogNumber front → all ≡ map decimal front ++ word ∷ words → edge < 2 ^ 32 →
    word ≡ decimal edge → (All (λ f. f < edge) front → ⊥) → IsSetIn all None
not_above front word words all edge p w l n none edges h e =
    let g = goes_on front edges word words p h.each (sym w ∙ e) in
    let same = decimal_injective edge g.edge (wide edge l) (wide g.edge g.in_range)
    (sym n ∙ g.spelled) in
    let rising = subst IsStrictlyIncreasing g.edges_are h.rising in
    none (subst (λ k. All (λ f. f < k) front) (sym same) (below front g.edge g.more rising))
  where
    taken : (xs : List ℕ) (x : ℕ) (ys : List ℕ) → take (length xs) (xs ++ x ∷ ys) ≡ xs
    taken [] x ys = refl
    taken (y ∷ xs) x ys = ap (λ t. y ∷ t) (taken xs x ys)

    there : (xs : List ℕ) (x : ℕ) (ys : List ℕ) → get_or (xs ++ x ∷ ys) (length xs) 0 ≡ x
    there [] x ys = refl
    there (y ∷ xs) x ys = there xs x ys

    longer : (xs : List ℕ) (x : ℕ) (ys : List ℕ) → length xs < length (xs ++ x ∷ ys)
    longer [] x ys = omega arith
    longer (y ∷ xs) x ys = let rest = longer xs x ys in omega (arith, rest)

    below : (xs : List ℕ) (x : ℕ) (ys : List ℕ) → IsStrictlyIncreasing (xs ++ x ∷ ys) →
        All (λ f. f < x) xs
    below xs x ys rising =
        subst (λ k. All (λ f. f < k) xs) (there xs x ys)
        (subst (All (λ f. f < get_or (xs ++ x ∷ ys) (length xs) 0)) (taken xs x ys)
        (take_below (xs ++ x ∷ ys) rising (length xs) (longer xs x ys)))

-- ---- the first word of a line

pub spelled_by : (line word tail rest kind : List ℕ) → words_in line ≡ word ∷ words_behind tail →
    words_behind tail ≡ words_in rest → word ≡ kind →
    words_in line ≡ kind ∷ words_in rest
spelled_by line word tail rest kind w t k = w ∙ ap (λ f. f ∷ words_behind tail) k
    ∙ ap (λ ws. kind ∷ ws) t

pub no_kind : (line word : List ℕ) (behind : List (List ℕ)) → words_in line ≡ word ∷ behind →
    bytes_eq word (codes "arrive") ≡ false → bytes_eq word (codes "commit") ≡ false →
    bytes_eq word (codes "released") ≡ false → IsStepIn (words_in line) None
no_kind line word behind w a c r (Arrived n) h e =
    let k : word ≡ codes "arrive" = cc in
    false≢true (sym a ∙ ap (λ t. bytes_eq t (codes "arrive")) k)
no_kind line word behind w a c r (Committed v es) h e =
    let k : word ≡ codes "commit" = cc in
    false≢true (sym c ∙ ap (λ t. bytes_eq t (codes "commit")) k)
no_kind line word behind w a c r (Released l b) h e =
    let k : word ≡ codes "released" = cc in
    false≢true (sym r ∙ ap (λ t. bytes_eq t (codes "released")) k)

pub one_alone : (line word tail : List ℕ) → words_in line ≡ word ∷ words_behind tail →
    words_behind tail ≡ [] → IsStepIn (words_in line) None
one_alone line word tail w t (Arrived n) h e = absurd (cc)
one_alone line word tail w t (Committed v es) h e = absurd (cc)
one_alone line word tail w t (Released l b) h e = absurd (cc)

-- ---- above the last

pub above_all : (xs : List ℕ) (last edge : ℕ) → IsStrictlyIncreasing xs →
    last ≡ get_or xs (length xs - 1) 0 → last < edge → All (λ e. e < edge) xs
above_all xs last edge rising is l k d within =
    let there : get_or xs k d ≡ get_or xs k 0 = get_or_default xs k d 0 within in
    let least : k ≤ length xs - 1 = omega (arith, within) in
    let inside : length xs - 1 < length xs = omega (arith, within) in
    let most = rises xs rising k (length xs - 1) least inside in
    omega (arith, there, most, is, l)
