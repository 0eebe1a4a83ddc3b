-- What the words of a line spell, kind by kind.
use Rattle.std.proofs.Common.{◌≡◌, ◌≤◌, ◌%◌, ℕ, false, List, [], ◌∷◌, ◌++◌, length, map, All, None, Some, bytes_eq, codes, decimal, refl, sym, ap, subst, ◌∙◌, append_assoc, arith}
use Rattle.std.specs.Prelude.{ℤ, pos, ◌<ℤ◌, ◌≤ℤ◌}
use Rattle.std.specs.Fmt.{signed_decimal}
use Rattle.std.specs.List.{join_with_byte}
use Rattle.std.proofs.lemmas.Bool.{false≢true}
use Rattle.std.proofs.lemmas.Int.{ints}
use Rattle.std.proofs.lemmas.List.{map-append}
use Rattle.std.proofs.lemmas.List.Elements.{All-append, All-cons, All-head, All-nil, All-tail}
use Rattle.std.proofs.lemmas.List.Splits.{join_with_byte-slice_split}
use Rattle.log_reader.specs.Words.{words_in}
use Rattle.log_reader.specs.Steps.{AreEdges, IsSetIn, IsStepIn, step_of}
use Rattle.log_reader.specs.declared.step.LogStep.{LogStep}
use Rattle.log_reader.proofs.Spelled.{initial, same_numbers}
use Rattle.certified_lines.specs.Certified.{CertifiedLine, Started, Stepped, Whole, Vertex, OddSet, Finished, IsCertifiedLine, IsLine, IsNumber, IsNumberedSet, words_on}
use Rattle.certified_lines.specs.Read.{AreNumbersIn, AreOfStep, IsLineIn, line_in}
use Rattle.certified_lines.specs.declared.line.CertLine.{CertLine}
use Rattle.certified_lines.proofs.Lines.{other_start, same_line, starts_set, starts_vertex, starts_whole, words_again}
use Rattle.certified_lines.proofs.Signed.{same_number}

-- ---- a whole set

pub no_whole : (behind : List (List ℕ)) → IsSetIn behind None →
    IsLineIn (codes "whole" ∷ behind) None
no_whole behind none Started h e = let k : 119 ≡ 108 = ap initial e in omega (arith, k)
no_whole behind none (Stepped s) h e =
    other_start s (codes "whole" ∷ behind) 119 refl starts_whole (sym e)
no_whole behind none (Whole es) h e = let k : behind ≡ map decimal es = cc in none es h k
no_whole behind none (Vertex zs) h e = let k : 119 ≡ 118 = ap initial e in omega (arith, k)
no_whole behind none (OddSet z ms) h e = let k : 119 ≡ 115 = ap initial e in omega (arith, k)
no_whole behind none Finished h e = let k : 119 ≡ 101 = ap initial e in omega (arith, k)

-- ---- the numbers of members

pub no_vertex : (behind : List (List ℕ)) → AreNumbersIn behind None →
    IsLineIn (codes "vertex" ∷ behind) None
no_vertex behind none Started h e = let k : 118 ≡ 108 = ap initial e in omega (arith, k)
no_vertex behind none (Stepped s) h e =
    other_start s (codes "vertex" ∷ behind) 118 refl starts_vertex (sym e)
no_vertex behind none (Whole es) h e = let k : 118 ≡ 119 = ap initial e in omega (arith, k)
no_vertex behind none (Vertex zs) h e =
    let k : behind ≡ map signed_decimal zs = cc in none zs h k
no_vertex behind none (OddSet z ms) h e = let k : 118 ≡ 115 = ap initial e in omega (arith, k)
no_vertex behind none Finished h e = let k : 118 ≡ 101 = ap initial e in omega (arith, k)

-- where the words go on after some numbers
record GoesOn (word : List ℕ) (words : List (List ℕ)) (numbers : List ℤ) : Type 0 where
  number : ℤ
  spelled : word ≡ signed_decimal number
  short : IsNumber number

goes_on : (front numbers : List ℤ) (word : List ℕ) (words : List (List ℕ)) → All IsNumber numbers →
    map signed_decimal front ++ word ∷ words ≡ map signed_decimal numbers →
    GoesOn word words numbers
goes_on [] [] word words q e = absurd (cc)
goes_on [] (z ∷ numbers) word words q e = record {
  number = z;
  spelled = cc;
  short = All-head IsNumber z numbers q;
}
goes_on (y ∷ front) [] word words q e = absurd (cc)
goes_on (y ∷ front) (z ∷ numbers) word words q e =
    let others : map signed_decimal front ++ word ∷ words ≡ map signed_decimal numbers = cc in
    let rest = goes_on front numbers word words (All-tail IsNumber z numbers q) others in
    record { number = rest.number; spelled = rest.spelled; short = rest.short }

pub no_number : (front : List ℤ) (word : List ℕ) (words all : List (List ℕ)) →
    all ≡ map signed_decimal front ++ word ∷ words →
    ((z : ℤ) → IsNumber z → word ≡ signed_decimal z → ⊥) → AreNumbersIn all None
no_number front word words all w none numbers h e =
    let g = goes_on front numbers word words h (sym w ∙ e) in none g.number g.short g.spelled

-- ---- a set

-- the words after `set` are those of no set
abbrev pub IsNoSet : List (List ℕ) → Type 0
IsNoSet behind = (z : ℤ) (ms : List ℕ) → IsNumberedSet z ms →
    behind ≡ signed_decimal z ∷ map decimal ms → ⊥

pub no_set : (behind : List (List ℕ)) → IsNoSet behind → IsLineIn (codes "set" ∷ behind) None
no_set behind none Started h e = let k : 115 ≡ 108 = ap initial e in omega (arith, k)
no_set behind none (Stepped s) h e =
    other_start s (codes "set" ∷ behind) 115 refl starts_set (sym e)
no_set behind none (Whole es) h e = let k : 115 ≡ 119 = ap initial e in omega (arith, k)
no_set behind none (Vertex zs) h e = let k : 115 ≡ 118 = ap initial e in omega (arith, k)
no_set behind none (OddSet z ms) h e =
    let k : behind ≡ signed_decimal z ∷ map decimal ms = cc in none z ms h k
no_set behind none Finished h e = let k : 115 ≡ 101 = ap initial e in omega (arith, k)

pub nothing_behind : (behind : List (List ℕ)) → behind ≡ [] →
    IsLineIn (codes "set" ∷ behind) None
nothing_behind behind b = no_set behind (λ z ms h e. absurd (cc))

pub no_set_number : (behind : List (List ℕ)) (word : List ℕ) (words : List (List ℕ)) →
    behind ≡ word ∷ words → ((z : ℤ) → IsNumber z → word ≡ signed_decimal z → ⊥) →
    IsLineIn (codes "set" ∷ behind) None
no_set_number behind word words b none =
    no_set behind (λ z ms h e. let k : word ≡ signed_decimal z = cc in none z h.short k)

pub not_positive : (behind : List (List ℕ)) (word : List ℕ) (words : List (List ℕ)) (y : ℤ) →
    behind ≡ word ∷ words → word ≡ signed_decimal y → IsNumber y → y ≤ℤ pos 0 →
    IsLineIn (codes "set" ∷ behind) None
not_positive behind word words y b w short low =
    no_set behind (λ z ms h e.
    let k : signed_decimal y ≡ signed_decimal z = cc in
    let same = same_number y z short h.short k in
    let high = h.positive in
    omega (arith, ints, same, high, low))

pub no_members : (behind : List (List ℕ)) (word : List ℕ) (words : List (List ℕ)) →
    behind ≡ word ∷ words → IsSetIn words None → IsLineIn (codes "set" ∷ behind) None
no_members behind word words b none =
    no_set behind (λ z ms h e. let k : words ≡ map decimal ms = cc in none ms h.members_in k)

-- the members are even in number
pub even_members : (behind : List (List ℕ)) (word : List ℕ) (words : List (List ℕ))
    (members : List ℕ) → behind ≡ word ∷ words → words ≡ map decimal members → AreEdges members →
    length members % 2 ≡ 0 → IsLineIn (codes "set" ∷ behind) None
even_members behind word words members b m in_ even =
    no_set behind (λ z ms h e.
    let k : map decimal members ≡ map decimal ms = cc in
    let same = same_numbers members ms in_.each h.members_in.each k in
    let odd = h.odd in
    let length_is = ap length same in
    omega (arith, odd, even, ap (λ xs. length xs % 2) same))

pub a_set : (behind : List (List ℕ)) (word : List ℕ) (words : List (List ℕ)) (number : ℤ)
    (members : List ℕ) → behind ≡ word ∷ words → word ≡ signed_decimal number → IsNumber number →
    pos 0 <ℤ number → words ≡ map decimal members → AreEdges members →
    length members % 2 ≡ 1 →
    (codes "set" ∷ behind ≡ words_on (OddSet number members)) × IsLine (OddSet number members)
a_set behind word words number members b w short positive m in_ odd = (
  ap (λ ws. codes "set" ∷ ws) (b ∙ ap (λ x. x ∷ words) w ∙ ap (λ ws. signed_decimal number ∷ ws) m),
  record { short = short; positive = positive; members_in = in_; odd = odd },
)

-- ---- the line of a step

pub a_step : (words : List (List ℕ)) (step : LogStep) (found : CertLine) →
    IsStepIn words (Some step) → line_in found ≡ Stepped (step_of step) →
    IsLineIn words (Some found)
a_step words step found h e = (h.0 ∙ sym (ap words_on e), subst IsLine (sym e) h.1)

pub no_step : (words : List (List ℕ)) → AreOfStep words → IsStepIn words None →
    IsLineIn words None
no_step words of none Started h e = of Started e
no_step words of none (Stepped s) h e = none s h e
no_step words of none (Whole es) h e = of (Whole es) e
no_step words of none (Vertex zs) h e = of (Vertex zs) e
no_step words of none (OddSet z ms) h e = of (OddSet z ms) e
no_step words of none Finished h e = of Finished e

-- the words of a line that is none of the others
pub of_step : (line word : List ℕ) (behind : List (List ℕ)) → words_in line ≡ word ∷ behind →
    bytes_eq line (codes "log 1 certified") ≡ false → bytes_eq line (codes "end log") ≡ false →
    bytes_eq word (codes "whole") ≡ false → bytes_eq word (codes "vertex") ≡ false →
    bytes_eq word (codes "set") ≡ false → AreOfStep (words_in line)
of_step line word behind w first last whole vertex set Started e =
    false≢true (sym first ∙ ap (λ l. bytes_eq l (codes "log 1 certified"))
    (sym (join_with_byte-slice_split 32 line) ∙ ap (join_with_byte 32) e))
of_step line word behind w first last whole vertex set (Stepped s) e = tt
of_step line word behind w first last whole vertex set (Whole es) e =
    let k : word ≡ codes "whole" = cc in
    false≢true (sym whole ∙ ap (λ t. bytes_eq t (codes "whole")) k)
of_step line word behind w first last whole vertex set (Vertex zs) e =
    let k : word ≡ codes "vertex" = cc in
    false≢true (sym vertex ∙ ap (λ t. bytes_eq t (codes "vertex")) k)
of_step line word behind w first last whole vertex set (OddSet z ms) e =
    let k : word ≡ codes "set" = cc in
    false≢true (sym set ∙ ap (λ t. bytes_eq t (codes "set")) k)
of_step line word behind w first last whole vertex set Finished e =
    false≢true (sym last ∙ ap (λ l. bytes_eq l (codes "end log"))
    (sym (join_with_byte-slice_split 32 line) ∙ ap (join_with_byte 32) e))

-- ---- the whole line

pub found_so : (bytes : List ℕ) (found : CertLine) → length bytes ≤ 67108864 →
    IsLineIn (words_in bytes) (Some found) → IsCertifiedLine bytes (line_in found)
found_so bytes found short h = record {
  spelled_so = sym (join_with_byte-slice_split 32 bytes) ∙ ap (join_with_byte 32) h.0;
  in_grammar = h.1;
  short = short;
}

pub read_as : (bytes : List ℕ) (found : CertLine) → length bytes ≤ 67108864 →
    IsLineIn (words_in bytes) (Some found) → (line : CertifiedLine) → IsCertifiedLine bytes line →
    line_in found ≡ line
read_as bytes found short h line is =
    same_line (line_in found) line h.1 is.in_grammar
    (sym h.0 ∙ ap words_in is.spelled_so ∙ words_again line is.in_grammar)

pub none_read : (bytes : List ℕ) → IsLineIn (words_in bytes) None → (line : CertifiedLine) →
    IsCertifiedLine bytes line → ⊥
none_read bytes none line is =
    none line is.in_grammar (ap words_in is.spelled_so ∙ words_again line is.in_grammar)

-- one number more
pub one_more : (front items : List ℤ) (z : ℤ) (word : List ℕ) (behind rest all : List (List ℕ)) →
    items ≡ front ++ z ∷ [] → word ≡ signed_decimal z → IsNumber z → All IsNumber front →
    all ≡ map signed_decimal front ++ rest → rest ≡ word ∷ behind →
    (all ≡ map signed_decimal items ++ behind) × All IsNumber items
one_more front items z word behind rest all i w short each a r = (
  a ∙ ap (λ ws. map signed_decimal front ++ ws) (r ∙ ap (λ x. x ∷ behind) w)
      ∙ sym (append_assoc (map signed_decimal front) (signed_decimal z ∷ []) behind)
      ∙ ap (λ ws. ws ++ behind) (sym (map-append signed_decimal front (z ∷ [])))
      ∙ ap (λ zs. map signed_decimal zs ++ behind) (sym i),
  subst (All IsNumber) (sym i) (All-append IsNumber front (z ∷ []) each
      (All-cons IsNumber z [] short (All-nil IsNumber))),
)
