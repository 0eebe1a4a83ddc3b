-- A line and its words, and that they say which line it is.
use Rattle.std.proofs.Common.{◌≡◌, ◌≢◌, ℕ, true, List, [], ◌∷◌, map, decimal, refl, sym, ap, ◌∙◌, arith}
use Rattle.std.specs.Fmt.{signed_decimal}
use Rattle.std.specs.List.{list_all}
use Rattle.std.proofs.lemmas.Bool.{and_from}
use Rattle.std.proofs.lemmas.List.Elements.{All-cons, All-head, All-nil, All-tail}
use Rattle.report_model.specs.Logs.{HasNoFeed, LoggedStep, Arrived, Committed, Released, words_of}
use Rattle.log_reader.specs.Words.{words_in}
use Rattle.log_reader.proofs.Bytes.{no_feed}
use Rattle.log_reader.proofs.Spelled.{initial, is_plain, joined_again, lacks_joined, plain_edges, plain_words, same_numbers, same_step, some_words}
use Rattle.certified_lines.specs.Certified.{CertifiedLine, Started, Stepped, Whole, Vertex, OddSet, Finished, IsLine, OneLineLaw, WholeLinesLaw, spelled, words_on}
use Rattle.certified_lines.proofs.Signed.{plain_numbers, plain_signed, same_number, same_signed}

plain_line : (line : CertifiedLine) → IsLine line → list_all is_plain (words_on line) ≡ true
plain_line Started h = refl
plain_line (Stepped step) h = plain_words step h
plain_line (Whole edges) h = plain_edges edges h.each
plain_line (Vertex numbers) h = plain_numbers numbers h
plain_line (OddSet number members) h =
    and_from (is_plain (signed_decimal number)) (list_all is_plain (map decimal members))
    (plain_signed number h.short) (plain_edges members h.members_in.each)
plain_line Finished h = refl

some_line : (line : CertifiedLine) → words_on line ≢ []
some_line Started e = absurd (cc)
some_line (Stepped step) e = some_words step e
some_line (Whole edges) e = absurd (cc)
some_line (Vertex numbers) e = absurd (cc)
some_line (OddSet number members) e = absurd (cc)
some_line Finished e = absurd (cc)

pub words_again : (line : CertifiedLine) → IsLine line → words_in (spelled line) ≡ words_on line
words_again line h = joined_again (words_on line) (some_line line) (plain_line line h)

-- ---- the words say which line it is

-- no step's line begins with this byte
abbrev pub BeginsNoStep : ℕ → Type 0
BeginsNoStep b = (b ≡ 97 → ⊥) × (b ≡ 99 → ⊥) × (b ≡ 114 → ⊥)

pub other_start : (step : LoggedStep) (words : List (List ℕ)) (b : ℕ) → initial words ≡ b →
    BeginsNoStep b → words_of step ≡ words → ⊥
other_start (Arrived m) words b i none e =
    let k : 97 ≡ initial words = ap initial e in none.0 (sym (k ∙ i))
other_start (Committed w es) words b i none e =
    let k : 99 ≡ initial words = ap initial e in none.1 (sym (k ∙ i))
other_start (Released l c) words b i none e =
    let k : 114 ≡ initial words = ap initial e in none.2 (sym (k ∙ i))

-- those of l, w, v, s and e
pub starts_log : BeginsNoStep 108
starts_log = (λ k. omega (arith, k), λ k. omega (arith, k), λ k. omega (arith, k))

pub starts_whole : BeginsNoStep 119
starts_whole = (λ k. omega (arith, k), λ k. omega (arith, k), λ k. omega (arith, k))

pub starts_vertex : BeginsNoStep 118
starts_vertex = (λ k. omega (arith, k), λ k. omega (arith, k), λ k. omega (arith, k))

pub starts_set : BeginsNoStep 115
starts_set = (λ k. omega (arith, k), λ k. omega (arith, k), λ k. omega (arith, k))

pub starts_end : BeginsNoStep 101
starts_end = (λ k. omega (arith, k), λ k. omega (arith, k), λ k. omega (arith, k))

pub same_line : (one two : CertifiedLine) → IsLine one → IsLine two →
    words_on one ≡ words_on two → one ≡ two
same_line Started Started p q e = refl
same_line Started (Stepped t) p q e =
    absurd (other_start t (words_on Started) 108 refl starts_log (sym e))
same_line Started (Whole fs) p q e = let k : 108 ≡ 119 = ap initial e in absurd (omega (arith, k))
same_line Started (Vertex zs) p q e = let k : 108 ≡ 118 = ap initial e in absurd (omega (arith, k))
same_line Started (OddSet z ms) p q e = let k : 108 ≡ 115 =
    ap initial e in absurd (omega (arith, k))
same_line Started Finished p q e = let k : 108 ≡ 101 = ap initial e in absurd (omega (arith, k))
same_line (Stepped s) Started p q e =
    absurd (other_start s (words_on Started) 108 refl starts_log e)
same_line (Stepped s) (Stepped t) p q e = ap Stepped (same_step s t p q e)
same_line (Stepped s) (Whole fs) p q e =
    absurd (other_start s (words_on (Whole fs)) 119 refl starts_whole e)
same_line (Stepped s) (Vertex zs) p q e =
    absurd (other_start s (words_on (Vertex zs)) 118 refl starts_vertex e)
same_line (Stepped s) (OddSet z ms) p q e =
    absurd (other_start s (words_on (OddSet z ms)) 115 refl starts_set e)
same_line (Stepped s) Finished p q e =
    absurd (other_start s (words_on Finished) 101 refl starts_end e)
same_line (Whole es) Started p q e = let k : 119 ≡ 108 = ap initial e in absurd (omega (arith, k))
same_line (Whole es) (Stepped t) p q e =
    absurd (other_start t (words_on (Whole es)) 119 refl starts_whole (sym e))
same_line (Whole es) (Whole fs) p q e =
    let others : map decimal es ≡ map decimal fs = cc in
    ap Whole (same_numbers es fs p.each q.each others)
same_line (Whole es) (Vertex zs) p q e = let k : 119 ≡ 118 =
    ap initial e in absurd (omega (arith, k))
same_line (Whole es) (OddSet z ms) p q e = let k : 119 ≡ 115 =
    ap initial e in absurd (omega (arith, k))
same_line (Whole es) Finished p q e = let k : 119 ≡ 101 = ap initial e in absurd (omega (arith, k))
same_line (Vertex ys) Started p q e = let k : 118 ≡ 108 = ap initial e in absurd (omega (arith, k))
same_line (Vertex ys) (Stepped t) p q e =
    absurd (other_start t (words_on (Vertex ys)) 118 refl starts_vertex (sym e))
same_line (Vertex ys) (Whole fs) p q e = let k : 118 ≡ 119 =
    ap initial e in absurd (omega (arith, k))
same_line (Vertex ys) (Vertex zs) p q e =
    let others : map signed_decimal ys ≡ map signed_decimal zs = cc in
    ap Vertex (same_signed ys zs p q others)
same_line (Vertex ys) (OddSet z ms) p q e = let k : 118 ≡ 115 =
    ap initial e in absurd (omega (arith, k))
same_line (Vertex ys) Finished p q e = let k : 118 ≡ 101 = ap initial e in absurd (omega (arith, k))
same_line (OddSet y ls) Started p q e = let k : 115 ≡ 108 =
    ap initial e in absurd (omega (arith, k))
same_line (OddSet y ls) (Stepped t) p q e =
    absurd (other_start t (words_on (OddSet y ls)) 115 refl starts_set (sym e))
same_line (OddSet y ls) (Whole fs) p q e = let k : 115 ≡ 119 =
    ap initial e in absurd (omega (arith, k))
same_line (OddSet y ls) (Vertex zs) p q e = let k : 115 ≡ 118 =
    ap initial e in absurd (omega (arith, k))
same_line (OddSet y ls) (OddSet z ms) p q e =
    let first : signed_decimal y ≡ signed_decimal z = cc in
    let others : map decimal ls ≡ map decimal ms = cc in
    let number = same_number y z p.short q.short first in
    let members = same_numbers ls ms p.members_in.each q.members_in.each others in
    cc
same_line (OddSet y ls) Finished p q e = let k : 115 ≡ 101 =
    ap initial e in absurd (omega (arith, k))
same_line Finished Started p q e = let k : 101 ≡ 108 = ap initial e in absurd (omega (arith, k))
same_line Finished (Stepped t) p q e =
    absurd (other_start t (words_on Finished) 101 refl starts_end (sym e))
same_line Finished (Whole fs) p q e = let k : 101 ≡ 119 = ap initial e in absurd (omega (arith, k))
same_line Finished (Vertex zs) p q e = let k : 101 ≡ 118 = ap initial e in absurd (omega (arith, k))
same_line Finished (OddSet z ms) p q e = let k : 101 ≡ 115 =
    ap initial e in absurd (omega (arith, k))
same_line Finished Finished p q e = refl

pub one_line_law : OneLineLaw
one_line_law bytes one two p q =
    same_line one two p.in_grammar q.in_grammar
    (sym (words_again one p.in_grammar) ∙ ap words_in (sym p.spelled_so ∙ q.spelled_so)
    ∙ words_again two q.in_grammar)

pub whole_lines_law : WholeLinesLaw
whole_lines_law [] h = All-nil HasNoFeed
whole_lines_law (line ∷ lines) h =
    All-cons HasNoFeed (spelled line) (map spelled lines)
    (no_feed (spelled line)
    (lacks_joined (words_on line) (plain_line line (All-head IsLine line lines h))))
    (whole_lines_law lines (All-tail IsLine line lines h))
