-- Lines of a certificate, written word after word.
use Rattle.std.proofs.Common.{◌≡◌, ◌<◌, ◌+◌, ℕ, length, take, slice_index_or, List, [], ◌∷◌, ◌++◌, map, flat_map, codes, decimal, sym, ap, ◌∙◌, append_assoc, append-nil}
use Rattle.std.specs.Prelude.{ℤ, Some}
use Rattle.std.specs.Fmt.{signed_decimal}
use Rattle.std.proofs.lemmas.List.{map-append, take_more}
use Rattle.matching_model.specs.Certificates.{Certificate}
use Rattle.run_report.specs.Words.{spaced}
use Rattle.run_report.proofs.Spelled.{joined}
use Rattle.certified_lines.specs.Certified.{CertifiedLine, Started, Finished, OddSet, Vertex, spelled, text_of}
use Rattle.certified_log.specs.Texts.{certificate_lines, set_line}

pub text_append : (a b : List CertifiedLine) → text_of (a ++ b) ≡ text_of a ++ text_of b
text_append [] b = cc
text_append (l ∷ a) b =
    ap (λ t. (spelled l ++ 10 ∷ []) ++ t) (text_append a b)
    ∙ sym (append_assoc (spelled l ++ 10 ∷ []) (text_of a) (text_of b))

-- one line
pub text_one : (l : CertifiedLine) → text_of (l ∷ []) ≡ spelled l ++ 10 ∷ []
text_one l = append-nil (spelled l ++ 10 ∷ [])

pub both_whole : (before : List ℕ) (c : Certificate) →
    (before ++ text_of (Vertex c.vertex ∷ [])) ++ text_of (map set_line c.sets)
    ≡ before ++ text_of (certificate_lines (Some c))
both_whole before c =
    append_assoc before (text_of (Vertex c.vertex ∷ [])) (text_of (map set_line c.sets))
    ∙ ap (λ t. before ++ t) (sym (text_append (Vertex c.vertex ∷ []) (map set_line c.sets)))

pub vertex_whole : (before : List ℕ) (numbers : List ℤ) →
    ((before ++ codes "vertex") ++ flat_map (λ z. 32 ∷ signed_decimal z) numbers) ++ 10 ∷ []
    ≡ before ++ text_of (Vertex numbers ∷ [])
vertex_whole before numbers =
    ap (λ t. t ++ 10 ∷ []) (append_assoc before (codes "vertex")
    (flat_map (λ z. 32 ∷ signed_decimal z) numbers)
    ∙ ap (λ t. before ++ t) (sym (joined signed_decimal (codes "vertex") numbers)))
    ∙ append_assoc before (spelled (Vertex numbers)) (10 ∷ [])
    ∙ ap (λ t. before ++ t) (sym (text_one (Vertex numbers)))

pub set_whole : (before : List ℕ) (number : ℤ) (members : List ℕ) →
    (((before ++ codes "set") ++ 32 ∷ signed_decimal number) ++ spaced members) ++ 10 ∷ []
    ≡ before ++ text_of (OddSet number members ∷ [])
set_whole before number members =
    at_end (codes "set") (32 ∷ []) (signed_decimal number) (spaced members) (10 ∷ [])
    ∙ ap (λ t. before ++ ((codes "set" ++ 32 ∷ t) ++ 10 ∷ []))
    (sym (joined decimal (signed_decimal number) members))
    ∙ ap (λ t. before ++ t) (sym (text_one (OddSet number members)))
  where
    at_end : (word space n rest feed : List ℕ) →
        (((before ++ word) ++ (space ++ n)) ++ rest) ++ feed
        ≡ before ++ ((word ++ (space ++ (n ++ rest))) ++ feed)
    at_end word space n rest feed = simp append_assoc

-- one set more
pub sets_more : (before text now : List ℕ) (sets : List (List ℕ × ℤ)) (at : ℕ)
    (d : List ℕ × ℤ) (number : ℤ) (members : List ℕ) → at < length sets →
    text ≡ before ++ text_of (map set_line (take at sets)) →
    members ≡ (slice_index_or sets at d).0 → number ≡ (slice_index_or sets at d).1 →
    now ≡ text ++ text_of (OddSet number members ∷ []) →
    now ≡ before ++ text_of (map set_line (take (at + 1) sets))
sets_more before text now sets at d number members low so_far m n more =
    more
    ∙ ap (λ t. t ++ text_of (OddSet number members ∷ [])) so_far
    ∙ append_assoc before (text_of front) (text_of (OddSet number members ∷ []))
    ∙ ap (λ t. before ++ t) (ap (λ x. text_of front ++ text_of (OddSet x members ∷ [])) n
    ∙ ap (λ x. text_of front ++ text_of (OddSet (slice_index_or sets at d).1 x ∷ [])) m
    ∙ sym (text_append front (set_line (slice_index_or sets at d) ∷ []))
    ∙ ap text_of (sym (map-append set_line (take at sets) (slice_index_or sets at d ∷ []))
    ∙ ap (map set_line) (sym (take_more sets at d low))))
  where
    front : List CertifiedLine
    front = map set_line (take at sets)

pub text_whole : (before : List ℕ) (lines : List CertifiedLine) →
    ((before ++ (spelled Started ++ 10 ∷ [])) ++ text_of lines) ++ (spelled Finished ++ 10 ∷ [])
    ≡ before ++ text_of (Started ∷ (lines ++ Finished ∷ []))
text_whole before lines =
    at_end (spelled Started) (10 ∷ []) (text_of lines) (spelled Finished)
    ∙ ap (λ t. before ++ ((spelled Started ++ 10 ∷ []) ++ t))
    (ap (λ t. text_of lines ++ t) (sym (text_one Finished))
    ∙ sym (text_append lines (Finished ∷ [])))
  where
    at_end : (first feed middle last : List ℕ) →
        ((before ++ (first ++ feed)) ++ middle) ++ (last ++ feed)
        ≡ before ++ ((first ++ feed) ++ (middle ++ (last ++ feed)))
    at_end first feed middle last = simp append_assoc
