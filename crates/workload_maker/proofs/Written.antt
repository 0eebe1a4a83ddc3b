-- Headers that are written line after line.
use Rattle.std.proofs.Common.{◌≡◌, ℕ, ◌+◌, List, [], ◌∷◌, ◌++◌, append_assoc, append-nil, codes, decimal, flat_map, sym, ap, ◌∙◌}
use Rattle.std.specs.List.{range_with_len}
use Rattle.report_model.specs.Texts.{line}
use Rattle.std.proofs.lemmas.Grind.{flat_map-append}
use Rattle.graph_model.proofs.Ranges.{below_more}
use Rattle.workload_maker.specs.Headers.{cond_count, first_lines, last_line, line_text, lines_text, made_header, merge_count}
use Rattle.workload_maker.specs.declared.lines.LineKind.{LineKind}
use Rattle.workload_maker.specs.declared.lines.LineKind.TheVariants.{Cond, Init, Merge, Patch, Read}

-- one line more of a kind
pub lines_more : (d l : ℕ) (kind : LineKind) (k : ℕ) (before now new : List ℕ) →
    now ≡ before ++ lines_text d l kind k → new ≡ now ++ line_text d l kind k →
    new ≡ before ++ lines_text d l kind (k + 1)
unfolding lines_text
lines_more d l kind k before now new is more =
    let f = line_text d l kind in
    more ∙ ap (λ t. t ++ f k) is ∙ append_assoc before (flat_map f (range_with_len 0 k)) (f k)
    ∙ ap (λ t. before ++ (flat_map f (range_with_len 0 k) ++ t)) (sym (append-nil (f k)))
    ∙ ap (λ t. before ++ t) (sym (flat_map-append f (range_with_len 0 k) (k ∷ [])))
    ∙ ap (λ ks. before ++ flat_map f ks) (sym (below_more k))

pub no_lines : (d l : ℕ) (kind : LineKind) (before : List ℕ) →
    before ≡ before ++ lines_text d l kind 0
unfolding lines_text
no_lines d l kind before = sym (append-nil before)

-- the whole header, piece after piece
grouped : (b f p i m r c l : List ℕ) →
    ((((((b ++ f) ++ p) ++ i) ++ m) ++ r) ++ c) ++ l
    ≡ b ++ ((((((f ++ p) ++ i) ++ m) ++ r) ++ c) ++ l)
grouped b f p i m r c l = simp append_assoc

pub header_whole : (d n l merges conds : ℕ) (b t1 t2 t3 t4 t5 t6 t7 : List ℕ) →
    merges ≡ merge_count d n l → conds ≡ cond_count d n l →
    t1 ≡ b ++ first_lines d → t2 ≡ t1 ++ lines_text d l Patch n →
    t3 ≡ t2 ++ lines_text d l Init n → t4 ≡ t3 ++ lines_text d l Merge merges →
    t5 ≡ t4 ++ lines_text d l Read n → t6 ≡ t5 ++ lines_text d l Cond conds →
    t7 ≡ t6 ++ last_line → t7 ≡ b ++ made_header d n l
unfolding made_header
header_whole d n l merges conds b t1 t2 t3 t4 t5 t6 t7 ms cs e1 e2 e3 e4 e5 e6 e7 =
    let f = first_lines d in
    let p = lines_text d l Patch n in
    let i = lines_text d l Init n in
    let r = lines_text d l Read n in
    e7 ∙ ap (λ t. t ++ last_line) (e6 ∙ ap (λ t. t ++ lines_text d l Cond conds) (e5
    ∙ ap (λ t. t ++ r) (e4 ∙ ap (λ t. t ++ lines_text d l Merge merges) (e3
    ∙ ap (λ t. t ++ i) (e2 ∙ ap (λ t. t ++ p) e1)))))
    ∙ grouped b f p i (lines_text d l Merge merges) r (lines_text d l Cond conds) last_line
    ∙ ap (λ k. b ++ ((((((f ++ p) ++ i) ++ lines_text d l Merge k) ++ r)
    ++ lines_text d l Cond conds) ++ last_line)) ms
    ∙ ap (λ k. b ++ ((((((f ++ p) ++ i) ++ lines_text d l Merge (merge_count d n l)) ++ r)
    ++ lines_text d l Cond k) ++ last_line)) cs

-- the first three lines
pub first_whole : (d : ℕ) (t0 t1 t2 t3 : List ℕ) →
    t1 ≡ t0 ++ line (codes "swiper" ∷ codes "1" ∷ []) →
    t2 ≡ t1 ++ line (codes "distance" ∷ decimal d ∷ []) →
    t3 ≡ t2 ++ line (codes "weights" ∷ codes "10" ∷ codes "10" ∷ []) → t3 ≡ t0 ++ first_lines d
first_whole d t0 t1 t2 t3 e1 e2 e3 =
    let v = line (codes "swiper" ∷ codes "1" ∷ []) in
    let w = line (codes "weights" ∷ codes "10" ∷ codes "10" ∷ []) in
    let m = line (codes "distance" ∷ decimal d ∷ []) in
    e3 ∙ ap (λ t. t ++ w) (e2 ∙ ap (λ t. t ++ m) e1) ∙ three t0 v m w
  where
    three : (a b c e : List ℕ) → ((a ++ b) ++ c) ++ e ≡ a ++ ((b ++ c) ++ e)
    three a b c e = simp append_assoc
