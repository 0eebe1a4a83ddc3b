-- Lines of words, written word after word.
use Rattle.std.proofs.Common.{◌≡◌, ℕ, ◌<◌, ◌+◌, List, [], ◌∷◌, ◌++◌, map, flat_map, codes, decimal, sym, ap, ◌∙◌, append_assoc, append-nil, length, take, get_or}
use Rattle.std.proofs.lemmas.List.{take_more, flat_map_more}
use Rattle.std.specs.List.{join_with_byte}
use Rattle.report_model.specs.Texts.{line, link_text, step_line}
use Rattle.window_model.specs.Decoder.{Commit}
use Rattle.window_model.specs.Speculation.{Link}
use Rattle.run_report.specs.Words.{field, link_word, spaced}

-- words stand apart by one byte
pub joined : {X : Type 0} (f : X → List ℕ) (word : List ℕ) (xs : List X) →
    join_with_byte 32 (word ∷ map f xs) ≡ word ++ flat_map (λ x. 32 ∷ f x) xs
joined f word [] = sym (append-nil word)
joined f word (x ∷ xs) = ap (λ r. word ++ 32 ∷ r) (joined f (f x) xs)

-- one number more
pub spaced_more : (before numbers : List ℕ) (i d : ℕ) → i < length numbers →
    ((before ++ spaced (take i numbers)) ++ 32 ∷ []) ++ decimal (get_or numbers i d)
    ≡ before ++ spaced (take (i + 1) numbers)
spaced_more before numbers i d l =
    append_assoc (before ++ spaced (take i numbers)) (32 ∷ []) (decimal (get_or numbers i d))
    ∙ flat_map_more (λ n. 32 ∷ decimal n) before (take i numbers) (get_or numbers i d)
    ∙ ap (λ ns. before ++ spaced ns) (sym (take_more numbers i d l))

pub line_whole : (before word numbers : List ℕ) →
    ((before ++ word) ++ spaced numbers) ++ 10 ∷ [] ≡ before ++ line (word ∷ map decimal numbers)
line_whole before word numbers =
    ap (λ r. r ++ 10 ∷ []) (append_assoc before word (spaced numbers))
    ∙ append_assoc before (word ++ spaced numbers) (10 ∷ [])
    ∙ ap (λ r. before ++ (r ++ 10 ∷ [])) (sym (joined decimal word numbers))

pub commit_whole : (before : List ℕ) (window : ℕ) (edges : List ℕ) →
    (((before ++ codes "commit") ++ spaced (window ∷ [])) ++ spaced edges) ++ 10 ∷ []
    ≡ before ++ step_line [] (Commit window edges)
commit_whole before window edges =
    ap (λ r. r ++ 10 ∷ []) (append_assoc (before ++ codes "commit") (spaced (window ∷ []))
    (spaced edges) ∙ ap (λ r. (before ++ codes "commit") ++ r) (together (32 ∷ decimal window)
    (spaced edges))) ∙ line_whole before (codes "commit") (window ∷ edges)
  where
    together : (a b : List ℕ) → (a ++ []) ++ b ≡ a ++ b
    together a b = ap (λ r. r ++ b) (append-nil a)

pub claim_whole : (before : List ℕ) (ticket window : ℕ) (links : List Link) →
    (((before ++ codes "claim") ++ spaced (ticket ∷ window ∷ [])) ++ flat_map link_word links)
    ++ 10 ∷ []
    ≡ before
    ++ line (codes "claim" ∷ decimal ticket ∷ decimal window ∷ map link_text links)
claim_whole before ticket window links =
    at_end (32 ∷ []) (10 ∷ []) (codes "claim") (decimal ticket) (decimal window)
    (flat_map link_word links)
    ∙ ap (λ r. before ++ ((codes "claim" ++ 32 ∷ (decimal ticket ++ 32 ∷ r)) ++ 10 ∷ []))
    (sym (joined link_text (decimal window) links))
  where
    at_end : (space feed word a b rest : List ℕ) →
        (((before ++ word) ++ ((space ++ a) ++ ((space ++ b) ++ []))) ++ rest) ++ feed
        ≡ before ++ ((word ++ (space ++ (a ++ (space ++ (b ++ rest))))) ++ feed)
    at_end space feed word a b rest = simp (append_assoc, append-nil)

pub stale_whole : (before : List ℕ) (ticket : ℕ) →
    ((before ++ codes "stale") ++ spaced (ticket ∷ [])) ++ codes " none\n"
    ≡ before ++ line (codes "stale" ∷ decimal ticket ∷ codes "none" ∷ [])
stale_whole before ticket = at_end (codes "stale") (decimal ticket) (codes "none")
  where
    at_end : (word a b : List ℕ) →
        ((before ++ word) ++ (32 ∷ a ++ [])) ++ (32 ∷ (b ++ 10 ∷ []))
        ≡ before ++ ((word ++ 32 ∷ (a ++ 32 ∷ b)) ++ 10 ∷ [])
    at_end word a b = simp (append_assoc, append-nil)

pub release_whole : (before word label bit : List ℕ) →
    (((((before ++ word) ++ 32 ∷ []) ++ label) ++ 32 ∷ []) ++ bit) ++ 10 ∷ []
    ≡ before ++ line (word ∷ label ∷ bit ∷ [])
release_whole before word label bit = simp append_assoc

pub frame_whole : (before word name raw flip bit : List ℕ) →
    (((((before ++ word ++ 32 ∷ []) ++ name) ++ 32 ∷ raw) ++ 32 ∷ flip) ++ 32 ∷ bit) ++ 10 ∷ []
    ≡ before ++ line (word ∷ name ∷ raw ∷ flip ∷ bit ∷ [])
frame_whole before word name raw flip bit = simp append_assoc

-- a word and five words with their numbers
pub fields_whole : (before word a b c d e : List ℕ) (m n o p q : ℕ) →
    ((((((before ++ word) ++ field a m) ++ field b n) ++ field c o) ++ field d p) ++ field e q)
    ++ 10 ∷ []
    ≡ before ++ line (word ∷ a ∷ decimal m ∷ b ∷ decimal n ∷ c ∷ decimal o ∷ d ∷ decimal p ∷ e
    ∷ decimal q ∷ [])
fields_whole before word a b c d e m n o p q =
    at_end (32 ∷ []) (10 ∷ []) a (decimal m) b (decimal n) c (decimal o) d (decimal p) e (decimal q)
  where
    at_end : (space feed a m b n c o d p e q : List ℕ) →
        ((((((before ++ word) ++ ((space ++ a) ++ (space ++ m))) ++ ((space ++ b) ++ (space ++ n)))
        ++ ((space ++ c) ++ (space ++ o))) ++ ((space ++ d) ++ (space ++ p)))
        ++ ((space ++ e) ++ (space ++ q))) ++ feed
        ≡ before ++ ((word ++ (space ++ (a ++ (space ++ (m ++ (space ++ (b ++ (space ++ (n
        ++ (space ++ (c ++ (space ++ (o ++ (space ++ (d ++ (space ++ (p ++ (space ++ (e
        ++ (space ++ q)))))))))))))))))))) ++ feed)
    at_end space feed a m b n c o d p e q = simp append_assoc

-- text after text, to a line of a word and five words with their numbers
pub fields_chain : (before word a b c d e : List ℕ) (m n o p q : ℕ)
    (t0 t1 t2 t3 t4 t5 t6 : List ℕ) → t0 ≡ before ++ word → t1 ≡ t0 ++ field a m →
    t2 ≡ t1 ++ field b n → t3 ≡ t2 ++ field c o → t4 ≡ t3 ++ field d p → t5 ≡ t4 ++ field e q →
    t6 ≡ t5 ++ 10 ∷ [] →
    t6 ≡ before ++ line (word ∷ a ∷ decimal m ∷ b ∷ decimal n ∷ c ∷ decimal o ∷ d ∷ decimal p ∷ e
    ∷ decimal q ∷ [])
fields_chain before word a b c d e m n o p q t0 t1 t2 t3 t4 t5 t6 e0 e1 e2 e3 e4 e5 e6 =
    e6 ∙ ap (λ t. t ++ 10 ∷ [])
    (e5 ∙ ap (λ t. t ++ field e q)
    (e4 ∙ ap (λ t. t ++ field d p)
    (e3 ∙ ap (λ t. t ++ field c o)
    (e2 ∙ ap (λ t. t ++ field b n)
    (e1 ∙ ap (λ t. t ++ field a m) e0)))))
    ∙ fields_whole before word a b c d e m n o p q

pub parts_chain : (before a b c d t0 t1 t2 t3 : List ℕ) → t0 ≡ before ++ a → t1 ≡ t0 ++ b →
    t2 ≡ t1 ++ c → t3 ≡ t2 ++ d → t3 ≡ before ++ (((a ++ b) ++ c) ++ d)
parts_chain before a b c d t0 t1 t2 t3 e0 e1 e2 e3 =
    e3 ∙ ap (λ t. t ++ d) (e2 ∙ ap (λ t. t ++ c) (e1 ∙ ap (λ t. t ++ b) e0))
    ∙ simp append_assoc
