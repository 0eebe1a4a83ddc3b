-- Lists that slots share, as one more is added.
use Rattle.std.proofs.Common.{◌≡◌, ◌<◌, ℕ, refl, sym, ap, ◌∙◌, List, [], ◌∷◌, ◌++◌, All, length, map, get_or}
use Rattle.std.proofs.Math.Seq.{get_or-append_seam}
use Rattle.std.proofs.lemmas.List.{get_or_append_left, length-map, map-append}
use Rattle.std.proofs.lemmas.List.Elements.{All-head, All-tail}
use Rattle.surface_model.specs.Measurements.{Bit}
use Rattle.slot_bits.specs.Shared.{IsShared, lists_in}

kept_lists : (lines : List (List Bit)) (line : List Bit) (numbers : List ℕ) →
    All (λ n. n < length lines) numbers →
    lists_in (lines ++ line ∷ []) numbers ≡ lists_in lines numbers
kept_lists lines line [] h = refl
kept_lists lines line (n ∷ numbers) h =
    ap (λ x. x ∷ lists_in (lines ++ line ∷ []) numbers)
    (get_or_append_left lines (line ∷ []) [] n (All-head (λ n. n < length lines) n numbers h))
    ∙ ap (λ xs. get_or lines n [] ∷ xs)
    (kept_lists lines line numbers (All-tail (λ n. n < length lines) n numbers h))

pub list_added : (lines : List (List Bit)) (line : List Bit) (numbers : List ℕ) →
    All (λ n. n < length lines) numbers →
    lists_in (lines ++ line ∷ []) (numbers ++ length lines ∷ []) ≡ lists_in lines numbers ++ line
    ∷ []
list_added lines line numbers h =
    map-append (λ n. get_or (lines ++ line ∷ []) n []) numbers (length lines ∷ [])
    ∙ ap (λ xs. xs ++ get_or (lines ++ line ∷ []) (length lines) [] ∷ [])
    (kept_lists lines line numbers h)
    ∙ ap (λ x. lists_in lines numbers ++ x ∷ []) (get_or-append_seam lines line [] [])

pub table_more : {X : Type 0} (view : X → List Bit) (lines all : List X) (numbers more : List ℕ)
    (line : X) (count : ℕ) (table : List (List Bit)) → all ≡ lines ++ line ∷ [] →
    more ≡ numbers ++ count ∷ [] → count ≡ length lines →
    IsShared (map view lines) numbers → lists_in (map view lines) numbers ≡ table →
    lists_in (map view all) more ≡ table ++ view line ∷ []
table_more view lines all numbers more line count table a m c h e =
    let long : count ≡ length (map view lines) = c ∙ sym (length-map lines view) in
    ap (λ ls. lists_in (map view ls) more) a ∙ ap (lists_in (map view (lines ++ line ∷ []))) m
    ∙ ap (λ ls. lists_in ls (numbers ++ count ∷ [])) (map-append view lines (line ∷ []))
    ∙ ap (λ k. lists_in (map view lines ++ view line ∷ []) (numbers ++ k ∷ [])) long
    ∙ list_added (map view lines) (view line) numbers h.known
    ∙ ap (λ ls. ls ++ view line ∷ []) e
