-- The walks of a matching, and the edges that lie in an odd number of them.
use Rattle.std.proofs.Common.{◌≡◌, ℕ, List, [], ◌∷◌, ◌++◌, sym, ap, ◌∙◌, append_assoc}
use Rattle.std.proofs.lemmas.List.{append-nil}
use Rattle.graph_model.specs.Problems.{Problem}
use Rattle.matching_model.specs.Joins.{IsJoin, AreJoins, all_of}

pub joins_push : (p : Problem) (dist : ℕ →
    ℕ → ℕ) (pairs : List (ℕ × ℕ)) (sets : List (List ℕ)) (pair : ℕ × ℕ) (set : List ℕ) →
    AreJoins p dist pairs sets → IsJoin p pair.0 pair.1 (dist pair.0 pair.1) set →
    AreJoins p dist (pairs ++ pair ∷ []) (sets ++ set ∷ [])
joins_push p dist [] [] pair set joins one = (one, tt)
joins_push p dist [] (s ∷ ss) pair set joins one = absurd joins
joins_push p dist (q ∷ qs) [] pair set joins one = absurd joins
joins_push p dist (q ∷ qs) (s ∷ ss) pair set joins one =
    (joins.0, joins_push p dist qs ss pair set joins.1 one)

pub all_push : (sets : List (List ℕ)) (set : List ℕ) → all_of (sets ++ set ∷ []) ≡ all_of sets
    ++ set
all_push [] set = append-nil set
all_push (s ∷ ss) set = ap (λ xs. s ++ xs) (all_push ss set) ∙ sym (append_assoc s (all_of ss) set)
