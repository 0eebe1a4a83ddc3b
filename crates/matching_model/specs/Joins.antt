-- From a matching to a correction: each pair of members is joined by the edges of a walk of least
-- weight, and the edges that stand in an odd number of the walks are the correction.
use Rattle.std.specs.Prelude.{◌≡◌, ◌≤◌, ◌<◌, ℕ, ◌*◌, ◌%◌, ◌==◌, List, [], ◌∷◌, ◌++◌, length, map, All, Contains, sum_by, pos}
use Rattle.std.specs.List.Sorted.{IsStrictlyIncreasing}
use Rattle.graph_model.specs.Graph.{is_in}
use Rattle.graph_model.specs.Parity.{◌⊕◌, parity}
use Rattle.graph_model.specs.Problems.{Problem, meets, problem_weight, Solves}
use Rattle.graph_model.specs.declared.PartEdge.{PartEdge}
use Rattle.matching_model.specs.Matchings.{IsPerfectMatching, matching_cost}
use Rattle.matching_model.specs.Certificates.{IsProblem, Certificate, Fits, IsDual, AreDistances, free_end, members, member_at, whole_sum}

-- a set of edges that joins two members at a cost of at most d: its boundary is the two, or nothing
-- where they are one
pub record IsJoin (p : Problem) (i j d : ℕ) (set : List ℕ) : Type 0 where
  pub within : All (Contains (map (λ (edge : PartEdge). edge.edge) p.part.edges)) set
  pub odd : (x : ℕ) → x < free_end p → parity (meets p.part x) set ≡ (member_at p i == x)
      ⊕ (member_at p j == x)
  pub cost : sum_by (problem_weight p) set ≤ d

-- each pair is joined by the set at its place
abbrev pub AreJoins : Problem → (ℕ → ℕ → ℕ) → List (ℕ × ℕ) → List (List ℕ) → Type 0
AreJoins p dist [] [] = Unit {0}
AreJoins p dist (pair ∷ pairs) (set ∷ sets) = IsJoin p pair.0 pair.1 (dist pair.0 pair.1) set
    × AreJoins p dist pairs sets
AreJoins p dist [] (set ∷ sets) = ⊥
AreJoins p dist (pair ∷ pairs) [] = ⊥

-- all lists, end to end
abbrev pub all_of : List (List ℕ) → List ℕ
all_of [] = []
all_of (xs ∷ xss) = xs ++ all_of xss

-- the numbers that stand in an odd number of the sets
pub record IsSymmetricDifference (sets : List (List ℕ)) (set : List ℕ) : Type 0 where
  pub ascending : IsStrictlyIncreasing set
  pub odd : (e : ℕ) → is_in set e ≡ parity (λ d. d == e) (all_of sets)

-- numbers for the members that reach the cost of a perfect matching show it least
abbrev pub MatchingDuality : Type 0
MatchingDuality = (n : ℕ) (dist : ℕ → ℕ → ℕ) (c : Certificate) → ((i j : ℕ) → dist i j ≡ dist j i) →
    IsDual n dist c → (pairs : List (ℕ × ℕ)) → IsPerfectMatching n pairs →
    whole_sum c ≡ pos (2 * matching_cost dist pairs) →
    (others : List (ℕ × ℕ)) → IsPerfectMatching n others →
    matching_cost dist pairs ≤ matching_cost dist others

-- and they fit the set of edges that its walks make
abbrev pub JoinLaw : Type 0
JoinLaw = (p : Problem) → IsProblem p → (dist : ℕ → ℕ → ℕ) → AreDistances p dist →
    (c : Certificate) → IsDual (length (members p)) dist c →
    (pairs : List (ℕ × ℕ)) → IsPerfectMatching (length (members p)) pairs →
    whole_sum c ≡ pos (2 * matching_cost dist pairs) →
    (sets : List (List ℕ)) → AreJoins p dist pairs sets → (set : List ℕ) →
    IsSymmetricDifference sets set → Fits p dist set c

-- a cheapest perfect matching of the members gives a least set
abbrev pub PairingLaw : Type 0
PairingLaw = (p : Problem) → IsProblem p → (dist : ℕ → ℕ → ℕ) → AreDistances p dist →
    (pairs : List (ℕ × ℕ)) → IsPerfectMatching (length (members p)) pairs →
    ((others : List (ℕ × ℕ)) → IsPerfectMatching (length (members p)) others →
    matching_cost dist pairs ≤ matching_cost dist others) →
    (sets : List (List ℕ)) → AreJoins p dist pairs sets → (set : List ℕ) →
    IsSymmetricDifference sets set → Solves p set

-- the members are even in number
abbrev pub EvenMembersLaw : Type 0
EvenMembersLaw = (p : Problem) → length (members p) % 2 ≡ 0
