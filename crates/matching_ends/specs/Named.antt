-- A certificate that is read off by the names of the sets, in whatever order these come.
use Rattle.std.specs.Prelude.{◌≡◌, ◌<◌, ℕ, Bool, true, List, [], ◌∷◌, map, filter, ℤ}
use Rattle.std.specs.List.{range_with_len}
use Rattle.graph_model.specs.Graph.{is_in}
use Rattle.matching_model.specs.Matchings.{AreApart}
use Rattle.matching_model.specs.Certificates.{Certificate, IsDual, whole_sum}
use Rattle.matching_model.specs.Blossoms.{Blossom}
use Rattle.matching_model.specs.Numbers.{own, rings, is_positive, numbers_of}

-- each name tells of the ring at its place which vertices it has, and its number
abbrev pub AreNamed : (ℕ → ℕ → Bool) → (ℕ → ℤ) → List ℕ → List (List ℕ × ℤ) → Type 0
AreNamed has number [] [] = Unit {0}
AreNamed has number [] (r ∷ rs) = ⊥
AreNamed has number (s ∷ ss) [] = ⊥
AreNamed has number (s ∷ ss) (r ∷ rs) = ((u : ℕ) → is_in r.0 u ≡ has s u) × (r.1 ≡ number s)
    × AreNamed has number ss rs

-- the set of a name: those of n vertices that it has, ascending, and its number
abbrev pub named_set : ℕ → (ℕ → ℕ → Bool) → (ℕ → ℤ) → ℕ → List ℕ × ℤ
named_set n has number s = (filter (has s) (range_with_len 0 n), number s)

-- the numbers of n vertices, and the named sets whose numbers are above 0
abbrev pub numbers_by : ℕ → (ℕ → ℤ) → (ℕ → ℕ → Bool) → (ℕ → ℤ) → List ℕ → Certificate
numbers_by n alone has number names = record {
  vertex = map alone (range_with_len 0 n);
  sets = map (named_set n has number) (filter (λ s. is_positive (number s)) names);
}

-- the same names, each once
pub record AreSame (ss ts : List ℕ) : Type 0 where
  pub apart : AreApart ss
  pub others_apart : AreApart ts
  pub to : (s : ℕ) → is_in ss s ≡ true → is_in ts s ≡ true
  pub from : (s : ℕ) → is_in ts s ≡ true → is_in ss s ≡ true

-- a certificate by names is as good as that of the nested rings
abbrev pub NamesLaw : Type 0
NamesLaw = (dist : ℕ → ℕ → ℕ) (n : ℕ) (r : Blossom) → IsDual n dist (numbers_of n r) →
    (alone : ℕ → ℤ) → ((u : ℕ) → u < n → alone u ≡ own r u) →
    (has : ℕ → ℕ → Bool) (number : ℕ → ℤ) (ss names : List ℕ) → AreNamed has number ss (rings r) →
    AreSame ss names → IsDual n dist (numbers_by n alone has number names)
    × (whole_sum (numbers_by n alone has number names) ≡ whole_sum (numbers_of n r))
