-- Sums over the sets of a certificate.
use Rattle.std.specs.Prelude.{◌≡◌, ◌≤◌, ℕ, ◌+◌, ◌-◌, ◌*◌, ◌^◌, ◌&&◌, cond, List, length, slice_index, sum_by, ℤ, unsigned_abs}
use Rattle.graph_model.specs.Graph.{is_in}

-- the numbers of the sets that hold a member, added up
abbrev pub held : List (List ℕ × ℤ) → ℕ → ℕ
held sets j = sum_by (λ (s : List ℕ × ℤ). cond (is_in s.0 j) (unsigned_abs s.1) 0) sets

-- the numbers of the sets that hold both members, added up
abbrev pub shared : List (List ℕ × ℤ) → ℕ → ℕ → ℕ
shared sets i j =
    sum_by (λ (s : List ℕ × ℤ). cond (is_in s.0 i && is_in s.0 j) (unsigned_abs s.1) 0) sets

-- the numbers of the sets that hold just one of the two, added up
abbrev pub crossing : List (List ℕ × ℤ) → ℕ → ℕ → ℕ
crossing sets i j = held sets i + held sets j - 2 * shared sets i j

-- fewer than 2^63 numbers of 63 bits add up to no more
abbrev pub sum_limit : ℕ
sum_limit = 2 ^ 126 - 2 ^ 63

-- such a sum for each of so many members
pub record AreSums (count : ℕ) (sum : ℕ → ℕ) (sums : List ℕ) : Type 0 where
  pub count_is : length sums ≡ count
  pub each : (j : ℕ) → slice_index sums j ≡ sum j
  pub low : (j : ℕ) → slice_index sums j ≤ sum_limit
