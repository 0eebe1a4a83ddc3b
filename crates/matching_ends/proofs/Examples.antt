-- Mates of six vertices, and a ring that is read off by its name.
use Rattle.std.proofs.Common.{◌≡◌, ℕ, ◌==◌, Bool, true, cond, List, [], ◌∷◌, refl}
use Rattle.std.specs.Prelude.{ℤ, pos}
use Rattle.matching_model.specs.Blossoms.{Blossom, vertex, none, link, Side}
use Rattle.matching_ends.specs.Mated.{LeavesOut, alone, ring, TwoByTwo, no_more, two_more, mated_pairs}
use Rattle.matching_ends.specs.Named.{AreNamed, numbers_by}

-- 0 and 1 are mates, 2 and 3, 4 and 5
abbrev mate : ℕ → ℕ
mate v = cond (v == 0) 1 (cond (v == 1) 0 (cond (v == 2) 3 (cond (v == 3) 2 (cond (v == 4) 5 4))))

three_pairs : mated_pairs 6 mate ≡ (0, 1) ∷ (2, 3) ∷ (4, 5) ∷ []
three_pairs = refl

-- a ring of 1, 2 and 3 leaves 1 out, since 2 and 3 are mates
abbrev joint : ℕ → ℕ → Side
joint v w = record { body = vertex v; number = pos 0; out = v; into = w }

abbrev three : Blossom
three = link (vertex 1) (pos 0) 1 2 (link (vertex 2) (pos 0) 2 3 (link (vertex 3) (pos 0) 3 1 none))

leaves_one : LeavesOut mate three 1
leaves_one = ring [] (joint 1 2) (joint 2 3 ∷ joint 3 1 ∷ []) refl alone others
  where
    others : TwoByTwo mate (joint 2 3 ∷ joint 3 1 ∷ [])
    others = two_more {s = joint 2 3} {t = joint 3 1} (refl, refl) alone alone no_more

-- the set 7 has the vertices 1, 2 and 3 and the number 4
abbrev holds : ℕ → ℕ → Bool
holds s u = cond (s == 7) (cond (u == 1) true (cond (u == 2) true (u == 3))) (s == u)

by_name : AreNamed holds (λ s. pos 4) (7 ∷ []) ((1 ∷ 2 ∷ 3 ∷ [], pos 4) ∷ []) →
    (numbers_by 5 (λ u. pos u) holds (λ s. pos 4) (7 ∷ [])).sets ≡ (1 ∷ 2 ∷ 3 ∷ [], pos 4) ∷ []
by_name named = refl

without_number : (numbers_by 5 (λ u. pos u) holds (λ s. pos 0) (7 ∷ [])).sets ≡ []
without_number = refl
