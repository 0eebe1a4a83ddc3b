-- A patch is read at slot 1, and an operation on another, in slot 2, needs what was read: tapes on
-- which
-- its release stands in time, too late, twice, not at all, or with another bit.
use Rattle.std.proofs.Common.{◌≡◌, ℕ, zero, suc, Bool, true, false, List, [], ◌∷◌, ◌++◌, ◌≤◌, map, codes, refl, arith, All, Contains}
use Rattle.std.proofs.lemmas.List.Elements.{All-cons, All-nil}
use Rattle.window_model.specs.Decoder.{Task, Step, Arrive, Commit, Release}
use Rattle.report_model.specs.Tapes.{Move, Take, Put, IsTimed, IsPut, AreInTime, AreAllPut}

-- the operation stands in slot 2, and needs the first of two observables
abbrev task : Task
task = record {
  graph = record { vertices = 0; edges = [] };
  tags = [];
  plan = record { cells = []; homes = []; windows = [] };
  operations = record { slot = 2; labels = 0 ∷ [] } ∷ [];
  raw_slots = 1 ∷ 3 ∷ [];
  last_slot = 3;
}

abbrev steps : List Step
steps = Arrive 0 ∷ Arrive 1 ∷ Commit 0 (2 ∷ []) ∷ Release 0 false ∷ Arrive 2 ∷ Arrive 3 ∷ Commit 1
    [] ∷ []

-- a slot's line, and what comes after it
abbrev line : List ℕ → List Move → List Move
line bits rest = map Take bits ++ (Take 10 ∷ rest)

-- the lines of slots 0 and 1
abbrev read_patch : List Move → List Move
read_patch rest = line (codes "0000100000000000") (line (codes "00100000000000000") rest)

-- those of slots 2 and 3
abbrev last_line : List Move
last_line = line (codes "000000000") []

abbrev other_patch : List Move
other_patch = line (codes "00000000") last_line

-- what holds of each byte taken holds of a line
lined : (P : Move → Type 0) → ((byte : ℕ) → P (Take byte)) → (bits : List ℕ) (rest : List Move) →
    All P rest → All P (line bits rest)
lined P each [] rest all = All-cons P (Take 10) rest (each 10) all
lined P each (bit ∷ bits) rest all = All-cons P (Take bit) (line bits rest) (each bit)
    (lined P each bits rest all)

-- ---- in time: after the line of slot 1

abbrev moves : List Move
moves = read_patch (Put 0 false ∷ other_patch)

all_released : All (IsPut steps) moves
all_released =
    lined (IsPut steps) (λ byte. tt) (codes "0000100000000000")
    (line (codes "00100000000000000") (Put 0 false ∷ other_patch))
    (lined (IsPut steps) (λ byte. tt) (codes "00100000000000000") (Put 0 false ∷ other_patch)
    (All-cons (IsPut steps) (Put 0 false) other_patch (3, omega arith, refl)
    (lined (IsPut steps) (λ byte. tt) (codes "00000000") last_line
    (lined (IsPut steps) (λ byte. tt) (codes "000000000") [] (All-nil (IsPut steps))))))

in_time : AreInTime task steps moves
in_time = record {
  released = all_released;
  once = λ i j d l m. absurd (omega (arith, l, m));
  timed = (omega arith, tt);
}

all_put : AreAllPut steps moves
all_put op bit (zero, l, is) = absurd cc
all_put op bit (suc zero, l, is) = absurd cc
all_put op bit (suc (suc zero), l, is) = absurd cc
all_put op bit (suc (suc (suc zero)), l, is) = (35, omega arith, cc)
all_put op bit (suc (suc (suc (suc zero))), l, is) = absurd cc
all_put op bit (suc (suc (suc (suc (suc zero)))), l, is) = absurd cc
all_put op bit (suc (suc (suc (suc (suc (suc zero))))), l, is) = absurd cc
all_put op bit (suc (suc (suc (suc (suc (suc (suc n)))))), l, is) = absurd (omega (arith, l))

-- before any line it would be in time too
at_the_start : IsTimed task 0 true (Put 0 false ∷ read_patch other_patch)
at_the_start = (omega arith, tt)

-- ---- too late: after the first bit of slot 2, or after its line

late : (n : ℕ) → suc (suc (suc n)) ≤ 2 → ⊥
late n l = omega (arith, l)

behind_a_bit : AreInTime task steps (read_patch (Take 48 ∷ Put 0 false ∷ other_patch)) → ⊥
behind_a_bit h = late 0 h.timed.0

behind_the_line : AreInTime task steps (read_patch
    (line (codes "00000000") (Put 0 false ∷ last_line))) → ⊥
behind_the_line h = late 0 h.timed.0

-- ---- put twice, both times in time

twice : AreInTime task steps (line (codes "0000100000000000")
    (Put 0 false ∷ line (codes "00100000000000000") (Put 0 false ∷ other_patch))) → ⊥
twice both = both.once 0 1 0 (omega arith) (omega arith) refl

both_timed : IsTimed task 0 true (line (codes "0000100000000000")
    (Put 0 false ∷ line (codes "00100000000000000") (Put 0 false ∷ other_patch)))
both_timed = (omega arith, (omega arith, tt))

-- ---- left out

abbrev Other : Move → Type 0
Other move = move ≡ Put 0 false → ⊥

none_put : All Other (read_patch other_patch)
none_put =
    lined Other (λ byte e. cc) (codes "0000100000000000")
    (line (codes "00100000000000000") other_patch)
    (lined Other (λ byte e. cc) (codes "00100000000000000") other_patch
    (lined Other (λ byte e. cc) (codes "00000000") last_line
    (lined Other (λ byte e. cc) (codes "000000000") [] (All-nil Other))))

left_out : AreAllPut steps (read_patch other_patch) → ⊥
left_out all = by (all 0 false (3, omega arith, refl))
  where
    by : Contains (read_patch other_patch) (Put 0 false) → ⊥
    by k = none_put k.0 (Put 0 false) k.1 k.2

-- ---- with the other bit

other_bit : IsPut steps (Put 0 true) → ⊥
other_bit (zero, l, is) = cc
other_bit (suc zero, l, is) = cc
other_bit (suc (suc zero), l, is) = cc
other_bit (suc (suc (suc zero)), l, is) = cc
other_bit (suc (suc (suc (suc zero))), l, is) = cc
other_bit (suc (suc (suc (suc (suc zero)))), l, is) = cc
other_bit (suc (suc (suc (suc (suc (suc zero))))), l, is) = cc
other_bit (suc (suc (suc (suc (suc (suc (suc n)))))), l, is) = omega (arith, l)
