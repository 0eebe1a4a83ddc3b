-- What moves did so far: what was put, and how many slot lines are begun.
use Rattle.std.specs.Prelude.{ℕ, ◌+◌, Bool, ◌==◌, if◌then◌else◌, List, [], ◌∷◌, filter_map, map, Option, None, Some}
use Rattle.window_model.specs.Decoder.{Step, Arrive, Commit, Release}
use Rattle.report_model.specs.Tapes.{Move, Take, Put}

-- an operation's release, as it is put and as it is a step
abbrev pub put_in : Move → Option (ℕ × Bool)
put_in (Take byte) = None
put_in (Put op bit) = Some (op, bit)

abbrev pub release_in : Step → Option (ℕ × Bool)
release_in (Arrive slot) = None
release_in (Commit window set) = None
release_in (Release op bit) = Some (op, bit)

-- the releases that are put, in order, and those of a run
abbrev pub puts_of : List Move → List (ℕ × Bool)
puts_of moves = filter_map put_in moves

abbrev pub releases_of : List Step → List (ℕ × Bool)
releases_of steps = filter_map release_in steps

-- the lines of these releases are put, in order
abbrev pub put_moves : List (ℕ × Bool) → List Move
put_moves releases = map (λ (r : ℕ × Bool). Put r.0 r.1) releases

-- so many lines are begun after the moves, where so many were begun before, and the next byte may
-- begin one
abbrev pub begun_after : ℕ → Bool → List Move → ℕ
begun_after begun fresh [] = begun
begun_after begun fresh (Take byte ∷ moves) =
    begun_after (if fresh then begun + 1 else begun) (byte == 10) moves
begun_after begun fresh (Put op bit ∷ moves) = begun_after begun fresh moves

-- whether the next byte begins a line
abbrev pub fresh_after : Bool → List Move → Bool
fresh_after fresh [] = fresh
fresh_after fresh (Take byte ∷ moves) = fresh_after (byte == 10) moves
fresh_after fresh (Put op bit ∷ moves) = fresh_after fresh moves
