-- A line by its first field.
use Rattle.std.specs.Prelude.{ℕ, if◌then◌else◌, List, ◌∷◌, codes, bytes_eq, Option, Some, None}
use Rattle.surface_model.specs.Text.{TextLine}
use Rattle.schedule_reader.specs.declared.line.LineKind.{LineKind}
use Rattle.schedule_reader.specs.declared.line.LineKind.TheVariants.{Swiper, Distance, Weights, Patch, Init, Merge, Read, Cond, Rounds}

abbrev pub word_of : LineKind → List ℕ
word_of Swiper = codes "swiper"
word_of Distance = codes "distance"
word_of Weights = codes "weights"
word_of Patch = codes "patch"
word_of Init = codes "init"
word_of Merge = codes "merge"
word_of Read = codes "read"
word_of Cond = codes "cond"
word_of Rounds = codes "rounds"

abbrev pub kind_of : List ℕ → Option LineKind
kind_of word =
    if bytes_eq word (codes "swiper") then Some Swiper
    else if bytes_eq word (codes "distance") then Some Distance
    else if bytes_eq word (codes "weights") then Some Weights
    else if bytes_eq word (codes "patch") then Some Patch
    else if bytes_eq word (codes "init") then Some Init
    else if bytes_eq word (codes "merge") then Some Merge
    else if bytes_eq word (codes "read") then Some Read
    else if bytes_eq word (codes "cond") then Some Cond
    else if bytes_eq word (codes "rounds") then Some Rounds
    else None

-- the line of this number with these fields after the first
abbrev pub line_of : LineKind → ℕ → List (List ℕ) → TextLine
line_of kind number fields = record { number = number; fields = word_of kind ∷ fields }
