-- The numbers that bound a graph and its parts.
use Rattle.std.specs.Prelude.{ℕ}

-- the weight of an edge
abbrev pub most_weight : ℕ
most_weight = 1000

-- the observables that edges flip
abbrev pub most_observables : ℕ
most_observables = 512

-- the detectors of a part
abbrev pub most_places : ℕ
most_places = 8192

-- the edges of a graph or a part
abbrev pub most_edges : ℕ
most_edges = 10000000

-- and their ends
abbrev pub most_ends : ℕ
most_ends = 20000000
