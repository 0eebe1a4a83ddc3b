-- What a kept set flips at the places of two windows.
use Rattle.std.proofs.Common.{◌≡◌, ℕ, List, map, ap, ◌∙◌}
use Rattle.graph_model.specs.Graph.{DetectorGraph, boundary}
use Rattle.window_model.specs.Decoder.{Task, owned_part}
use Rattle.window_model.specs.Speculation.{flips_at}
use Rattle.window_model.specs.Windows.{places}

pub flips_are : (task : Task) (x w : ℕ) (set : List ℕ) (g : DetectorGraph) (kept here : List ℕ) →
    g ≡ task.graph → kept ≡ owned_part task x set → here ≡ places task.graph task.plan x w →
    map (boundary g kept) here ≡ flips_at task x w set
flips_are task x w set g kept here graph owned is =
    ap (λ h. map (boundary h kept) here) graph
    ∙ ap (λ s. map (boundary task.graph s) here) owned
    ∙ ap (map (boundary task.graph (owned_part task x set))) is
