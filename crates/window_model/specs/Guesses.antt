-- What a guess may rest on, and what the guesses of a claim have to do with whoever makes them.
use Rattle.std.specs.Prelude.{◌≡◌, ◌<◌, ℕ, Bool, false, ◌==◌, ◌&&◌, nat_lt, List, length, All, slice_index, slice_index_or}
use Rattle.std.specs.List.{list_any}
use Rattle.graph_model.specs.Graph.{ends_of, is_in}
use Rattle.window_model.specs.declared.GuessView.{GuessView}
use Rattle.window_model.specs.declared.Origin.TheVariants.{Guess}
use Rattle.window_model.specs.Windows.{edge_passes, home_of, places, slot_of, window_at}
use Rattle.window_model.specs.Decoder.{Task}
use Rattle.window_model.specs.Speculation.{Link, Machine}

-- an arrived detector of window x's own cell, whose value is 1
abbrev pub is_defect_of : Task → Machine → ℕ → ℕ → Bool
is_defect_of task m x u = home_of task.plan.homes u == x && nat_lt (slot_of task.tags u) m.arrived
    && m.value u

-- whether an edge that window x owns joins the detector with such a one
abbrev pub is_linked : Task → Machine → ℕ → ℕ → Bool
is_linked task m x v =
    list_any (edge_passes task.graph (λ edge. is_in (ends_of edge) v
    && list_any (is_defect_of task m x) (ends_of edge))) (window_at task.plan x).owned

-- what a guess of window w about x may rest on, at the detector of one of their places
abbrev pub view_of : Task → Machine → ℕ → ℕ → ℕ → GuessView
view_of task m x w v = record {
  source = x;
  target = w;
  place = v;
  value = m.value v;
  linked = is_linked task m x v;
}

-- each bit of a guess stands in the relation with the view of its place
pub record IsGuessed (may_guess : GuessView → Bool → Type 0) (task : Task) (m : Machine) (w : ℕ)
    (link : Link) : Type 0 where
  pub bit : link.origin ≡ Guess → (i : ℕ) → i < length link.bits →
      may_guess (view_of task m link.source w (slice_index (places task.graph task.plan link.source
      w) i)) (slice_index_or link.bits i false)

-- the guesses of a claim of window w
abbrev pub AreGuessed : (GuessView → Bool → Type 0) → Task → Machine → ℕ → List Link → Type 0
AreGuessed may_guess task m w links = All (IsGuessed may_guess task m w) links
