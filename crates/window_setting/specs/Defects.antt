-- What the dependencies of a window leave it of its values.
use Rattle.std.specs.Prelude.{◌≡◌, ◌<◌, ℕ, Bool, true, List, map}
use Rattle.graph_model.specs.Graph.{boundary, is_in}
use Rattle.window_model.specs.Decoder.{Task, Syndrome, incoming}
use Rattle.window_model.specs.Progress.{HasValues}
use Rattle.window_model.specs.Speculation.{Claim, Link, Machine, defect_of, sources_of, syndrome_of}
use Rattle.window_model.specs.Windows.{places, window_at}

-- each window's edges are its own
pub record IsOfOwners (task : Task) (kept : ℕ → List ℕ) : Type 0 where
  pub owned : (w e : ℕ) → is_in (kept w) e ≡ true → is_in (window_at task.plan w).owned e ≡ true

-- what the windows' edges flip of window w: for each dependency a bit for each of the places that
-- the two share
abbrev pub links_of : Task → (ℕ → List ℕ) → ℕ → List (List Bool)
links_of task kept w = map (λ x. map (boundary task.graph (kept x))
    (places task.graph task.plan x w)) (window_at task.plan w).deps

-- These are the window's incoming defects for every syndrome that has the values up to its last
-- slot, and for all edges that its dependencies keep with these links.
pub record AreDefects (task : Task) (w : ℕ) (values : List Bool) (links : List (List Bool))
    (defects : List Bool) : Type 0 where
  pub defect : (s : Syndrome) (arrived : ℕ) (kept : ℕ → List ℕ) → (window_at task.plan w).last
      < arrived → HasValues task s arrived values → IsOfOwners task kept →
      links ≡ links_of task kept w →
      defects ≡ map (incoming task s kept w) (window_at task.plan w).detectors

-- These are the defects of every claim of the window whose links, one for each dependency, have
-- these bits, where the machine has the values up to the window's last slot.
pub record AreClaimDefects (task : Task) (w : ℕ) (values : List Bool) (links : List (List Bool))
    (defects : List Bool) : Type 0 where
  pub defect : (m : Machine) (claim : Claim) → (window_at task.plan w).last < m.arrived →
      HasValues task (syndrome_of m) m.arrived values → claim.window ≡ w →
      sources_of claim.links ≡ (window_at task.plan w).deps →
      map (λ (link : Link). link.bits) claim.links ≡ links →
      defects ≡ map (defect_of task m.value claim) (window_at task.plan w).detectors
