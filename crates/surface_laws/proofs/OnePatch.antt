-- The graphs of one patch are those that the windows' tests are made of.
use Rattle.std.specs.Prelude.{◌≡◌, ℕ, refl}
use Rattle.surface_model.specs.Errors.{graph_of}
use Rattle.surface_model.proofs.Tables.{patch_until}
use Rattle.window_model.proofs.OnePatch.{read_at_one, read_at_two}

first_table : graph_of (patch_until 1 2 3) ≡ read_at_one 2 3
first_table = refl

first_table_any : (s t : ℕ) → graph_of (patch_until 1 s t) ≡ read_at_one s t
first_table_any s t = refl

second_table : (s t : ℕ) → graph_of (patch_until 2 s t) ≡ read_at_two s t
second_table s t = refl
