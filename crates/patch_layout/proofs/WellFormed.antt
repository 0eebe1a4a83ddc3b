-- The regions of a schedule are well formed.
use Rattle.std.proofs.Common.{◌≡◌, ℕ, zero, suc, ◌+◌, ◌*◌, ◌%◌, ◌<◌, ◌≤◌, arith, length}
use Rattle.std.proofs.Math.Nat.{mul-le-mul_right}
use Rattle.surface_model.specs.Schedules.{Schedule}
use Rattle.surface_model.specs.Layout.{no_patch, patch_at, region_of_patch}
use Rattle.surface_model.specs.Accepted.{IsInRange}
use Rattle.patch_layout.specs.Seen.{IsWellFormed}

even_times : (a n : ℕ) → n % 2 ≡ 0 → (a * n) % 2 ≡ 0
even_times zero n h = omega arith
even_times (suc a) n h = let k = even_times a n h in omega (arith, h, k)

pub record IsSmall (a d : ℕ) : Type 0 where
  pub even : (a * (d + 1)) % 2 ≡ 0
  pub bound : a * (d + 1) ≤ 180

pub small : (a d : ℕ) → a ≤ 15 → d ≤ 11 → d % 2 ≡ 1 → IsSmall a d
small a d h k o =
    let n : (d + 1) % 2 ≡ 0 = omega (arith, o) in
    let b = mul-le-mul_right (d + 1) h in
    record { even = even_times a (d + 1) n; bound = omega (arith, b, k) }

pub square_well_formed : (a b d : ℕ) → a ≤ 15 → b ≤ 15 → d % 2 ≡ 1 → 3 ≤ d → d ≤ 11 →
    IsWellFormed (record { row = a * (d + 1); column = b * (d + 1); height = d; width = d })
square_well_formed a b d h k odd least greatest =
    let u = small a d h greatest odd in
    let v = small b d k greatest odd in
    record {
      even_row = u.even;
      even_column = v.even;
      odd_height = odd;
      odd_width = odd;
      tall = least;
      wide = least;
      bottom = omega (arith, u.bound, greatest);
      right = omega (arith, v.bound, greatest);
    }

pub patch_well_formed : (s : Schedule) (p : ℕ) → IsInRange s → p < length s.patches →
    IsWellFormed (region_of_patch s p)
patch_well_formed s p r l = let t = r.tiles p no_patch l in square_well_formed (patch_at s p).row
    (patch_at s p).column s.distance t.0 t.1 r.odd r.least r.greatest
