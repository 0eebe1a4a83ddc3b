-- A new forest is in range.
use Rattle.std.proofs.Common.{◌≡◌, ◌<◌, ◌≤◌, ◌-◌, ℕ, zero, suc, All, length, replicate, arith, length-append}
use Rattle.std.specs.List.{range_with_len}
use Rattle.std.proofs.lemmas.List.Elements.{All-append, All-replicate}
use Rattle.std.proofs.lemmas.List.FromFn.{get_or-range_with_len, length-range_with_len}
use Rattle.std.proofs.Math.ListN.{length-replicate}
use Rattle.blossom_nest.specs.Nests.{most_vertices}
use Rattle.blossom_forest.specs.Trees.{IsInRange, IsTie, itself, names, nowhere, unmatched}

zeros_low : (n m : ℕ) → (0 < m → 0 < n) → All (λ v. v < n) (replicate m 0)
zeros_low n zero h = λ k d l. absurd (omega (arith, l))
zeros_low n (suc m) h = All-replicate (λ v. v < n) (suc m) 0 (h (omega arith))

range_low : (n : ℕ) → All (λ v. v < n) (range_with_len 0 n)
range_low n = λ k d l. let low : k < n = omega (arith, length-range_with_len 0 n, l) in
    let is = get_or-range_with_len 0 n k d low in omega (arith, is, low)

itself_low : (n places : ℕ) → (n < places → 0 < n) → All (λ v. v < n) (itself n places)
itself_low n places h =
    All-append (λ v. v < n) (range_with_len 0 n) (replicate (places - n) 0)
    (range_low n)
    (zeros_low n (places - n) (λ l. h (omega arith)))

itself_len : (n places : ℕ) → n ≤ places → length (itself n places) ≡ places
itself_len n places l = omega (
  arith,
  length-append (range_with_len 0 n) (replicate (places - n) 0),
  length-range_with_len 0 n,
  length-replicate {A = ℕ} (places - n) 0,
)

ties_low : (n m : ℕ) → (0 < m → 0 < n) → All (IsTie n) (replicate m nowhere)
ties_low n zero h = λ k d l. absurd (omega (arith, l))
ties_low n (suc m) h = let p : 0 < n = h (omega arith) in
    All-replicate (IsTie n) (suc m) nowhere (p, p)

pub fresh : (n : ℕ) → n ≤ most_vertices → IsInRange (unmatched n)
fresh n l = record {
  few = l;
  marks = length-replicate (names n) _;
  labels = itself_len n (names n) (omega arith);
  bases = itself_len n (names n) (omega arith);
  links = length-replicate (names n) nowhere;
  joints = length-replicate (names n) nowhere;
  mates = itself_len n n (omega arith);
  label_below = itself_low n (names n) (λ h. omega arith);
  base_below = itself_low n (names n) (λ h. omega arith);
  link_below = ties_low n (names n) (λ h. omega arith);
  joint_below = ties_low n (names n) (λ h. omega arith);
  mate_below = itself_low n n (λ h. omega arith);
}
