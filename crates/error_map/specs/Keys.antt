-- Keys: the row and the column of a place, and a number.
use Rattle.std.specs.Prelude.{◌≡◌, ◌⊎◌, ◌<◌, ◌≤◌, ℕ, true, false, List, AllPairs, Contains, length, map}
use Rattle.std.specs.Prelude.{slice_get, Option, Some, None}
use Rattle.std.specs.Ordering.{nat_cmp, is_lt, on, then_cmp}
use Rattle.std.specs.declared.cmp.Ordering.{Ordering}
use Rattle.std.specs.declared.cmp.Ordering.TheVariants.{Less}
use Rattle.surface_model.specs.Layout.{Place, Region, area}
use Rattle.error_map.specs.declared.keys.Key.{Key}

abbrev pub key_of : ℕ → Place → Key
key_of n q = record { row = q.row; col = q.column; number = n }

-- the first field that differs decides
abbrev pub compare : Key → Key → Ordering
compare =
    then_cmp (on (λ k. k.row) nat_cmp)
    (then_cmp (on (λ k. k.col) nat_cmp) (on (λ k. k.number) nat_cmp))

-- those of a region's places
abbrev pub region_keys : ℕ → Region → List Key
region_keys n r = map (key_of n) (area r.row r.column r.height r.width)

-- each key is below all later ones
abbrev pub AreRising : List Key → Type 0
AreRising keys = AllPairs (λ one two. compare one two ≡ Less) keys

-- the keys, each once and rising
pub record AreDistinct (keys distinct : List Key) : Type 0 where
  pub rising : AreRising distinct
  pub complete : (key : Key) → Contains keys key → Contains distinct key
  pub inhabited : (key : Key) → Contains distinct key → Contains keys key

-- the keys below the number are below this one; those from it on are not
abbrev pub AreBefore : List Key → Key → ℕ → Type 0
AreBefore keys key n =
    (i : ℕ) (k : Key) → i < n → slice_get keys i ≡ Some k → is_lt (compare k key) ≡ true

abbrev pub AreFrom : List Key → Key → ℕ → Type 0
AreFrom keys key n =
    (i : ℕ) (k : Key) → n ≤ i → slice_get keys i ≡ Some k → is_lt (compare k key) ≡ false

-- so many keys are below this one
pub record IsFirst (keys : List Key) (key : Key) (n : ℕ) : Type 0 where
  pub within : n ≤ length keys
  pub below : AreBefore keys key n
  pub above : AreFrom keys key n

-- what is searched
pub record AreKeys (keys : List Key) : Type 0 where
  pub rising : AreRising keys

-- of the numbers after `start` that the place has a key with the first one, or `end` where there is
-- none
pub record IsNextKey (keys : List Key) (start : ℕ) (q : Place) (end n : ℕ) : Type 0 where
  pub least : (m : ℕ) → start < m → Contains keys (key_of m q) → n ≤ m
  pub found : (n ≡ end) ⊎ ((start < n) × Contains keys (key_of n q))

-- the number of the place's key at this place of the list, where it has one there
abbrev pub IsNumberAt : List Key → ℕ → Place → Option ℕ → Type 0
IsNumberAt keys at q (Some n) = slice_get keys at ≡ Some (key_of n q)
IsNumberAt keys at q None = (n : ℕ) → slice_get keys at ≡ Some (key_of n q) → ⊥
