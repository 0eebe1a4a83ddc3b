-- The bits of a row, one after another.
use Rattle.std.proofs.Common.{◌≡◌, ℕ, suc, ◌+◌, ◌-◌, ◌<◌, Bool, List, [], ◌∷◌, ◌++◌, length, take, set, sym, ap, subst, ◌∙◌, arith, length-take}
use Rattle.std.proofs.lemmas.List.{map-append, take_more_set}
use Rattle.std.specs.declared.option.Option.{Option}
use Rattle.port_io.specs.Traffic.{Goes, taken}
use Rattle.port_io.specs.declared.port.TapeByte.{TapeByte}
use Rattle.syndrome_source.specs.Rows.{IsRow, IsNoRow, byte_of, written}
use Rattle.syndrome_source.specs.declared.error.RowError.{RowError}
use Rattle.syndrome_source.specs.declared.error.RowError.TheVariants.{Memory}
use Rattle.syndrome_source.proofs.Steps.{row_behind, none_behind}
use Rattle.port_io.proofs.Takings.{bytes_joined}

-- a further bit
pub bit_more : (row row' : List Bool) (i : ℕ) (bit : Bool) (a b c : Option (List ℕ))
    (t u v : Option (List TapeByte)) → i < length row → row' ≡ set row i bit
    → Goes (taken (written (take i row))) a b t u → Goes (taken (byte_of bit ∷ [])) b c u v →
    Goes (taken (written (take (i + 1) row'))) a c t v
bit_more row row' i bit a b c t u v h e p q =
    let longer : take (i + 1) row' ≡ take i row ++ bit ∷ [] = ap (take (i + 1)) e
    ∙ take_more_set row i bit h in
    subst (λ l. Goes (taken l) a c t v)
    (sym (ap written longer ∙ map-append byte_of (take i row) (bit ∷ [])))
    (bytes_joined (written (take i row)) (byte_of bit ∷ []) a b c t u v p q)

-- no further bit
pub no_bit : (row : List Bool) (i number count : ℕ) (error : RowError) (a b c : Option (List ℕ))
    (t u v : Option (List TapeByte)) → length row ≡ count → i < count → (error ≡ Memory → ⊥)
    → Goes (taken (written (take i row))) a b t u
    → (bytes : List ℕ) × Goes (taken bytes) b c u v × ((more : ℕ) (last : Bool) →
    IsNoRow number (suc more) last bytes c error)
    → (bytes : List ℕ) × Goes (taken bytes) a c t v
    × ((last : Bool) → IsNoRow number count last bytes c error)
no_bit row i number count error a b c t u v full h some p (bytes, q, none) =
    let size : count ≡ length (take i row) + suc (count - i - 1) =
    omega (arith, length-take i row) in (
      written (take i row) ++ bytes,
      bytes_joined (written (take i row)) bytes a b c t u v p q,
      λ last. none_behind (take i row) number (suc (count - i - 1)) count last bytes c error size
          some (none (count - i - 1) last),
    )

-- the end of a row, and none
pub row_ended : (row : List Bool) (count : ℕ) (last : Bool) (a b c : Option (List ℕ))
    (t u v : Option (List TapeByte)) → length row ≡ count → Goes (taken (written row)) a b t u
    → (bytes : List ℕ) × Goes (taken bytes) b c u v × IsRow 0 last [] bytes c
    → (bytes : List ℕ) × Goes (taken bytes) a c t v × IsRow count last row bytes c
row_ended row count last a b c t u v full p (bytes, q, is) = (
  written row ++ bytes,
  bytes_joined (written row) bytes a b c t u v p q,
  subst (λ k. IsRow k last row (written row ++ bytes) c) full
      (row_behind row last bytes c is),
)

pub no_end : (row : List Bool) (number count : ℕ) (last : Bool) (error : RowError)
    (a b c : Option (List ℕ)) (t u v : Option (List TapeByte)) → length row ≡ count →
    (error ≡ Memory → ⊥) → Goes (taken (written row)) a b t u
    → (bytes : List ℕ) × Goes (taken bytes) b c u v × IsNoRow number 0 last bytes c error
    → (bytes : List ℕ) × Goes (taken bytes) a c t v × IsNoRow number count last bytes c error
no_end row number count last error a b c t u v full some p (bytes, q, none) =
    let size : count ≡ length row + 0 = omega (arith, full) in (
      written row ++ bytes,
      bytes_joined (written row) bytes a b c t u v p q,
      none_behind row number 0 count last bytes c error size some none,
    )
