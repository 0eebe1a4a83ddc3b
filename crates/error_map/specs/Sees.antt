-- Which bits an error changes, by the next readout of its qubit.
use Rattle.std.specs.Prelude.{◌≡◌, ℕ, Bool, false, ◌&&◌, ◌==◌, nat_le, nat_lt, List, ◌∷◌, Option, None, if◌then◌else◌, map, position, slice_get}
use Rattle.std.specs.List.{filter_map, list_any}
use Rattle.std.specs.Option.{option_map_or}
use Rattle.graph_model.specs.Parity.{parity}
use Rattle.surface_model.specs.declared.Basis.{Basis}
use Rattle.surface_model.specs.declared.Basis.TheVariants.{Z, X}
use Rattle.surface_model.specs.Schedules.{same_basis, Schedule}
use Rattle.surface_model.specs.Layout.{Place, kind, covers, readings_at}
use Rattle.surface_model.specs.Measurements.{Bit, Readout, Outcome, same_bit, same_place}
use Rattle.surface_model.specs.Errors.{ErrorClass, ReadoutError, SpaceX, SpaceZ, OutcomeError, Mechanism, flips_bit, is_readout_of, is_outcome_of, next_readout, watched}
use Rattle.surface_laws.specs.LayoutLaws.{corners}
use Rattle.error_map.specs.Seen.{error_in, next_in, shown_in}
use Rattle.error_map.specs.declared.types.Effect.{Effect}

-- a space error on qubit q from slot t on, where n is the qubit's next readout, which shows it or
-- not, at a bit of slot u
abbrev pub space_sees : Basis → ℕ → Place → ℕ → Bool → ℕ → Bit → Bool
space_sees basis t q n shown u (Outcome corner) =
    nat_le t u && nat_lt u n && same_basis (kind corner) basis && covers corner q
space_sees basis t q n shown u (Readout p) = same_place p q && u == n && shown

abbrev pub class_sees : ErrorClass → ℕ → Place → ℕ → Bool → ℕ → Bit → Bool
class_sees ReadoutError t q n shown u bit = u == t && is_readout_of q bit
class_sees SpaceX t q n shown u bit = space_sees Z t q n shown u bit
class_sees SpaceZ t q n shown u bit = space_sees X t q n shown u bit
class_sees OutcomeError t q n shown u bit = u == t && is_outcome_of q bit

-- whether the mechanism changes the bit of slot u
abbrev pub sees : Effect → ℕ → Bit → Bool
sees f u bit = let e = error_in f in
    class_sees e.class e.slot e.place (next_in f) (shown_in f) u bit

-- at a place of the slot's line
abbrev pub sees_place : Effect → ℕ → List Bit → ℕ → Bool
sees_place f u line k = option_map_or (λ bit. sees f u bit) (slice_get line k) false

-- the bits that an error at a place can change, in the order of a line: the readout of the qubit,
-- and the outcomes at the corners round it
abbrev pub bits_near : Place → List Bit
bits_near q = Readout q ∷ map Outcome (corners q)

-- the place in the slot's line of a bit that the mechanism changes, where the line has it
abbrev pub changed_place : Effect → ℕ → List Bit → Bit → Option ℕ
changed_place f u line bit = if sees f u bit then position (same_bit bit) line else None

-- the places in the slot's line of those of the bits that change, each with the slot
abbrev pub changed_among : Effect → ℕ → List Bit → List Bit → List (ℕ × ℕ)
changed_among f u line bits = map (λ k. (u, k)) (filter_map (changed_place f u line) bits)

-- n is the next readout of a space error's qubit, and is in the basis in which the error is seen or
-- not; of the others it is their slot
abbrev pub IsShown : Schedule → ErrorClass → ℕ → Place → ℕ → Bool → Type 0
IsShown s ReadoutError t q n shown = n ≡ t
IsShown s SpaceX t q n shown =
    (n ≡ next_readout s t q) × (shown ≡ list_any (same_basis Z) (readings_at s n q))
IsShown s SpaceZ t q n shown =
    (n ≡ next_readout s t q) × (shown ≡ list_any (same_basis X) (readings_at s n q))
IsShown s OutcomeError t q n shown = n ≡ t

abbrev pub IsEffect : Schedule → Effect → Type 0
IsEffect s f = let e = error_in f in IsShown s e.class e.slot e.place (next_in f) (shown_in f)

-- whether the mechanism flips the observable of this number
abbrev pub flips_observable : Schedule → Mechanism → ℕ → Bool
flips_observable s e n =
    option_map_or (λ bits. parity (flips_bit s e) bits) (slice_get (watched s) n) false
