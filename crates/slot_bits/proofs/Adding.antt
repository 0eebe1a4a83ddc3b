-- The bits of one region, and a list to which they are added.
use Rattle.std.proofs.Common.{◌≡◌, ◌||◌, ◌∙◌, List, ap, map, subst, sym}
use Rattle.surface_model.specs.Layout.{Region, area, checks}
use Rattle.surface_model.specs.Measurements.{Bit, Readout, Outcome}
use Rattle.slot_bits.specs.Order.{IsRising, has_bit, is_readout_in, is_outcome_in}
use Rattle.slot_bits.proofs.Places.{readouts_rising, readouts_have, outcomes_rising, outcomes_have}

pub readouts_of_rise : (bits : List Bit) (r : Region) →
    bits ≡ map Readout (area r.row r.column r.height r.width) → IsRising bits
readouts_of_rise bits r e = subst IsRising (sym e) (readouts_rising r)

pub outcomes_of_rise : (bits : List Bit) (r : Region) → bits ≡ map Outcome (checks r) →
    IsRising bits
outcomes_of_rise bits r e = subst IsRising (sym e) (outcomes_rising r)

-- a piece that is added
pub readouts_added : (line piece all : List Bit) (r : Region) →
    piece ≡ map Readout (area r.row r.column r.height r.width) →
    ((b : Bit) → has_bit all b ≡ has_bit line b || has_bit piece b) → (b : Bit) →
    has_bit all b ≡ has_bit line b || is_readout_in r b
readouts_added line piece all r p h b = h b ∙ ap (λ bits. has_bit line b || has_bit bits b) p
    ∙ ap (λ x. has_bit line b || x) (readouts_have r b)

pub outcomes_added : (line piece all : List Bit) (r : Region) → piece ≡ map Outcome (checks r) →
    ((b : Bit) → has_bit all b ≡ has_bit line b || has_bit piece b) → (b : Bit) →
    has_bit all b ≡ has_bit line b || is_outcome_in r b
outcomes_added line piece all r p h b = h b ∙ ap (λ bits. has_bit line b || has_bit bits b) p
    ∙ ap (λ x. has_bit line b || x) (outcomes_have r b)
