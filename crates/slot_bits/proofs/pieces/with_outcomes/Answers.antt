use Rattle.std.proofs.Common.{◌≡◌, ◌||◌, ap, ◌∙◌}
use Rattle.std.proofs.lemmas.Result.{IfOk-weaker}
use Rattle.surface_model.specs.Measurements as measurements
use Rattle.slot_bits.specs.Order.{has_bit, is_outcome_in}
use Rattle.slot_bits.specs.Seen.{bits_of}
use Rattle.slot_bits.proofs.Adding.{outcomes_added}
use Rattle.slot_bits.proofs.pieces.with_outcomes.Goals as goal

pub returns-clause-members : goal.returns-clause-members
returns-clause-members c =
    let line = bits_of c.args.bits.now in
    IfOk-weaker c.union.result (λ v. (b : measurements.Bit) →
    has_bit (bits_of v.items) b ≡ has_bit line b || has_bit (bits_of c.deref.result.now) b)
    (λ v. (b : measurements.Bit) →
    has_bit (bits_of v.items) b ≡ has_bit line b || is_outcome_in c.args.region b)
    (λ v h. outcomes_added line (bits_of c.deref.result.now) (bits_of v.items) c.args.region
    (ap bits_of c.deref.ensures.value ∙ c.in_ok-piece.ensures.list) h) c.union.ensures.members
