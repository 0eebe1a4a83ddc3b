use Rattle.std.proofs.Common.{◌∙◌, ap, sym}
use Rattle.slot_bits.specs.Seen.{bit_of}
use Rattle.error_map.specs.Sees.{sees}
use Rattle.error_map.proofs.Seeing.{seen_in}
use Rattle.error_map.specs.declared.types.Effect.{Effect}
use Rattle.error_map.proofs.masks.sees.Goals as goal

pub returns-in-Space : goal.returns-in-Space
returns-in-Space c =
    c.space_sees.ensures ∙ seen_in c.in-Space.error.basis _ _ _ _ _ (bit_of c.args.bit)
    ∙ ap (λ (f : Effect). sees f c.args.slot (bit_of c.args.bit)) (sym c.in-Space.is)
