use Rattle.std.proofs.Common.{arith}
use Rattle.surface_laws.proofs.Flips.{same_place_self}
use Rattle.error_map.specs.Seen.{mechanism_of}
use Rattle.error_map.specs.declared.types.Wanted.TheVariants.{One}
use Rattle.error_map.proofs.changes.effect_of.Goals as goal

pub effect-effect-requires : goal.effect-effect-requires
effect-effect-requires c = omega (arith, c.requires.slot, c.requires.last.1)

pub returns-clause-effect : goal.returns-clause-effect
returns-clause-effect c =
    let q = (mechanism_of c.args.mechanism).place in
    let low = c.requires.slot in let last = c.requires.last.0 in
    c.effect-effect.ensures.effect c.args.schedule.now (One q) c.requires.accepted
    c.in_ok-readings.ensures (same_place_self q) (omega (arith, low, last))
