use Rattle.std.proofs.Common.{◌≡◌, ◌++◌, ◌∷◌, flat_map, take, string_bytes}
use Rattle.std.specs.Fmt.{signed_decimal}
use Rattle.certified_log.proofs.written.write_numbers.Given as goal

abbrev pub invariant-loop-number : goal.invariant-loop-number
invariant-loop-number l = string_bytes l.text ≡ string_bytes l.fn.text
    ++ flat_map (λ z. 32 ∷ signed_decimal z) (take l.number-index l.numbers)
