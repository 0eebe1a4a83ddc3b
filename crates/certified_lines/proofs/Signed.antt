-- Numbers of certificates as words.
use Rattle.std.proofs.Common.{◌≡◌, ◌<◌, ◌^◌, suc, true, List, [], ◌∷◌, map, All, Option, None, Some, SFits, w64, refl, arith}
use Rattle.std.specs.Prelude.{ℤ, pos, negsuc, IfNone}
use Rattle.std.specs.Fmt.{signed_decimal}
use Rattle.std.specs.List.{list_all}
use Rattle.std.proofs.lemmas.Bool.{and_from}
use Rattle.std.proofs.lemmas.Int.{ints}
use Rattle.std.proofs.lemmas.Fmt.{signed_decimal_injective}
use Rattle.std.proofs.lemmas.List.Elements.{All-head, All-tail}
use lib.Signed.{mag}
use Rattle.log_reader.proofs.Spelled.{is_plain, plain_decimal}
use Rattle.certified_lines.specs.Certified.{IsNumber}

pub small : (z : ℤ) → IsNumber z → mag z < 2 ^ 63
small (pos n) h = let k = h.1 in omega (arith, ints, k)
small (negsuc n) h = let k = h.0 in omega (arith, ints, k)

pub plain_signed : (z : ℤ) → IsNumber z → is_plain (signed_decimal z) ≡ true
plain_signed (pos n) h = let k = h.1 in plain_decimal n (omega (arith, ints, k))
plain_signed (negsuc n) h = let k = h.0 in plain_decimal (suc n) (omega (arith, ints, k))

pub plain_numbers : (zs : List ℤ) → All IsNumber zs →
    list_all is_plain (map signed_decimal zs) ≡ true
plain_numbers [] h = refl
plain_numbers (z ∷ zs) h =
    and_from (is_plain (signed_decimal z)) (list_all is_plain (map signed_decimal zs))
    (plain_signed z (All-head IsNumber z zs h)) (plain_numbers zs (All-tail IsNumber z zs h))

pub same_number : (y z : ℤ) → IsNumber y → IsNumber z → signed_decimal y ≡ signed_decimal z → y ≡ z
same_number y z p q e = signed_decimal_injective y z (small y p) (small z q) e

pub same_signed : (ys zs : List ℤ) → All IsNumber ys → All IsNumber zs →
    map signed_decimal ys ≡ map signed_decimal zs → ys ≡ zs
same_signed [] [] p q e = refl
same_signed [] (z ∷ zs) p q e = absurd (cc)
same_signed (y ∷ ys) [] p q e = absurd (cc)
same_signed (y ∷ ys) (z ∷ zs) p q e =
    let first : signed_decimal y ≡ signed_decimal z = cc in
    let others : map signed_decimal ys ≡ map signed_decimal zs = cc in
    let same = same_number y z (All-head IsNumber y ys p) (All-head IsNumber z zs q) first in
    let rest = same_signed ys zs (All-tail IsNumber y ys p) (All-tail IsNumber z zs q) others in
    cc

pub fits : (z : ℤ) → IsNumber z → SFits w64 z
fits (pos n) h = let k = h.1 in record { sfits = omega (arith, ints, k) }
fits (negsuc n) h = let k = h.0 in record { sfits = omega (arith, ints, k) }

pub weaker : {X : Type 0} {A B : Type 0} (r : Option X) → (A → B) → IfNone r A → IfNone r B
weaker None f h = f h
weaker (Some x) f h = tt
