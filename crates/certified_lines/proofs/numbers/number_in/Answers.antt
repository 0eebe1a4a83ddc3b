use Rattle.std.proofs.Common.{◌≡◌, Ok, Err, w64, of_z, to_z, to_z-of_z, sym, ◌∙◌, ap, subst}
use Rattle.std.specs.Fmt.{signed_decimal}
use Rattle.std.proofs.lemmas.Fmt.{parse-signed_decimal}
use Rattle.certified_lines.specs.Certified.{IsNumber}
use Rattle.certified_lines.proofs.Signed.{fits, small, weaker}
use Rattle.certified_lines.proofs.numbers.number_in.Goals as goal

pub returns-in-Ok-clause-none : goal.returns-in-Ok-clause-none
returns-in-Ok-clause-none c = weaker c.spelled_by.result
    (λ none z h e.
    let read : c.parse.result ≡ Ok z = parse-signed_decimal w64 z c.args.text.now c.parse.result
    (fits z h) (small z h) e c.parse.ensures.value.0 in
    let same : c.in-Ok.number ≡ z = cc in
    let value : to_z w64 (of_z w64 c.in-Ok.number) ≡ z =
    ap (λ n. to_z w64 (of_z w64 n)) same ∙ to_z-of_z (fits z h) in
    none (subst IsNumber (sym value) h) (e ∙ ap signed_decimal (sym value)))
    c.spelled_by.ensures.none

pub returns-in-Err-clause-none : goal.returns-in-Err-clause-none
returns-in-Err-clause-none c = λ z h e.
    let read : c.parse.result ≡ Ok z = parse-signed_decimal w64 z c.args.text.now c.parse.result
    (fits z h) (small z h) e c.parse.ensures.value.0 in
    let other : Err c.in-Err.field-0 ≡ Ok z = sym c.in-Err.is ∙ read in
    absurd (cc)
