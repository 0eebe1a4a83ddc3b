use Rattle.std.proofs.Common.{◌≡◌, true, decimal, rules, sym, ap, ◌∙◌}
use Rattle.std.proofs.lemmas.Bool.{false≢true}
use Rattle.std.proofs.lemmas.Fmt.{parse-decimal}
use Rattle.log_reader.proofs.Spelled.{wide}
use Rattle.log_reader.proofs.word.number_in.Goals as goal

pub returns-else-eq-clause-none : goal.returns-else-eq-clause-none
returns-else-eq-clause-none c = λ n l e.
    let read = parse-decimal 32 n _ _ l (wide n l) e c.parse.ensures.value.0 in
    let same : c.in-Ok.number ≡ n = cc in
    let text : c.format.result.now ≡ c.args.text.now = c.format.ensures.text ∙ ap decimal same
    ∙ sym e in
    let yes : c.eq.result ≡ true = search rules in
    false≢true (sym c.if-eq.false ∙ yes)

pub returns-in-Err-clause-none : goal.returns-in-Err-clause-none
returns-in-Err-clause-none c = λ n l e.
    let read = parse-decimal 32 n _ _ l (wide n l) e c.parse.ensures.value.0 in absurd (cc)
