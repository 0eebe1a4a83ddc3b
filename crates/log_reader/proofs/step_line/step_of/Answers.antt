use Rattle.std.proofs.Common.{◌≡◌, true, bytes_eq, codes, rules, subst, sym}
use Rattle.std.proofs.lemmas.Slice.Eq.{bytes_eq-Decides}
use Rattle.log_reader.specs.Steps.{IsStepIn}
use Rattle.log_reader.proofs.Bytes.{more_words}
use Rattle.log_reader.proofs.Read.{spelled_by}
use Rattle.log_reader.proofs.step_line.step_of.Goals as goal

pub returns-then-eq-3 : goal.returns-then-eq-3
returns-then-eq-3 c =
    let word = c.first_word.result.0.now in
    let tail = c.first_word.result.1.now in
    let is : bytes_eq c.first_word.result.0.now (codes "released") ≡ true = search rules in
    subst (λ ws. IsStepIn ws c.release_of.result)
    (sym (spelled_by c.args.line.now word tail c.in-Some.rest.now (codes "released")
    c.first_word.ensures.words
    (more_words tail c.in-Some.rest.now c.in-Some.ensures.cases.0 c.in-Some.ensures.cases.1)
    ((bytes_eq-Decides word (codes "released")).0 is)))
    c.release_of.ensures
