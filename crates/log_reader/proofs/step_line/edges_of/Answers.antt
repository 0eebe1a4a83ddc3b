use Rattle.std.proofs.Common.{◌≡◌, ◌++◌, false, map, decimal, ap, ◌∙◌, append-nil, arith, rules}
use Rattle.log_reader.specs.Words.{words_behind}
use Rattle.log_reader.proofs.Bytes.{more_words, no_tail}
use Rattle.log_reader.proofs.Read.{no_edge, not_above}
use Rattle.log_reader.proofs.step_line.edges_of.Goals as goal

pub returns-in_default-number_of : goal.returns-in_default-number_of
returns-in_default-number_of c =
    let front = c.loop-rest.edges in
    let word = c.first_word.result.0.now in
    let behind = c.first_word.result.1.now in
    let next = more_words c.loop-rest.left.now c.in-Some.rest.now c.in-Some.ensures.cases.0
    c.in-Some.ensures.cases.1 in
    no_edge front word (words_behind behind) (words_behind c.args.tail.now)
    c.loop-rest.invariant.each
    (c.loop-rest.invariant.words
    ∙ ap (λ ws. map decimal front ++ ws) (next ∙ c.first_word.ensures.words))
    c.in_default-number_of.ensures.none

pub returns-then-not-is_above : goal.returns-then-not-is_above
returns-then-not-is_above c =
    let front = c.loop-rest.edges in
    let word = c.first_word.result.0.now in
    let behind = c.first_word.result.1.now in
    let next = more_words c.loop-rest.left.now c.in-Some.rest.now c.in-Some.ensures.cases.0
    c.in-Some.ensures.cases.1 in
    let not : c.is_above.result ≡ false = search rules in
    not_above front word (words_behind behind) (words_behind c.args.tail.now)
    c.in-Some-number_of.edge c.loop-rest.invariant.each
    (c.loop-rest.invariant.words
    ∙ ap (λ ws. map decimal front ++ ws) (next ∙ c.first_word.ensures.words))
    (omega arith) c.in-Some-number_of.ensures.some (c.is_above.ensures.not not)

pub returns : goal.returns
returns c =
    let none = no_tail c.loop-rest.left.now c.loop-rest.invariant.tail c.in_default.ensures.cases
    in (
      c.loop-rest.invariant.words ∙ ap (λ ws. map decimal c.loop-rest.edges ++ ws) none
          ∙ append-nil (map decimal c.loop-rest.edges),
      record { each = c.loop-rest.invariant.each; rising = c.as_slice.ensures.ascending },
    )
