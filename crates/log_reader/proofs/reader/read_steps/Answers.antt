use Rattle.std.proofs.Common.{◌≡◌, ◌+◌, ◌++◌, [], ◌∷◌, true, false, eqb, All, length, map, bytes_eq, codes, rules, sym, ap, subst, ◌∙◌, append-nil, length-append, arith}
use Rattle.std.proofs.lemmas.List.{length-map, map-append}
use Rattle.std.proofs.lemmas.List.Elements.{All-append, All-cons, All-nil}
use Rattle.std.proofs.lemmas.Slice.Eq.{bytes_eq-Decides}
use Rattle.report_model.specs.Logs.{IsLogged, last_line}
use Rattle.log_reader.specs.Steps.{IsStepIn, step_of}
use Rattle.log_reader.specs.Words.{words_in}
use Rattle.log_reader.proofs.Bytes.{none_there, some_there}
use Rattle.log_reader.proofs.Spelled.{words_bare}
use Rattle.log_reader.proofs.Outside.{no_line, no_step, one_more, read_so, so_far, too_much}
use Rattle.log_reader.proofs.reader.read_steps.Goals as goal

pub returns-then-not-is_empty-clause-fault : goal.returns-then-not-is_empty-clause-fault
returns-then-not-is_empty-clause-fault c =
    let items = c.loop-line.steps.items in
    let steps = map step_of items in
    let behind = c.in-Some.behind.now in
    let is : bytes_eq c.in-Some.line.now (codes "end log") ≡ true = search rules in
    let same = (bytes_eq-Decides c.in-Some.line.now (codes "end log")).0 is in
    let more : eqb (length c.in-Some.behind.now) 0 ≡ false = search rules in
    let long = length-map items step_of in
    too_much c.args.text.now behind steps (c.loop-line.number + 1) c.loop-line.invariant.each
    (c.loop-line.invariant.text
    ∙ ap (λ t. so_far steps ++ t)
    (c.in-Some.ensures.some.whole ∙ ap (λ l. l ++ 10 ∷ behind) same))
    (some_there behind more) (omega (arith, c.loop-line.invariant.count, long))

pub returns-then-eq-clause-found : goal.returns-then-eq-clause-found
returns-then-eq-clause-found c =
    let steps = map step_of c.loop-line.steps.items in
    let behind = c.in-Some.behind.now in
    let is : bytes_eq c.in-Some.line.now (codes "end log") ≡ true = search rules in
    let same = (bytes_eq-Decides c.in-Some.line.now (codes "end log")).0 is in
    let none : eqb (length c.in-Some.behind.now) 0 ≡ true = search rules in
    let empty = none_there behind none in
    read_so c.args.text.now steps c.loop-line.invariant.each
    (c.loop-line.invariant.text
    ∙ ap (λ t. so_far steps ++ t)
    (c.in-Some.ensures.some.whole ∙ ap (λ l. l ++ 10 ∷ behind) same
    ∙ ap (λ b. last_line ++ b) empty ∙ append-nil last_line))

pub returns-in_default-2-clause-fault : goal.returns-in_default-2-clause-fault
returns-in_default-2-clause-fault c =
    let items = c.loop-line.steps.items in
    let other : bytes_eq c.in-Some.line.now (codes "end log") ≡ false = search rules in
    let long = length-map items step_of in
    no_step c.args.text.now c.loop-line.left.now c.in-Some.line.now c.in-Some.behind.now
    (map step_of items) c.loop-line.number c.loop-line.invariant.each c.loop-line.invariant.text
    (omega (arith, c.loop-line.invariant.count, long)) c.in-Some.ensures.some.whole
    c.in-Some.ensures.some.first other
    (subst (λ found. IsStepIn (words_in c.in-Some.line.now) found) c.in_default-2.is
    c.in_ok-step.ensures)

pub loop-line-preserved : goal.loop-line-preserved
loop-line-preserved c =
    let items = c.loop-line.steps.items in
    let steps = map step_of items in
    let step = c.in-Some-2.step in
    let line = c.in-Some.line.now in
    let behind = c.in-Some.behind.now in
    let whole = c.in-Some.ensures.some.whole in
    let spelled = subst (λ found. IsStepIn (words_in c.in-Some.line.now) found) c.in-Some-2.is
    c.in_ok-step.ensures in
    let pushed = c.in_ok-push.ensures.items in
    let mapped = ap (map step_of) pushed ∙ map-append step_of items (step ∷ []) in
    let longer = ap length pushed in
    let total = length-append items (step ∷ []) in
    let parts = ap length whole in
    let sum = length-append line (10 ∷ behind) in
    record {
      text = one_more c.args.text.now c.loop-line.left.now line behind steps (step_of step)
          c.loop-line.invariant.text whole (words_bare line (step_of step) spelled.0)
          ∙ ap (λ ss. so_far ss ++ behind) (sym mapped);
      each = subst (All IsLogged) (sym mapped) (All-append IsLogged steps (step_of step ∷ [])
          c.loop-line.invariant.each
          (All-cons IsLogged (step_of step) [] spelled.1 (All-nil IsLogged)));
      count = omega (arith, c.loop-line.invariant.count, longer, total);
      room = omega (arith, c.loop-line.invariant.room, parts, sum);
    }

pub returns-clause-fault : goal.returns-clause-fault
returns-clause-fault c =
    let items = c.loop-line.steps.items in
    let long = length-map items step_of in
    no_line c.args.text.now c.loop-line.left.now (map step_of items) c.loop-line.number
    c.loop-line.invariant.each c.loop-line.invariant.text
    (omega (arith, c.loop-line.invariant.count, long)) c.in_default.ensures.none
