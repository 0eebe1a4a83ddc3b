use Rattle.std.proofs.Common.{◌≡◌, ◌<◌, ◌++◌, ◌∷◌, [], ◌+◌, inl, inr, eqb, ◌&&◌, false, length, drop, refl, sym, ap, ◌∙◌, arith, rules}
use Rattle.std.proofs.lemmas.Result.{err_from_is_err_and}
use Rattle.port_io.proofs.Traffic.{goes_nothing, goes_taken}
use Rattle.surface_model.specs.Header.{is_rounds_alone}
use Rattle.surface_model.specs.Limits.{most_taken_bytes}
use Rattle.syndrome_source.proofs.Heads.{nothing_begun, goes_on_by, ends_by, room_ends, input_ends, cut_is}
use Rattle.port_io.proofs.Takings.{end_behind, none_behind}
use Rattle.syndrome_source.proofs.text.header.Goals as goal
use Rattle.syndrome_source.proofs.text.header.Goals.{then-byte-eq10, else-byte-eq10}

pub loop-init : goal.loop-init
loop-init g c = rw c.new-text.ensures.items (record {
  taken_so_far = goes_nothing _ _;
  begun = nothing_begun;
  count = refl;
  lines = omega arith;
  within = omega arith;
  counts = (omega arith, omega arith);
})

pub returns-in-End-clause-refused : goal.returns-in-End-clause-refused
returns-in-End-clause-refused g c =
    let short : length c.loop.text.items < most_taken_bytes = omega arith in
    let went = end_behind c.loop.text.items _ _ _ _ _ _ _ c.loop.invariant.taken_so_far c.in-End.is
    c.take.ensures.left c.take.ensures.tape in
    (c.loop.text.items, went.0, (went.1, input_ends _ _ _ c.loop.invariant.begun short))

pub returns-in-Failed-clause-refused : goal.returns-in-Failed-clause-refused
returns-in-Failed-clause-refused g c =
    let short : length c.loop.text.items < most_taken_bytes = omega arith in (
      c.loop.text.items,
      none_behind c.loop.text.items _ _ _ _ _ _ _ c.loop.invariant.taken_so_far
          c.in-Failed.is c.take.ensures.left c.take.ensures.tape,
      (
        c.loop.line,
        input_ends _ _ _ c.loop.invariant.begun short,
      ),
    )

pub returns-in_err-push-clause-refused : goal.returns-in_err-push-clause-refused
returns-in_err-push-clause-refused g c =
    let short : length c.loop.text.items < most_taken_bytes = omega arith in
    let memory = err_from_is_err_and c.from_residual.result c.from_residual.ensures.1 in
    rw (memory.1, memory.2) (
      c.loop.text.items ++ c.in-Byte.byte ∷ [],
      goes_taken c.loop.text.items _ c.in-Byte.byte _ _ _ _ _ _ _ c.loop.invariant.taken_so_far
          c.take.ensures.left c.take.ensures.tape c.in-Byte.is refl,
      (
        c.loop.text.items,
        c.in-Byte.byte,
        refl,
        (c.loop.line, input_ends _ _ _ c.loop.invariant.begun short),
      ),
    )

pub returns-then-ends-clause-text : goal.returns-then-ends-clause-text
returns-then-ends-clause-text g c =
    let short : length c.loop.text.items < most_taken_bytes = omega arith in
    let pushed : c.push.new.self.items ≡ c.loop.text.items ++ c.in-Byte.byte ∷ [] = search rules in
    let cut = cut_is c.loop.start _ _ _ c.deref.ensures.value refl in (
      goes_taken c.loop.text.items _ c.in-Byte.byte _ _ _ _ _ _ _ c.loop.invariant.taken_so_far
          c.take.ensures.left c.take.ensures.tape c.in-Byte.is pushed,
      ends_by _ c.in-Byte.byte _ c.loop.text.items _ c.loop.invariant.begun pushed short
          (ap (λ l. eqb c.in-Byte.byte 10 && is_rounds_alone l) (sym cut) ∙ sym c.if-ends.ensures),
    )

pub loop-preserved : goal.loop-preserved
loop-preserved g c =
    let pushed : c.push.new.self.items ≡ c.loop.text.items ++ c.in-Byte.byte ∷ [] = search rules in
    let longer : length c.push.new.self.items ≡ c.loop.counter + 1 = search rules in
    let cut = cut_is c.loop.start _ _ _ c.deref.ensures.value refl in
    let other : (eqb c.in-Byte.byte 10 && is_rounds_alone (drop c.loop.start c.loop.text.items))
    ≡ false = ap (λ l. eqb c.in-Byte.byte 10 && is_rounds_alone l) (sym cut)
    ∙ sym c.if-ends.ensures in
    let taken_now =
    goes_taken c.loop.text.items _ c.in-Byte.byte _ _ _ _ _ _ _ c.loop.invariant.taken_so_far
    c.take.ensures.left c.take.ensures.tape c.in-Byte.is pushed in
    elim c.if-byte-eq10.branch [
      | then-byte-eq10 w ↦ record {
        taken_so_far = taken_now;
        begun = goes_on_by _ _ c.in-Byte.byte c.loop.start _ c.loop.text.items _
            c.loop.invariant.begun pushed (omega arith) other
            (inl (search rules, w.line-is, search rules));
        count = longer;
        lines = omega arith;
        within = omega arith;
        counts = (search rules, search rules);
      }
      | else-byte-eq10 w ↦ record {
        taken_so_far = taken_now;
        begun = goes_on_by _ _ c.in-Byte.byte c.loop.start _ c.loop.text.items _
            c.loop.invariant.begun pushed (omega arith) other
            (inr (search rules, w.line-is, w.start-is));
        count = longer;
        lines = omega arith;
        within = omega arith;
        counts = (search rules, search rules);
      }
    ]

pub returns-clause-text : goal.returns-clause-text
returns-clause-text g c =
    let full : length c.loop.text.items ≡ most_taken_bytes = omega arith in
    (c.loop.invariant.taken_so_far, room_ends _ _ _ c.loop.invariant.begun full)
