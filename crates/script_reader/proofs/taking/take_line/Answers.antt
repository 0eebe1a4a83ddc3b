use Rattle.std.proofs.Common.{◌≡◌, ◌≤◌, ◌++◌, [], ◌∷◌, length, refl, sym, ap, ◌∙◌, append_assoc, arith, rules}
use Rattle.std.proofs.lemmas.Bool.{ne_eqb, eqb-true}
use Rattle.port_io.proofs.Takings.{end_behind, none_behind}
use Rattle.port_io.proofs.Traffic.{goes_nothing, goes_taken}
use Rattle.replay_model.specs.Scripts.{line_within, most_line_bytes}
use Rattle.script_reader.proofs.Cut.{fed, unfed, longer, pushed, has_no_feed, none_there, some_there, some_behind, not_full}
use Rattle.script_reader.proofs.taking.take_line.Goals as goal

pub loop-init : goal.loop-init
loop-init g c = rw c.requires (record {
  taken_so_far = goes_nothing _ _;
  no_feed = refl;
  count = refl;
  room = omega arith;
  counts = (omega arith, omega arith);
})

pub returns-in-Byte-eq10-clause-taken : goal.returns-in-Byte-eq10-clause-taken
returns-in-Byte-eq10-clause-taken g c =
    let line = c.loop.line.items in
    let feed : c.in-Byte-eq10.field-0 ≡ 10 = omega arith in
    let few : length c.loop.line.items ≤ 32 = omega arith in (
      line ++ 10 ∷ [],
      goes_taken line _ c.in-Byte-eq10.field-0 _ _ _ _ _ _ _ c.loop.invariant.taken_so_far
          c.take.ensures.left c.take.ensures.tape c.in-Byte-eq10.is
          (ap (λ b. line ++ b ∷ []) (sym feed)),
      (
        some_behind line 10,
        λ rest. ap (line_within most_line_bytes) (append_assoc line (10 ∷ []) rest)
            ∙ fed 32 line rest c.loop.invariant.no_feed few,
      ),
    )

pub returns-then-is_full-clause-taken : goal.returns-then-is_full-clause-taken
returns-then-is_full-clause-taken g c =
    let line = c.loop.line.items in
    let other = ne_eqb c.in-Byte.byte 10 (λ e. omega arith) in
    let full = eqb-true (length line) 32 (sym c.is_full.ensures.value ∙ c.if-is_full.true) in (
      line ++ c.in-Byte.byte ∷ [],
      goes_taken line _ c.in-Byte.byte _ _ _ _ _ _ _ c.loop.invariant.taken_so_far
          c.take.ensures.left c.take.ensures.tape c.in-Byte.is refl,
      λ rest. ap (line_within most_line_bytes) (append_assoc line (c.in-Byte.byte ∷ []) rest)
          ∙ longer 32 line c.in-Byte.byte rest c.loop.invariant.no_feed full other,
    )

pub returns-then-is_empty-clause-taken : goal.returns-then-is_empty-clause-taken
returns-then-is_empty-clause-taken g c =
    let line = c.loop.line.items in
    let went = end_behind line _ _ _ _ _ _ _ c.loop.invariant.taken_so_far c.in-End.is
    c.take.ensures.left c.take.ensures.tape in (
      line,
      went.0,
      (none_there line (sym c.is_empty.ensures ∙ c.if-is_empty.true), went.1),
    )

pub returns-in-End-clause-taken : goal.returns-in-End-clause-taken
returns-in-End-clause-taken g c =
    let line = c.loop.line.items in
    let few : length c.loop.line.items ≤ 32 = omega arith in
    let went = end_behind line _ _ _ _ _ _ _ c.loop.invariant.taken_so_far c.in-End.is
    c.take.ensures.left c.take.ensures.tape in (
      line,
      went.0,
      (
        some_there line (sym c.is_empty.ensures ∙ c.if-is_empty.false),
        (went.1, unfed 32 line c.loop.invariant.no_feed few),
      ),
    )

pub returns-in-Failed-clause-taken : goal.returns-in-Failed-clause-taken
returns-in-Failed-clause-taken g c =
    let line = c.loop.line.items in
    let few : length c.loop.line.items ≤ 32 = omega arith in (
      line,
      none_behind line _ _ _ _ _ _ _ c.loop.invariant.taken_so_far c.in-Failed.is
          c.take.ensures.left c.take.ensures.tape,
      unfed 32 line c.loop.invariant.no_feed few,
    )

pub loop-preserved : goal.loop-preserved
loop-preserved g c =
    let line = c.loop.line.items in
    let other = ne_eqb c.in-Byte.byte 10 (λ e. omega arith) in
    let short = not_full (length line) c.is_full.ensures.fits
    (sym c.is_full.ensures.value ∙ c.if-is_full.false) in
    record {
      taken_so_far = goes_taken line _ c.in-Byte.byte _ _ _ _ _ _ _ c.loop.invariant.taken_so_far
          c.take.ensures.left c.take.ensures.tape c.in-Byte.is c.push.ensures.items;
      no_feed = ap has_no_feed c.push.ensures.items
          ∙ pushed line c.in-Byte.byte c.loop.invariant.no_feed other;
      count = omega (arith, c.push.ensures.len, c.loop.invariant.count);
      room = omega (arith, short, c.loop.invariant.count);
      counts = (search rules, search rules);
    }
