use Rattle.std.proofs.Common.{◌≡◌, ◌+◌, ◌∙◌, ap, sym, subst, arith, flat_map}
use Rattle.std.specs.List.{range_with_len}
use Rattle.surface_model.specs.Schedules.{Schedule}
use Rattle.slot_bits.specs.Watched.{observed_at}
use Rattle.slot_bits.proofs.Observed.{all_lines, one_more}
use Rattle.slot_bits.proofs.observe.observables.Goals as goal

pub loop-line-preserved : goal.loop-line-preserved
loop-line-preserved c =
    let p = c.args.places.now in let i = c.loop-line.invariant in
    let e = c.schedule-schedule.ensures.schedule in
    let rounds = ap (λ (x : Schedule). x.rounds_line) c.schedule.view_is in
    let high = c.next_line-line-in-loop-line.ensures.high in
    let next = c.next_line-line-in-loop-line.result in let after = c.loop-line.line + 1 in
    let between =
    subst (λ (x : Schedule). flat_map (observed_at x) (range_with_len 0 next)
    ≡ flat_map (observed_at x) (range_with_len 0 after)) e
    c.next_line-line-in-loop-line.ensures.between in (
      omega (arith, rounds, high),
      one_more p c.loop-line.all.items c.push_line.new.observables.items c.loop-line.line i.1
          c.in_ok-push_line.ensures ∙ sym between,
    )

pub returns : goal.returns
returns c =
    let p = c.args.places.now in let i = c.loop-line.invariant in
    let rounds =
    ap (λ (x : Schedule). x.rounds_line) (c.schedule.view_is
    ∙ c.schedule-schedule.ensures.schedule) in
    let e : c.loop-line.line ≡ p.rounds_line = omega (arith, i.0, rounds, c.loop-line-test.false) in
    i.1 ∙ ap (λ n. flat_map (observed_at p) (range_with_len 0 n)) e ∙ all_lines p
