use Rattle.std.proofs.Common.{◌≡◌, arith, ap, ◌∙◌, subst, length, take, false}
use Rattle.std.specs.List.{list_any}
use Rattle.std.proofs.lemmas.List.{take_all}
use Rattle.poison_cascade.specs.Books.{with_ticket}
use Rattle.poison_cascade.specs.Tests.{is_from}
use Rattle.poison_cascade.proofs.Supports.{named_none}
use Rattle.poison_cascade.proofs.entry.name_ticket.Goals as goal

pub returns : goal.returns
returns c =
    let items = c.loop-at.supports.items in
    let all : take c.loop-at.at items ≡ items = take_all c.loop-at.at items (omega (
      arith,
      c.loop-at-test.false,
      c.len-at-end.ensures,
      ap length c.loop-at.invariant.same,
    )) in
    named_none c.args.source c.args.ticket items (subst (λ xs. list_any (is_from c.args.source) xs
    ≡ false) all c.loop-at.invariant.passed) ∙
    ap (with_ticket c.args.source c.args.ticket) c.loop-at.invariant.same
