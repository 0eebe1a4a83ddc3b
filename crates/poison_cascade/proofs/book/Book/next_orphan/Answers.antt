use Rattle.std.proofs.Common.{◌≡◌, ◌<◌, arith, ap, sym, ◌∙◌, length}
use Rattle.poison_cascade.specs.Books.{IsOrphan}
use Rattle.poison_cascade.proofs.Windows.{orphan_from, no_orphan, one_more, rests_within}
use Rattle.poison_cascade.proofs.book.Book.next_orphan.Goals as goal

pub returns-then-rests_on_gone : goal.returns-then-rests_on_gone
returns-then-rests_on_gone c = (
  orphan_from c.args.self.now c.loop-window.window
      (sym c.rests_on_gone.ensures ∙ c.if-rests_on_gone.true),
  c.loop-window.invariant,
)

pub loop-window-preserved : goal.loop-window-preserved
loop-window-preserved c =
    one_more (IsOrphan c.args.self.now) c.loop-window.window c.loop-window.invariant
    (no_orphan c.args.self.now c.loop-window.window (sym c.rests_on_gone.ensures
    ∙ c.if-rests_on_gone.false))

pub returns : goal.returns
returns c = λ w o.
    let within : w < length c.args.self.now.windows = rests_within c.args.self.now w o.0 o.2 in
    let same : length c.self.inside.windows.items ≡ length c.args.self.now.windows =
    ap (λ b. length b.windows) c.self.view_is in
    c.loop-window.invariant w (omega (
      arith,
      within,
      same,
      c.loop-window-test.false,
      c.len-window-end.ensures,
      c.self.invariant.few,
    )) o
