use Rattle.std.proofs.Common.{◌≡◌, ◌<◌, arith, ap, subst, ⊎_elim, length}
use Rattle.poison_cascade.specs.Books.{IsUnverified}
use Rattle.poison_cascade.proofs.Windows.{one_more, unverified_within}
use Rattle.poison_cascade.proofs.book.Book.next_unverified.Goals as goal

pub returns-in-Some : goal.returns-in-Some
returns-in-Some c = (
  c.in-Some.ensures.0,
  λ y z before u.
      ⊎_elim (λ less. c.loop-window.invariant y z less u) (λ here. c.in-Some.ensures.1 z here.1
      (subst (λ w. IsUnverified c.args.self.now w z) here.0 u)) before,
)

pub loop-window-preserved : goal.loop-window-preserved
loop-window-preserved c = λ y x.
    one_more (λ w. IsUnverified c.args.self.now w x) c.loop-window.window (λ w.
    c.loop-window.invariant w x) (c.in_default.ensures x) y

pub returns : goal.returns
returns c = λ w x u.
    let within : w < length c.args.self.now.windows = unverified_within c.args.self.now w x u in
    let same : length c.self.inside.windows.items ≡ length c.args.self.now.windows =
    ap (λ b. length b.windows) c.self.view_is in
    c.loop-window.invariant w x (omega (
      arith,
      within,
      same,
      c.loop-window-test.false,
      c.len-window-end.ensures,
      c.self.invariant.few,
    )) u
