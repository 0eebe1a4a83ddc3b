use Rattle.std.proofs.Common.{◌≡◌, ◌∙◌, ◌<◌, ◌^◌, ap, sym, subst, arith, map, length}
use Rattle.std.proofs.lemmas.List.{length-map}
use Rattle.window_model.specs.Cells.{AreWindowCells, AreHomes}
use Rattle.window_plan.specs.Kinds.{order_of}
use Rattle.window_plan.specs.Ranks.{AreHomesByKey, cell_at, key_cell}
use Rattle.window_plan.proofs.Ranked.{cells_are, homes_are}
use Rattle.window_plan.proofs.cells.find_homes.Goals as goal

pub returns : goal.returns
returns c =
    let order = order_of c.args.kind in
    let tags = c.args.tags.now in
    let ranks = c.in_ok-ranks.ranks.items in
    let shown : map cell_at c.in_ok-cells.cells.items ≡ map key_cell ranks = c.in_ok-cells.ensures
    ∙ ap (map key_cell) c.deref.ensures.value in
    let keyed : AreHomesByKey order c.args.commit tags ranks c.in_ok-homes.homes.items =
    subst (λ ks. AreHomesByKey order c.args.commit tags ks c.in_ok-homes.homes.items)
    c.deref-2.ensures.value c.in_ok-homes.ensures in
    let long : length c.in_ok-cells.cells.items ≡ length ranks =
    sym (length-map c.in_ok-cells.cells.items cell_at) ∙ ap length shown
    ∙ length-map ranks key_cell in
    let few : length ranks < 2 ^ 32 = omega (arith, c.in_ok-ranks.ensures.fewer, c.requires.few) in
    record {
      cells = subst (λ cells. AreWindowCells order c.args.commit tags cells) (sym shown)
          (cells_are order c.args.commit tags ranks c.in_ok-ranks.ensures.ranks);
      homes = subst (λ cells. AreHomes c.args.commit tags cells c.in_ok-homes.homes.items)
          (sym shown) (homes_are order c.args.commit tags ranks c.in_ok-ranks.ensures.ranks
          c.in_ok-homes.homes.items keyed);
      few = omega (arith, long, few);
    }
