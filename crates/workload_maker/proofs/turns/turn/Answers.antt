use Rattle.std.proofs.Common.{◌≡◌, ◌==◌, [], length, get_or, false, ap, ◌∙◌}
use Rattle.std.proofs.lemmas.List.{get_or_default}
use Rattle.graph_model.specs.Parity.{◌⊕◌}
use Rattle.workload_maker.proofs.Placed.{turned_bits, turned_widths}
use Rattle.workload_maker.proofs.turns.turn.Goals as goal

pub returns-clause-widths : goal.returns-clause-widths
returns-clause-widths c =
    let rows = c.args.rows.now.items in
    let same : c.index_mut.result.now ≡ get_or rows c.args.slot [] =
    c.index_mut.ensures.value ∙ get_or_default rows c.args.slot _ [] c.requires.slot in
    turned_widths rows c.args.slot c.flip.new.self (c.flip.ensures.len ∙ ap length same)

pub returns-clause-bits : goal.returns-clause-bits
returns-clause-bits c =
    let rows = c.args.rows.now.items in
    let same : c.index_mut.result.now ≡ get_or rows c.args.slot [] =
    c.index_mut.ensures.value ∙ get_or_default rows c.args.slot _ [] c.requires.slot in
    turned_bits rows c.args.slot c.args.at c.flip.new.self c.requires.slot
    (λ v. c.flip.ensures.value v ∙ ap (λ r. get_or r v false ⊕ (c.args.at == v)) same)
