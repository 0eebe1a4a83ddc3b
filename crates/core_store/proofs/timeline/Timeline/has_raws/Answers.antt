use Rattle.std.proofs.Common.{◌≡◌, ◌+◌, length, map, sym, ap, ◌∙◌, subst}
use Rattle.window_model.specs.Decoder.{Task}
use Rattle.window_setting.proofs.Rows.{row_is, row_below}
use Rattle.core_journal.specs.Entries.{bit, raws_at}
use Rattle.core_store.proofs.timeline.Timeline.has_raws.Goals as goal

pub reads-requires : goal.reads-requires
reads-requires c =
    let t = c.self.inside in
    row_below (t.setting.raw_slots) (t.setting.last_slot + 1) c.args.slot t.observables.rows
    c.row.result.now c.self.invariant.observable_rows c.row.ensures (length c.args.of.now)
    (subst (λ (task : Task). length task.raw_slots ≡ length c.args.of.now) (sym c.self.view_is)
    (sym c.requires.of))

pub returns-clause-yes : goal.returns-clause-yes
returns-clause-yes c = λ yes.
    let t = c.self.inside in
    subst (λ (task : Task). raws_at task c.args.of.now c.args.slot ≡ c.args.raws.now) c.self.view_is
    (ap (map (bit c.args.of.now)) (sym (row_is (t.setting.raw_slots) (t.setting.last_slot + 1)
    c.args.slot t.observables.rows c.row.result.now c.self.invariant.observable_rows c.row.ensures))
    ∙ c.reads.ensures.yes yes)

pub returns-clause-no : goal.returns-clause-no
returns-clause-no c = λ no_ equal.
    let t = c.self.inside in
    c.reads.ensures.no no_
    (ap (map (bit c.args.of.now)) (row_is (t.setting.raw_slots) (t.setting.last_slot + 1)
    c.args.slot t.observables.rows c.row.result.now c.self.invariant.observable_rows c.row.ensures)
    ∙ subst (λ (task : Task). raws_at task c.args.of.now c.args.slot ≡ c.args.raws.now)
    (sym c.self.view_is) equal)
