use Rattle.std.proofs.Common.{◌≡◌, ◌+◌, length, sym, ap, ◌∙◌, subst}
use Rattle.window_model.specs.Decoder.{Task}
use Rattle.window_setting.specs.Slots.{at_slot}
use Rattle.window_setting.proofs.Rows.{row_is, row_rises, row_below}
use Rattle.core_journal.specs.Entries.{raws_at}
use Rattle.core_journal.specs.EntryLaws.{IsWrittenAt}
use Rattle.core_store.proofs.Written.{brought_at, others_at}
use Rattle.core_store.proofs.timeline.Timeline.write_raws.Goals as goal

pub scatter-requires-clause-rising : goal.scatter-requires-clause-rising
scatter-requires-clause-rising c =
    let t = c.self.inside in
    row_rises t.setting.raw_slots (t.setting.last_slot + 1) c.args.slot t.observables.rows
    c.row.result.now c.self.invariant.observable_rows c.row.ensures

pub scatter-requires-clause-values : goal.scatter-requires-clause-values
scatter-requires-clause-values c =
    let t = c.self.inside in
    subst (λ (task : Task). length c.args.raws.now ≡ length (at_slot task.raw_slots c.args.slot))
    (sym c.self.view_is) c.requires.raws
    ∙ ap length (sym (row_is t.setting.raw_slots (t.setting.last_slot + 1) c.args.slot
    t.observables.rows c.row.result.now c.self.invariant.observable_rows c.row.ensures))

pub scatter-requires-clause-places : goal.scatter-requires-clause-places
scatter-requires-clause-places c =
    let t = c.self.inside in
    row_below t.setting.raw_slots (t.setting.last_slot + 1) c.args.slot t.observables.rows
    c.row.result.now c.self.invariant.observable_rows c.row.ensures (length c.args.into.now)
    (subst (λ (task : Task). length task.raw_slots ≡ length c.args.into.now) (sym c.self.view_is)
    (sym c.requires.into))

pub returns-clause-brought : goal.returns-clause-brought
returns-clause-brought c =
    let t = c.self.inside in
    subst (λ (task : Task). raws_at task c.scatter.new.into c.args.slot ≡ c.args.raws.now)
    c.self.view_is
    (brought_at t.setting.raw_slots (t.setting.last_slot + 1) c.args.slot t.observables.rows
    c.row.result.now c.self.invariant.observable_rows c.row.ensures c.args.raws.now
    c.scatter.new.into
    (subst (λ (task : Task). length c.args.raws.now ≡ length (at_slot task.raw_slots c.args.slot))
    (sym c.self.view_is) c.requires.raws) c.scatter.ensures.written)

pub returns-clause-others : goal.returns-clause-others
returns-clause-others c =
    let t = c.self.inside in
    subst (λ (task : Task). IsWrittenAt task.raw_slots c.args.slot c.args.into.now
    c.scatter.new.into) c.self.view_is
    (others_at t.setting.raw_slots (t.setting.last_slot + 1) c.args.slot t.observables.rows
    c.row.result.now c.self.invariant.observable_rows c.row.ensures c.args.into.now
    c.scatter.new.into c.scatter.ensures.others)
