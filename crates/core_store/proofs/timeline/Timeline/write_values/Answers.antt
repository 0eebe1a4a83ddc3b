use Rattle.std.proofs.Common.{◌≡◌, ◌+◌, length, sym, ap, ◌∙◌, subst}
use Rattle.window_model.specs.Decoder.{Task}
use Rattle.window_setting.specs.Slots.{at_slot, detector_slots}
use Rattle.window_setting.proofs.Rows.{row_is, row_rises, row_below, detectors_count}
use Rattle.core_journal.specs.Entries.{values_at}
use Rattle.core_journal.specs.EntryLaws.{IsWrittenAt}
use Rattle.core_store.proofs.Written.{brought_at, others_at}
use Rattle.core_store.proofs.timeline.Timeline.write_values.Goals as goal

pub scatter-requires-clause-rising : goal.scatter-requires-clause-rising
scatter-requires-clause-rising c =
    let t = c.self.inside in
    row_rises (detector_slots t.setting) (t.setting.last_slot + 1) c.args.slot t.detectors.rows
    c.row.result.now c.self.invariant.detector_rows c.row.ensures

pub scatter-requires-clause-values : goal.scatter-requires-clause-values
scatter-requires-clause-values c =
    let t = c.self.inside in
    subst (λ (task : Task). length c.args.values.now
    ≡ length (at_slot (detector_slots task) c.args.slot)) (sym c.self.view_is) c.requires.values
    ∙ ap length (sym (row_is (detector_slots t.setting) (t.setting.last_slot + 1) c.args.slot
    t.detectors.rows c.row.result.now c.self.invariant.detector_rows c.row.ensures))

pub scatter-requires-clause-places : goal.scatter-requires-clause-places
scatter-requires-clause-places c =
    let t = c.self.inside in
    row_below (detector_slots t.setting) (t.setting.last_slot + 1) c.args.slot t.detectors.rows
    c.row.result.now c.self.invariant.detector_rows c.row.ensures (length c.args.into.now)
    (detectors_count t.setting c.is_setting.ensures ∙ subst (λ (task : Task). task.graph.vertices
    ≡ length c.args.into.now) (sym c.self.view_is) (sym c.requires.into))

pub returns-clause-brought : goal.returns-clause-brought
returns-clause-brought c =
    let t = c.self.inside in
    subst (λ (task : Task). values_at task c.scatter.new.into c.args.slot ≡ c.args.values.now)
    c.self.view_is
    (brought_at (detector_slots t.setting) (t.setting.last_slot + 1) c.args.slot t.detectors.rows
    c.row.result.now c.self.invariant.detector_rows c.row.ensures c.args.values.now
    c.scatter.new.into
    (subst (λ (task : Task). length c.args.values.now ≡ length (at_slot (detector_slots task)
    c.args.slot)) (sym c.self.view_is) c.requires.values) c.scatter.ensures.written)

pub returns-clause-others : goal.returns-clause-others
returns-clause-others c =
    let t = c.self.inside in
    subst (λ (task : Task). IsWrittenAt (detector_slots task) c.args.slot c.args.into.now
    c.scatter.new.into) c.self.view_is
    (others_at (detector_slots t.setting) (t.setting.last_slot + 1) c.args.slot t.detectors.rows
    c.row.result.now c.self.invariant.detector_rows c.row.ensures c.args.into.now
    c.scatter.new.into c.scatter.ensures.others)
