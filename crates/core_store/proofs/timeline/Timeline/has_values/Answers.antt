use Rattle.std.proofs.Common.{◌≡◌, ◌+◌, length, map, sym, ap, ◌∙◌, subst}
use Rattle.window_model.specs.Decoder.{Task}
use Rattle.window_setting.specs.Slots.{detector_slots}
use Rattle.window_setting.proofs.Rows.{row_is, row_below, detectors_count}
use Rattle.core_journal.specs.Entries.{bit, values_at}
use Rattle.core_store.proofs.timeline.Timeline.has_values.Goals as goal

pub reads-requires : goal.reads-requires
reads-requires c =
    let t = c.self.inside in
    row_below (detector_slots t.setting) (t.setting.last_slot + 1) c.args.slot t.detectors.rows
    c.row.result.now c.self.invariant.detector_rows c.row.ensures (length c.args.of.now)
    (detectors_count t.setting c.is_setting.ensures ∙ subst (λ (task : Task). task.graph.vertices
    ≡ length c.args.of.now) (sym c.self.view_is) (sym c.requires.of))

pub returns-clause-yes : goal.returns-clause-yes
returns-clause-yes c = λ yes.
    let t = c.self.inside in
    subst (λ (task : Task). values_at task c.args.of.now c.args.slot ≡ c.args.values.now)
    c.self.view_is
    (ap (map (bit c.args.of.now)) (sym (row_is (detector_slots t.setting) (t.setting.last_slot + 1)
    c.args.slot t.detectors.rows c.row.result.now c.self.invariant.detector_rows c.row.ensures))
    ∙ c.reads.ensures.yes yes)

pub returns-clause-no : goal.returns-clause-no
returns-clause-no c = λ no_ equal.
    let t = c.self.inside in
    c.reads.ensures.no no_
    (ap (map (bit c.args.of.now)) (row_is (detector_slots t.setting) (t.setting.last_slot + 1)
    c.args.slot t.detectors.rows c.row.result.now c.self.invariant.detector_rows c.row.ensures)
    ∙ subst (λ (task : Task). values_at task c.args.of.now c.args.slot ≡ c.args.values.now)
    (sym c.self.view_is) equal)
