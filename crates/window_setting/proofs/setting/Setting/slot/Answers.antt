use Rattle.std.proofs.Common.{◌<◌, length, sym, ap, ◌∙◌, subst, arith}
use Rattle.std.proofs.lemmas.List.{get_or-map}
use Rattle.graph_model.specs.declared.Tag.{Tag}
use Rattle.window_model.specs.Decoder.{Task}
use Rattle.window_model.specs.Windows.{slot_of}
use Rattle.window_setting.proofs.setting.Setting.slot.Goals as goal

pub index-tag-requires : goal.index-tag-requires
index-tag-requires c =
    let within = subst (λ (t : Task). c.args.detector < t.graph.vertices) (sym c.self.view_is)
    c.requires in
    omega (arith, within, c.self.invariant.is_plan.each_tag)

pub returns : goal.returns
returns c =
    let d = c.self.inside in
    let v = c.args.detector in
    let within : v < length d.tags.items = omega (
      arith,
      subst (λ (t : Task). v < t.graph.vertices)
          (sym c.self.view_is) c.requires,
      c.self.invariant.is_plan.each_tag,
    ) in
    let tag = c.index-tag.result.now in
    ap (λ (t : Tag). t.slot) c.index-tag.ensures ∙ sym
    (get_or-map (λ (t : Tag). t.slot) d.tags.items v tag 0 within)
    ∙ ap (λ (t : Task). slot_of t.tags v) c.self.view_is
