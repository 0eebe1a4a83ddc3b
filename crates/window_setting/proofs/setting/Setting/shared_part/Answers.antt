use Rattle.std.proofs.Common.{◌<◌, length, get_or, zero-add, sym, ap, ◌∙◌, subst, arith}
use Rattle.std.specs.Arc.{arc_value}
use Rattle.std.proofs.lemmas.List.{length-map, get_or-map}
use Rattle.std.proofs.lemmas.List.FromFn.{get_or-map-range_with_len, length-map-range_with_len}
use Rattle.window_model.specs.Decoder.{Task}
use Rattle.window_model.specs.Parts.{part_of}
use Rattle.window_model.specs.Windows.{window_count}
use Rattle.window_setting.proofs.setting.Setting.shared_part.Goals as goal

pub index-requires : goal.index-requires
index-requires c =
    let d = c.self.inside in
    let within = subst (λ (t : Task). c.args.window < window_count t.plan) (sym c.self.view_is)
    c.requires in
    omega (
      arith,
      within,
      ap length c.self.invariant.divided,
      length-map d.parts.items arc_value,
      length-map-range_with_len (part_of d.graph d.plan.plan) 0 (window_count d.plan.plan),
    )

pub returns : goal.returns
returns c =
    let d = c.self.inside in
    let w = c.args.window in
    let within = subst (λ (t : Task). w < window_count t.plan) (sym c.self.view_is) c.requires in
    let other = arc_value c.index.result.now in
    let in_parts : w < length d.parts.items = omega (
      arith,
      within,
      ap length c.self.invariant.divided,
      length-map d.parts.items arc_value,
      length-map-range_with_len (part_of d.graph d.plan.plan) 0 (window_count d.plan.plan),
    ) in
    ap arc_value c.index.ensures
    ∙ sym (get_or-map arc_value d.parts.items w c.index.result.now other in_parts)
    ∙ ap (λ parts. get_or parts w other) c.self.invariant.divided
    ∙ get_or-map-range_with_len (part_of d.graph d.plan.plan) 0 (window_count d.plan.plan) w w other
    within (zero-add w)
    ∙ ap (λ (t : Task). part_of t.graph t.plan w) c.self.view_is
