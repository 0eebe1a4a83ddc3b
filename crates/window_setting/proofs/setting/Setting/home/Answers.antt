use Rattle.std.proofs.Common.{◌<◌, sym, subst, arith}
use Rattle.window_model.specs.Decoder.{Task}
use Rattle.window_setting.proofs.setting.Setting.home.Goals as goal

pub home-requires : goal.home-requires
home-requires c =
    let within = subst (λ (t : Task). c.args.detector < t.graph.vertices) (sym c.self.view_is)
    c.requires in
    let made = c.self.invariant.is_plan in
    omega (arith, within, made.each_tag, made.is_placed.is_plan.homes.each_one)
