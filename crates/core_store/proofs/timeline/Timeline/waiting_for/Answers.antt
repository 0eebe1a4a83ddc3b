use Rattle.std.proofs.Common.{◌≡◌, ◌<◌, List, ℕ, [], length, get_or, zero-add, sym, ap, ◌∙◌, subst, arith}
use Rattle.std.proofs.lemmas.List.FromFn.{get_or-map-range_with_len, length-map-range_with_len}
use Rattle.std.proofs.lemmas.Option.{get_or_from_slice_get}
use Rattle.release_laws.specs.Tables.{waiting_for}
use Rattle.window_model.specs.Decoder.{Task}
use Rattle.window_model.specs.Windows.{window_count}
use Rattle.core_store.proofs.timeline.Timeline.waiting_for.Goals as goal

pub get-requires : goal.get-requires
get-requires c =
    let t = c.self.inside in
    let l = subst (λ (task : Task). c.args.window < window_count task.plan) (sym c.self.view_is)
    c.requires in
    let long = ap length c.self.invariant.waiting_are
    ∙ length-map-range_with_len (waiting_for t.setting) 0 (window_count t.setting.plan) in
    omega (arith, l, long)

pub returns : goal.returns
returns c =
    let t = c.self.inside in
    let l = subst (λ (task : Task). c.args.window < window_count task.plan) (sym c.self.view_is)
    c.requires in
    subst (λ (task : Task). c.get.result.now ≡ waiting_for task c.args.window) c.self.view_is
    (sym (get_or_from_slice_get t.waiting c.args.window c.get.result.now [] c.get.ensures)
    ∙ ap (λ ls. get_or ls c.args.window []) c.self.invariant.waiting_are
    ∙ get_or-map-range_with_len (waiting_for t.setting) 0 (window_count t.setting.plan)
    c.args.window c.args.window [] l (zero-add c.args.window))
