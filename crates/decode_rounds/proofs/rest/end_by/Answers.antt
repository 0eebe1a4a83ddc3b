use Rattle.std.proofs.Common.{◌≡◌, ◌<◌, ℕ, Bool, Err, List, length, map, flat_map, refl, sym, ap, ◌∙◌, subst, rules, All}
use Rattle.std.specs.declared.option.Option.{Option}
use Rattle.port_io.specs.Traffic.{Goes}
use Rattle.surface_model.specs.Schedules.{CondLine, Schedule}
use Rattle.report_model.specs.Tapes.{bytes_of}
use Rattle.report_model.specs.Tasks.{HasTask, labels_of}
use Rattle.run_rounds.specs.Moves.{put_moves}
use Rattle.run_rounds.specs.Releases.{ArePutPartly}
use Rattle.decode_rounds.specs.Seats.{untold}
use Rattle.decode_rounds.proofs.Courses.{due_named}
use Rattle.decode_rounds.proofs.Ended.{broken_so, read_so}
use Rattle.decode_rounds.proofs.rest.end_by.Goals as goal

pub put_left-requires-clause-in_range : goal.put_left-requires-clause-in_range
put_left-requires-clause-in_range g c =
    due_named c.args.seat.now.rows.schedule c.args.decoder.progress.task
    (subst (HasTask c.args.seat.now.rows.schedule) (sym c.requires.come.task_is) c.requires.task)
    c.conds.result.now c.conds.ensures c.releases.result.now c.releases.result.now 0
    c.releases.ensures.in_range refl

pub returns-in_err-put_left-clause-broken : goal.returns-in_err-put_left-clause-broken
returns-in_err-put_left-clause-broken g c =
    let task = g.Z.NamesSetting.setting in
    let s = c.args.seat.now.rows.schedule in
    let error = c.in_err-put_left.field-0.0 in
    let is : c.from_residual.result ≡ Err error = search rules in
    let labels = ap (map (λ (line : CondLine). line.label)) c.conds.ensures in
    let ranges = subst (λ k. All (λ (q : ℕ × Bool). q.0 < length k.operations)
    c.releases.result.now) c.requires.come.task_is c.releases.ensures.in_range in
    rw is (λ left tape ended.
    broken_so task s c.args.seat.now.readings c.args.decoder.progress c.requires.come
    c.is_progress.ensures.progress c.releases.result.now c.releases.ensures.value ranges
    c.args.end left (g.P.Port.left c.args.port.now) (g.P.Port.left c.put_left.new.port) tape
    (g.P.Port.tape c.args.port.now) (g.P.Port.tape c.put_left.new.port) ended
    c.in_err-put_left.ensures.left error
    (subst (λ l. ArePutPartly l (untold c.args.seat.now.readings c.releases.result.now) error
    (g.P.Port.left c.args.port.now) (g.P.Port.left c.put_left.new.port)
    (g.P.Port.tape c.args.port.now) (g.P.Port.tape c.put_left.new.port)) labels
    c.in_err-put_left.ensures.partly))

pub returns-clause-read : goal.returns-clause-read
returns-clause-read g c left tape ended =
    let task = g.Z.NamesSetting.setting in
    let s = c.args.seat.now.rows.schedule in
    let labels = ap (map (λ (line : CondLine). line.label)) c.conds.ensures in
    let ranges = subst (λ k. All (λ (q : ℕ × Bool). q.0 < length k.operations)
    c.releases.result.now) c.requires.come.task_is c.releases.ensures.in_range in
    read_so task s c.args.seat.now.readings c.args.decoder.progress c.requires.come
    c.is_progress.ensures.progress c.releases.result.now c.releases.ensures.value ranges
    c.args.end left (g.P.Port.left c.args.port.now) (g.P.Port.left c.put_left.new.port) tape
    (g.P.Port.tape c.args.port.now) (g.P.Port.tape c.put_left.new.port) ended
    c.in_ok-put_left.ensures.left
    (subst (λ l. Goes (flat_map (bytes_of l) (put_moves (untold c.args.seat.now.readings
    c.releases.result.now))) (g.P.Port.left c.args.port.now) (g.P.Port.left c.put_left.new.port)
    (g.P.Port.tape c.args.port.now) (g.P.Port.tape c.put_left.new.port)) labels
    c.in_ok-put_left.ensures.put)
