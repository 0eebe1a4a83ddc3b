use Rattle.std.proofs.Common.{◌≡◌, Ok, Err, map, ◌∙◌, refl, sym, ap, subst}
use Rattle.std.specs.Result.{IfErr, IfOk}
use Rattle.std.specs.declared.result.Result.{Result}
use Rattle.surface_model.specs.Schedules.{CondLine}
use Rattle.port_io.specs.Port.{sent}
use Rattle.port_io.specs.Traffic.{Goes}
use Rattle.report_model.specs.Tasks.{labels_of}
use Rattle.report_model.specs.Texts.{release_line}
use Rattle.run_rounds.specs.Releases.{IsLineCut}
use Rattle.run_rounds.specs.declared.release.PutError.{PutError}
use Rattle.decode_rounds.specs.Seats.{HasTold}
use Rattle.decode_rounds.proofs.Tellings.{by_result, unheard}
use Rattle.decode_rounds.proofs.telling.tell.Goals as goal

pub returns-in-Memory-clause-has : goal.returns-in-Memory-clause-has
returns-in-Memory-clause-has g c =
    unheard g.Z.NamesSetting.setting c.args.seat.now.rows c.args.seat.now.readings
    (g.P.Port.left c.args.port.now) (g.P.Port.tape c.args.port.now) c.requires.at_slot

pub returns-clause-has : goal.returns-clause-has
returns-clause-has g c =
    subst
    (λ r. HasTold g.Z.NamesSetting.setting c.args.seat.now.rows c.args.seat.now.readings r
    (g.P.Port.left c.args.port.now) (g.P.Port.left c.put_one.new.port)
    (g.P.Port.tape c.args.port.now) (g.P.Port.tape c.put_one.new.port) c.put_one.result)
    (sym c.told_as-bit.ensures)
    (by_result g.Z.NamesSetting.setting c.args.seat.now.rows c.args.seat.now.readings c.args.op
    c.told_as-bit.result c.is_reader.ensures c.requires.in_range c.requires.untold
    c.requires.at_slot c.conds.result.now c.conds.ensures
    (g.P.Port.left c.args.port.now) (g.P.Port.left c.put_one.new.port)
    (g.P.Port.tape c.args.port.now) (g.P.Port.tape c.put_one.new.port) c.put_one.ensures.left
    c.put_one.result c.put_one.ensures.put c.put_one.ensures.cut)
