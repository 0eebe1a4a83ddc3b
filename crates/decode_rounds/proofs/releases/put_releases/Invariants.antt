use Rattle.std.proofs.Common.{◌≡◌, flat_map, map, take}
use Rattle.port_io.specs.Traffic.{Goes, KeepsCounts}
use Rattle.surface_model.specs.Schedules.{CondLine}
use Rattle.report_model.specs.Tapes.{bytes_of}
use Rattle.run_rounds.specs.Moves.{put_moves}
use Rattle.decode_rounds.proofs.releases.put_releases.Given as goal

-- the lines of the releases so far were put
abbrev pub invariant-loop-operation : goal.invariant-loop-operation
invariant-loop-operation g l = record {
  put : Goes (flat_map (bytes_of (map (λ (c : CondLine). c.label) l.conds)) (put_moves
      (take l.operation-index l.releases))) (g.P.Port.left l.fn.port) (g.P.Port.left l.port)
      (g.P.Port.tape l.fn.port) (g.P.Port.tape l.port);
  left : g.P.Port.left l.port ≡ g.P.Port.left l.fn.port;
  counts : KeepsCounts g.P.Port l.fn.port l.port;
}
