use Rattle.std.proofs.Common.{◌≡◌, ◌+◌, List, ℕ}
use Rattle.port_io.specs.Traffic.{KeepsCounts, Moves, taken}
use Rattle.replay_model.specs.Scripts.{most_lines}
use Rattle.window_model.specs.Decoder.{Syndrome}
use Rattle.script_run.specs.Plays.{AreMeasured, stage_of}
use Rattle.replay_run.specs.Playings.{IsPlayedSo}
use Rattle.replay_run.proofs.play.play_lines.Given as goal

-- the lines so far were played
abbrev pub invariant-loop : goal.invariant-loop
invariant-loop g l = record {
  so_far : (s : Syndrome) → AreMeasured l.fn.player.core.task s l.fn.player.rows →
      IsPlayedSo (stage_of (g.Q.Predictor.may_guess l.fn.predictor) s l.fn.player.labels
      l.fn.player.core) l.fn.script l.script (g.P.Port.left l.fn.port) (g.P.Port.left l.port)
      (g.P.Port.tape l.fn.port) (g.P.Port.tape l.port) l.fn.player l.player;
  took : (bytes : List ℕ) × Moves g.P.Port l.fn.port l.port (taken bytes);
  room : l.script.room + l.counter ≡ most_lines;
  counts : KeepsCounts g.P.Port l.fn.port l.port;
}
