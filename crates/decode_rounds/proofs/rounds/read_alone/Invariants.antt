use Rattle.std.proofs.Common.{◌≡◌}
use Rattle.port_io.specs.Traffic.{KeepsCounts}
use Rattle.slot_decoder.specs.Histories.{AreAllGuessed}
use Rattle.decode_rounds.specs.Courses.{IsDecodedTo}
use Rattle.decode_rounds.proofs.rounds.read_alone.Given as goal

-- the rows of the slots so far were read, the decoder has their values, and its releases were put
abbrev pub invariant-loop-slot : goal.invariant-loop-slot
invariant-loop-slot g l = record {
  so_far : IsDecodedTo l.fn.decoder.progress.task l.reader (g.P.Port.left l.fn.port)
      (g.P.Port.left l.port)
      (g.P.Port.tape l.fn.port) (g.P.Port.tape l.port) l.decoder.progress;
  retries : l.decoder.retries ≡ l.fn.decoder.retries;
  guessed : AreAllGuessed (g.Q.Predictor.may_guess l.predictor) l.decoder;
  schedule : l.reader.schedule ≡ l.fn.reader.schedule;
  slot : l.reader.slot ≡ l._slot;
  counts : KeepsCounts g.P.Port l.fn.port l.port;
}
