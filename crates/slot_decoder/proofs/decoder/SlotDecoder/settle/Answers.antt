use Rattle.slot_decoder.proofs.Settling.{come, guessed_then, in_range, releases_are}
use Rattle.slot_decoder.proofs.decoder.SlotDecoder.settle.Goals as goal

pub drive-requires-clause-given : goal.drive-requires-clause-given
drive-requires-clause-given g c =
    releases_are c.answer_all.new.core _ _ c.journal.ensures c.in_ok-releases.ensures

pub invariant_of-result : goal.invariant_of-result
invariant_of-result g c = record {
  in_range = in_range _ c.is_core-2.ensures.state;
  quiet = c.in_ok-drive.ensures.quiet;
  answered = c.in_ok-drive.ensures.answered;
  releases_are = c.in_ok-drive.ensures.given;
}

pub returns-clause-come : goal.returns-clause-come
returns-clause-come g c =
    come (g.Q.Predictor.may_guess c.args.predictor.now) _ _ _ c.in_ok-answer_all.ensures.answered
    c.in_ok-drive.ensures.gone

pub returns-clause-guessed : goal.returns-clause-guessed
returns-clause-guessed g c =
    guessed_then (g.Q.Predictor.may_guess c.args.predictor.now) _ _ _
    c.in_ok-answer_all.ensures.answered c.in_ok-drive.ensures.gone
