-- The end of a run when all threads are joined: what holds of it where it has one, and guesses that
-- may be made.
use Rattle.std.proofs.Common.{◌≡◌, ℕ, Bool, List, [], ◌∷◌, Ok, Err, sym, ap, subst}
use Rattle.std.specs.Result.{IfErr, IfOk}
use Rattle.std.specs.declared.result.Result.{Result}
use Rattle.window_model.specs.Decoder.{Task}
use Rattle.window_model.specs.declared.GuessView.{GuessView}
use Rattle.window_model.specs.Speculation.{Event, Arrived, Claimed, Returned, Stale, Verified, Poisoned, Dropped, Committed, Released, Machine, happens}
use Rattle.slot_decoder.specs.Histories.{AreGuessedFrom, DecoderView, IsGuessedBy}
use Rattle.syndrome_source.specs.declared.error.RowError.{RowError}
use Rattle.run_rounds.specs.declared.release.PutError.{PutError}
use Rattle.decode_rounds.specs.declared.reading.Stop.TheVariants.{Rows}
use Rattle.decode_rounds.specs.declared.rounds.Rounds.{Rounds}

-- ---- results

-- what follows for each result
pub ok_so : {X E : Type 0} (P Q : X → Type 0) (result : Result X E) →
    ((x : X) → P x → Q x) → IfOk result P → IfOk result Q
ok_so P Q (Ok x) so holds = so x holds
ok_so P Q (Err error) so holds = tt

-- what follows for each error
pub err_so : {X E : Type 0} (P Q : E → Type 0) (result : Result X E) →
    ((error : E) → P error → Q error) → IfErr result P → IfErr result Q
err_so P Q (Ok x) so holds = tt
err_so P Q (Err error) so holds = so error holds

-- what holds of a decoder and an end holds of those that are handed on
pub of_rounds : (P : DecoderView → Result (Unit {0}) RowError → Type 0)
    (result : Result Rounds PutError) (d : DecoderView) (end : Result (Unit {0}) RowError) →
    IfOk result (λ r. r.decoder ≡ d) → IfOk result (λ r. r.end ≡ end) → IfOk result (λ r. P d end) →
    IfOk result (λ r. P r.decoder r.end)
of_rounds P (Ok r) d end same ends holds =
    subst (λ x. P x r.end) (sym same) (subst (P d) (sym ends) holds)
of_rounds P (Err error) d end same ends holds = tt

-- what holds of a decoder holds of the one that is handed on
pub of_decoder : (P : DecoderView → Type 0) (result : Result Rounds PutError) (d : DecoderView) →
    IfOk result (λ r. r.decoder ≡ d) → P d → IfOk result (λ r. P r.decoder)
of_decoder P (Ok r) d same holds = subst P (sym same) holds
of_decoder P (Err error) d same holds = tt

-- it ends as the rows end
pub of_end : (result : Result Rounds PutError) (end : Result (Unit {0}) RowError) →
    IfOk result (λ r. r.end ≡ end) → IfOk result (λ r. Rows end ≡ Rows r.end)
of_end (Ok r) end same = ap Rows (sym same)
of_end (Err error) end same = tt

-- ---- guesses

-- guesses that one may make may be made by another that may make them all
pub guessed_also : (one two : GuessView → Bool → Type 0) →
    ((view : GuessView) (answer : Bool) → one view answer → two view answer) →
    (task : Task) (m : Machine) (events : List Event) → AreGuessedFrom one task m events →
    AreGuessedFrom two task m events
guessed_also one two more task m [] guessed = tt
guessed_also one two more task m (event ∷ events) guessed =
    (by event guessed.0, guessed_also one two more task (happens task m event) events guessed.1)
  where
    by : (e : Event) → IsGuessedBy one task m e → IsGuessedBy two task m e
    by (Arrived t values raws) g = tt
    by (Claimed k w links) g = λ i link l. record {
      bit = λ guess j small. more _ _ ((g i link l).bit guess j small);
    }
    by (Returned k set) g = tt
    by (Stale k) g = tt
    by (Verified x w) g = tt
    by (Poisoned x w) g = tt
    by (Dropped w) g = tt
    by (Committed k w) g = tt
    by (Released op bit) g = tt
