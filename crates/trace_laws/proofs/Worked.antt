-- The journal of a wrong guess, with its lines and steps.
use Rattle.std.specs.Prelude.{◌≡◌, false, true, List, [], ◌∷◌, ◌++◌, codes, flat_map, None, Some, refl}
use Rattle.std.specs.Fmt.{digits}
use Rattle.window_model.specs.Decoder.{Arrive, Commit}
use Rattle.window_model.proofs.Guessing.{guess_zero, named, none_of, three_windows, wrong_guess}
use Rattle.report_model.proofs.Printed.{lines}
use Rattle.core_journal.specs.declared.event.Event.{Event as Entry}
use Rattle.core_journal.specs.declared.event.Event.TheVariants as entry
use Rattle.core_journal.specs.Entries.{Kept, history_of}
use Rattle.trace_laws.specs.Told.{entry_line, entry_steps}

abbrev kept : Kept
kept = record {
  values = true ∷ none_of 4 ++ true ∷ none_of 10;
  raws = false ∷ [];
  links = []
      ∷ (guess_zero ∷ [])
      ∷ (named 1 1 (true ∷ none_of 3) ∷ [])
      ∷ (named 0 0 (true ∷ none_of 3) ∷ [])
      ∷ (named 1 3 (none_of 4) ∷ [])
      ∷ [];
  results = Some (10 ∷ []) ∷ Some (36 ∷ []) ∷ Some (43 ∷ []) ∷ Some [] ∷ Some [] ∷ [];
}

abbrev entries : List Entry
entries =
    entry.Arrived 0 ∷ entry.Arrived 1 ∷ entry.Arrived 2 ∷ entry.Claimed 0 0 ∷ entry.Claimed 1 1
    ∷ entry.Held 1 ∷ entry.Claimed 2 2 ∷ entry.Held 2 ∷ entry.Held 0 ∷ entry.Poisoned 0 1
    ∷ entry.Dropped 2 ∷ entry.Committed 0 0 ∷ entry.Claimed 3 1 ∷ entry.Held 3
    ∷ entry.Committed 3 1 ∷ entry.Claimed 4 2 ∷ entry.Held 4 ∷ entry.Committed 4 2 ∷ []

history_is : history_of three_windows kept entries ≡ wrong_guess
history_is = refl

lines_are : flat_map (entry_line three_windows [] kept) entries ≡ lines
    (codes "arrive 0" ∷ codes "arrive 1" ∷ codes "arrive 2" ∷ codes "claim 0 0"
    ∷ codes "claim 1 1 0?0000" ∷ codes "hold 1" ∷ codes "claim 2 2 1=1" ∷ codes "hold 2"
    ∷ codes "hold 0" ∷ codes "poison 0 1" ∷ codes "drop 2" ∷ codes "commit 0 10"
    ∷ codes "claim 3 1 0=0" ∷ codes "hold 3" ∷ codes "commit 1" ∷ codes "claim 4 2 1=3"
    ∷ codes "hold 4" ∷ codes "commit 2" ∷ [])
unfolding digits
lines_are = refl

steps_are : flat_map (entry_steps three_windows kept) entries
    ≡ Arrive 0 ∷ Arrive 1 ∷ Arrive 2 ∷ Commit 0 (10 ∷ []) ∷ Commit 1 [] ∷ Commit 2 [] ∷ []
steps_are = refl

-- a stale result is reported with the ticket that runs, or with none
stale_lines : flat_map (entry_line three_windows [] kept)
    (entry.Stale 1 (Some 3) ∷ entry.Stale 1 None ∷ entry.Verified 1 2 ∷ [])
    ≡ lines (codes "stale 1 3" ∷ codes "stale 1 none" ∷ codes "verify 1 2" ∷ [])
unfolding digits
stale_lines = refl
