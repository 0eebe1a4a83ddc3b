-- Scripts that are played from the start, up to their faults.
use Rattle.std.proofs.Common.{◌≡◌, ◌≤◌, ℕ, List, [], ◌∷◌, ◌++◌, codes, refl, arith, None, Some, false}
use Rattle.std.specs.Fmt.{digits}
use Rattle.window_model.specs.Decoder.{MayArrive}
use Rattle.window_model.specs.Speculation.{Machine, Event, Arrived, start, happens, decoder_of}
use Rattle.window_model.proofs.Rows.{one_window, all_zero}
use Rattle.replay_model.specs.Scripts.{script_of}
use Rattle.replay_model.specs.Replays.{Stage, IsReplay, Plays, rest_line}
use Rattle.replay_model.specs.declared.ScriptLine.TheVariants.{Arrive}
use Rattle.report_model.proofs.Printed.{lines}

-- nothing was ever claimed
unclaimed : (stage : Stage) →
    IsReplay stage (script_of 11 (codes "finish 0" ++ 10 ∷ [])) 11 [] [] (Some 11)
unclaimed stage = record {
  count = 0;
  plays = (refl, refl);
  stops = ((λ unfinished. omega (arith, unfinished.claimed)), refl);
}

-- no script
nothing : (stage : Stage) → IsReplay stage (script_of 11 []) 11 [] [] None
nothing stage = record { count = 0; plays = (refl, refl); stops = refl }

-- no line of the script is one
no_line : (stage : Stage) →
    IsReplay stage (script_of 11 (codes "start" ++ 10 ∷ [])) 11 [] [] (Some 11)
no_line stage = record { count = 0; plays = (refl, refl); stops = refl }

-- the schedule of one window over two slots, without errors
abbrev quiet : Stage
quiet = record {
  task = one_window;
  retries = 1;
  may_guess = λ view bit. bit ≡ false;
  syndrome = all_zero;
  labels = [];
}

-- the slots 0 and 1 may arrive, and no other
abbrev first_arrival : Event
first_arrival = Arrived 0 (false ∷ false ∷ false ∷ false ∷ []) []

abbrev second_arrival : Event
second_arrival = Arrived 1 (false ∷ false ∷ false ∷ false ∷ []) (false ∷ [])

may_come : (m : Machine) → m.arrived ≤ 1 → MayArrive one_window (decoder_of one_window m) m.arrived
may_come m early = record {
  next = refl;
  in_range = early;
  released = λ op l d. absurd (omega (arith, l));
}

arrivals : IsReplay quiet
    (script_of 11 (lines (codes "arrive" ∷ codes "arrive" ∷ codes "arrive" ∷ []))) 11
    (first_arrival ∷ second_arrival ∷ [])
    (lines (codes "arrive 0" ∷ codes "arrive 1" ∷ [])) (Some 13)
unfolding digits
arrivals = record { count = 2; plays = first; stops = ((λ may. omega (arith, may.in_range)), refl) }
  where
    after_first : Machine
    after_first = happens one_window start first_arrival

    second : Plays quiet after_first (Arrive ∷ [])
        (second_arrival ∷ []) (lines (codes "arrive 1" ∷ []))
    second = (
      second_arrival ∷ [],
      [],
      lines (codes "arrive 1" ∷ []),
      [],
      refl,
      refl,
      may_come after_first (omega arith),
      record {
        values = false ∷ false ∷ false ∷ false ∷ [];
        raws = false ∷ [];
        brought = (refl, refl);
        told = record {
          enabled = (may_come after_first (omega arith), refl, refl);
          events_are = refl;
          text_is = refl;
        };
      },
      (refl, refl),
    )

    first : Plays quiet start (Arrive ∷ Arrive ∷ [])
        (first_arrival ∷ second_arrival ∷ []) (lines (codes "arrive 0" ∷ codes "arrive 1" ∷ []))
    first = (
      first_arrival ∷ [],
      second_arrival ∷ [],
      lines (codes "arrive 0" ∷ []),
      lines (codes "arrive 1" ∷ []),
      refl,
      refl,
      may_come start (omega arith),
      record {
        values = false ∷ false ∷ false ∷ false ∷ [];
        raws = [];
        brought = (refl, refl);
        told = record {
          enabled = (may_come start (omega arith), refl, refl);
          events_are = refl;
          text_is = refl;
        };
      },
      second,
    )

-- nothing is done before a slot arrives
at_start : rest_line one_window start ≡ codes "idle" ++ 10 ∷ []
at_start = refl
