-- From the text of a schedule and its rows to a run with a release.
use Rattle.std.proofs.Common.{◌≡◌, ℕ, zero, suc, ◌<◌, ◌==◌, Bool, true, false, cond, List, [], ◌∷◌, ◌++◌, map, flat_map, length, get_or, codes, refl, arith, IsSome, All, ◌≤◌}
use Rattle.std.specs.List.{range_with_len}
use Rattle.graph_model.specs.Graph.{DetectorGraph, weight_at}
use Rattle.graph_model.proofs.Potentials.{least_by_test}
use Rattle.graph_model.specs.declared.Tag.{Tag}
use Rattle.window_model.specs.Windows.{WindowPlan, window_of, window_at}
use Rattle.window_model.specs.Decoder.{Task, Syndrome, Arrive, Commit, Release, Decoder, start, after_all, kept_of, incoming, needs, operation_at, HasRaw, IsRun}
use Rattle.surface_model.specs.Schedules.{Schedule, CondLine}
use Rattle.surface_model.specs.Layout.{tile_of}
use Rattle.surface_model.specs.Measurements.{Detector, Observable, detectors, observables, bits_of_slot, parity_of}
use Rattle.surface_model.specs.Errors.{graph_of}
use Rattle.surface_model.specs.Reading.{Reading, Good, reading_of}
use Rattle.surface_model.specs.Parse.{schedule_of}

abbrev text : List ℕ
text =
    flat_map (λ line. line ++ 10 ∷ [])
    (codes "swiper 1" ∷ codes "distance 3" ∷ codes "weights 2 3" ∷ codes "patch a 0 0"
    ∷ codes "patch b 0 1" ∷ codes "init a z 0" ∷ codes "init b z 0"
    ∷ codes "read ra a z 1" ∷ codes "cond c b 2 ra" ∷ codes "read rb b z 3" ∷ codes "rounds" ∷ [])

abbrev schedule : Schedule
schedule = schedule_of text

abbrev lengths : List ℕ
lengths = map (λ t. length (bits_of_slot schedule t)) (range_with_len 0 4)

lengths_are : lengths ≡ 16 ∷ 17 ∷ 8 ∷ 9 ∷ []
lengths_are = refl

abbrev reading : Reading
reading = reading_of (16 ∷ 17 ∷ 8 ∷ 9 ∷ []) 12 (flat_map (λ line. line ++ 10 ∷ []) (codes
    "0000100000000000" ∷ codes "00100000000000000" ∷ codes "00000000" ∷ codes "000000000" ∷ []))

is_good : reading.ending ≡ Good
is_good = refl

abbrev values : List Bool
values = map (λ (d : Detector). parity_of schedule reading.rows d.bits) (detectors schedule)

abbrev raws : List Bool
raws = map (λ (o : Observable). parity_of schedule reading.rows o.bits) (observables schedule)

raws_are : raws ≡ true ∷ false ∷ []
raws_are = refl

abbrev tags : List Tag
tags = map (λ (d : Detector). let tile = tile_of schedule d.corner in
    record { slot = d.slot; tile_row = tile.row; tile_col = tile.column }) (detectors schedule)

-- both windows are of the first block, so a detector's home is its tile's column
abbrev homes : List ℕ
homes = map (λ (t : Tag). t.tile_col) tags

abbrev graph : DetectorGraph
graph = graph_of schedule

counts : graph.vertices ∷ length graph.edges ∷ [] ≡ 32 ∷ 100 ∷ []
counts = refl

abbrev plan : WindowPlan
plan = record {
  cells = record { block = 0; row = 0; column = 0 } ∷ record { block = 0; row = 0; column = 1 }
      ∷ [];
  homes = homes;
  windows = map (window_of graph tags homes 2 3) (range_with_len 0 2);
}

abbrev task : Task
task = record {
  graph = graph;
  tags = tags;
  plan = plan;
  operations = map (λ (c : CondLine). record { slot = c.slot; labels = c.labels }) schedule.conds;
  raw_slots = map (λ (o : Observable). o.slot) (observables schedule);
  last_slot = 3;
}

abbrev syndrome : Syndrome
syndrome = record { value = λ v. get_or values v false; raw = λ l. get_or raws l false }

needed : needs task 0 ≡ 0 ∷ []
needed = refl

last_slots : (window_at plan 0).last ∷ (window_at plan 1).last ∷ [] ≡ 1 ∷ 3 ∷ []
last_slots = refl

only_defect : values ≡ false ∷ true ∷ map (λ x. false) (range_with_len 0 30)
only_defect = refl

abbrev late : Decoder
late = after_all start (Arrive 0 ∷ Arrive 1 ∷ Commit 0 (2 ∷ []) ∷ Release 0 false ∷ Arrive 2
    ∷ Arrive 3 ∷ [])

none_yet : (t : ℕ) → t < 2 → (op : ℕ) → op < 1 → (slot : ℕ) → slot ≡ 2 → slot ≤ t → ⊥
none_yet t small op h slot e l = omega (arith, small, e, l)

only : {X : Type 0} (P : X → Type 0) (x : X) → P x → All P (x ∷ [])
only P x h zero d l = h
only P x h (suc k) d l = absurd (omega arith)

early : (slot : ℕ) → slot < 2 → (op : ℕ) → op < 1 → (operation_at task op).slot ≤ slot →
    IsSome ((after_all start []).released op)
early slot small zero h l = absurd (omega (arith, small, l))
early slot small (suc op) h l = absurd (omega arith)

given : (slot : ℕ) → (op : ℕ) → op < 1 → (operation_at task op).slot ≤ slot →
    IsSome (late.released op)
given slot zero h l = refl
given slot (suc op) h l = absurd (omega arith)

is_run : IsRun task syndrome (Arrive 0 ∷ Arrive 1 ∷ Commit 0 (2 ∷ []) ∷ Release 0 false ∷ Arrive 2
    ∷ Arrive 3 ∷ Commit 1 [] ∷ [])
is_run = (
  record { next = refl; in_range = omega arith; released = early 0 (omega arith) },
  (
    record { next = refl; in_range = omega arith; released = early 1 (omega arith) },
    (
      record {
        in_range = omega arith;
        open_ = refl;
        arrived = omega arith;
        deps = λ k d l. absurd (omega arith);
        least = (
          2 ∷ [],
          least_by_test graph (weight_at graph) (window_at plan 0).detectors
              (window_at plan 0).edges (incoming task syndrome (kept_of start) 0) (2 ∷ []) (λ v.
              cond (v == 1) 4 0) refl,
          refl,
        );
      },
      (
        record {
          in_range = omega arith;
          open_ = refl;
          needs_kept = only (λ w. IsSome
              ((after_all start (Arrive 0 ∷ Arrive 1 ∷ Commit 0 (2 ∷ []) ∷ [])).kept w)) 0 refl;
          raw_arrived = only (HasRaw task (after_all start (Arrive 0 ∷ Arrive 1 ∷ Commit 0 (2 ∷ [])
              ∷ []))) 0 (record { in_range = omega arith; arrived = omega arith });
          value = refl;
        },
        (
          record { next = refl; in_range = omega arith; released = given 2 },
          (
            record { next = refl; in_range = omega arith; released = given 3 },
            (
              record {
                in_range = omega arith;
                open_ = refl;
                arrived = omega arith;
                deps = λ k d l. absurd (omega arith);
                least = (
                  [],
                  least_by_test graph (weight_at graph) (window_at plan 1).detectors
                      (window_at plan 1).edges (incoming task syndrome (kept_of late) 1) [] (λ v.
                      0) refl,
                  refl,
                );
              },
              tt,
            ),
          ),
        ),
      ),
    ),
  ),
)
