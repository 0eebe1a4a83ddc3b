-- One patch is read at slot 1, and an operation in this slot needs what is read then: it comes too
-- early. A slot later it doesn't.
use Rattle.std.proofs.Common.{◌≡◌, ℕ, Bool, zero, suc, ◌+◌, ◌<◌, ◌≤◌, true, List, [], ◌∷◌, map, codes, length, replicate, refl, sym, ap, ◌∙◌, subst, arith, Contains, None, slice_index}
use Rattle.std.specs.List.{list_any, range_with_len}
use Rattle.std.proofs.lemmas.Bool.{false≢true}
use Rattle.graph_model.specs.Graph.{DetectorGraph, flips, is_in}
use Rattle.graph_model.specs.Parity.{parity}
use Rattle.graph_model.specs.declared.Tag.{Tag}
use Rattle.window_model.specs.Cells.{Cell, Sliding}
use Rattle.window_model.specs.Decoder.{Task, needs, operation_at}
use Rattle.window_model.specs.Gates.{WaitsFor, raw, needed, older, IsReadyRound, IsTooEarly, IsFirstTooEarly, plan_fault}
use Rattle.window_model.specs.Windows.{WindowPlan, IsPlan, IsAncestor, direct, through, window_at, window_of}
use Rattle.window_model.proofs.CellTests.{home_at, window_cells}
use Rattle.window_model.proofs.OnePatch.{read_at_one, tags_one}
use Rattle.window_model.proofs.Plans.{in_below}
use Rattle.window_model.proofs.ReadyRounds.{one_round_law}
use Rattle.surface_model.specs.Schedules.{Schedule}
use Rattle.surface_model.specs.declared.Basis.TheVariants.{Z}
use Rattle.surface_model.specs.Errors.{graph_of}
use Rattle.surface_model.specs.Tags.{tags_of}
use Rattle.report_model.specs.Tasks.{labels_of, task_of}

-- the operation stands in this slot
abbrev pub schedule : ℕ → Schedule
schedule slot = record {
  distance = 3;
  space = 2;
  time = 3;
  patches = record { line = 4; name = codes "a"; row = 0; column = 0 } ∷ [];
  inits = record { line = 5; patch = 0; basis = Z; slot = 0 } ∷ [];
  merges = [];
  reads = record { line = 6; label = codes "ra"; patch = 0; basis = Z; slot = 1 } ∷ [];
  conds = record { line = 7; label = codes "c"; patch = 0; slot = slot; labels = 0 ∷ [] } ∷ [];
  rounds_line = 8;
}

-- ---- its plan, with both slots in one block and no buffer

abbrev pub cells : List Cell
cells = record { block = 0; row = 0; column = 0 } ∷ []

abbrev pub homes : List ℕ
homes = replicate 8 0

abbrev pub plan : WindowPlan
plan = record {
  cells = cells;
  homes = homes;
  windows = map (window_of (read_at_one 2 3) tags_one homes 1 0) (range_with_len 0 1);
}

graph_is : (slot : ℕ) → graph_of (schedule slot) ≡ read_at_one 2 3
graph_is slot = refl

tags_are : (slot : ℕ) → tags_of (schedule slot) ≡ tags_one
tags_are slot = refl

its_plan : IsPlan (read_at_one 2 3) tags_one Sliding 2 0 plan
its_plan = record {
  cells = window_cells Sliding 2 tags_one cells refl;
  homes = record {
    each_one = refl;
    home = home_at 2 cells tags_one homes (
      refl,
      (
        refl,
        (refl, (refl, (refl, (refl, (refl, (refl, tt)))))),
      ),
    );
  };
  windows = refl;
}

pub planned : (slot : ℕ) → IsPlan (graph_of (schedule slot)) (tags_of (schedule slot)) Sliding 2 0
    plan
planned slot =
    subst (λ (g : DetectorGraph). IsPlan g (tags_of (schedule slot)) Sliding 2 0 plan)
    (sym (graph_is slot))
    (subst (λ (tags : List Tag). IsPlan (read_at_one 2 3) tags Sliding 2 0 plan)
    (sym (tags_are slot)) its_plan)

pub within : plan_fault plan ≡ None
within = refl

-- ---- what the operation waits for

abbrev task : ℕ → Task
task slot = task_of (schedule slot) plan

raws_are : (slot : ℕ) → (task slot).raw_slots ≡ 1 ∷ []
raws_are slot = refl

last_is : (window_at plan 0).last ≡ 1
last_is = refl

no_deps : (window_at plan 0).deps ≡ []
no_deps = refl

no_older : (x : ℕ) → IsAncestor plan x 0 → ⊥
no_older x (direct d) = absurd (false≢true (ap (λ ds. is_in ds x) (sym no_deps) ∙ d))
no_older x (through {y = y} a d) = absurd (false≢true (ap (λ ds. is_in ds y) (sym no_deps) ∙ d))

needed_is : (slot w : ℕ) → is_in (needs (task slot) 0) w ≡ true → w ≡ 0
needed_is slot w m = let test : ℕ → Bool =
    λ x. list_any (λ e.
    parity (λ l. flips (task slot).graph l e) (operation_at (task slot) 0).labels)
    (window_at plan x).owned in
    let k = in_below test 1 w m in omega (arith, k.0)

read_at_one_slot : (slot : ℕ) → slice_index (task slot).raw_slots 0 ≡ 1
read_at_one_slot slot = ap (λ raws. slice_index raws 0) (raws_are slot)

at_most : (slot n : ℕ) → WaitsFor (task slot) 0 n → n ≤ 1
at_most slot n (raw l (zero, m, is)) = subst (λ k. slice_index (task slot).raw_slots k ≤ 1) is
    (omega (arith, read_at_one_slot slot))
at_most slot n (raw l (suc k, m, is)) = absurd (omega (arith, m))
at_most slot n (needed w m) = subst (λ x. (window_at plan x).last ≤ 1) (sym (needed_is slot w m))
    (omega (arith, last_is))
at_most slot n (older x w m a) = absurd (no_older x
    (subst (IsAncestor plan x) (needed_is slot w m) a))

ready : (slot : ℕ) → IsReadyRound (task slot) 0 1
ready slot = record {
  waited = subst (WaitsFor (task slot) 0) (read_at_one_slot slot) (raw 0 (0, omega arith, refl));
  greatest = at_most slot;
}

-- in the slot of the reading
pub first : IsFirstTooEarly (task 1) 0 1
first = record {
  in_range = omega arith;
  too_early = record { ready = ready 1; not_below = omega arith };
  first = λ other later l. absurd (omega (arith, l));
}

-- a slot later it waits for what has arrived
not_early : (round : ℕ) → IsTooEarly (task 2) 0 round → ⊥
not_early round early =
    let e = one_round_law (task 2) 0 round 1 early.ready (ready 2) in
    let late : 2 ≤ round = early.not_below in
    omega (arith, e, late)
