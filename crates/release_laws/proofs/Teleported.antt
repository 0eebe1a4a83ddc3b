-- A patch is read at slot 1, and an operation on another, in slot 2, needs what was read: what is
-- kept of it before and after the patch's window is committed.
use Rattle.std.proofs.Common.{◌≡◌, ℕ, zero, suc, ◌+◌, ◌<◌, ◌==◌, ◌||◌, Bool, true, false, List, [], ◌∷◌, get_or, refl, sym, ap, arith, None, if◌then◌else◌}
use Rattle.std.proofs.lemmas.Bool.{ne_eqb}
use Rattle.graph_model.specs.Graph.{GraphEdge, flip_of, is_in}
use Rattle.graph_model.specs.Parity.{◌⊕◌}
use Rattle.window_model.specs.Decoder.{Task, needs}
use Rattle.window_model.specs.Windows.{Window}
use Rattle.release_laws.specs.Tables.{ReleaseTable, TakesWindow, waiting_for, first_table, can_release, framed_bit, with_bit}

abbrev edge_with : List ℕ → GraphEdge
edge_with mask = record { first = 0; second = None; weight = 2; mask = mask }

abbrev window_with : List ℕ → ℕ → Window
window_with owned last = record {
  detectors = [];
  edges = owned;
  owned = owned;
  deps = [];
  last =
      last;
}

-- the errors on one row of each patch flip what is read of it
abbrev task : Task
task = record {
  graph = record {
    vertices = 1;
    edges = edge_with (0 ∷ []) ∷ edge_with [] ∷ edge_with (0 ∷ []) ∷ edge_with (1 ∷ []) ∷ [];
  };
  tags = [];
  plan = record {
    cells = [];
    homes = [];
    windows = window_with (0 ∷ 1 ∷ 2 ∷ []) 1 ∷ window_with (3 ∷ []) 3 ∷ [];
  };
  operations = record { slot = 2; labels = 0 ∷ [] } ∷ [];
  raw_slots = 1 ∷ 3 ∷ [];
  last_slot = 3;
}

-- the operation waits for the first patch's window, and none for the other's
needed : needs task 0 ≡ 0 ∷ []
needed = refl

first_waits : waiting_for task 0 ≡ 0 ∷ []
first_waits = refl

none_waits : waiting_for task 1 ≡ []
none_waits = refl

abbrev begun : ReleaseTable
begun = record { missing = 1 ∷ []; bits = None ∷ []; frame = false ∷ false ∷ [] }

begun_is : first_table task ≡ begun
begun_is = refl

-- ---- window 0 is committed with an edge that flips the reading

abbrev committed : ReleaseTable
committed = record { missing = 0 ∷ []; bits = None ∷ []; frame = true ∷ false ∷ [] }

takes_first : TakesWindow task 0 (2 ∷ []) begun committed
takes_first = record {
  each_missing = refl;
  fewer = lowered;
  bits = refl;
  frame = record { each = refl; flip = turned };
}
  where
    lowered : (op : ℕ) → op < 1 → get_or begun.missing op 0
        ≡ get_or committed.missing op 0 + (if is_in (needs task op) 0 then 1 else 0)
    lowered zero l = refl
    lowered (suc op) l = absurd (omega (arith, l))

    turned : (l : ℕ) → get_or committed.frame l false
        ≡ get_or begun.frame l false ⊕ flip_of task.graph (2 ∷ []) l
    turned zero = refl
    turned (suc zero) = refl
    turned (suc (suc l)) = ap (λ b. (b || false) ⊕ false)
        (sym (ne_eqb 0 (suc (suc l)) (λ e. omega (arith, e))))

-- it has to lower the count
lowers_none : TakesWindow task 0 (2 ∷ []) begun (record begun { frame = true ∷ false ∷ [] }) → ⊥
lowers_none takes = let k = takes.fewer 0 (omega arith) in omega (arith, k)

-- and the other window leaves it
lowers_other : TakesWindow task 1 [] begun committed → ⊥
lowers_other takes = let k = takes.fewer 0 (omega arith) in omega (arith, k)

-- ---- when it may be released, and with which bit

not_before_the_commit : can_release task 2 begun 0 ≡ false
not_before_the_commit = refl

not_before_the_reading : can_release task 1 committed 0 ≡ false
not_before_the_reading = refl

once_it_is_read : can_release task 2 committed 0 ≡ true
once_it_is_read = refl

-- it read 1, and the commit flips it
flipped : framed_bit task (λ l. l == 0) committed.frame 0 ≡ false
flipped = refl

not_twice : can_release task 2 (with_bit committed 0 false) 0 ≡ false
not_twice = refl
