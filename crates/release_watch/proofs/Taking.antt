-- A window that is taken, by the operations that wait for it.
use Rattle.std.proofs.Common.{◌≡◌, ℕ, ◌+◌, Bool, List, length, get_or, ap, sym, ◌∙◌, subst, Option}
use Rattle.graph_model.specs.Graph.{DetectorGraph, is_in}
use Rattle.graph_model.proofs.Members.{is_in-below}
use Rattle.window_model.specs.Decoder.{Task, needs}
use Rattle.pauli_frame.specs.Frames.{IsCommitted}
use Rattle.release_laws.specs.Tables.{ReleaseTable, TakesWindow, waiting_for}
use Rattle.release_watch.proofs.Lowering.{tally}

abbrev pub made : List ℕ → List (Option Bool) → List Bool → ReleaseTable
made missing bits frame = record { missing = missing; bits = bits; frame = frame }

pub takes_window : (task : Task) (w : ℕ) (g : DetectorGraph) (ops set : List ℕ)
    (old new : ReleaseTable) → task.graph ≡ g → ops ≡ waiting_for task w →
    length new.missing ≡ length old.missing → ((op : ℕ) →
    get_or old.missing op 0 ≡ get_or new.missing op 0 + tally (is_in ops op)) →
    new.bits ≡ old.bits →
    IsCommitted g set old.frame new.frame → TakesWindow task w set old new
takes_window task w g ops set old new same is each fewer bits frame = record {
  each_missing = each;
  fewer = λ op l.
      fewer op ∙ ap (λ b. get_or new.missing op 0 + tally b)
      (ap (λ xs. is_in xs op) is ∙ is_in-below (λ o. is_in (needs task o) w)
      (length task.operations) op l);
  bits = bits;
  frame = subst (λ (graph : DetectorGraph). IsCommitted graph set old.frame new.frame) (sym same)
      frame;
}
