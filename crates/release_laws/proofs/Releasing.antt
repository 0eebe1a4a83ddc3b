-- Which operations may be released, and which is the first.
use Rattle.std.proofs.Common.{◌≡◌, ℕ, ◌<◌, ◌==◌, ◌&&◌, Bool, true, nat_lt, List, length, get_or, sym, ap, ◌∙◌, Some, None, is_none, eq-eqb, eqb-true}
use Rattle.std.proofs.lemmas.Bool.{and_parts, and_from, ltb-true, lt-ltb}
use Rattle.window_model.specs.Decoder.{Task, HasRaw, MayRelease, needs, operation_at}
use Rattle.window_model.specs.Speculation.{Machine, Released, decoder_of, syndrome_of}
use Rattle.window_model.proofs.FirstTurns.{first_turn_law}
use Rattle.pauli_frame.proofs.Following.{bit_law}
use Rattle.graph_model.proofs.Members.{passes_in, all_pass, All-at, all_within}
use Rattle.cascade_laws.specs.MirrorLaws.{reached}
use Rattle.release_laws.specs.Tables.{ReleaseTable, IsTableFor, bit_of, has_raws, can_release, framed_bit}
use Rattle.release_laws.specs.TableLaws.{AreNamed, ReleasableLaw, FirstReleaseLaw}
use Rattle.release_laws.proofs.Counting.{all_committed, none_open, none_is, is_none_is}

module _ (task : Task) (m : Machine) (table : ReleaseTable) (op : ℕ) (named : AreNamed task)
    (is : IsTableFor task (decoder_of task m) table) (within : op < length task.operations) where
  abbrev labels : List ℕ
  labels = (operation_at task op).labels

  abbrev early : ℕ → Bool
  early l = nat_lt (get_or task.raw_slots l 0) m.arrived

  pub may_release : can_release task m.arrived table op ≡ true →
      MayRelease task (syndrome_of m) (decoder_of task m) op (framed_bit task m.raw table.frame op)
  may_release can =
      let outer = and_parts (is_none (bit_of table op) && (get_or table.missing op 0 == 0))
      (has_raws task m.arrived op) can in
      let inner = and_parts (is_none (bit_of table op)) (get_or table.missing op 0 == 0) outer.0 in
      record {
        in_range = within;
        open_ = is_none_is ((decoder_of task m).released op) (ap is_none (sym (is.bit op within))
            ∙ inner.0);
        needs_kept = all_committed (decoder_of task m).kept (needs task op)
            (sym (is.missing op within) ∙ eqb-true (get_or table.missing op 0) 0 inner.1);
        raw_arrived = all_within (HasRaw task (decoder_of task m)) labels (λ l inside. record {
          in_range = All-at (λ x. x < length task.raw_slots) labels l (named op within) inside;
          arrived = ltb-true _ _ (passes_in early labels outer.1 l inside);
        });
        value = sym (bit_law task (syndrome_of m) (decoder_of task m) table.frame op is.frame);
      }

  pub can_from : (bit : Bool) → MayRelease task (syndrome_of m) (decoder_of task m) op bit →
      can_release task m.arrived table op ≡ true
  can_from bit may =
      and_from _ _ (and_from _ _ (ap is_none (is.bit op within) ∙ none_is ((decoder_of task
      m).released op) may.open_) (eq-eqb (get_or table.missing op 0) 0 (is.missing op within
      ∙ none_open (decoder_of task m).kept (needs task op) may.needs_kept)))
      (all_pass early labels (λ l inside. lt-ltb _ _
      ((All-at (HasRaw task (decoder_of task m)) labels l may.raw_arrived inside).arrived)))

pub releasable_law : ReleasableLaw
releasable_law task events table op named is within = (
  λ can. (
    framed_bit task (reached task events).raw table.frame op,
    may_release task (reached task events) table op named is within can,
  ),
  λ may. can_from task (reached task events) table op named is within may.0 may.1,
)

pub first_release_law : FirstReleaseLaw
first_release_law task retries events table None named is no_drop no_comparison no_commit least =
    λ op may. least op (
      may.1.in_range,
      can_from task (reached task events) table op named is may.1.in_range may.0 may.1,
    )
first_release_law task retries events table (Some op) named is no_drop no_comparison no_commit
    least = (
      may_release task (reached task events) table op named is least.0.0 least.0.1,
      first_turn_law task retries (reached task events)
          (Released op (framed_bit task (reached task events).raw table.frame op)) (
            no_drop,
            no_comparison,
            no_commit,
            λ o l may. least.1 o l (
              may.1.in_range,
              can_from task (reached task events) table o named is may.1.in_range may.0 may.1,
            ),
          ),
    )
