-- What the scans find is the first turn.
use Rattle.std.proofs.Common.{◌≡◌, ℕ, ◌<◌, true, length, sym, ◌∙◌, subst, Option, Some, None}
use Rattle.std.proofs.lemmas.Option.{none-some, same_Some}
use Rattle.window_model.specs.Windows.{window_count}
use Rattle.window_model.specs.TurnLaws.{NoCommit, NoComparison, NoDrop, NoRelease}
use Rattle.poison_cascade.specs.Books.{IsLeast, IsLeastPair, IsOrphan, IsUnverified, standing}
use Rattle.cascade_laws.specs.Turns.{IsClaimTurn, IsCommitTurn, IsCompareTurn, IsDropTurn, can_claim_in, can_commit}
use Rattle.cascade_laws.proofs.FirstTurns.{first_commit_law, first_comparison_law, first_drop_law}
use Rattle.cascade_laws.proofs.Claiming.{first_claim_law}
use Rattle.release_laws.specs.Tables.{framed_bit}
use Rattle.release_laws.specs.TableLaws.{IsReleaseTurn}
use Rattle.release_watch.specs.Watches.{is_ready}
use Rattle.release_watch.proofs.Readying.{first_ready_law}
use Rattle.window_setting.specs.Slots.{last_raw, last_raws}
use Rattle.std.proofs.lemmas.List.FromFn.{length-map-range_with_len}
use Rattle.window_phases.specs.Phases.{IsOfPlan}
use Rattle.core_state.specs.States.{AreParts, IsCommitFound, IsReleaseFound, Parts, history_in, machine_in}
use Rattle.core_state.proofs.Follows.{laws}

module _ (p : Parts) (h : AreParts p) where
  pub drop_found : (found : Option ℕ) → IsLeast (IsOrphan p.phases.book) found →
      IsDropTurn p.task p.retries (machine_in p) found
  drop_found found least = first_drop_law p.task p.retries (history_in p) p.phases.book found
      (laws p h) h.history h.phases.book least

  pub comparison_found : (found : Option (ℕ × ℕ)) → NoDrop (machine_in p) → IsLeastPair
      (IsUnverified p.phases.book) found → IsCompareTurn p.task p.retries (machine_in p) found
  comparison_found found no_drop least = first_comparison_law p.task p.retries (history_in p)
      p.phases.book found (laws p h) h.history h.phases.book no_drop least

  commit_turn : (found : Option ℕ) → NoDrop (machine_in p) → NoComparison p.task (machine_in p) →
      IsLeast (λ w. can_commit p.phases.book p.phases.done w ≡ true) found →
      IsCommitTurn p.task p.retries (machine_in p) p.phases.book found
  commit_turn found no_drop no_comparison least =
      first_commit_law p.task p.retries (history_in p) p.phases.book p.phases.done found (laws p h)
      h.history h.phases.book h.phases.done no_drop no_comparison least

  pub none_to_commit : NoDrop (machine_in p) → NoComparison p.task (machine_in p) →
      IsLeast (λ w. can_commit p.phases.book p.phases.done w ≡ true) None →
      NoCommit p.task (machine_in p)
  none_to_commit no_drop no_comparison least = commit_turn None no_drop no_comparison least

  pub commit_found : (w k : ℕ) → NoDrop (machine_in p) → NoComparison p.task (machine_in p) →
      IsLeast (λ y. can_commit p.phases.book p.phases.done y ≡ true) (Some w) →
      standing p.phases.book w ≡ Some k →
      IsCommitFound p.task p.retries (machine_in p) (Some (k, w))
  commit_found w k no_drop no_comparison least stands =
      let turn = commit_turn (Some w) no_drop no_comparison least in
      subst (λ j. IsCommitFound p.task p.retries (machine_in p) (Some (j, w)))
      (same_Some turn.0 k (sym turn.1 ∙ stands)) (turn.2, turn.3)

  -- a window that can be committed stands
  pub commit_stands : (w : ℕ) → NoDrop (machine_in p) → NoComparison p.task (machine_in p) →
      IsLeast (λ y. can_commit p.phases.book p.phases.done y ≡ true) (Some w) →
      standing p.phases.book w ≡ None → ⊥
  commit_stands w no_drop no_comparison least none =
      let turn = commit_turn (Some w) no_drop no_comparison least in
      none-some turn.0 (sym none ∙ turn.1)

  pub of_plan : IsOfPlan p.task.plan p.phases.book
  of_plan = record { each_window = h.phases.book.each_window; deps = h.phases.book.deps }

  pub claim_found : (found : Option ℕ) →
      NoDrop (machine_in p) → NoComparison p.task (machine_in p) → NoCommit p.task (machine_in p) →
      NoRelease p.task (machine_in p) →
      IsLeast (λ w. (w < window_count p.task.plan) × (can_claim_in p.task.plan p.phases.book.retries
      p.arrived p.phases.book p.phases.done w ≡ true)) found →
      IsClaimTurn p.task p.retries (machine_in p) found
  claim_found found no_drop no_comparison no_commit no_release least =
      first_claim_law p.task p.retries (history_in p) p.phases.book p.phases.done found (laws p h)
      h.history h.phases.book h.phases.done no_drop no_comparison no_commit no_release
      (subst
      (λ n. IsLeast (λ w. (w < window_count p.task.plan) × (can_claim_in p.task.plan p.retries n
      p.phases.book p.phases.done w ≡ true)) found) (sym h.arrived)
      (subst (λ r. IsLeast (λ w. (w < window_count p.task.plan) × (can_claim_in p.task.plan r
      p.arrived p.phases.book p.phases.done w ≡ true)) found) h.phases.book.retries_are least))

  pub raws_count : length (last_raws p.task) ≡ length p.releases.missing
  raws_count =
      length-map-range_with_len (last_raw p.task) 0 (length p.task.operations)
      ∙ sym h.releases.each_missing

  as_found : (found : Option ℕ) → IsReleaseTurn p.task p.retries (machine_in p) p.releases.frame
      found → IsReleaseFound p.task p.retries (machine_in p) found
  as_found None turn = turn
  as_found (Some op) turn = (
    framed_bit p.task (machine_in p).raw p.releases.frame op,
    turn.0,
    turn.1,
  )

  pub release_found : (found : Option ℕ) → NoDrop (machine_in p) →
      NoComparison p.task (machine_in p) → NoCommit p.task (machine_in p) →
      IsLeast (λ op. (op < length p.releases.missing)
      × (is_ready (last_raws p.task) p.arrived p.releases op ≡ true)) found →
      IsReleaseFound p.task p.retries (machine_in p) found
  release_found found no_drop no_comparison no_commit least =
      as_found found
      (first_ready_law p.task p.retries (history_in p) p.releases found h.setting h.releases no_drop
      no_comparison no_commit
      (subst (λ n. IsLeast (λ op. (op < length p.releases.missing)
      × (is_ready (last_raws p.task) n p.releases op ≡ true)) found) (sym h.arrived) least))
