-- A frame that takes each commit is the decoder's.
use Rattle.std.proofs.Common.{◌≡◌, ℕ, zero, suc, Bool, false, List, [], ◌∷◌, refl, sym, ap, ◌∙◌, get_or, replicate}
use Rattle.std.specs.List.{range_with_len}
use Rattle.graph_model.specs.Graph.{flips}
use Rattle.graph_model.specs.Parity.{◌⊕◌, parity}
use Rattle.graph_model.proofs.Parities.{parity-flat_map, parity-none, parity-same}
use Rattle.window_model.specs.Decoder.{Task, Syndrome, Step, Arrive, Commit, Release, Decoder, start, after, after_all, kept_of, operation_at, IsRunFrom}
use Rattle.window_model.specs.Windows.{window_count}
use Rattle.window_model.proofs.Sums.{committed_more}
use Rattle.pauli_frame.specs.Frames.{IsFrameOf}
use Rattle.pauli_frame.specs.FrameLaws.{BitLaw, CommitLaw, FollowLaw, Follows}

pub commit_law : CommitLaw
commit_law task d window set old new within open_ frame turned l =
    turned.flip l ∙ ap (λ b. b ⊕ parity (flips task.graph l) set) (frame l)
    ∙ sym (committed_more task d window set open_ (flips task.graph l) within)

follow : (task : Task) (s : Syndrome) (d : Decoder) (steps : List Step) (old new : List Bool) →
    IsRunFrom task s d steps → IsFrameOf task d old → Follows task.graph steps old new →
    IsFrameOf task (after_all d steps) new
follow task s d [] old new run frame same = λ l. ap (λ bits. get_or bits l false) same ∙ frame l
follow task s d (Arrive slot ∷ steps) old new run frame next =
    follow task s (after d (Arrive slot)) steps old new run.1 frame next
follow task s d (Commit window set ∷ steps) old new run frame next =
    follow task s (after d (Commit window set)) steps next.0 new run.1
    (commit_law task d window set old next.0 run.0.in_range run.0.open_ frame next.1) next.2
follow task s d (Release op bit ∷ steps) old new run frame next =
    follow task s (after d (Release op bit)) steps old new run.1 frame next

never_true : (n l : ℕ) → get_or (replicate n false) l false ≡ false
never_true zero l = refl
never_true (suc n) zero = refl
never_true (suc n) (suc l) = never_true n l

pub begun : (task : Task) (labels : ℕ) → IsFrameOf task start (replicate labels false)
begun task labels l =
    never_true labels l
    ∙ sym (parity-flat_map (flips task.graph l) (kept_of start) (range_with_len 0
    (window_count task.plan)) ∙ parity-none (λ w. parity (flips task.graph l) (kept_of start w))
    (λ w. refl) (range_with_len 0 (window_count task.plan)))

pub follow_law : FollowLaw
follow_law task s steps labels frame run followed =
    follow task s start steps (replicate labels false) frame run (begun task labels) followed

pub bit_law : BitLaw
bit_law task s d frame op is =
    parity-same _ _ (λ l. ap (λ b. s.raw l ⊕ b) (sym (is l))) (operation_at task op).labels
