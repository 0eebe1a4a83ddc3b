-- Texts that are written piece by piece.
use Rattle.std.proofs.Common.{◌≡◌, ℕ, ◌+◌, Bool, List, [], ◌∷◌, ◌++◌, append_assoc, append-nil, codes, flat_map, sym, ap, ◌∙◌}
use Rattle.std.specs.List.{range_with_len}
use Rattle.graph_model.specs.Graph.{flip_of}
use Rattle.graph_model.specs.Parity.{◌⊕◌}
use Rattle.report_model.specs.Texts.{bit_text, frame_line, label_of, line}
use Rattle.window_model.specs.Decoder.{Task, Syndrome, Decoder, committed_edges}
use Rattle.run_report.specs.Names.{counts_line}
use Rattle.graph_model.proofs.Ranges.{flat_map_next}

abbrev frame : List ℕ → Bool → Bool → List ℕ
frame name raw flip =
    line (codes "frame" ∷ name ∷ bit_text raw ∷ bit_text flip ∷ bit_text (raw ⊕ flip) ∷ [])

-- one more frame
pub frame_more : (task : Task) (s : Syndrome) (d : Decoder) (names : List (List ℕ)) (l : ℕ)
    (before so_far next name : List ℕ) (raw flip : Bool) →
    so_far ≡ before ++ flat_map (frame_line task s d names) (range_with_len 0 l) → name
    ≡ label_of names l → raw ≡ s.raw l → flip ≡ flip_of task.graph (committed_edges task d) l →
    next ≡ so_far
    ++ line (codes "frame" ∷ name ∷ bit_text raw ∷ bit_text flip ∷ bit_text (raw ⊕ flip) ∷ []) →
    next ≡ before ++ flat_map (frame_line task s d names) (range_with_len 0 (l + 1))
frame_more task s d names l before so_far next name raw flip was named read flipped written =
    written
    ∙ ap (λ t. t ++ frame name raw flip) was
    ∙ ap (λ n. (before ++ flat_map (frame_line task s d names) (range_with_len 0 l))
    ++ frame n raw flip) named
    ∙ ap (λ b. (before ++ flat_map (frame_line task s d names) (range_with_len 0 l))
    ++ frame (label_of names l) b flip) read
    ∙ ap (λ b. (before ++ flat_map (frame_line task s d names) (range_with_len 0 l))
    ++ frame (label_of names l) (s.raw l) b) flipped
    ∙ append_assoc before (flat_map (frame_line task s d names) (range_with_len 0 l))
    (frame_line task s d names l)
    ∙ ap (λ t. before ++ t) (sym (flat_map_next (frame_line task s d names) l))

-- the same numbers
pub counts_same : (before : List ℕ) {windows windows' done done' defects defects' edges edges'
    weight weight' : ℕ} → windows ≡ windows' → done ≡ done' → defects ≡ defects' → edges ≡ edges' →
    weight ≡ weight' →
    before ++ counts_line windows done defects edges weight ≡ before
    ++ counts_line windows' done' defects' edges' weight'
counts_same before {windows} {windows'} {done} {done'} {defects} {defects'} {edges} {edges'}
    {weight} {weight'} p q r s t =
    ap (λ n. before ++ counts_line n done defects edges weight) p
    ∙ ap (λ n. before ++ counts_line windows' n defects edges weight) q
    ∙ ap (λ n. before ++ counts_line windows' done' n edges weight) r
    ∙ ap (λ n. before ++ counts_line windows' done' defects' n weight) s
    ∙ ap (λ n. before ++ counts_line windows' done' defects' edges' n) t

pub all_to_end : (before log trace frames summary : List ℕ) →
    (((before ++ log) ++ trace) ++ frames) ++ summary
    ≡ before ++ ((((log ++ trace) ++ frames) ++ summary) ++ [])
all_to_end before log trace frames summary = simp (append_assoc, append-nil)
