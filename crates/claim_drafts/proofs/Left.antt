-- What is left once a draft is taken.
use Rattle.std.proofs.Common.{◌≡◌, ◌≢◌, ℕ, ◌<◌, ◌+◌, List, [], ◌∷◌, All, Some, length, length-append, ap, sym, ◌∙◌, subst, arith, ⊎_elim}
use Rattle.std.proofs.lemmas.Bool.{cases_eq}
use Rattle.std.proofs.lemmas.List.Elements.{All-pop}
use Rattle.window_model.specs.Decoder.{Task}
use Rattle.window_model.specs.Windows.{window_count}
use Rattle.claim_drafts.specs.Drafts.{Draft, IsDraftOf, AreDrafts, IsTaken, drafts_of}
use Rattle.claim_drafts.specs.DraftLaws.{TakenLaw}

module _ (task : Task) (left rest : ℕ → ℕ) (w : ℕ) (draft : Draft) (old new : List (List Draft))
    (within : w < window_count task.plan) (are : AreDrafts task left old)
    (is : IsTaken w draft old new) (fewer : left w ≡ rest w + 1)
    (same : (x : ℕ) → x ≢ w → left x ≡ rest x) where
  -- the pile of the window, without the draft
  parted : All (IsDraftOf task w) (drafts_of new w) × IsDraftOf task w draft
  parted = All-pop (IsDraftOf task w) (drafts_of old w) (drafts_of new w) (Some draft) is.own
      (are.fit w within)

  own_left : length (drafts_of new w) ≡ rest w
  own_left =
      let long = ap length is.own in
      let both = length-append (drafts_of new w) (draft ∷ []) in
      let before = are.left_are w within in
      omega (arith, long, both, before, fewer)

  left_at : (x : ℕ) → x < window_count task.plan → length (drafts_of new x) ≡ rest x
  left_at x l =
      ⊎_elim
      (λ (e : x ≡ w). subst (λ y. length (drafts_of new y) ≡ rest y) (sym e) own_left)
      (λ (ne : x ≢ w). ap length (is.others x ne) ∙ are.left_are x l ∙ same x ne)
      (cases_eq x w)

  fit_at : (x : ℕ) → x < window_count task.plan → All (IsDraftOf task x) (drafts_of new x)
  fit_at x l =
      ⊎_elim
      (λ (e : x ≡ w). subst (λ y. All (IsDraftOf task y) (drafts_of new y)) (sym e) parted.0)
      (λ (ne : x ≢ w). subst (All (IsDraftOf task x)) (sym (is.others x ne)) (are.fit x l))
      (cases_eq x w)

  taken_at : AreDrafts task rest new × IsDraftOf task w draft
  taken_at = (
    record {
      each_window = is.each_window ∙ are.each_window;
      left_are = left_at;
      fit = fit_at;
    },
    parted.1,
  )

pub taken_law : TakenLaw
taken_law = taken_at
