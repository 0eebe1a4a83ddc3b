-- Single vertices are shown.
use Rattle.std.proofs.Common.{◌≡◌, ℕ, ◌<◌, true, List, [], ◌∷◌, map, sym, ap, ◌∙◌, arith, subst, ⊎_elim}
use Rattle.std.specs.Prelude.{ℤ}
use Rattle.std.specs.List.{range_with_len}
use Rattle.std.proofs.lemmas.Bool.{false≢true}
use Rattle.graph_model.specs.Graph.{is_in}
use Rattle.graph_model.proofs.Members.{is_in_first, is_in_rest, is_in_cases, is_in-range}
use Rattle.matching_model.specs.Forests.{start_tree}
use Rattle.matching_model.proofs.Starting.{start_sound}
use Rattle.shown_search.specs.Shown.{Kept, single, itself, IsTree, AreTrees}
use Rattle.shown_search.specs.Starting.{IsFresh, FreshLaw}
use Rattle.shown_search.proofs.Fronts.{no_dist}

fresh_tree : (k : Kept) (number : ℕ → ℤ) → IsFresh k number → (v : ℕ) → v < k.vertices →
    IsTree k number (start_tree v)
fresh_tree k number fresh v low = record {
  free = v;
  unmatched = fresh.mates v low;
  root = record {
    name = v;
    at = record {
      set = single low;
      numbered = sym (fresh.numbers v low);
      tops = λ u m. let e = only_one u m in ap k.top (sym e) ∙ fresh.tops v low;
      only = λ u below e. subst (λ z. is_in (v ∷ []) z ≡ true) (sym e ∙ fresh.tops u below)
          (is_in_first v []);
      based = itself low (fresh.bases v low);
      holds = is_in_first v [];
      marked = fresh.marks v low;
    };
    labelled = fresh.labels v low;
  };
  branches = tt;
}
  where
    only_one : (u : ℕ) → is_in (v ∷ []) u ≡ true → v ≡ u
    only_one u m = ⊎_elim (λ e. e) (λ r. absurd (false≢true r)) (is_in_cases v u [] m)

fresh_trees : (k : Kept) (number : ℕ → ℤ) → IsFresh k number → (vs : List ℕ) →
    ((v : ℕ) → is_in vs v ≡ true → v < k.vertices) → AreTrees k number (map start_tree vs)
fresh_trees k number fresh [] low = tt
fresh_trees k number fresh (v ∷ vs) low = (
  fresh_tree k number fresh v (low v (is_in_first v vs)),
  fresh_trees k number fresh vs (λ w m. low w (is_in_rest v w vs m)),
)

pub fresh_law : FreshLaw
fresh_law k number fresh = record {
  trees = fresh_trees k number fresh (range_with_len 0 k.vertices)
      (λ v m. let r = is_in-range 0 k.vertices v m in omega (arith, r.1));
  mates = tt;
  covers = (start_sound no_dist k.vertices).covers;
}
