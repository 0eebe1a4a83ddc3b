-- A problem without members.
use Rattle.std.proofs.Common.{◌≡◌, ℕ, suc, ◌<◌, List, [], ◌∷◌, refl, true, cond, length, ne_eqb, sym, ap, ◌∙◌, arith, subst}
use Rattle.std.specs.List.{range_with_len}
use Rattle.graph_model.specs.Graph.{is_in}
use Rattle.graph_model.specs.Parity.{parity}
use Rattle.graph_model.specs.Problems.{Problem, Solves, meets}
use Rattle.graph_model.proofs.Members.{is_in-below, is_in-range}
use Rattle.matching_model.specs.Certificates.{free_end, has_defect, is_member, members}
use Rattle.matching_model.proofs.Walks.{all_by_member}

-- where there are no members there are no defects, and no edge is needed
pub none_needed : (p : Problem) → members p ≡ [] → Solves p []
none_needed p none = record {
  correction = record {
    ascending = λ k l. absurd (omega (arith, l));
    within = λ k d l. absurd (omega (arith, l));
    matching = all_by_member (λ v. parity (meets p.part v) [] ≡ has_defect p v)
        (range_with_len 0 (free_end p)) quiet;
  };
  least = λ other c. omega arith;
}
  where
    quiet : (v : ℕ) → is_in (range_with_len 0 (free_end p)) v ≡ true →
        parity (meets p.part v) [] ≡ has_defect p v
    quiet v m =
        let k = is_in-range 0 (free_end p) v m in
        let low : v < suc (free_end p) = omega (arith, k.1) in
        ap (λ xs. is_in xs v) (sym none) ∙ is_in-below (is_member p) (suc (free_end p)) v low
        ∙ ap (λ b. cond b (parity (has_defect p) (range_with_len 0 (free_end p))) (has_defect p v))
        (ne_eqb v (free_end p) (λ e. omega (arith, e, k.1)))

pub none_of_table : (p : Problem) (ms set : List ℕ) → ms ≡ members p → length ms ≡ 0 →
    set ≡ [] → Solves p set
none_of_table p ms set are none empty =
    subst (Solves p) (sym empty) (none_needed p (sym are ∙ no_items ms none))
  where
    no_items : (xs : List ℕ) → length xs ≡ 0 → xs ≡ []
    no_items [] e = refl
    no_items (x ∷ xs) e = absurd (omega (arith, e))
