-- A part that can be solved is a problem's, and walks lead from each vertex to each other.
use Rattle.std.proofs.Common.{◌≡◌, ◌≢◌, ℕ, ◌+◌, ◌<◌, ◌≤◌, true, [], ◌∷◌, length, refl, sym, ap, ◌∙◌, arith, subst, ⊎_elim, ◌⊎◌, inl, inr, Contains, Option, Some, None, IfSome, get_or}
use Rattle.std.proofs.lemmas.Bool.{cases_eq, false≢true}
use Rattle.std.proofs.lemmas.Option.{slice_get_read}
use Rattle.graph_model.specs.Graph.{is_in}
use Rattle.graph_model.specs.Problems.{Problem, IsPart, IsPartEdge, IsOpen, free, along, places_of, problem_weight}
use Rattle.graph_model.specs.declared.PartEdge.{PartEdge}
use Rattle.graph_model.proofs.Members.{is_in_cases}
use Rattle.graph_model.proofs.PartEdges.{problem_weight_at}
use Rattle.matching_model.specs.Certificates.{IsProblem, Walk, stay, forth, back, free_end, far_end}
use Rattle.matching_model.proofs.Parts.{walk_on, walk_back}

pub part_is_problem : (p : Problem) → IsPart p.part → IsProblem p
part_is_problem p part = record {
  numbered = part.ascending;
  first_in = λ k d l. (part.fits k d l).first;
  second_in = λ k d l. second_low (get_or p.part.edges k d) (part.fits k d l);
  two_ends = λ k d l. differ (get_or p.part.edges k d) (part.fits k d l);
}
  where
    second_low : (edge : PartEdge) → IsPartEdge (free_end p) edge → far_end p edge ≤ free_end p
    second_low edge fits_ = by_second edge.second refl
      where
        by_second : (o : Option ℕ) → edge.second ≡ o → far_end p edge ≤ free_end p
        by_second None e = let k = ap (λ s. far_end p (record edge { second = s })) e in
            omega (arith, k)
        by_second (Some y) e =
            let k = ap (λ s. far_end p (record edge { second = s })) e in
            let P : Option ℕ → Type 0 = λ o. IfSome o (λ other. (other < free_end p)
            × (other ≢ edge.first)) in
            let s = subst P e fits_.second in omega (arith, k, s.0)

    differ : (edge : PartEdge) → IsPartEdge (free_end p) edge → edge.first ≡ far_end p edge → ⊥
    differ edge fits_ same = by_second edge.second refl
      where
        by_second : (o : Option ℕ) → edge.second ≡ o → ⊥
        by_second None e = let k = ap (λ s. far_end p (record edge { second = s })) e in
            let f = fits_.first in omega (arith, k, f, same)
        by_second (Some y) e =
            let k = ap (λ s. far_end p (record edge { second = s })) e in
            let P : Option ℕ → Type 0 = λ o. IfSome o (λ other. (other < free_end p)
            × (other ≢ edge.first)) in
            let s = subst P e fits_.second in s.1 (sym k ∙ sym same)

-- an edge of the part weighs little
pub weight_low : (p : Problem) → IsPart p.part → (edge : PartEdge) → Contains p.part.edges edge →
    problem_weight p edge.edge ≤ 1000
weight_low p part edge c =
    let read = slice_get_read p.part.edges (length p.part.edges) c.0 edge refl c.1 (sym c.2) in
    let same = problem_weight_at p part.ascending c.0 edge read in
    let low = (subst (IsPartEdge (free_end p)) c.2 (part.fits c.0 edge c.1)).weight in
    omega (arith, same, low)

-- ---- walks to the free ends
module _ (p : Problem) where
  ends_at : (edge : PartEdge) (place : ℕ) → is_in (places_of edge) place ≡ true →
      (place ≡ edge.first) ⊎ (place ≡ far_end p edge)
  ends_at edge place m = by_second edge.second refl
    where
      by_second : (o : Option ℕ) → edge.second ≡ o → (place ≡ edge.first) ⊎ (place ≡ far_end p edge)
      by_second None e =
          ⊎_elim (λ s. inl (sym s)) (λ r. absurd (false≢true r))
          (is_in_cases edge.first place []
          (subst (λ s. is_in (places_of (record edge { second = s })) place ≡ true) e m))
      by_second (Some y) e =
          ⊎_elim (λ s. inl (sym s)) (λ r.
          ⊎_elim (λ s. inr (sym s ∙ ap (λ s. far_end p (record edge { second = s })) (sym e)))
          (λ r. absurd (false≢true r)) (is_in_cases y place [] r))
          (is_in_cases edge.first place (y ∷ [])
          (subst (λ s. is_in (places_of (record edge { second = s })) place ≡ true) e m))

  -- from an end of an edge to an end of it
  across : (edge : PartEdge) → Contains p.part.edges edge → (u v : ℕ) → (u ≡ edge.first)
      ⊎ (u ≡ far_end p edge) → (v ≡ edge.first) ⊎ (v ≡ far_end p edge) → (n : ℕ) × Walk p u v n
  across edge c u v (inl a) (inl b) = (0, subst (λ w. Walk p u w 0) (a ∙ sym b) stay)
  across edge c u v (inl a) (inr b) = (
    problem_weight p edge.edge + 0,
    subst (λ w. Walk p w v (problem_weight p edge.edge + 0)) (sym a) (subst (λ w.
        Walk p edge.first w (problem_weight p edge.edge + 0)) (sym b) (forth edge c stay)),
  )
  across edge c u v (inr a) (inl b) = (
    problem_weight p edge.edge + 0,
    subst (λ w. Walk p w v (problem_weight p edge.edge + 0)) (sym a) (subst (λ w.
        Walk p (far_end p edge) w (problem_weight p edge.edge + 0)) (sym b) (back edge c stay)),
  )
  across edge c u v (inr a) (inr b) = (0, subst (λ w. Walk p u w 0) (a ∙ sym b) stay)

  one_place : (edge : PartEdge) (place : ℕ) → places_of edge ≡ place ∷ [] → (place ≡ edge.first)
      × (free_end p ≡ far_end p edge)
  one_place edge place e = by_second edge.second refl
    where
      by_second : (o : Option ℕ) → edge.second ≡ o → (place ≡ edge.first)
          × (free_end p ≡ far_end p edge)
      by_second None s =
          (cc e, sym (ap (λ o. far_end p (record edge { second = o })) s))
      by_second (Some y) s =
          let k : edge.first ∷ y ∷ [] ≡ place ∷ [] =
          ap (λ o. places_of (record edge { second = o })) (sym s) ∙ e in
          absurd (let l = ap length k in omega (arith, l))

  pub way_out : (place : ℕ) → IsOpen p.part place → (n : ℕ) × Walk p place (free_end p) n
  way_out place (free any) =
      let k = one_place any.1 place any.4 in
      across any.1 (any.0, any.2, any.3) place (free_end p) (inl k.0) (inr k.1)
  way_out place (along {other = other} any rest) =
      let one = across any.1 (any.0, any.2, any.3) place other (ends_at any.1 place any.4.0)
      (ends_at any.1 other any.4.1) in
      let two = way_out other rest in
      (one.0 + two.0, walk_on p one.1 two.1)

  -- from each vertex to each other
  pub connected : IsPart p.part → (u v : ℕ) → u ≤ free_end p → v ≤ free_end p →
      (n : ℕ) × Walk p u v n
  connected part u v lu lv = let a = out u lu in let b = out v lv in
      (a.0 + b.0, walk_on p a.1 (walk_back p b.1))
    where
      out : (x : ℕ) → x ≤ free_end p → (n : ℕ) × Walk p x (free_end p) n
      out x l = ⊎_elim (λ e. (0, subst (λ w. Walk p w (free_end p) 0) (sym e) stay)) (λ ne.
          way_out x (part.is_open x (omega (arith, l, ne)))) (cases_eq x (free_end p))
