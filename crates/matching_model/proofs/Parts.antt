-- The edges of a problem by their numbers, and a set of edges as links between vertices.
use Rattle.std.proofs.Common.{◌≡◌, ℕ, suc, ◌+◌, ◌<◌, ◌≤◌, ◌==◌, ◌&&◌, ◌||◌, Bool, true, false, cond, List, [], ◌∷◌, map, refl, sym, ap, ◌∙◌, arith, subst, ⊎_elim, eqb-true, eq-eqb, Option, Some, None, All, Contains, sum_by}
use Rattle.std.specs.Prelude.{find}
use Rattle.std.specs.List.{list_any}
use Rattle.std.proofs.lemmas.Bool.{cases_eq, ne_eqb, false≢true, true≢false}
use Rattle.std.proofs.lemmas.List.Sums.{sum_by-cons}
use Rattle.graph_model.specs.Graph.{is_in}
use Rattle.graph_model.specs.Parity.{◌⊕◌, parity}
use Rattle.graph_model.specs.Problems.{Problem, meets, places_of, problem_weight}
use Rattle.graph_model.specs.declared.PartEdge.{PartEdge}
use Rattle.graph_model.proofs.Members.{is_in_first, is_in_rest, is_in_cases}
use Rattle.graph_model.proofs.Parities.{xor_assoc}
use Rattle.matching_model.specs.Matchings.{Link, ends}
use Rattle.matching_model.specs.Certificates.{IsProblem, Walk, forth, back, stay, free_end, far_end}
use Rattle.matching_model.proofs.Rearranged.{AreApart}
use Rattle.matching_model.proofs.Places.{increasing_apart}
use Rattle.matching_model.proofs.Links.{AllJoin}

abbrev pub number_of : PartEdge → ℕ
number_of edge = edge.edge

Contains-rest : (d edge : PartEdge) (es : List PartEdge) → Contains es edge → Contains (d ∷ es) edge
Contains-rest d edge es c = (suc c.0, omega (arith, c.1), c.2)

-- the edge of a number
pub record HasNumber (es : List PartEdge) (e : ℕ) (edge : PartEdge) : Type 0 where
  pub found : find (λ d. d.edge == e) es ≡ Some edge
  pub listed : Contains es edge
  pub named : edge.edge ≡ e
  pub met : (x : ℕ) → list_any (λ d. d.edge == e && is_in (places_of d) x) es
      ≡ is_in (places_of edge) x

none_named : (es : List PartEdge) (e x : ℕ) → is_in (map number_of es) e ≡ false →
    list_any (λ d. d.edge == e && is_in (places_of d) x) es ≡ false
none_named [] e x out = refl
none_named (d ∷ es) e x out =
    by_test (d.edge == e) (is_in (map number_of es) e) out (none_named es e x)
  where
    by_test : (b m : Bool) → b || m ≡ false →
        (m ≡ false → list_any (λ d. d.edge == e && is_in (places_of d) x) es ≡ false) →
        (b && is_in (places_of d) x) || list_any (λ d. d.edge == e && is_in (places_of d) x) es
        ≡ false
    by_test true m h ih = absurd (true≢false h)
    by_test false m h ih = ih h

pub edge_at : (es : List PartEdge) (e : ℕ) → AreApart (map number_of es) →
    is_in (map number_of es) e ≡ true → (edge : PartEdge) × HasNumber es e edge
edge_at [] e apart m = absurd (false≢true m)
edge_at (d ∷ es) e apart m =
    ⊎_elim here (λ ne. there ne (edge_at es e apart.1 (⊎_elim (λ s. absurd (ne s)) (λ r.
    r) (is_in_cases d.edge e (map number_of es) m)))) (cases_eq d.edge e)
  where
    here : d.edge ≡ e → (edge : PartEdge) × HasNumber (d ∷ es) e edge
    here s = (
      d,
      record {
        found = ap (λ b. cond b (Some d) (find (λ k. k.edge == e) es)) (eq-eqb d.edge e s);
        listed = (0, omega arith, refl);
        named = s;
        met = λ x. ap (λ b. (b && is_in (places_of d) x)
            || list_any (λ k. k.edge == e && is_in (places_of k) x) es) (eq-eqb d.edge e s)
            ∙ ap (λ b. is_in (places_of d) x || b)
            (none_named es e x (subst (λ n. is_in (map number_of es) n ≡ false) s apart.0))
            ∙ or_none (is_in (places_of d) x);
      },
    )
      where
        or_none : (b : Bool) → b || false ≡ b
        or_none true = refl
        or_none false = refl

    there : (d.edge ≡ e → ⊥) → ((edge : PartEdge) × HasNumber es e edge) → (edge : PartEdge)
        × HasNumber (d ∷ es) e edge
    there ne k = (
      k.0,
      record {
        found = ap (λ b. cond b (Some d) (find (λ k. k.edge == e) es)) (ne_eqb d.edge e ne)
            ∙ k.1.found;
        listed = Contains-rest d k.0 es k.1.listed;
        named = k.1.named;
        met = λ x. ap (λ b. (b && is_in (places_of d) x) || list_any (λ k. k.edge == e
            && is_in (places_of k) x) es) (ne_eqb d.edge e ne) ∙ k.1.met x;
      },
    )

module _ (p : Problem) where
  pub at_edge : (P : PartEdge → Type 0) → All P p.part.edges → (edge : PartEdge) →
      Contains p.part.edges edge → P edge
  at_edge P all edge c = subst P c.2 (all c.0 edge c.1)

  -- ---- walks
  walk_same : {u v m n : ℕ} → m ≡ n → Walk p u v m → Walk p u v n
  walk_same {u} {v} e w = subst (Walk p u v) e w

  pub walk_on : {u v w m n : ℕ} → Walk p u v m → Walk p v w n → Walk p u w (m + n)
  walk_on stay k = walk_same (omega arith) k
  walk_on (forth {n = m} edge c h) k = walk_same (omega arith) (forth edge c (walk_on h k))
  walk_on (back {n = m} edge c h) k = walk_same (omega arith) (back edge c (walk_on h k))

  pub walk_back : {u v n : ℕ} → Walk p u v n → Walk p v u n
  walk_back stay = stay
  walk_back (forth edge c h) = walk_same (omega arith) (walk_on (walk_back h) (back edge c stay))
  walk_back (back edge c h) = walk_same (omega arith) (walk_on (walk_back h) (forth edge c stay))

  -- ---- a set of edges as links
  pub record LinksOf (set : List ℕ) (ls : List Link) : Type 0 where
    pub cost : sum_by (λ (l : Link). l.cost) ls ≡ sum_by (problem_weight p) set
    pub joined : AllJoin (Walk p) ls
    pub odd : (x : ℕ) → x < free_end p → parity (λ e. e == x) (ends ls)
        ≡ parity (meets p.part x) set
    pub within : (x : ℕ) → is_in (ends ls) x ≡ true → x ≤ free_end p

  pub at_place : (edge : PartEdge) (x : ℕ) → (edge.first ≡ far_end p edge → ⊥) → x < free_end p →
      is_in (places_of edge) x ≡ (edge.first == x) ⊕ (far_end p edge == x)
  at_place edge x ne low = by_second edge.second refl
    where
      either : (a b : Bool) → (a ≡ true → b ≡ true → ⊥) → a || (b || false) ≡ a ⊕ b
      either true true h = absurd (h refl refl)
      either true false h = refl
      either false true h = refl
      either false false h = refl

      single : (a b : Bool) → b ≡ false → a || false ≡ a ⊕ b
      single a true h = absurd (true≢false h)
      single true false h = refl
      single false false h = refl

      by_second : (o : Option ℕ) → edge.second ≡ o → is_in (places_of edge) x ≡ (edge.first == x)
          ⊕ (far_end p edge == x)
      by_second None e =
          ap (λ s. is_in (places_of (record edge { second = s })) x) e
          ∙ single (edge.first == x) (free_end p == x)
          (ne_eqb (free_end p) x (λ s. omega (arith, s, low)))
          ∙ ap (λ s. (edge.first == x) ⊕ (far_end p (record edge { second = s }) == x)) (sym e)
      by_second (Some y) e =
          ap (λ s. is_in (places_of (record edge { second = s })) x) e
          ∙ either (edge.first == x) (y == x) (λ f g. ne (eqb-true edge.first x f
          ∙ sym (eqb-true y x g) ∙ ap (λ s. far_end p (record edge { second = s })) (sym e)))
          ∙ ap (λ s. (edge.first == x) ⊕ (far_end p (record edge { second = s }) == x)) (sym e)

  pub links_of : IsProblem p → (set : List ℕ) → ((e : ℕ) → is_in set e ≡ true →
      is_in (map number_of p.part.edges) e ≡ true) → (ls : List Link) × LinksOf set ls
  links_of ok [] within = (
    [],
    record {
      cost = refl;
      joined = tt;
      odd = λ x l. refl;
      within = λ x m. absurd (false≢true m);
    },
  )
  links_of ok (e ∷ set) within =
      more (edge_at p.part.edges e (increasing_apart (map number_of p.part.edges) ok.numbered)
      (within e (is_in_first e set))) (links_of ok set (λ x m. within x (is_in_rest e x set m)))
    where
      more : ((edge : PartEdge) × HasNumber p.part.edges e edge) →
          ((ls : List Link) × LinksOf set ls) → (ls : List Link) × LinksOf (e ∷ set) ls
      more k rest = (
        link ∷ rest.0,
        record {
          cost = sum_by-cons (λ (l : Link). l.cost) link rest.0 ∙ ap (λ s. link.cost + s)
              rest.1.cost ∙ ap (λ n. problem_weight p n + sum_by (problem_weight p) set) k.1.named
              ∙ sym (sum_by-cons (problem_weight p) e set);
          joined = (walk_same (omega arith) (forth k.0 k.1.listed stay), rest.1.joined);
          odd = λ x l.
              sym (xor_assoc (k.0.first == x) (far_end p k.0 == x)
              (parity (λ f. f == x) (ends rest.0)))
              ∙ ap (λ b. b ⊕ parity (λ f. f == x) (ends rest.0)) (sym (at_place k.0 x (at_edge (λ d.
              d.first ≡ far_end p d → ⊥) ok.two_ends k.0 k.1.listed) l) ∙ sym (k.1.met x))
              ∙ ap (λ b. meets p.part x e ⊕ b) (rest.1.odd x l);
          within = λ x m. ⊎_elim (λ s. let f = at_edge (λ d. d.first < free_end p) ok.first_in k.0
              k.1.listed in omega (arith, s, f))
              (λ m. ⊎_elim (λ s. let f = at_edge (λ d. far_end p d ≤ free_end p)
              ok.second_in k.0 k.1.listed in omega (arith, s, f)) (λ m. rest.1.within x m)
              (is_in_cases (far_end p k.0) x (ends rest.0) m))
              (is_in_cases k.0.first x (far_end p k.0 ∷ ends rest.0) m);
        },
      )
        where
          link : Link
          link = record { one = k.0.first; two = far_end p k.0; cost = problem_weight p k.0.edge }
