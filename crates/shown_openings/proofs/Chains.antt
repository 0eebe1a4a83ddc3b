-- Children that stay in the tree, and children that leave it as matched pairs.
use Rattle.std.proofs.Common.{◌≡◌, ℕ, ◌%◌, List, [], ◌∷◌, ◌++◌, length, refl, sym, ◌∙◌, arith, subst}
use Rattle.std.specs.Prelude.{ℤ}
use Rattle.matching_model.specs.Blossoms.{Side}
use Rattle.matching_model.specs.Forests.{branch, leaf, Outer}
use Rattle.matching_laws.specs.Constructions.{Hold, chain_back, chain_forth, pair_off}
use Rattle.matching_ends.specs.Mated.{AreMates}
use Rattle.shown_search.specs.Shown.{Kept, IsBase, AreTwos, no_two, two, IsInTree, AreBranches, ArePaired}
use Rattle.shown_openings.specs.Opening.{AreAway, ComesApart, HangBack, HangForth, IsTop, Writes, behind_first, written}
use Rattle.shown_openings.proofs.Rounds.{first_of}
use Rattle.shown_openings.proofs.Children.{IsChild, Named, child_away, child_in_tree, child_linked}

-- ---- children that are mated two by two
module _ (n : ℕ) (children : ℕ → List ℕ) (joint : ℕ → ℕ × ℕ) (base mate : ℕ → ℕ) where
  abbrev pub Twos : List ℕ → Type 0
  Twos cs = AreTwos n children joint base mate cs

  not_one : (c : ℕ) → Twos (c ∷ []) → ⊥
  not_one c t = elim t [ ]

  pub twos_even : (cs : List ℕ) → Twos cs → length cs % 2 ≡ 0
  twos_even xs no_two = refl
  twos_even xs (two {c} {d} {cs} u w j m one other rest) =
      let e = twos_even cs rest in omega (arith, e)

  pub twos_split : (xs ys : List ℕ) → length xs % 2 ≡ 0 → Twos (xs ++ ys) → Twos xs × Twos ys
  twos_split [] ys e t = (no_two, t)
  twos_split (x ∷ []) ys e t = absurd (omega (arith, e))
  twos_split (x ∷ y ∷ xs) ys e (two u w j m one other rest) =
      let q = twos_split xs ys (omega (arith, e)) rest in (two u w j m one other q.0, q.1)

  pub twos_behind : (xs : List ℕ) (c : ℕ) (ys : List ℕ) → length xs % 2 ≡ 1 →
      Twos (xs ++ c ∷ ys) → Twos ys
  twos_behind [] c ys e t = absurd (omega (arith, e))
  twos_behind (x ∷ []) c ys e (two u w j m one other rest) = rest
  twos_behind (x ∷ y ∷ xs) c ys e (two u w j m one other rest) =
      twos_behind xs c ys (omega (arith, e)) rest

  -- the first two, by the pair that joins them
  abbrev FirstTwo : ℕ → ℕ → List ℕ → ℕ × ℕ → Type 0
  FirstTwo c d cs p = AreMates mate p.0 p.1 × IsBase n children joint base mate c p.0
      × IsBase n children joint base mate d p.1 × Twos cs

  pub first_two : (c d : ℕ) (cs : List ℕ) (p : ℕ × ℕ) → joint c ≡ p → Twos (c ∷ d ∷ cs) →
      FirstTwo c d cs p
  first_two c d cs p e (two u w j m one other rest) =
      subst (FirstTwo c d cs) (sym j ∙ e) (m, one, other, rest)

cons_of : (cs : List ℕ) (c : ℕ) (rest : List ℕ) →
    cs ++ c ∷ rest ≡ first_of (cs ++ c ∷ rest) ∷ behind_first (cs ++ c ∷ rest)
cons_of [] c rest = refl
cons_of (x ∷ cs) c rest = refl

module _ (k : Kept) (number : ℕ → ℤ) (set : ℕ) (w : Writes) (top : IsTop k set)
    (apart : ComesApart k set w) where
  abbrev pub k' : Kept
  k' = written k w

  abbrev pub IsChild' : ℕ → Side → Type 0
  IsChild' c s = IsChild k number set w top apart c s

  abbrev pub Named' : List ℕ → List Side → Type 0
  Named' cs ss = Named k number set w top apart cs ss

  abbrev pub Mated : List ℕ → Type 0
  Mated cs = AreTwos k.vertices k.children k.joint k.base k.mate cs

  abbrev pub Based : ℕ → ℕ → Type 0
  Based c v = IsBase k.vertices k.children k.joint k.base k.mate c v

  abbrev First : ℕ → ℕ → List ℕ → Side → Type 0
  First c d cs s = AreMates k.mate s.out s.into × Based c s.out × Based d s.into × Mated cs

  firsts : (c d : ℕ) (cs : List ℕ) (s : Side) → IsChild' c s → Mated (c ∷ d ∷ cs) → First c d cs s
  firsts c d cs s h t =
      first_two k.vertices k.children k.joint k.base k.mate c d cs (s.out, s.into) h.joined t

  pub pair_off_shown : (cs : List ℕ) (ss : List Side) → Named' cs ss → Mated cs → AreAway k' cs →
      ArePaired k' number (pair_off ss)
  pair_off_shown [] [] h t a = tt
  pair_off_shown [] (s ∷ ss) h t a = absurd h
  pair_off_shown (c ∷ cs) [] h t a = absurd h
  pair_off_shown (c ∷ []) (s ∷ ss) h t a =
      absurd (not_one k.vertices k.children k.joint k.base k.mate c t)
  pair_off_shown (c ∷ d ∷ cs) (s ∷ []) h t a = absurd h.1
  pair_off_shown (c ∷ d ∷ cs) (s ∷ r ∷ ss) h t a =
      let f = firsts c d cs s h.0 t in (
        (
          child_away k number set w top apart c s s.out h.0 f.1 a.0,
          child_away k number set w top apart d r s.into h.1.0 f.2 a.1.0,
          f.0,
        ),
        pair_off_shown cs ss h.1.1 f.3 a.1.1,
      )

  -- what hangs on an inner child, by its vertex v
  pub record Carries (r : ℕ) (h : Hold) : Type 0 where
    pub outer : IsInTree k' number r Outer h.outer h.mate
    pub mates : AreMates k.mate h.out h.mate
    pub branches : AreBranches k' number r h.branches

  pub forth_shown : (r o i : ℕ) (cs : List ℕ) (ss : List Side) (c : ℕ) (q : Side) (h : Hold) →
      Named' cs ss → IsChild' c q → Based c h.out → Mated cs →
      HangForth k' r (i, o) cs c → Carries r h → AreBranches k' number r (chain_forth o i ss q h)
  forth_shown r o i [] [] c q h named is based t hung carries = (
    child_linked k number set w top apart r o i c q h.out is based hung.0 hung.1,
    carries.outer,
    carries.mates,
    carries.branches,
    tt,
  )
  forth_shown r o i [] (s ∷ ss) c q h named is based t hung carries = absurd named
  forth_shown r o i (d ∷ cs) [] c q h named is based t hung carries = absurd named
  forth_shown r o i (d ∷ []) (s ∷ ss) c q h named is based t hung carries =
      absurd (not_one k.vertices k.children k.joint k.base k.mate d t)
  forth_shown r o i (d ∷ e ∷ cs) (s ∷ []) c q h named is based t hung carries = absurd named.1
  forth_shown r o i (d ∷ e ∷ cs) (s ∷ b ∷ ss) c q h named is based t hung carries =
      let f = firsts d e cs s named.0 t in
      let next : HangForth k' r (b.into, b.out) cs c =
      subst (λ (p : ℕ × ℕ). HangForth k' r (p.1, p.0) cs c) named.1.0.joined hung.3 in (
        child_linked k number set w top apart r o i d s s.out named.0 f.1 hung.0 hung.1,
        child_in_tree k number set w top apart r Outer e b s.into named.1.0 f.2 hung.2,
        f.0,
        forth_shown r b.out b.into cs ss c q h named.1.1 is based f.3 next carries,
        tt,
      )

  pub back_shown : (r : ℕ) (cs : List ℕ) (ss : List Side) (c : ℕ) (p : Side) (rest : List ℕ)
      (h : Hold) → Named' cs ss → IsChild' c p → Based (first_of (cs ++ c ∷ rest)) h.out →
      Mated (behind_first (cs ++ c ∷ rest)) → HangBack k' r (h.at, h.above) cs c → Carries r h →
      AreBranches k' number r (chain_back ss p h)
  back_shown r [] [] c p rest h named is based t hung carries = (
    child_linked k number set w top apart r h.above h.at c p h.out is based hung.0 hung.1,
    carries.outer,
    carries.mates,
    carries.branches,
    tt,
  )
  back_shown r [] (s ∷ ss) c p rest h named is based t hung carries = absurd named
  back_shown r (d ∷ cs) [] c p rest h named is based t hung carries = absurd named
  back_shown r (d ∷ cs) (s ∷ []) c p rest h named is based t hung carries = tt
  back_shown r (d ∷ []) (s ∷ b ∷ ss) c p rest h named is based t hung carries = absurd named.1
  back_shown r (d ∷ e ∷ cs) (s ∷ b ∷ ss) c p rest h named is based t hung carries =
      let f = firsts e (first_of (cs ++ c ∷ rest)) (behind_first (cs ++ c ∷ rest)) b named.1.0
      (subst (λ zs. Mated (e ∷ zs)) (cons_of cs c rest) t) in
      back_shown r cs ss c p rest (record {
        above = h.above;
        at = h.at;
        out = b.into;
        mate = b.out;
        outer = b;
        branches = branch s.into s.out s h.out h.mate h.outer h.branches leaf;
      }) named.1.1 is f.2 f.3 hung.3 (record {
        outer = child_in_tree k number set w top apart r Outer e b b.out named.1.0 f.1 hung.2;
        mates = (f.0.1, f.0.0);
        branches = (
          child_linked k number set w top apart r s.into s.out d s h.out named.0 based hung.0
              (hung.1 ∙ named.0.joined),
          carries.outer,
          carries.mates,
          carries.branches,
          tt,
        );
      })
