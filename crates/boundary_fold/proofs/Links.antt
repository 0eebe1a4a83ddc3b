-- What links turn of a window's values.
use Rattle.std.proofs.Common.{◌≡◌, ℕ, ◌+◌, ◌<◌, ◌≤◌, ◌==◌, Bool, true, false, cond, ◌&&◌, List, [], ◌∷◌, ◌++◌, length, map, take, get_or, refl, sym, ap, ◌∙◌, subst, arith, eq-eqb, eqb-true, ⊎_elim}
use Rattle.std.specs.List.Sorted.{IsStrictlyIncreasing}
use Rattle.std.proofs.lemmas.Bool.{false≢true, ne_eqb, cases_eq, cases_lt}
use Rattle.std.proofs.lemmas.List.{take_more, take_all, length-take, length-map, get_or-map}
use Rattle.std.proofs.lemmas.List.Kept.{AllPairs-from_increasing}
use Rattle.graph_model.specs.Graph.{is_in}
use Rattle.graph_model.specs.Parity.{◌⊕◌}
use Rattle.graph_model.proofs.Members.{is_in_at, is_in_first, is_in_rest, All-at}
use Rattle.graph_model.proofs.Parities.{xor-false, xor_assoc}
use Rattle.graph_model.proofs.Ascending.{take_below}
use Rattle.window_model.specs.Speculation.{bit_at}
use Rattle.window_plan.specs.Placed.{PlacedPlan, places_at}
use Rattle.boundary_fold.specs.Folds.{link_flip}

-- ---- one bit more
none_more : (b t : Bool) → cond t b false ≡ false ⊕ (b && t)
none_more true true = refl
none_more true false = refl
none_more false true = refl
none_more false false = refl

pub bit_at-push : (ps : List ℕ) (bs : List Bool) (p : ℕ) (b : Bool) (v : ℕ) →
    length bs ≡ length ps → (is_in ps p ≡ true → ⊥) → bit_at (ps ++ p ∷ []) (bs ++ b ∷ []) v
    ≡ bit_at ps bs v ⊕ (b && (p == v))
bit_at-push [] [] p b v long apart = none_more b (p == v)
bit_at-push [] (c ∷ bs) p b v long apart = absurd (omega (arith, long))
bit_at-push (q ∷ ps) [] p b v long apart = absurd (omega (arith, long))
bit_at-push (q ∷ ps) (c ∷ bs) p b v long apart =
    by_test (q == v) refl (bit_at-push ps bs p b v (omega (arith, long)) (λ m.
    apart (is_in_rest q p ps m)))
  where
    other : q == v ≡ true → (p == v) ≡ false
    other e = ne_eqb p v (λ s. apart (subst (λ n. is_in (q ∷ ps) n ≡ true) (eqb-true q v e
        ∙ sym s) (is_in_first q ps)))

    no_more : (x y : Bool) → x ≡ x ⊕ (y && false)
    no_more true true = refl
    no_more true false = refl
    no_more false true = refl
    no_more false false = refl

    by_test : (t : Bool) → q == v ≡ t → bit_at (ps ++ p ∷ []) (bs ++ b ∷ []) v ≡ bit_at ps bs v
        ⊕ (b && (p == v)) →
        cond t c (bit_at (ps ++ p ∷ []) (bs ++ b ∷ []) v) ≡ cond t c (bit_at ps bs v)
        ⊕ (b && (p == v))
    by_test true e rest = no_more c b ∙ ap (λ u. c ⊕ (b && u)) (sym (other e))
    by_test false e rest = rest

pub bit_at-more : (ps : List ℕ) (bs : List Bool) (i v : ℕ) → IsStrictlyIncreasing ps →
    length bs ≡ length ps → i < length ps →
    bit_at (take (i + 1) ps) (take (i + 1) bs) v ≡ bit_at (take i ps) (take i bs) v
    ⊕ (get_or bs i false && (get_or ps i 0 == v))
bit_at-more ps bs i v up long l =
    ap (λ xs. bit_at xs (take (i + 1) bs) v) (take_more ps i 0 l)
    ∙ ap (λ ys. bit_at (take i ps ++ get_or ps i 0 ∷ []) ys v)
    (take_more bs i false (omega (arith, long, l)))
    ∙ bit_at-push (take i ps) (take i bs) (get_or ps i 0) (get_or bs i false) v (omega (
      arith,
      length-take i ps,
      length-take i bs,
      long,
      l,
    ))
    (λ m. let k = All-at (λ x. x < get_or ps i 0) (take i ps) (get_or ps i 0) (take_below ps up i l)
    m in omega (arith, k))

-- ---- one link more
pub link_flip-push : (p : PlacedPlan) (w : ℕ) (xs : List ℕ) (links : List (List Bool)) (x : ℕ)
    (bits : List Bool) (v : ℕ) → length links ≡ length xs →
    link_flip p w (xs ++ x ∷ []) (links ++ bits ∷ []) v ≡ link_flip p w xs links v
    ⊕ bit_at (places_at p x w) bits v
link_flip-push p w [] [] x bits v long = xor-false (bit_at (places_at p x w) bits v)
link_flip-push p w [] (ys ∷ links) x bits v long = absurd (omega (arith, long))
link_flip-push p w (y ∷ xs) [] x bits v long = absurd (omega (arith, long))
link_flip-push p w (y ∷ xs) (ys ∷ links) x bits v long =
    ap (λ b. bit_at (places_at p y w) ys v ⊕ b)
    (link_flip-push p w xs links x bits v (omega (arith, long)))
    ∙ sym (xor_assoc (bit_at (places_at p y w) ys v) (link_flip p w xs links v)
    (bit_at (places_at p x w) bits v))

pub link_flip-more : (p : PlacedPlan) (w : ℕ) (xs : List ℕ) (links : List (List Bool)) (i v : ℕ)
    (bits : List Bool) → length links ≡ length xs → i < length links →
    link_flip p w (take (i + 1) xs) (take (i + 1) links) v ≡ link_flip p w (take i xs)
    (take i links) v ⊕ bit_at (places_at p (get_or xs i 0) w) (get_or links i bits) v
link_flip-more p w xs links i v bits long l =
    ap (λ ys. link_flip p w ys (take (i + 1) links) v) (take_more xs i 0 (omega (arith, long, l)))
    ∙ ap (λ ls. link_flip p w (take i xs ++ get_or xs i 0 ∷ []) ls v) (take_more links i bits l)
    ∙ link_flip-push p w (take i xs) (take i links) (get_or xs i 0) (get_or links i bits) v
    (omega (arith, length-take i xs, length-take i links, long, l))

-- ---- one detector turned
differ : (ds : List ℕ) → IsStrictlyIncreasing ds → (i k : ℕ) → i < length ds → k < length ds →
    (k ≡ i → ⊥) → get_or ds i 0 ≡ get_or ds k 0 → ⊥
differ ds up i k li lk ne same =
    ⊎_elim
    (λ (l : k < i). let r = AllPairs-from_increasing ds up k i 0 l li in omega (arith, r, same))
    (λ (l : i ≤ k). let m : i < k = omega (arith, l, ne) in
    let r = AllPairs-from_increasing ds up i k 0 m lk in omega (arith, r, same))
    (cases_lt k i)

pub turned : (ds : List ℕ) (into new : List Bool) (v at : ℕ) → IsStrictlyIncreasing ds → at < length
    ds → get_or ds at 0 ≡ v → ((k : ℕ) → get_or new k false ≡ get_or into k false ⊕ (at == k)) →
    (k : ℕ) → k < length ds → get_or new k false ≡ get_or into k false ⊕ (v == get_or ds k 0)
turned ds into new v at up l here flipped k kl = flipped k ∙ ap (λ t. get_or into k false ⊕ t) same
  where
    same : (at == k) ≡ (v == get_or ds k 0)
    same =
        ⊎_elim
        (λ (e : at ≡ k). eq-eqb at k e
        ∙ sym (eq-eqb v (get_or ds k 0) (sym here ∙ ap (λ n. get_or ds n 0) e)))
        (λ ne. ne_eqb at k ne ∙ sym
        (ne_eqb v (get_or ds k 0) (λ s. differ ds up at k l kl (λ e. ne (sym e)) (here ∙ s))))
        (cases_eq at k)

pub not_turned : (ds : List ℕ) (into : List Bool) (v : ℕ) → is_in ds v ≡ false → (k : ℕ) →
    k < length ds → get_or into k false ≡ get_or into k false ⊕ (v == get_or ds k 0)
not_turned ds into v out k kl =
    sym (xor-false (get_or into k false))
    ∙ ap (λ t. get_or into k false ⊕ t) (sym (ne_eqb v (get_or ds k 0) (λ s. false≢true (sym out
    ∙ ap (is_in ds) s ∙ is_in_at ds k kl))))

pub turned_more : (ps : List ℕ) (bs : List Bool) (i v : ℕ) → IsStrictlyIncreasing ps → length bs
    ≡ length ps → i < length ps → (a b c : Bool) → b ≡ a ⊕ bit_at (take i ps) (take i bs) v →
    c ≡ b ⊕ (get_or bs i false && (get_or ps i 0 == v)) →
    c ≡ a ⊕ bit_at (take (i + 1) ps) (take (i + 1) bs) v
turned_more ps bs i v up long l a b c old new =
    let more : Bool = get_or bs i false && (get_or ps i 0 == v) in
    new ∙ ap (λ t. t ⊕ more) old ∙ xor_assoc a (bit_at (take i ps) (take i bs) v) more
    ∙ ap (λ t. a ⊕ t) (sym (bit_at-more ps bs i v up long l))

-- ---- a link for each dependency
module _ (p : PlacedPlan) (w : ℕ) (deps : List ℕ) (links : List (List Bool))
    (each : map length links ≡ map (λ x. length (places_at p x w)) deps) where
  pub links_count : length links ≡ length deps
  links_count = sym (length-map links length) ∙ ap length each
      ∙ length-map deps (λ x. length (places_at p x w))

  pub link_long : (i : ℕ) (bits : List Bool) → i < length links → bits ≡ get_or links i bits →
      length bits ≡ length (places_at p (get_or deps i 0) w)
  link_long i bits l is =
      ap length is ∙ sym (get_or-map length links i bits 0 l) ∙ ap (λ ys. get_or ys i 0) each
      ∙ get_or-map (λ x. length (places_at p x w)) deps i 0 0 (let c = links_count in
      omega (arith, c, l))

  pub flip_more : (i v : ℕ) (bits : List Bool) (ps : List ℕ) (a b c : Bool) →
      i < length links → bits ≡ get_or links i bits → ps ≡ places_at p (get_or deps i 0) w →
      b ≡ a ⊕ link_flip p w (take i deps) (take i links) v →
      c ≡ b ⊕ bit_at ps bits v → c ≡ a ⊕ link_flip p w (take (i + 1) deps) (take (i + 1) links) v
  flip_more i v bits ps a b c l is placed old new =
      new ∙ ap (λ t. t ⊕ bit_at ps bits v) old
      ∙ xor_assoc a (link_flip p w (take i deps) (take i links) v) (bit_at ps bits v)
      ∙ ap (λ qs. a ⊕ (link_flip p w (take i deps) (take i links) v ⊕ bit_at qs bits v)) placed
      ∙ ap (λ bs. a ⊕ (link_flip p w (take i deps) (take i links) v
      ⊕ bit_at (places_at p (get_or deps i 0) w) bs v)) is
      ∙ ap (λ t. a ⊕ t) (sym (link_flip-more p w deps links i v bits links_count l))

  pub flip_all : (i v : ℕ) → length links ≤ i → link_flip p w (take i deps) (take i links) v
      ≡ link_flip p w deps links v
  flip_all i v past =
      ap (λ xs. link_flip p w xs (take i links) v) (take_all i deps (let c = links_count in
      omega (arith, c, past)))
      ∙ ap (λ ls. link_flip p w deps ls v) (take_all i links past)
