-- What a guess is compared with.
use Rattle.std.proofs.Common.{◌≡◌, ℕ, zero, suc, ◌<◌, ◌≤◌, ◌+◌, ◌==◌, false, true, cond, Bool, List, [], ◌∷◌, refl, sym, ap, ◌∙◌, subst, length, map, find, drop, get_or, Option, None, Some, arith, eq-eqb}
use Rattle.std.proofs.lemmas.Bool.{ne_eqb}
use Rattle.std.proofs.lemmas.Option.{none-some, same_Some}
use Rattle.window_model.specs.Speculation.{Link}
use Rattle.window_core.specs.Claims.{bits_about}

-- at the first link: its test decides both
by_test : (source : ℕ) (x : ℕ) (b : Bool) → (source == x) ≡ b → (l : Link)
    (links : List Link) (link : Link) →
    cond (source == x) (Some l) (find (λ (k : Link). k.source == x) links) ≡ Some link →
    (find (λ (k : Link). k.source == x) links ≡ Some link →
    bits_about (map (λ (k : Link). k.source) links) (map (λ (k : Link). k.bits) links) x
    ≡ Some link.bits) →
    cond (source == x) (Some l.bits) (bits_about (map (λ (k : Link). k.source) links)
    (map (λ (k : Link). k.bits) links) x) ≡ Some link.bits
by_test source x true is l links link found more =
    ap (λ b. cond b (Some l.bits) (bits_about (map (λ (k : Link). k.source) links)
    (map (λ (k : Link). k.bits) links) x)) is
    ∙ ap (λ (k : Link). Some k.bits) (same_Some l link (sym (ap (λ b. cond b (Some l)
    (find (λ (k : Link). k.source == x) links)) is) ∙ found))
by_test source x false is l links link found more =
    ap (λ b. cond b (Some l.bits) (bits_about (map (λ (k : Link). k.source) links)
    (map (λ (k : Link). k.bits) links) x)) is
    ∙ more (sym (ap (λ b. cond b (Some l)
    (find (λ (k : Link). k.source == x) links)) is) ∙ found)

-- the link to a dependency has its bits
pub found_bits : (links : List Link) (x : ℕ) (link : Link) →
    find (λ (l : Link). l.source == x) links ≡ Some link →
    bits_about (map (λ (l : Link). l.source) links) (map (λ (l : Link). l.bits) links) x
    ≡ Some link.bits
found_bits [] x link e = absurd (none-some link e)
found_bits (l ∷ links) x link e =
    by_test l.source x (l.source == x) refl l links link e (found_bits links x link)

-- the search for a dependency's bits: here, further on, and past the last
pub about_here : (deps : List ℕ) (bits : List (List Bool)) (x i : ℕ) (d : List Bool) →
    i < length deps → length bits ≡ length deps → get_or deps i 0 ≡ x →
    bits_about (drop i deps) (drop i bits) x ≡ Some (get_or bits i d)
about_here [] bits x i d l same e = absurd (omega (arith, l))
about_here (y ∷ deps) [] x i d l same e = absurd (omega (arith, same))
about_here (y ∷ deps) (b ∷ bits) x zero d l same e =
    ap (λ t. cond t (Some b) (bits_about deps bits x)) (eq-eqb y x e)
about_here (y ∷ deps) (b ∷ bits) x (suc i) d l same e =
    about_here deps bits x i d (omega (arith, l)) (omega (arith, same)) e

next_at : (deps : List ℕ) (bits : List (List Bool)) (x i : ℕ) → i < length deps →
    length bits ≡ length deps → (get_or deps i 0 ≡ x → ⊥) →
    bits_about (drop (suc i) deps) (drop (suc i) bits) x
    ≡ bits_about (drop i deps) (drop i bits) x
next_at [] bits x i l same ne = absurd (omega (arith, l))
next_at (y ∷ deps) [] x i l same ne = absurd (omega (arith, same))
next_at (y ∷ deps) (b ∷ bits) x zero l same ne =
    sym (ap (λ t. cond t (Some b) (bits_about deps bits x)) (ne_eqb y x ne))
next_at (y ∷ deps) (b ∷ bits) x (suc i) l same ne =
    next_at deps bits x i (omega (arith, l)) (omega (arith, same)) ne

pub about_next : (deps : List ℕ) (bits : List (List Bool)) (x i : ℕ) → i < length deps →
    length bits ≡ length deps → (get_or deps i 0 ≡ x → ⊥) →
    bits_about (drop (i + 1) deps) (drop (i + 1) bits) x
    ≡ bits_about (drop i deps) (drop i bits) x
about_next deps bits x i l same ne =
    let one : suc i ≡ i + 1 = omega arith in
    subst (λ n. bits_about (drop n deps) (drop n bits) x
    ≡ bits_about (drop i deps) (drop i bits) x) one (next_at deps bits x i l same ne)

pub about_end : (deps : List ℕ) (bits : List (List Bool)) (x i : ℕ) → length deps ≤ i →
    bits_about (drop i deps) (drop i bits) x ≡ None
about_end [] bits x zero l = refl
about_end [] bits x (suc i) l = refl
about_end (y ∷ deps) bits x zero l = absurd (omega (arith, l))
about_end (y ∷ deps) [] x (suc i) l = nothing deps i
  where
    nothing : (ds : List ℕ) (j : ℕ) → bits_about (drop j ds) [] x ≡ None
    nothing [] zero = refl
    nothing [] (suc j) = refl
    nothing (d ∷ ds) zero = refl
    nothing (d ∷ ds) (suc j) = nothing ds j
about_end (y ∷ deps) (b ∷ bits) x (suc i) l = about_end deps bits x i (omega (arith, l))
