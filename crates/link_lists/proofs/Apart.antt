-- Lists in which no node comes twice.
use Rattle.std.proofs.Common.{◌≡◌, ◌≢◌, ℕ, ◌==◌, Bool, true, false, List, [], ◌∷◌, ◌++◌, refl, sym, ap, arith}
use Rattle.std.proofs.lemmas.Bool.Decides.{nat_tests}
use Rattle.std.specs.List.{AllByRecursion, list_any}
use Rattle.link_lists.specs.Lists.{Lacks, IsApart, put_before, without}

pub all_map : {P Q : ℕ → Type 0} → ((v : ℕ) → P v → Q v) → (xs : List ℕ) → AllByRecursion P xs →
    AllByRecursion Q xs
all_map f [] h = tt
all_map f (x ∷ xs) h = (f x h.0, all_map f xs h.1)

pub all_both : (P Q : ℕ → Type 0) (xs : List ℕ) → AllByRecursion P xs → AllByRecursion Q xs →
    AllByRecursion (λ v. P v × Q v) xs
all_both P Q [] h k = tt
all_both P Q (x ∷ xs) h k = ((h.0, k.0), all_both P Q xs h.1 k.1)

pub all_append : (P : ℕ → Type 0) (xs ys : List ℕ) → AllByRecursion P xs → AllByRecursion P ys →
    AllByRecursion P (xs ++ ys)
all_append P [] ys h k = k
all_append P (x ∷ xs) ys h k = (h.0, all_append P xs ys h.1 k)

pub all_front : (P : ℕ → Type 0) (xs ys : List ℕ) → AllByRecursion P (xs ++ ys) →
    AllByRecursion P xs
all_front P [] ys h = tt
all_front P (x ∷ xs) ys h = (h.0, all_front P xs ys h.1)

pub all_back : (P : ℕ → Type 0) (xs ys : List ℕ) → AllByRecursion P (xs ++ ys) → AllByRecursion P ys
all_back P [] ys h = h
all_back P (x ∷ xs) ys h = all_back P xs ys h.1

all_true : (zs : List ℕ) → AllByRecursion (λ v. Unit {0}) zs
all_true [] = tt
all_true (z ∷ zs) = (tt, all_true zs)

-- what is apart, in two parts
pub apart_front : (xs ys : List ℕ) → IsApart (xs ++ ys) → IsApart xs
apart_front [] ys h = tt
apart_front (x ∷ xs) ys h = (all_front (λ v. v ≢ x) xs ys h.0, apart_front xs ys h.1)

pub apart_back : (xs ys : List ℕ) → IsApart (xs ++ ys) → IsApart ys
apart_back [] ys h = h
apart_back (x ∷ xs) ys h = apart_back xs ys h.1

pub apart_across : (xs ys : List ℕ) → IsApart (xs ++ ys) → AllByRecursion (λ v. Lacks v xs) ys
apart_across [] ys h = all_true ys
apart_across (x ∷ xs) ys h =
    all_both (λ v. x ≢ v) (λ v. Lacks v xs) ys
    (all_map (λ v n e. n (sym e)) ys (all_back (λ v. v ≢ x) xs ys h.0)) (apart_across xs ys h.1)

pub apart_joined : (xs ys : List ℕ) → IsApart xs → IsApart ys →
    AllByRecursion (λ v. Lacks v xs) ys → IsApart (xs ++ ys)
apart_joined [] ys h k across = k
apart_joined (x ∷ xs) ys h k across = (
  all_append (λ v. v ≢ x) xs ys h.0 (all_map (λ v l e. l.0 (sym e)) ys across),
  apart_joined xs ys h.1 k (all_map (λ v l. l.1) ys across),
)

-- a test that fails at each
pub lacks_from_test : (x : ℕ) (xs : List ℕ) → list_any (λ y. y == x) xs ≡ false → Lacks x xs
lacks_from_test x [] h = tt
lacks_from_test x (y ∷ ys) h =
    (grind (arith, nat_tests), lacks_from_test x ys (grind (arith, nat_tests)))

-- where q is among them: those before it, and those after
pub record Parts (q : ℕ) (xs : List ℕ) : Type 0 where
  pub front : List ℕ
  pub back : List ℕ
  pub whole : xs ≡ front ++ q ∷ back
  pub inserted : (x : ℕ) → put_before q x xs ≡ front ++ x ∷ q ∷ back
  pub without : without q xs ≡ front ++ back

pub parts : (q : ℕ) (xs : List ℕ) → list_any (λ y. y == q) xs ≡ true → Parts q xs
parts q [] h = absurd (cc)
parts q (y ∷ ys) h =
    let here : (y == q) ≡ true → Parts q (y ∷ ys) = λ t.
    let same : y ≡ q = grind (arith, nat_tests) in
    record {
      front = [];
      back = ys;
      whole = ap (λ z. z ∷ ys) same;
      inserted = λ x. rw t (ap (λ z. x ∷ z ∷ ys) same);
      without = rw t refl;
    } in
    let there : (y == q) ≡ false → Parts q (y ∷ ys) = λ t.
    let rest = parts q ys (rw t at h) in
    record {
      front = y ∷ rest.front;
      back = rest.back;
      whole = ap (λ zs. y ∷ zs) rest.whole;
      inserted = λ x. rw t (ap (λ zs. y ∷ zs) (rest.inserted x));
      without = rw t (ap (λ zs. y ∷ zs) rest.without);
    } in
    go (y == q) refl here there
  where
    go : (b : Bool) → b ≡ b → (b ≡ true → Parts q (y ∷ ys)) → (b ≡ false → Parts q (y ∷ ys)) →
        Parts q (y ∷ ys)
    go true e f g = f refl
    go false e f g = g refl
