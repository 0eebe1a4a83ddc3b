-- What becomes of a path where a node is linked in or cut out.
use Rattle.std.proofs.Common.{◌≡◌, ◌≢◌, ℕ, List, [], ◌∷◌, ◌++◌, sym, ◌∙◌, subst}
use Rattle.std.specs.List.{AllByRecursion}
use Rattle.link_lists.specs.Lists.{Lacks, IsApart}
use Rattle.link_lists.specs.Chains.{Joins}

pub split_at : (f g : ℕ → ℕ) (a : ℕ) (us : List ℕ) (q : ℕ) (vs : List ℕ) (b : ℕ) →
    Joins f g a (us ++ q ∷ vs) b → Joins f g a us q × Joins f g q vs b
split_at f g a [] q vs b j = ((j.0, j.1), j.2)
split_at f g a (u ∷ us) q vs b j = let rest = split_at f g u us q vs b j.2 in
    ((j.0, j.1, rest.0), rest.1)

pub joined_at : (f g : ℕ → ℕ) (a : ℕ) (us : List ℕ) (q : ℕ) (vs : List ℕ) (b : ℕ) →
    Joins f g a us q → Joins f g q vs b → Joins f g a (us ++ q ∷ vs) b
joined_at f g a [] q vs b j k = (j.0, j.1, k)
joined_at f g a (u ∷ us) q vs b j k = (j.0, j.1, joined_at f g u us q vs b j.2 k)

-- what isn't on the path isn't the last before its end
pub last_apart : (f g : ℕ → ℕ) (a : ℕ) (xs : List ℕ) (b : ℕ) → Joins f g a xs b → (z : ℕ) → z ≢ a →
    Lacks z xs → z ≢ g b
last_apart f g a [] b j z n l = λ e. n (e ∙ j.1)
last_apart f g a (x ∷ xs) b j z n l = last_apart f g x xs b j.2 z (λ e. l.0 (sym e)) l.1

-- the path stays where nothing on it changes
pub framed : (f g f' g' : ℕ → ℕ) (a : ℕ) (xs : List ℕ) (b : ℕ) → Joins f g a xs b → f' a ≡ f a →
    AllByRecursion (λ v. (f' v ≡ f v) × (g' v ≡ g v)) xs → g' b ≡ g b → Joins f' g' a xs b
framed f g f' g' a [] b j fa h gb = (fa ∙ j.0, gb ∙ j.1)
framed f g f' g' a (x ∷ xs) b j fa h gb =
    (fa ∙ j.0, h.0.1 ∙ j.1, framed f g f' g' x xs b j.2 h.0.0 h.1 gb)

-- x was linked in before q
pub record IsLinked (f g f' g' : ℕ → ℕ) (x q : ℕ) : Type 0 where
  pub before : f' (g q) ≡ x
  pub node_next : f' x ≡ q
  pub node_prev : g' x ≡ g q
  pub after : g' q ≡ x
  pub other_next : (v : ℕ) → v ≢ g q → v ≢ x → f' v ≡ f v
  pub other_prev : (v : ℕ) → v ≢ q → v ≢ x → g' v ≡ g v

pub linked : (f g f' g' : ℕ → ℕ) (x q : ℕ) → IsLinked f g f' g' x q → (a : ℕ) (xs : List ℕ) →
    Joins f g a xs q → Lacks a xs → IsApart xs → Lacks q xs → a ≢ x → Lacks x xs
    → Joins f' g' a (xs ++ x ∷ []) q
linked f g f' g' x q l a [] j la apart lq n lx = (
  subst (λ v. f' v ≡ x) j.1 l.before,
  l.node_prev
      ∙ j.1,
  (l.node_next, l.after),
)
linked f g f' g' x q l a (y ∷ ys) j la apart lq n lx = (
  l.other_next a (last_apart f g y ys q j.2 a (λ e. la.0 (sym e)) la.1) n ∙ j.0,
  l.other_prev y lq.0 lx.0 ∙ j.1,
  linked f g f' g' x q l y ys j.2 apart.0 apart.1 lq.1 lx.0 lx.1,
)

-- what isn't on the path isn't the one after its start
pub next_apart : (f g : ℕ → ℕ) (a : ℕ) (xs : List ℕ) (b : ℕ) → Joins f g a xs b → (z : ℕ) → z ≢ b →
    Lacks z xs → z ≢ f a
next_apart f g a [] b j z n l = λ e. n (e ∙ j.0)
next_apart f g a (x ∷ xs) b j z n l = λ e. l.0 (sym (e ∙ j.0))

-- x was cut out
pub record IsCut (f g f' g' : ℕ → ℕ) (x : ℕ) : Type 0 where
  pub skip_next : f' (g x) ≡ f x
  pub skip_prev : g' (f x) ≡ g x
  pub other_next : (v : ℕ) → v ≢ g x → f' v ≡ f v
  pub other_prev : (v : ℕ) → v ≢ f x → g' v ≡ g v

-- the path up to x now leads to what was after it
pub cut_front : (f g f' g' : ℕ → ℕ) (x : ℕ) → IsCut f g f' g' x → (a : ℕ) (us : List ℕ) →
    Joins f g a us x → Lacks a us → IsApart us → Lacks (f x) us → Joins f' g' a us (f x)
cut_front f g f' g' x c a [] j la apart lq = (
  subst (λ v. f' v ≡ f x) j.1 c.skip_next,
  c.skip_prev
      ∙ j.1,
)
cut_front f g f' g' x c a (y ∷ ys) j la apart lq = (
  c.other_next a (last_apart f g y ys x j.2 a (λ e. la.0 (sym e)) la.1) ∙ j.0,
  c.other_prev y lq.0 ∙ j.1,
  cut_front f g f' g' x c y ys j.2 apart.0 apart.1 lq.1,
)
