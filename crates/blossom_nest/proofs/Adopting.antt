-- Children taken in one after another.
use Rattle.std.proofs.Common.{◌≡◌, ℕ, ◌+◌, ◌<◌, false, cond, List, [], ◌∷◌, ◌++◌, length, get_or, slice_set, take, ⊎_elim, sym, ap, ◌∙◌, subst, arith}
use Rattle.std.proofs.lemmas.Bool.{cases_eq}
use Rattle.std.proofs.lemmas.List.{get_or-set_same, get_or-set_other}
use Rattle.std.specs.List.{AllByRecursion}
use Rattle.graph_model.specs.Graph.{is_in}
use Rattle.graph_model.proofs.Members.{is_in_first}
use Rattle.link_lists.specs.Lists.{Lists, IsApart, IsFree, list_at, with_list}
use Rattle.blossom_nest.specs.Kept.{at}
use Rattle.blossom_nest.proofs.Lists.{at_place, before_apart, in_back, in_more, put_here, put_other, put_twice}

-- the first i of the ring taken in
pub free_child : (s : Lists) (place : ℕ) (ring : List ℕ) (i x : ℕ) → place < length s.lists →
    IsApart ring → AllByRecursion (IsFree s) ring → i < length ring → x ≡ get_or ring i 0 →
    IsFree (with_list s place (take i ring)) x
free_child s place ring i x within apart free lt e =
    subst (IsFree (with_list s place (take i ring))) (sym e) (λ l. ⊎_elim
    (λ k. subst (λ m. is_in (list_at (with_list s place (take i ring)) m) (get_or ring i 0)
    ≡ false) (sym k)
    (ap (λ xs. is_in xs (get_or ring i 0)) (put_here s place (take i ring) within)
    ∙ before_apart ring i apart lt))
    (λ d. ap (λ xs. is_in xs (get_or ring i 0)) (put_other s place l (take i ring) d)
    ∙ at_place (IsFree s) ring i free lt l)
    (cases_eq l place))

pub adopted : (s : Lists) (place : ℕ) (ring : List ℕ) (i x : ℕ) (t u : Lists) →
    place < length s.lists → t ≡ with_list s place (take i ring) →
    u ≡ with_list t place (list_at t place ++ x ∷ []) → take (i + 1) ring ≡ take i ring ++ x ∷ []
    → u ≡ with_list s place (take (i + 1) ring)
adopted s place ring i x t u within e f more =
    f ∙ ap (λ (z : Lists). with_list z place (list_at z place ++ x ∷ [])) e
    ∙ ap (λ xs. with_list (with_list s place (take i ring)) place (xs ++ x ∷ []))
    (put_here s place (take i ring) within)
    ∙ put_twice s place (take i ring) (take i ring ++ x ∷ [])
    ∙ ap (with_list s place) (sym more)

pub raised : (parent parent' : List ℕ) (ring : List ℕ) (i x set : ℕ) →
    length parent' ≡ length parent → x < length parent → take (i + 1) ring ≡ take i ring ++ x ∷ []
    → ((c : ℕ) → c < length parent → at parent' c ≡ cond (is_in (take i ring) c) set (at parent c))
    → (c : ℕ) → c < length parent → at (slice_set parent' x set) c
    ≡ cond (is_in (take (i + 1) ring) c) set (at parent c)
raised parent parent' ring i x set len low more h c lt = rw more (⊎_elim
    (λ k. subst (λ z. at (slice_set parent' x set) z
    ≡ cond (is_in (take i ring ++ x ∷ []) z) set (at parent z)) (sym k)
    (get_or-set_same parent' x set 0 (omega (arith, low, len)) ∙ sym
    (ap (λ b. cond b set (at parent x)) (in_back (take i ring) (x ∷ []) x (is_in_first x [])))))
    (λ d. get_or-set_other parent' x c set 0 d ∙ h c lt
    ∙ ap (λ b. cond b set (at parent c)) (sym (in_more (take i ring) x c d)))
    (cases_eq c x))
