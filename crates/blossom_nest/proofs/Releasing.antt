-- Children let go one after another.
use Rattle.std.proofs.Common.{◌≡◌, ℕ, ◌<◌, true, cond, None, Some, List, [], ◌∷◌, ◌++◌, length, slice_set, ⊎_elim, refl, sym, ap, ◌∙◌, subst, arith, eq-eqb, append_assoc, append-nil}
use Rattle.std.proofs.lemmas.Bool.{cases_eq}
use Rattle.std.proofs.lemmas.Option.{none-some}
use Rattle.std.proofs.lemmas.List.{get_or-set_same, get_or-set_other, set-get_or}
use Rattle.std.proofs.Math.ListN.{length-set}
use Rattle.graph_model.specs.Graph.{is_in}
use Rattle.graph_model.proofs.Members.{is_in_first}
use Rattle.link_lists.specs.Lists.{Lists, first, list_at, with_list, without}
use Rattle.blossom_nest.specs.Kept.{at}
use Rattle.blossom_nest.proofs.Lists.{in_back, in_more, put_here, put_len, put_twice}

pub record IsReleased (was : Lists) (parent : List ℕ) (place none : ℕ) (now : Lists)
    (parent' : List ℕ) : Type 0 where
  pub done : List ℕ
  pub whole : list_at was place ≡ done ++ list_at now place
  pub lists : now ≡ with_list was place (list_at now place)
  pub len : length parent' ≡ length parent
  pub parents : (c : ℕ) → c < length parent → at parent' c ≡ cond (is_in done c) none (at parent c)
  pub low : (v : ℕ) → is_in (list_at was place) v ≡ true → v < length parent

pub begin : (was : Lists) (parent : List ℕ) (place none : ℕ) →
    ((v : ℕ) → is_in (list_at was place) v ≡ true → v < length parent) →
    IsReleased was parent place none was parent
begin was parent place none low = record {
  done = [];
  whole = refl;
  lists = ap (λ ls. record { nodes = was.nodes; lists = ls }) (sym (set-get_or was.lists place []));
  len = refl;
  parents = λ c h. refl;
  low = low;
}

-- a list whose first element is known
pub split_first : (xs : List ℕ) (x : ℕ) → first xs ≡ Some x → xs ≡ x ∷ without x xs
split_first [] x e = absurd (none-some x e)
split_first (y ∷ ys) x e =
    let same : y ≡ x = same_first y x e in
    subst (λ z. y ∷ ys ≡ z ∷ without z (y ∷ ys)) same
    (ap (λ zs. y ∷ zs) (sym (ap (λ b. cond b ys (y ∷ without y ys)) (eq-eqb y y refl))))
  where
    same_first : (a b : ℕ) → Some a ≡ Some b → a ≡ b
    same_first a b k = cc

pub none_left : (xs : List ℕ) → first xs ≡ None → xs ≡ []
none_left [] e = refl
none_left (y ∷ ys) e = absurd (none-some y (sym e))

module _ (was : Lists) (parent : List ℕ) (place none : ℕ) (now : Lists) (parent' : List ℕ)
    (within : place < length was.lists) (r : IsReleased was parent place none now parent') where
  pub count : place < length now.lists
  count = subst (λ (s : Lists). place < length s.lists) (sym r.lists) (omega (
    arith,
    within,
    put_len was place (list_at now place),
  ))

  pub present : (child : ℕ) → first (list_at now place) ≡ Some child →
      is_in (list_at now place) child ≡ true
  present child e = subst (λ xs. is_in xs child ≡ true) (sym (split_first (list_at now place) child
      e)) (is_in_first child (without child (list_at now place)))

  pub low_child : (child : ℕ) → first (list_at now place) ≡ Some child → child < length parent'
  low_child child e =
      let low = r.low child (subst (λ xs. is_in xs child ≡ true) (sym r.whole)
      (in_back r.done (list_at now place) child (present child e))) in
      omega (arith, low, r.len)

  pub rest_is : (child : ℕ) (now' : Lists) → now' ≡ with_list now place
      (without child (list_at now place)) → list_at now' place ≡ without child (list_at now place)
  rest_is child now' e = ap (λ (s : Lists). list_at s place) e
      ∙ put_here now place (without child (list_at now place)) count

  pub step : (child : ℕ) (now' : Lists) → first (list_at now place) ≡ Some child →
      now' ≡ with_list now place (without child (list_at now place))
      → IsReleased was parent place none now' (slice_set parent' child none)
  step child now' f e =
      let rest = without child (list_at now place) in
      let here = rest_is child now' e in
      let split = split_first (list_at now place) child f in
      let bound = low_child child f in
      record {
        done = r.done ++ child ∷ [];
        whole =
            r.whole ∙ ap (λ xs. r.done ++ xs) split ∙ sym (append_assoc r.done (child ∷ []) rest)
            ∙ ap (λ xs. (r.done ++ child ∷ []) ++ xs) (sym here);
        lists = e ∙ ap (λ (s : Lists). with_list s place rest) r.lists
            ∙ put_twice was place (list_at now place) rest ∙ ap (with_list was place) (sym here);
        len = length-set parent' child none ∙ r.len;
        parents = λ c h. ⊎_elim
            (λ k. subst (λ z. at (slice_set parent' child none) z
            ≡ cond (is_in (r.done ++ child ∷ []) z) none (at parent z)) (sym k)
            (get_or-set_same parent' child none 0 bound ∙ sym (ap (λ b. cond b none
            (at parent child)) (in_back r.done (child ∷ []) child (is_in_first child [])))))
            (λ d. get_or-set_other parent' child c none 0 d ∙ r.parents c h
            ∙ ap (λ b. cond b none (at parent c)) (sym (in_more r.done child c d)))
            (cases_eq c child);
        low = r.low;
      }

  pub shorter : (child : ℕ) (now' : Lists) → first (list_at now place) ≡ Some child →
      now' ≡ with_list now place (without child (list_at now place)) →
      length (list_at now' place) < length (list_at now place)
  shorter child now' f e =
      let here = ap (λ xs. length xs) (rest_is child now' e) in
      let split = ap (λ xs. length xs) (split_first (list_at now place) child f) in
      omega (arith, here, split)

  pub all_released : first (list_at now place) ≡ None → now ≡ with_list was place []
  all_released f = r.lists ∙ ap (with_list was place) (none_left (list_at now place) f)

  pub all_parents : first (list_at now place) ≡ None → (c : ℕ) → c < length parent →
      at parent' c ≡ cond (is_in (list_at was place) c) none (at parent c)
  all_parents f c h =
      let whole : list_at was place ≡ r.done = r.whole
      ∙ ap (λ xs. r.done ++ xs) (none_left (list_at now place) f) ∙ append-nil {A = ℕ} r.done in
      r.parents c h ∙ ap (λ xs. cond (is_in xs c) none (at parent c)) (sym whole)
