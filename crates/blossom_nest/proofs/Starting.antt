-- A nest of single vertices.
use Rattle.std.proofs.Common.{◌≡◌, ℕ, zero, suc, ◌+◌, ◌-◌, ◌/◌, ◌<◌, ◌≤◌, List, [], get_or, replicate, refl, sym, ap, ◌∙◌, subst, arith}
use Rattle.std.proofs.lemmas.Bool.{false≢true}
use Rattle.std.proofs.lemmas.List.{get_or-replicate, length-replicate}
use Rattle.std.proofs.lemmas.List.FromFn.{get_or-range_with_len, length-range_with_len}
use Rattle.std.specs.List.{range_with_len}
use Rattle.graph_model.specs.Graph.{is_in}
use Rattle.graph_model.proofs.Members.{is_in-range, is_in_range}
use Rattle.link_lists.specs.Lists.{Lists, AreDisjoint, IsApart, bare, list_at}
use Rattle.blossom_nest.specs.Nests.{IsNest, IsOutermost, children_of, most_vertices, outermost, parent_of, single}
use Rattle.blossom_nest.specs.Kept.{IsKept, shown}
use Rattle.blossom_nest.proofs.Lists.{in_lacks}

empty_at : (n l : ℕ) → get_or (replicate {A = List ℕ} n []) l [] ≡ []
empty_at zero l = refl
empty_at (suc n) zero = refl
empty_at (suc n) (suc l) = empty_at n l

rising_apart : (a n : ℕ) → IsApart (range_with_len a n)
rising_apart a zero = tt
rising_apart a (suc n) = (
  in_lacks a (range_with_len (a + 1) n) (λ m.
      let k = is_in-range (a + 1) n a m in absurd (omega (arith, k.0))),
  rising_apart (a + 1) n,
)

pub started_nest : (n : ℕ) → n ≤ most_vertices → IsNest (single n)
started_nest n few =
    let none : (c : ℕ) → c < n + n / 2 → parent_of (single n) c ≡ n + n / 2 =
    λ c low. get_or-replicate (n + n / 2) c (n + n / 2) 0 low in
    let empty : (set : ℕ) → children_of (single n) set ≡ [] = λ set. empty_at (n / 2) (set - n) in
    let itself : (v : ℕ) → v < n → outermost (single n) v ≡ v =
    λ v low. get_or-range_with_len 0 n v 0 low ∙ omega arith in
    record {
      few = few;
      children_len = length-replicate {A = List ℕ} (n / 2) [];
      parent_len = length-replicate {A = ℕ} (n + n / 2) (n + n / 2);
      top_len = length-range_with_len 0 n;
      parents = λ c low. (omega (arith, none c low), omega (arith, none c low));
      listed = λ set c name m. absurd (false≢true (ap (λ xs. is_in xs c) (sym (empty set)) ∙ m));
      found = λ set c name low e. absurd (let k = none c low in let b = name.below in
          omega (arith, k, e, b));
      apart = λ set name. subst IsApart (sym (empty set)) tt;
      rings = λ set name d. absurd (d (empty set));
      free = λ set name e. none set name.below;
      tops = λ v low.
          subst (IsOutermost (single n)) (sym (itself v low)) (record {
            below = omega (arith, low);
            alone = none v (omega (arith, low));
            stands = λ h. absurd (omega (arith, h, low));
          });
      inside = λ v low. ([], sym (itself v low));
    }

pub started : (n : ℕ) (lists : Lists) (parent top unused : List ℕ) (capacity : ℕ) →
    n ≤ most_vertices → lists ≡ bare (n + n / 2) (n / 2) →
    parent ≡ replicate (n + n / 2) (n + n / 2) → top ≡ range_with_len 0 n →
    unused ≡ range_with_len 0 (n / 2) → AreDisjoint lists → n / 2 ≤ capacity
    → IsKept n lists parent top unused capacity
started n lists parent top unused capacity few le pe te ue d roomy =
    let same : single n ≡ shown n lists.lists parent top = ap (λ ls.
    shown n ls (single n).parent (single n).top) (sym (ap (λ (s : Lists). s.lists) le))
    ∙ ap (λ ps. shown n lists.lists ps (single n).top) (sym pe)
    ∙ ap (shown n lists.lists parent) (sym te) in
    record {
      nest = subst IsNest same (started_nest n few);
      nodes = ap (λ (s : Lists). s.nodes) le;
      disjoint = d;
      empty = λ k m. let low = is_in-range 0 (n / 2) k (ap (λ xs. is_in xs k) (sym ue) ∙ m) in
          (omega (arith, low.1), ap (λ (s : Lists). list_at s k) le ∙ empty_at (n / 2) k);
      listed = λ k low e. ap (λ xs. is_in xs k) ue
          ∙ is_in_range 0 (n / 2) k (omega arith) (omega (arith, low));
      unused_apart = subst IsApart (sym ue) (rising_apart 0 (n / 2));
      roomy = roomy;
    }
