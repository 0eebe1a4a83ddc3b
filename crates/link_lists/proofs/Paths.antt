-- A path round a list's end stays one where a node is linked in or cut out.
use Rattle.std.proofs.Common.{◌≡◌, ◌≢◌, ℕ, List, [], ◌∷◌, ◌++◌, sym, subst, append_assoc, append-nil}
use Rattle.std.specs.List.{AllByRecursion}
use Rattle.link_lists.specs.Lists.{Lacks, IsApart}
use Rattle.link_lists.specs.Chains.{Joins}
use Rattle.link_lists.proofs.Apart.{all_append, all_back, all_front, apart_across, apart_back, apart_front, apart_joined}
use Rattle.link_lists.proofs.Joined.{IsCut, IsLinked, cut_front, framed, joined_at, last_apart, linked, next_apart, split_at}

-- from e over the nodes and round to e
pub record IsPath (f g : ℕ → ℕ) (e : ℕ) (xs : List ℕ) : Type 0 where
  pub joins : Joins f g e xs e
  pub apart : IsApart xs
  pub away : Lacks e xs

-- a path over ys in place of xs; what is neither e nor x nor a node of xs is as before
pub record IsWritten (f g f' g' : ℕ → ℕ) (e x : ℕ) (xs ys : List ℕ) : Type 0 where
  pub path : IsPath f' g' e ys
  pub others : (v : ℕ) → v ≢ e → v ≢ x → Lacks v xs → (f' v ≡ f v) × (g' v ≡ g v)

pub pushed : (f g f' g' : ℕ → ℕ) (e x : ℕ) (xs : List ℕ) → IsPath f g e xs →
    IsLinked f g f' g' x e → x ≢ e → Lacks x xs → IsWritten f g f' g' e x xs (xs ++ x ∷ [])
pushed f g f' g' e x xs p l xe lx = record {
  path = record {
    joins = linked f g f' g' x e l e xs p.joins p.away p.apart p.away (λ q. xe (sym q)) lx;
    apart = apart_joined xs (x ∷ []) p.apart (tt, tt) (lx, tt);
    away = all_append (λ v. v ≢ e) xs (x ∷ []) p.away (xe, tt);
  };
  others = λ v ve vx lv. (
    l.other_next v (last_apart f g e xs e p.joins v ve lv) vx,
    l.other_prev v ve vx,
  );
}

-- the nodes of a list but those given are untouched where v is neither the last before q nor x
frame_of : (f g f' g' : ℕ → ℕ) (x q e : ℕ) (us vs : List ℕ) → IsLinked f g f' g' x q →
    Joins f g e us q → Lacks e vs → AllByRecursion (λ v. Lacks v us) vs → Lacks q vs → Lacks x vs
    → AllByRecursion (λ v. (f' v ≡ f v) × (g' v ≡ g v)) vs
frame_of f g f' g' x q e us [] l j le a lq lx = tt
frame_of f g f' g' x q e us (v ∷ vs) l j le a lq lx = (
  (l.other_next v (last_apart f g e us q j v le.0 a.0) lx.0, l.other_prev v lq.0 lx.0),
  frame_of f g f' g' x q e us vs l j le.1 a.1 lq.1 lx.1,
)

pub inserted : (f g f' g' : ℕ → ℕ) (e x : ℕ) (us : List ℕ) (q : ℕ) (vs : List ℕ) →
    IsPath f g e (us ++ q ∷ vs) → IsLinked f g f' g' x q → x ≢ e → Lacks x (us ++ q ∷ vs)
    → IsWritten f g f' g' e x (us ++ q ∷ vs) (us ++ x ∷ q ∷ vs)
inserted f g f' g' e x us q vs p l xe lx =
    let two = split_at f g e us q vs e p.joins in
    let ub = all_front (λ v. v ≢ e) us (q ∷ vs) p.away in
    let qb = all_back (λ v. v ≢ e) us (q ∷ vs) p.away in
    let lu = all_front (λ v. v ≢ x) us (q ∷ vs) lx in
    let lv = all_back (λ v. v ≢ x) us (q ∷ vs) lx in
    let across = apart_across us (q ∷ vs) p.apart in
    let back = apart_back us (q ∷ vs) p.apart in
    let ex : e ≢ x = λ k. xe (sym k) in
    let eq : e ≢ q = λ k. qb.0 (sym k) in
    let qp : q ≢ g q = last_apart f g e us q two.0 q qb.0 across.0 in
    let before = linked f g f' g' x q l e us two.0 ub (apart_front us (q ∷ vs) p.apart) across.0 ex
    lu in
    let after = framed f g f' g' q vs e two.1 (l.other_next q qp lv.0)
    (frame_of f g f' g' x q e us vs l two.0 qb.1 across.1 back.0 lv.1) (l.other_prev e eq ex) in
    let path = joined_at f' g' e (us ++ x ∷ []) q vs e before after in
    let regroup = append_assoc us (x ∷ []) (q ∷ vs) in
    record {
      path = record {
        joins = rw (← regroup) path;
        apart = apart_joined us (x ∷ q ∷ vs) (apart_front us (q ∷ vs) p.apart) (lv, back) (
          lu,
          across,
        );
        away = all_append (λ v. v ≢ e) us (x ∷ q ∷ vs) ub (xe, qb);
      };
      others = λ v ve vx lacks.
          let vq = (all_back (λ y. y ≢ v) us (q ∷ vs) lacks).0 in (
            l.other_next v (last_apart f g e us q two.0 v ve
                (all_front (λ y. y ≢ v) us (q ∷ vs) lacks)) vx,
            l.other_prev v (λ k. vq (sym k)) vx,
          );
    }

cut_frame : (f g f' g' : ℕ → ℕ) (x e : ℕ) (us vs : List ℕ) → IsCut f g f' g' x →
    Joins f g e us x → Lacks e vs → AllByRecursion (λ v. Lacks v us) vs → Lacks (f x) vs →
    AllByRecursion (λ v. (f' v ≡ f v) × (g' v ≡ g v)) vs
cut_frame f g f' g' x e us [] c j le a lq = tt
cut_frame f g f' g' x e us (v ∷ vs) c j le a lq = (
  (c.other_next v (last_apart f g e us x j v le.0 a.0), c.other_prev v lq.0),
  cut_frame f g f' g' x e us vs c j le.1 a.1 lq.1,
)

-- the path over us and past x
past : (f g f' g' : ℕ → ℕ) (x e : ℕ) (us vs : List ℕ) → IsCut f g f' g' x →
    Joins f g e us x → Joins f g x vs e → IsApart us → IsApart vs → Lacks e us → Lacks e vs →
    AllByRecursion (λ v. Lacks v us) vs
    → Joins f' g' e (us ++ vs) e
past f g f' g' x e us [] c j k au av ub vb across =
    let front = cut_front f g f' g' x c e us j ub au (rw k.0 ub) in
    rw append-nil (subst (Joins f' g' e us) k.0 front)
past f g f' g' x e us (w ∷ ws) c j k au av ub vb across =
    let ew : e ≢ w = λ q. vb.0 (sym q) in
    let front =
    subst (Joins f' g' e us) k.0 (cut_front f g f' g' x c e us j ub au (rw k.0 across.0)) in
    let wp : w ≢ g x = last_apart f g e us x j w vb.0 across.0 in
    let rest = framed f g f' g' w ws e k.2 (c.other_next w wp) (cut_frame f g f' g' x e us ws c j
    vb.1 across.1 (rw k.0 av.0)) (c.other_prev e (rw k.0 ew)) in
    joined_at f' g' e us w ws e front rest

pub removed : (f g f' g' : ℕ → ℕ) (e : ℕ) (us : List ℕ) (x : ℕ) (vs : List ℕ) → IsPath f g e (us
    ++ x ∷ vs) → IsCut f g f' g' x → IsWritten f g f' g' e x (us ++ x ∷ vs) (us ++ vs)
removed f g f' g' e us x vs p c =
    let two = split_at f g e us x vs e p.joins in
    let ub = all_front (λ v. v ≢ e) us (x ∷ vs) p.away in
    let xb = all_back (λ v. v ≢ e) us (x ∷ vs) p.away in
    let across = apart_across us (x ∷ vs) p.apart in
    let back = apart_back us (x ∷ vs) p.apart in
    let au = apart_front us (x ∷ vs) p.apart in
    record {
      path = record {
        joins = past f g f' g' x e us vs c two.0 two.1 au back.1 ub xb.1 across.1;
        apart = apart_joined us vs au back.1 across.1;
        away = all_append (λ v. v ≢ e) us vs ub xb.1;
      };
      others = λ v ve vx lacks.
          let rest = all_back (λ y. y ≢ v) us (x ∷ vs) lacks in (
            c.other_next v
                (last_apart f g e us x two.0 v ve (all_front (λ y. y ≢ v) us (x ∷ vs) lacks)),
            c.other_prev v (next_apart f g x vs e two.1 v ve rest.1),
          );
    }
