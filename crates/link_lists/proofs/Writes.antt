-- What linking in and cutting out make of the lists.
use Rattle.std.proofs.Common.{◌≡◌, ◌≢◌, ℕ, zero, suc, ◌+◌, ◌<◌, ◌≤◌, ◌==◌, Bool, true, false, cond, None, Some, List, [], ◌∷◌, ◌++◌, length, map, replicate, slice_set, ⊎_elim, refl, sym, ap, ◌∙◌, subst, arith, eqb-true, eq-eqb, append-nil}
use Rattle.std.proofs.lemmas.Bool.{cases_lt, false≢true, ne_eqb}
use Rattle.std.proofs.lemmas.List.{get_or-set_same, get_or-set_other}
use Rattle.std.proofs.Math.ListN.{get_or-eq_default, length-set}
use Rattle.std.specs.List.{AllByRecursion, range_with_len}
use Rattle.graph_model.specs.Graph.{is_in}
use Rattle.graph_model.proofs.Members.{is_in_first, is_in_rest}
use Rattle.link_lists.specs.Lists.{Lists, AreDisjoint, IsApart, IsFree, Lacks, after, bare, first, list_at, most, put_before, with_list, without}
use Rattle.link_lists.specs.Chains.{AreChains, Joins, at, chain, chains, node_or_end, seen}
use Rattle.link_lists.proofs.Apart.{all_append, all_back, all_front, all_map, apart_across, apart_back, lacks_from_test, parts}
use Rattle.link_lists.proofs.Joined.{IsCut, IsLinked, last_apart, split_at}
use Rattle.link_lists.proofs.Paths.{IsPath, IsWritten, inserted, pushed, removed}
use Rattle.link_lists.proofs.Chained.{AreWritten, IsLeft, IsRehomed, in_all, kept, lacks_none, left, path_of, read, seen_at, seen_len}

-- ---- the numbers after a node was linked in before q, and after it was cut out
abbrev pub linked_next : List ℕ → List ℕ → ℕ → ℕ → List ℕ
linked_next next prev x q = slice_set (slice_set next (at prev q) x) x q

abbrev pub linked_prev : List ℕ → ℕ → ℕ → List ℕ
linked_prev prev x q = slice_set (slice_set prev q x) x (at prev q)

abbrev pub cut_next : List ℕ → List ℕ → ℕ → List ℕ
cut_next next prev x = slice_set next (at prev x) (at next x)

abbrev pub cut_prev : List ℕ → List ℕ → ℕ → List ℕ
cut_prev next prev x = slice_set prev (at next x) (at prev x)

link_writes : (next prev : List ℕ) (x q : ℕ) → x < length next → x < length prev → q < length prev →
    at prev q < length next → at prev q ≢ x → q ≢ x
    → IsLinked (at next) (at prev) (at (linked_next next prev x q)) (at (linked_prev prev x q)) x q
link_writes next prev x q xn xp qp pn px qx =
    let p = at prev q in
    let next1 = slice_set next p x in
    let prev1 = slice_set prev q x in
    let nl : x < length next1 = omega (arith, length-set {A = ℕ}) in
    let pl : x < length prev1 = omega (arith, length-set {A = ℕ}) in
    record {
      before = get_or-set_other next1 x p q 0 px ∙ get_or-set_same next p x 0 pn;
      node_next = get_or-set_same next1 x q 0 nl;
      node_prev = get_or-set_same prev1 x p 0 pl;
      after = get_or-set_other prev1 x q p 0 qx ∙ get_or-set_same prev q x 0 qp;
      other_next = λ v vp vx. get_or-set_other next1 x v q 0 vx ∙ get_or-set_other next p v x 0 vp;
      other_prev = λ v vq vx. get_or-set_other prev1 x v p 0 vx ∙ get_or-set_other prev q v x 0 vq;
    }

cut_writes : (next prev : List ℕ) (x : ℕ) → at prev x < length next → at next x < length prev →
    IsCut (at next) (at prev) (at (cut_next next prev x)) (at (cut_prev next prev x)) x
cut_writes next prev x pn qp = record {
  skip_next = get_or-set_same next (at prev x) (at next x) 0 pn;
  skip_prev = get_or-set_same prev (at next x) (at prev x) 0 qp;
  other_next = λ v vp. get_or-set_other next (at prev x) v (at next x) 0 vp;
  other_prev = λ v vq. get_or-set_other prev (at next x) v (at prev x) 0 vq;
}

-- ---- where paths lead
last_low : (f g : ℕ → ℕ) (n a : ℕ) (xs : List ℕ) (b : ℕ) → Joins f g a xs b → a < n →
    AllByRecursion (λ v. v < n) xs → g b < n
last_low f g n a [] b j l h = rw j.1 l
last_low f g n a (x ∷ xs) b j l h = last_low f g n x xs b j.2 h.0 h.1

next_low : (f g : ℕ → ℕ) (n a : ℕ) (xs : List ℕ) (b : ℕ) → Joins f g a xs b → b < n →
    AllByRecursion (λ v. v < n) xs → f a < n
next_low f g n a [] b j l h = rw j.0 l
next_low f g n a (x ∷ xs) b j l h = rw j.0 h.0

-- ---- members
past_other : (us vs : List ℕ) (x v : ℕ) → v ≢ x → is_in (us ++ vs) v ≡ is_in (us ++ x ∷ vs) v
past_other [] vs x v d = let other : (x == v) ≡ false = ne_eqb x v (λ e. d (sym e)) in rw other refl
past_other (u ∷ us) vs x v d = rw (past_other us vs x v d) refl

in_middle : (us vs : List ℕ) (x : ℕ) → is_in (us ++ x ∷ vs) x ≡ true
in_middle [] vs x = is_in_first x vs
in_middle (u ∷ us) vs x = is_in_rest u x (us ++ x ∷ vs) (in_middle us vs x)

module _ (nodes count : ℕ) (next prev home : List ℕ) (r : AreChains nodes count next prev home
    (chain nodes next)) where
  all_low : (m : ℕ) → m < count → AllByRecursion (λ v. v < nodes + count) (chain nodes next m)
  all_low m mc = all_map (λ v low. omega arith) (chain nodes next m) (r.below m mc)

  -- the last node before a list's end
  pub end_bound : (l : ℕ) → l < count → at prev (nodes + l) < length next
  end_bound l lc =
      let low = last_low (at next) (at prev) (nodes + count) (nodes + l) (chain nodes next l) (nodes
      + l) (r.joins l lc) (omega arith) (all_low l lc) in
      omega (arith, low, r.next_len)

  -- what stands round a node of a list
  pub record Around (x : ℕ) : Type 0 where
    pub low : x < nodes
    pub from : at prev x < length next
    pub onto : at next x < length prev

  pub around : (l x : ℕ) → l < count → is_in (chain nodes next l) x ≡ true → Around x
  around l x lc t =
      let xs = chain nodes next l in
      let p = parts x xs t in
      let joins = subst (λ zs. Joins (at next) (at prev) (nodes + l) zs (nodes + l)) p.whole
      (r.joins l lc) in
      let low = subst (AllByRecursion (λ v. v < nodes + count)) p.whole (all_low l lc) in
      let two = split_at (at next) (at prev) (nodes + l) p.front x p.back (nodes + l) joins in
      let back = all_back (λ v. v < nodes + count) p.front (x ∷ p.back) low in
      let from = last_low (at next) (at prev) (nodes + count) (nodes + l) p.front x two.0
      (omega arith) (all_front (λ v. v < nodes + count) p.front (x ∷ p.back) low) in
      let onto = next_low (at next) (at prev) (nodes + count) x p.back (nodes + l) two.1
      (omega arith) back.1 in
      record {
        low = in_all (λ v. v < nodes) xs (r.below l lc) x t;
        from = omega (arith, from, r.next_len);
        onto = omega (arith, onto, r.prev_len);
      }

  -- ---- which list each node is in
  linked_homes : (l x : ℕ) (ys : List ℕ) →
      x < nodes → ((m : ℕ) → m < count → is_in (chain nodes next m) x ≡ false) →
      ((v : ℕ) → v ≢ x → is_in ys v ≡ is_in (chain nodes next l) v) → is_in ys x ≡ true
      → IsRehomed count home (slice_set home x l) (chain nodes next l) ys l x
  linked_homes l x ys xn free same here =
      let hl = r.home_len in
      let set : at (slice_set home x l) x ≡ l = get_or-set_same home x l 0 (omega (arith, hl)) in
      record {
        members = same;
        others = λ v d. get_or-set_other home x v l 0 d;
        was = λ m mc ml. sym (r.homes m x mc xn) ∙ free m mc;
        now = λ m mc ml. rw set (ne_eqb l m (λ e. ml (sym e)));
        here = here ∙ sym (rw set (eq-eqb l l refl));
      }

  cut_homes : (l x : ℕ) (ys : List ℕ) → l < count → x < nodes → is_in (chain nodes next l) x
      ≡ true → ((v : ℕ) → v ≢ x → is_in ys v ≡ is_in (chain nodes next l) v) → is_in ys x ≡ false
      → IsRehomed count home (slice_set home x count) (chain nodes next l) ys l x
  cut_homes l x ys lc xn t same gone =
      let hl = r.home_len in
      let set : at (slice_set home x count) x ≡ count =
      get_or-set_same home x count 0 (omega (arith, hl)) in
      let at_l : at home x ≡ l = eqb-true (at home x) l (sym (r.homes l x lc xn) ∙ t) in
      record {
        members = same;
        others = λ v d. get_or-set_other home x v count 0 d;
        was = λ m mc ml. rw at_l (ne_eqb l m (λ e. ml (sym e)));
        now = λ m mc ml. rw set (ne_eqb count m (λ e. absurd (omega arith)));
        here = gone ∙ sym (rw set (ne_eqb count l (λ e. absurd (omega arith))));
      }

  -- ---- the three writes, of a list of this number
  push_writes : (l x : ℕ) → l < count → x < nodes →
      ((m : ℕ) → m < count → is_in (chain nodes next m) x ≡ false)
      → AreWritten nodes next prev home (linked_next next prev x (nodes + l)) (linked_prev
      prev x (nodes + l)) (slice_set home x l) (chain nodes next l) (chain nodes next l
      ++ x ∷ []) count l x
  push_writes l x lc xn free =
      let xs = chain nodes next l in
      let e = nodes + l in
      let p = path_of nodes count next prev home (chain nodes next) r l lc in
      let lx = lacks_from_test x xs (free l lc) in
      let xe : x ≢ e = λ k. absurd (omega arith) in
      let px : x ≢ at prev e = last_apart (at next) (at prev) e xs e p.joins x xe lx in
      let nl = r.next_len in
      let pl = r.prev_len in
      let writes = link_writes next prev x e (omega (arith, nl)) (omega (arith, pl)) (omega (
        arith,
        pl,
      )) (end_bound l lc) (λ k. px (sym k)) (λ k. xe (sym k)) in
      let same : (v : ℕ) → v ≢ x → is_in (xs ++ x ∷ []) v ≡ is_in xs v =
      λ v d. sym (past_other xs [] x v d) ∙ ap (λ zs. is_in zs v) (append-nil {A = ℕ} xs) in
      record {
        path = pushed (at next) (at prev) _ _ e x xs p writes xe lx;
        homes = linked_homes l x (xs ++ x ∷ []) xn free same (in_middle xs [] x);
        below = all_append (λ v. v < nodes) xs (x ∷ []) (r.below l lc) (xn, tt);
        next_len = omega (arith, length-set {A = ℕ});
        prev_len = omega (arith, length-set {A = ℕ});
        home_len = length-set home x l;
      }

  insert_writes : (l q x : ℕ) → l < count → x < nodes → ((m : ℕ) → m < count →
      is_in (chain nodes next m) x ≡ false) → is_in (chain nodes next l) q ≡ true
      → AreWritten nodes next prev home (linked_next next prev x q) (linked_prev prev x q)
      (slice_set home x l) (chain nodes next l) (put_before q x (chain nodes next l)) count l x
  insert_writes l q x lc xn free t =
      let xs = chain nodes next l in
      let e = nodes + l in
      let k = parts q xs t in
      let p = subst (IsPath (at next) (at prev) e) k.whole
      (path_of nodes count next prev home (chain nodes next) r l lc) in
      let lx = lacks_from_test x xs (free l lc) in
      let lacks = subst (Lacks x) k.whole lx in
      let xe : x ≢ e = λ m. absurd (omega arith) in
      let a = around l q lc t in
      let two = split_at (at next) (at prev) e k.front q k.back e p.joins in
      let px : x ≢ at prev q = last_apart (at next) (at prev) e k.front q two.0 x xe
      (all_front (λ v. v ≢ x) k.front (q ∷ k.back) lacks) in
      let qx : q ≢ x = (all_back (λ v. v ≢ x) k.front (q ∷ k.back) lacks).0 in
      let nl = r.next_len in
      let pl = r.prev_len in
      let low = a.low in
      let writes = link_writes next prev x q (omega (arith, nl)) (omega (arith, pl)) (omega (
        arith,
        pl,
      )) a.from (λ m. px (sym m)) qx in
      let below = subst (AllByRecursion (λ v. v < nodes)) k.whole (r.below l lc) in
      let made = inserted (at next) (at prev) _ _ e x k.front q k.back p writes xe lacks in
      rw (k.inserted x) (record {
        path = subst (λ zs. IsWritten (at next) (at prev) (at (linked_next next prev x q))
            (at (linked_prev prev x q)) e x zs (k.front ++ x ∷ q ∷ k.back)) (sym k.whole) made;
        homes = linked_homes l x (k.front ++ x ∷ q ∷ k.back) xn free
            (λ v d. sym (past_other k.front (q ∷ k.back) x v d)
            ∙ ap (λ zs. is_in zs v) (sym k.whole))
            (in_middle k.front (q ∷ k.back) x);
        below = all_append (λ v. v < nodes) k.front (x ∷ q ∷ k.back) (all_front (λ v. v < nodes)
            k.front (q ∷ k.back) below) (xn, all_back (λ v. v < nodes) k.front (q ∷ k.back) below);
        next_len = omega (arith, length-set {A = ℕ});
        prev_len = omega (arith, length-set {A = ℕ});
        home_len = length-set home x l;
      })

  remove_writes : (l x : ℕ) → l < count → is_in (chain nodes next l) x ≡ true
      → AreWritten nodes next prev home (cut_next next prev x) (cut_prev next prev x)
      (slice_set home x count) (chain nodes next l) (without x (chain nodes next l)) count l x
  remove_writes l x lc t =
      let xs = chain nodes next l in
      let e = nodes + l in
      let k = parts x xs t in
      let p = subst (IsPath (at next) (at prev) e) k.whole
      (path_of nodes count next prev home (chain nodes next) r l lc) in
      let a = around l x lc t in
      let writes = cut_writes next prev x a.from a.onto in
      let made = removed (at next) (at prev) _ _ e k.front x k.back p writes in
      let below = subst (AllByRecursion (λ v. v < nodes)) k.whole (r.below l lc) in
      let across = (apart_across k.front (x ∷ k.back) p.apart).0 in
      let back = (apart_back k.front (x ∷ k.back) p.apart).0 in
      rw k.without (record {
        path = subst (λ zs. IsWritten (at next) (at prev) (at (cut_next next prev x))
            (at (cut_prev next prev x)) e x zs (k.front ++ k.back)) (sym k.whole) made;
        homes = cut_homes l x (k.front ++ k.back) lc a.low t
            (λ v d. past_other k.front k.back x v d ∙ ap (λ zs. is_in zs v) (sym k.whole))
            (lacks_none x (k.front ++ k.back) (all_append (λ v. v ≢ x) k.front k.back across back));
        below = all_append (λ v. v < nodes) k.front k.back (all_front (λ v. v < nodes) k.front (x
            ∷ k.back) below) (all_back (λ v. v < nodes) k.front (x ∷ k.back) below).1;
        next_len = length-set next (at prev x) (at next x);
        prev_len = length-set prev (at next x) (at prev x);
        home_len = length-set home x count;
      })

  -- ---- the same as callers have them: of what contracts see
  is_seen : (l x : ℕ) (b : Bool) → l < count → is_in (list_at (seen nodes count next) l) x ≡ b →
      is_in (chain nodes next l) x ≡ b
  is_seen l x b lc t = ap (λ xs. is_in xs x) (sym (seen_at nodes count next l lc)) ∙ t

  pub pushes : (l x : ℕ) (s : Lists) → seen nodes count next ≡ s → l < length s.lists →
      x < s.nodes → IsFree s x
      → IsLeft nodes count (linked_next next prev x (nodes + l)) (linked_prev prev x (nodes + l))
      (slice_set home x l) (with_list s l (list_at s l ++ x ∷ []))
  pushes l x s e = subst
      (λ (t : Lists). l < length t.lists → x < t.nodes → IsFree t x
      → IsLeft nodes count (linked_next next prev x (nodes + l)) (linked_prev prev x (nodes + l))
      (slice_set home x l) (with_list t l (list_at t l ++ x ∷ [])))
      e
      (λ lt xn free.
      let lc : l < count = omega (arith, lt, seen_len nodes count next) in
      let frees : (m : ℕ) → m < count → is_in (chain nodes next m) x ≡ false =
      λ m mc. is_seen m x false mc (free m) in
      rw (seen_at nodes count next l lc) (left nodes count next prev home l x _ _ _ _ r lc xn
      (push_writes l x lc xn frees)))

  pub inserts : (l q x : ℕ) (s : Lists) → seen nodes count next ≡ s → l < length s.lists →
      x < s.nodes → IsFree s x → is_in (list_at s l) q ≡ true
      → IsLeft nodes count (linked_next next prev x q) (linked_prev prev x q) (slice_set home x l)
      (with_list s l (put_before q x (list_at s l)))
  inserts l q x s e = subst
      (λ (t : Lists). l < length t.lists → x < t.nodes → IsFree t x → is_in (list_at t l) q ≡ true
      → IsLeft nodes count (linked_next next prev x q) (linked_prev prev x q) (slice_set home x l)
      (with_list t l (put_before q x (list_at t l))))
      e
      (λ lt xn free present.
      let lc : l < count = omega (arith, lt, seen_len nodes count next) in
      let frees : (m : ℕ) → m < count → is_in (chain nodes next m) x ≡ false =
      λ m mc. is_seen m x false mc (free m) in
      rw (seen_at nodes count next l lc) (left nodes count next prev home l x _ _ _ _ r lc xn
      (insert_writes l q x lc xn frees (is_seen l q true lc present))))

  pub removes : (l x : ℕ) (s : Lists) → seen nodes count next ≡ s → l < length s.lists →
      is_in (list_at s l) x ≡ true
      → IsLeft nodes count (cut_next next prev x) (cut_prev next prev x) (slice_set home x count)
      (with_list s l (without x (list_at s l)))
  removes l x s e = subst
      (λ (t : Lists). l < length t.lists → is_in (list_at t l) x ≡ true
      → IsLeft nodes count (cut_next next prev x) (cut_prev next prev x) (slice_set home x count)
      (with_list t l (without x (list_at t l))))
      e
      (λ lt present.
      let lc : l < count = omega (arith, lt, seen_len nodes count next) in
      let t = is_seen l x true lc present in
      let low = (around l x lc t).low in
      rw (seen_at nodes count next l lc) (left nodes count next prev home l x _ _ _ _ r lc low
      (remove_writes l x lc t)))

  pub in_range : (l : ℕ) (s : Lists) → seen nodes count next ≡ s → l < length s.lists → l < count
  in_range l s e lt = let same = ap (λ (t : Lists). length t.lists) e in
      omega (arith, lt, same, seen_len nodes count next)

  pub around_seen : (l x : ℕ) (s : Lists) → seen nodes count next ≡ s → l < length s.lists →
      is_in (list_at s l) x ≡ true → Around x
  around_seen l x s e lt t =
      let lc = in_range l s e lt in
      around l x lc (is_seen l x true lc (ap (λ (z : Lists). is_in (list_at z l) x) e ∙ t))

  -- ---- what is read
  next_of : (a : ℕ) (xs : List ℕ) (b : ℕ) → Joins (at next) (at prev) a xs b → Lacks b xs →
      node_or_end (at next a) b ≡ first xs
  next_of a [] b j l = ap (λ t. cond t None (Some (at next a))) (eq-eqb (at next a) b j.0)
  next_of a (x ∷ xs) b j l = ap (λ v. node_or_end v b) j.0
      ∙ ap (λ t. cond t None (Some x)) (ne_eqb x b l.0)

  after_is : (q : ℕ) (us vs : List ℕ) → Lacks q us → after q (us ++ q ∷ vs) ≡ first vs
  after_is q [] vs l = rw (eq-eqb q q refl) refl
  after_is q (u ∷ us) vs l = rw (ne_eqb u q l.0) (after_is q us vs l.1)

  pub front_is : (l : ℕ) (s : Lists) → seen nodes count next ≡ s → l < length s.lists →
      node_or_end (at next (nodes + l)) (nodes + l) ≡ first (list_at s l)
  front_is l s e lt =
      let lc = in_range l s e lt in
      let p = path_of nodes count next prev home (chain nodes next) r l lc in
      next_of (nodes + l) (chain nodes next l) (nodes + l) p.joins p.away ∙ ap first
      (sym (seen_at nodes count next l lc)) ∙ ap (λ (z : Lists). first (list_at z l)) e

  pub next_is : (l x : ℕ) (s : Lists) → seen nodes count next ≡ s → l < length s.lists →
      is_in (list_at s l) x ≡ true → node_or_end (at next x) (nodes + l) ≡ after x (list_at s l)
  next_is l x s e lt present =
      let lc = in_range l s e lt in
      let xs = chain nodes next l in
      let k = parts x xs (is_seen l x true lc (ap (λ (z : Lists). is_in (list_at z l) x) e
      ∙ present)) in
      let p = subst (IsPath (at next) (at prev) (nodes + l)) k.whole
      (path_of nodes count next prev home (chain nodes next) r l lc) in
      let two = split_at (at next) (at prev) (nodes + l) k.front x k.back (nodes + l) p.joins in
      let away = (all_back (λ v. v ≢ nodes + l) k.front (x ∷ k.back) p.away).1 in
      let lacks = (apart_across k.front (x ∷ k.back) p.apart).0 in
      next_of x k.back (nodes + l) two.1 away ∙ sym (after_is x k.front k.back lacks)
      ∙ ap (after x) (sym k.whole) ∙ ap (after x) (sym (seen_at nodes count next l lc))
      ∙ ap (λ (z : Lists). after x (list_at z l)) e

  pub home_is : (l x : ℕ) (s : Lists) → seen nodes count next ≡ s → l < length s.lists →
      x < s.nodes → (at home x == l) ≡ is_in (list_at s l) x
  home_is l x s e lt xn =
      let lc = in_range l s e lt in
      let same = ap (λ (t : Lists). t.nodes) e in
      sym (r.homes l x lc (omega (arith, same, xn))) ∙ ap (λ xs. is_in xs x)
      (sym (seen_at nodes count next l lc)) ∙ ap (λ (z : Lists). is_in (list_at z l) x) e

  past_all : (l : ℕ) → count ≤ l → list_at (seen nodes count next) l ≡ []
  past_all l h = get_or-eq_default (chains nodes count next) [] (let k =
      seen_len nodes count next in omega (arith, k))

  listed : (l v : ℕ) → is_in (list_at (seen nodes count next) l) v ≡ true → (l < count)
      × (is_in (chain nodes next l) v ≡ true)
  listed l v t = ⊎_elim (λ h. (h, is_seen l v true h t)) (λ h.
      absurd (false≢true (ap (λ xs. is_in xs v) (sym (past_all l h)) ∙ t))) (cases_lt l count)

  -- a node whose number is that of no list
  pub is_free : (x : ℕ) (s : Lists) → seen nodes count next ≡ s → x < s.nodes → count ≤ at home x →
      IsFree s x
  is_free x s e xn h = subst (λ (t : Lists). x < t.nodes → IsFree t x) e
      (λ low l. ⊎_elim
      (λ lc. ap (λ xs. is_in xs x) (seen_at nodes count next l lc) ∙ r.homes l x lc low
      ∙ ne_eqb (at home x) l (λ k. absurd (omega arith)))
      (λ past. ap (λ xs. is_in xs x) (past_all l past))
      (cases_lt l count))
      xn

  pub is_taken : (x : ℕ) (s : Lists) → seen nodes count next ≡ s → x < s.nodes → at home x < count →
      (l : ℕ) × (is_in (list_at s l) x ≡ true)
  is_taken x s e xn h =
      subst (λ (t : Lists). x < t.nodes → (l : ℕ) × (is_in (list_at t l) x ≡ true)) e
      (λ low. (
        at home x,
        ap (λ xs. is_in xs x) (seen_at nodes count next (at home x) h)
            ∙ r.homes (at home x) x h low ∙ eq-eqb (at home x) (at home x) refl,
      ))
      xn

  -- no node is in two lists
  pub disjoint : AreDisjoint (seen nodes count next)
  disjoint = record {
    orderly = record {
      apart = λ l. ⊎_elim (λ h. subst IsApart (sym (seen_at nodes count next l h)) (r.apart l h))
          (λ h. subst IsApart (sym (past_all l h)) tt) (cases_lt l count);
      below = λ l v t. let k = listed l v t in
          in_all (λ y. y < nodes) (chain nodes next l) (r.below l k.0) v k.1;
    };
    one = λ l m v t u.
        let k = listed l v t in
        let j = listed m v u in
        let low = in_all (λ y. y < nodes) (chain nodes next l) (r.below l k.0) v k.1 in
        sym (eqb-true (at home v) l (sym (r.homes l v k.0 low) ∙ k.1))
        ∙ eqb-true (at home v) m (sym (r.homes m v j.0 low) ∙ j.1);
  }

-- lists without a node
pub begun : (nodes count : ℕ) (next prev home : List ℕ) → nodes ≤ most → count ≤ most →
    length next ≡ nodes + count → length prev ≡ nodes + count → length home ≡ nodes
    → ((i : ℕ) → i < nodes + count → at next i ≡ i) →
    ((i : ℕ) → i < nodes + count → at prev i ≡ i) → ((v : ℕ) → v < nodes → at home v ≡ count) →
    IsLeft nodes count next prev home (bare nodes count)
begun nodes count next prev home fn fc nl pl hl ns ps hs =
    let none : ℕ → List ℕ = λ m. [] in
    let r : AreChains nodes count next prev home none = record {
      joins = λ l lc. (ns (nodes + l) (omega arith), ps (nodes + l) (omega arith));
      apart = λ l lc. tt;
      below = λ l lc. tt;
      homes = λ l v lc low. sym (ap (λ z. z == l) (hs v low)
          ∙ ne_eqb count l (λ e. absurd (omega (arith, e))));
      next_len = nl;
      prev_len = pl;
      home_len = hl;
      few_nodes = fn;
      few_lists = fc;
    } in
    record {
      chains = kept nodes count next prev home none r;
      view = ap (λ ls. record { nodes = nodes; lists = ls })
          (all_bare 0 count (λ m mc. read nodes count next prev home none r m (omega (arith, mc))));
    }
  where
    all_bare : (a n : ℕ) → ((m : ℕ) → m < a + n → chain nodes next m ≡ []) →
        map (chain nodes next) (range_with_len a n) ≡ replicate n []
    all_bare a zero h = refl
    all_bare a (suc n) h = ap (λ z. z ∷ map (chain nodes next) (range_with_len (a + 1) n))
        (h a (omega arith)) ∙ ap (λ zs. [] ∷ zs) (all_bare (a + 1) n (λ m low. h m (omega arith)))
