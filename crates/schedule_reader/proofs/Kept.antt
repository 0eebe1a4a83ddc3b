-- What a line without fault keeps of the lines before it: ranges, lines and lives that are apart,
-- and the limits.
use Rattle.std.proofs.Common.{◌≡◌, ℕ, suc, ◌+◌, ◌<◌, ◌≤◌, Bool, true, false, ◌&&◌, ◌||◌, leb, cond, List, [], ◌∷◌, ◌++◌, length, map, refl, ap, sym, ◌∙◌, subst, arith, codes, bytes_eq, slice_index_or}
use Rattle.std.specs.Prelude.{if◌then◌else◌}
use Rattle.std.specs.List.{All, position_or_len}
use Rattle.std.proofs.Math.ListN.{get_or-append}
use Rattle.std.proofs.lemmas.Bool.Decides.{nat_tests}
use Rattle.std.proofs.lemmas.List.{length-map, map-append}
use Rattle.std.proofs.lemmas.List.Elements.{All-push}
use Rattle.std.proofs.lemmas.List.Folds.{list_any-append}
use Rattle.std.proofs.lemmas.List.Sums.{passes_at_first}
use Rattle.std.proofs.lemmas.Slice.Eq.{bytes_eq-Decides}
use Rattle.surface_model.specs.Schedules.{PatchLine, InitLine, MergeLine, ReadLine, CondLine, Schedule}
use Rattle.surface_model.specs.Text.{TextLine, field, begins, has, is_of_many}
use Rattle.surface_model.specs.Parse.{number_in, patch_line, init_line, merge_line, read_line, cond_line}
use Rattle.surface_model.specs.Accepted.{AreDistinct, IsInRange}
use Rattle.schedule_reader.specs.Known.{Tables, with_line, names_in, many_in, is_repeated_in, is_too_many_in, schedule_in}
use Rattle.schedule_reader.proofs.ByKind.{IsClean, or_left, or_right}
use Rattle.schedule_reader.proofs.Earlier.{apart, longer, many_step}
use Rattle.schedule_reader.proofs.Agreed.{Refers, refers, place_stays, found_at}
use Rattle.schedule_reader.proofs.Naming.{IsNaming, naming_push}
use Rattle.schedule_reader.proofs.Ranges.{Numbers, numbers, number_below}

-- a list that grows, where the test grows weaker
grown : {X : Type 0} (P Q : X → Type 0) (xs : List X) (x : X) (b : Bool) → ((y : X) → P y → Q y) →
    All P xs → (b ≡ true → Q x) → All Q (if b then xs ++ x ∷ [] else xs)
grown P Q xs x true weak all new =
    All-push Q xs x (λ k d h. weak (slice_index_or xs k d) (all k d h)) (new refl)
grown P Q xs x false weak all new = λ k d h. weak (slice_index_or xs k d) (all k d h)

longer_by : {X : Type 0} (xs : List X) (x : X) (b : Bool) →
    length xs ≤ length (if b then xs ++ x ∷ [] else xs)
longer_by xs x b = omega (arith, longer xs x b)

-- ---- what a line adds to

-- the line is fit to follow these
pub record Fits (t : Tables) (l : TextLine) : Type 0 where
  pub numbers : Numbers l
  pub refers : Refers t l
  pub fresh : is_repeated_in t l ≡ false
  pub few : is_too_many_in t l ≡ false

pub fits : (t : Tables) (l : TextLine) → IsClean t l → Fits t l
fits t l c = record { numbers = numbers t l c; refers = refers t l c; fresh = c.fresh; few = c.few }

-- a first line adds to none of the lists
pub fits_first : (t : Tables) (l : TextLine) → begins (codes "swiper") l ≡ true → Fits t l
fits_first t l s =
    let p = apart (codes "swiper") (codes "patch") l refl s in
    let i = apart (codes "swiper") (codes "init") l refl s in
    let m = apart (codes "swiper") (codes "merge") l refl s in
    let r = apart (codes "swiper") (codes "read") l refl s in
    let k = apart (codes "swiper") (codes "cond") l refl s in
    record {
      numbers = record {
        row = λ h. absurd (cc);
        column = λ h. absurd (cc);
        init = λ h. absurd (cc);
        merge = λ h. absurd (cc);
        count = λ h. absurd (cc);
        read = λ h. absurd (cc);
        cond = λ h. absurd (cc);
      };
      refers = record {
        init = λ h. absurd (cc);
        one = λ h. absurd (cc);
        two = λ h. absurd (cc);
        read = λ h. absurd (cc);
        cond = λ h. absurd (cc);
        labels = λ h. absurd (cc);
        enough = λ h. absurd (cc);
      };
      fresh = rw (i, r) refl;
      few = rw (p, m, r, k) refl;
    }

under : (top n : ℕ) (more : Bool) → (more && leb top n) ≡ false → n ≤ top → n + cond more 1 0 ≤ top
under top n true h low = grind (arith, nat_tests)
under top n false h low = omega arith

-- ---- what no later one repeats

distinct_push : {X : Type 0} (f : X → ℕ) (xs : List X) (x : X) → AreDistinct (map f xs) →
    All (λ y. f y ≡ f x → ⊥) xs → AreDistinct (map f (xs ++ x ∷ []))
distinct_push f [] x d a = (λ k z h. absurd (omega arith), tt)
distinct_push f (y ∷ ys) x d a = (
  subst (All (λ n. f y ≡ n → ⊥)) (sym (map-append f ys (x ∷ []))) (All-push (λ n. f y ≡ n →
      ⊥) (map f ys) (f x) d.0 (a 0 y (omega arith))),
  distinct_push f ys x d.1 (λ k z h. a (suc k) z (omega arith)),
)

distinct_grown : {X : Type 0} (f : X → ℕ) (xs : List X) (x : X) (b : Bool) →
    AreDistinct (map f xs) → (b ≡ true → All (λ y. f y ≡ f x → ⊥) xs) →
    AreDistinct (map f (if b then xs ++ x ∷ [] else xs))
distinct_grown f xs x true d a = distinct_push f xs x d (a refl)
distinct_grown f xs x false d a = d

-- what stands on earlier lines is on no later one
later : {X : Type 0} (f : X → ℕ) (xs : List X) (last n : ℕ) → last < n → All (λ y. f y ≤ last) xs →
    All (λ y. f y ≡ n → ⊥) xs
later f xs last n l a k d h e = omega (arith, a k d h, e)

-- ---- lives

-- the name at a known name's number
known_at : (names : List (List ℕ)) (f : List ℕ) → has names f ≡ true →
    slice_index_or names (number_in names f) [] ≡ f
known_at names f h =
    let k = place_stays (bytes_eq f) names [] h in
    ap (λ n. slice_index_or names n []) (found_at (bytes_eq f) names k.1)
    ∙ sym ((bytes_eq-Decides f (slice_index_or names (position_or_len (bytes_eq f) names) [])).0
    (passes_at_first (bytes_eq f) names [] k.1))

-- the names of these patches are among those that have lived
abbrev Lived : {X : Type 0} → (X → ℕ) → List (List ℕ) → List (List ℕ) → List X → Type 0
Lived patch names lived xs = All (λ x. has lived (slice_index_or names (patch x) []) ≡ true) xs

lived_grown : {X : Type 0} (patch : X → ℕ) (xs : List X) (x : X) (old new lived : List (List ℕ))
    (f : List ℕ) (b : Bool)
    → ((n : ℕ) → n < length old → slice_index_or new n [] ≡ slice_index_or old n []) →
    All (λ y. patch y < length old) xs → Lived patch old lived xs
    → (b ≡ true → (patch x < length old) × (slice_index_or old (patch x) [] ≡ f)) →
    Lived patch new (if b then lived ++ f ∷ [] else lived) (if b then xs ++ x ∷ [] else xs)
lived_grown patch xs x old new lived f b stays low was is =
    grown (λ y. (patch y < length old) × (has lived (slice_index_or old (patch y) []) ≡ true)) (λ y.
    has (if b then lived ++ f ∷ [] else lived) (slice_index_or new (patch y) []) ≡ true) xs x b
    (λ y h. ap (has (if b then lived ++ f ∷ [] else lived)) (stays (patch y) h.0)
    ∙ more b (slice_index_or old (patch y) []) h.1)
    (λ k d h. (low k d h, was k d h))
    (λ e. let i = is e in ap (has (if b then lived ++ f ∷ [] else lived)) (stays (patch x) i.0
    ∙ i.1) ∙ its b e)
  where
    more : (b : Bool) (g : List ℕ) → has lived g ≡ true →
        has (if b then lived ++ f ∷ [] else lived) g ≡ true
    more true g h = list_any-append (bytes_eq g) lived (f ∷ []) ∙ ap (λ a. a || has (f ∷ []) g) h
    more false g h = h

    both : (a b : Bool) → b ≡ true → (a || (b || false)) ≡ true
    both true b h = refl
    both false true h = refl
    both false false h = h

    its : (b : Bool) → b ≡ true → has (if b then lived ++ f ∷ [] else lived) f ≡ true
    its true e = list_any-append (bytes_eq f) lived (f ∷ [])
        ∙ both (has lived f) (bytes_eq f f) ((bytes_eq-Decides f f).1 refl)
    its false e = absurd (cc)

-- a patch that has not lived is none of theirs
unlived : {X : Type 0} (patch : X → ℕ) (xs : List X) (names lived : List (List ℕ)) (n : ℕ)
    (f : List ℕ) → Lived patch names lived xs → slice_index_or names n [] ≡ f → has lived f ≡ false
    → All (λ y. patch y ≡ n → ⊥) xs
unlived patch xs names lived n f was is un k d h e =
    let w = sym (was k d h) ∙ ap (λ m. has lived (slice_index_or names m [])) e ∙ ap (has lived) is
    ∙ un in cc

-- ---- all that is kept

-- the schedule so far, with some good distance: its own is judged by its place
abbrev pub sized_in : Tables → Schedule
sized_in t = record (schedule_in t) { distance = 3 }

pub record IsKept (t : Tables) : Type 0 where
  pub ranges : IsInRange (sized_in t)
  pub patches : length t.patches ≤ 64
  pub patch_lines : All (λ (p : PatchLine). p.line ≤ t.last_line) t.patches
  pub merge_lines : All (λ (m : MergeLine). m.line ≤ t.last_line) t.merges
  pub read_lines : All (λ (r : ReadLine). r.line ≤ t.last_line) t.reads
  pub prepared : Lived (λ (i : InitLine). i.patch) (names_in t) t.prepared t.inits
  pub measured : Lived (λ (r : ReadLine). r.patch) (names_in t) t.measured t.reads
  pub naming : IsNaming t

names_stay : (t : Tables) (l : TextLine) (n : ℕ) → n < length (names_in t) →
    slice_index_or (names_in (with_line t l)) n [] ≡ slice_index_or (names_in t) n []
names_stay t l n h = by (begins (codes "patch") l)
  where
    by : (b : Bool) → slice_index_or (map (λ (p : PatchLine). p.name) (if b then t.patches
        ++ patch_line l ∷ [] else t.patches)) n [] ≡ slice_index_or (names_in t) n []
    by true = ap (λ ns. slice_index_or ns n []) (map-append (λ (p : PatchLine). p.name) t.patches
        (patch_line l ∷ [])) ∙ get_or-append (names_in t) (field l 1 ∷ []) [] n h
    by false = refl

ranges_push : (t : Tables) (l : TextLine) → IsKept t → Fits t l → t.last_line < l.number →
    IsInRange (sized_in (with_line t l))
ranges_push t l k f rises =
    let w = k.ranges in
    let n = f.numbers in
    let r = f.refers in
    let more = longer_by t.patches (patch_line l) (begins (codes "patch") l) in
    let names = length-map t.patches (λ (p : PatchLine). p.name) in
    let lives = f.fresh in
    record {
      odd = refl;
      least = omega arith;
      greatest = omega arith;
      tiles = grown (λ (p : PatchLine). (p.row ≤ 15) × (p.column ≤ 15)) (λ (p : PatchLine).
          (p.row ≤ 15) × (p.column ≤ 15)) t.patches (patch_line l) (begins (codes "patch") l)
          (λ y h. h) w.tiles (λ h. ((n.row h).1, (n.column h).1));
      inits = grown (λ (i : InitLine). (i.patch < length t.patches)
          × (i.slot ≤ 4095)) (λ (i : InitLine). (i.patch < length (with_line t l).patches)
          × (i.slot ≤ 4095)) t.inits (init_line (names_in t) l) (begins (codes "init") l)
          (λ y h. (omega (arith, h.0, more), h.1)) w.inits (λ h. let k = number_below (names_in t)
          (field l 1) (r.init h) in (omega (arith, k, names, more), (n.init h).1));
      merges = grown (λ (m : MergeLine). (m.one < length t.patches) × (m.two < length t.patches)
          × (m.slot ≤ 4095) × (1 ≤ m.count) × (m.count ≤ 4095))
          (λ (m : MergeLine). (m.one < length (with_line t l).patches)
          × (m.two < length (with_line t l).patches) × (m.slot ≤ 4095) × (1 ≤ m.count)
          × (m.count ≤ 4095)) t.merges (merge_line (names_in t) l) (begins (codes "merge") l)
          (λ y h. (omega (arith, h.0, more), omega (arith, h.1, more), h.2, h.3, h.4)) w.merges
          (λ h. let one = number_below (names_in t) (field l 2) (r.one h) in
          let two = number_below (names_in t) (field l 3) (r.two h) in (
            omega (arith, one, names, more),
            omega (arith, two, names, more),
            (n.merge h).1,
            (n.count h).0,
            (n.count h).1,
          ));
      reads = grown (λ (i : ReadLine). (i.patch < length t.patches)
          × (i.slot ≤ 4095)) (λ (i : ReadLine). (i.patch < length (with_line t l).patches)
          × (i.slot ≤ 4095)) t.reads (read_line (names_in t) l) (begins (codes "read") l)
          (λ y h. (omega (arith, h.0, more), h.1)) w.reads (λ h. let k = number_below (names_in t)
          (field l 2) (r.read h) in (omega (arith, k, names, more), (n.read h).1));
      conds = grown (λ (i : CondLine). (i.patch < length t.patches) × (i.slot ≤ 4095))
          (λ (i : CondLine). (i.patch < length (with_line t l).patches) × (i.slot ≤ 4095)) t.conds
          (cond_line (names_in t) t.observables l) (begins (codes "cond") l)
          (λ y h. (omega (arith, h.0, more), h.1)) w.conds (λ h. let k = number_below (names_in t)
          (field l 2) (r.cond h) in (omega (arith, k, names, more), (n.cond h).1));
      patch_lines = distinct_grown (λ (p : PatchLine).
          p.line) t.patches (patch_line l) (begins (codes "patch") l) w.patch_lines (λ h.
          later (λ (p : PatchLine). p.line) t.patches t.last_line l.number rises k.patch_lines);
      merge_lines = distinct_grown (λ (m : MergeLine). m.line) t.merges (merge_line (names_in t) l)
          (begins (codes "merge") l) w.merge_lines (λ h. later (λ (m : MergeLine). m.line) t.merges
          t.last_line l.number rises k.merge_lines);
      one_init = distinct_grown (λ (i : InitLine). i.patch) t.inits (init_line (names_in t) l)
          (begins (codes "init") l) w.one_init
          (λ h. unlived (λ (i : InitLine). i.patch) t.inits (names_in t) t.prepared
          (number_in (names_in t) (field l 1)) (field l 1) k.prepared
          (known_at (names_in t) (field l 1) (r.init h))
          (sym (ap (λ b. b && has t.prepared (field l 1)) h) ∙ or_left (begins (codes "init") l
          && has t.prepared (field l 1)) (begins (codes "read") l && has t.measured (field l 2))
          lives));
      one_read = distinct_grown (λ (i : ReadLine). i.patch) t.reads (read_line (names_in t) l)
          (begins (codes "read") l) w.one_read
          (λ h. unlived (λ (i : ReadLine). i.patch) t.reads (names_in t) t.measured
          (number_in (names_in t) (field l 2)) (field l 2) k.measured
          (known_at (names_in t) (field l 2) (r.read h))
          (sym (ap (λ b. b && has t.measured (field l 2)) h) ∙ or_right (begins (codes "init") l
          && has t.prepared (field l 1)) (begins (codes "read") l && has t.measured (field l 2))
          lives));
      few = subst (λ x. x ≤ 256) (sym (many_step t l)) (under 256 (many_in t) (is_of_many l)
          (or_right (begins (codes "patch") l && leb 64 (length t.patches)) (is_of_many l
          && leb 256 (many_in t)) f.few) w.few);
    }

pub kept_push : (t : Tables) (l : TextLine) → IsKept t → Fits t l → t.last_line < l.number →
    IsKept (with_line t l)
kept_push t l k f rises =
    let names = length-map t.patches (λ (p : PatchLine). p.name) in
    record {
      ranges = ranges_push t l k f rises;
      patches =
          subst (λ x. x ≤ 64) (sym (longer t.patches (patch_line l) (begins (codes "patch") l)))
          (under 64 (length t.patches) (begins (codes "patch") l) (or_left (begins (codes "patch") l
          && leb 64 (length t.patches)) (is_of_many l && leb 256 (many_in t)) f.few) k.patches);
      patch_lines = grown (λ (p : PatchLine). p.line ≤ t.last_line) (λ (p : PatchLine).
          p.line ≤ l.number) t.patches (patch_line l) (begins (codes "patch") l) (λ y h.
          omega (arith, h, rises)) k.patch_lines (λ h. omega arith);
      merge_lines = grown (λ (m : MergeLine). m.line ≤ t.last_line) (λ (m : MergeLine).
          m.line ≤ l.number) t.merges (merge_line (names_in t) l) (begins (codes "merge") l) (λ y h.
          omega (arith, h, rises)) k.merge_lines (λ h. omega arith);
      read_lines = grown (λ (r : ReadLine). r.line ≤ t.last_line) (λ (r : ReadLine).
          r.line ≤ l.number) t.reads (read_line (names_in t) l) (begins (codes "read") l) (λ y h.
          omega (arith, h, rises)) k.read_lines (λ h. omega arith);
      prepared = lived_grown (λ (i : InitLine). i.patch) t.inits (init_line (names_in t) l)
          (names_in t) (names_in (with_line t l)) t.prepared (field l 1) (begins (codes "init") l)
          (names_stay t l)
          (λ j d h. omega (arith, (k.ranges.inits j d h).0, names)) k.prepared (λ h. (
            number_below (names_in t) (field l 1) (f.refers.init h),
            known_at (names_in t) (field l 1) (f.refers.init h),
          ));
      measured = lived_grown (λ (r : ReadLine). r.patch) t.reads (read_line (names_in t) l)
          (names_in t) (names_in (with_line t l)) t.measured (field l 2) (begins (codes "read") l)
          (names_stay t l)
          (λ j d h. omega (arith, (k.ranges.reads j d h).0, names)) k.measured (λ h. (
            number_below (names_in t) (field l 2) (f.refers.read h),
            known_at (names_in t) (field l 2) (f.refers.read h),
          ));
      naming = naming_push t l k.naming f.refers;
    }
