-- The lines that the numbers of a slot name, and the slot's regions.
use Rattle.std.proofs.Common.{◌≡◌, ℕ, ◌==◌, Bool, true, false, cond, not, ◌&&◌, ◌||◌, refl, sym, ap, ◌∙◌, List, [], ◌∷◌, ◌++◌, filter, map, get_or}
use Rattle.std.specs.List.{list_any}
use Rattle.surface_model.specs.Schedules.{InitLine, MergeLine, Schedule}
use Rattle.surface_model.specs.Layout.{is_among, is_merged_at, merged_region, patches_at, read_slot, region_of_patch, regions_at, split_slot}
use Rattle.patch_layout.specs.Items.{merge_line}
use Rattle.timetable.specs.Items.{is_apart, patches_of, regions_of}
use Rattle.timetable.specs.Times.{alive_at, merges_at, numbers_of}
use Rattle.timetable.proofs.Numbers.{map_numbers}

any_map : {X Y : Type 0} (test : Y → Bool) (g : X → Y) (xs : List X) → list_any test (map g xs)
    ≡ list_any (λ x. test (g x)) xs
any_map test g [] = refl
any_map test g (x ∷ xs) = ap (λ t. test (g x) || t) (any_map test g xs)

any_kept : {X : Type 0} (test p : X → Bool) (xs : List X) →
    list_any test (map (λ x. x) (filter p xs)) ≡ list_any (λ x. p x && test x) xs
any_kept test p [] = refl
any_kept test p (x ∷ xs) = by_test (p x) (any_kept test p xs)
  where
    by_test : (t : Bool) → list_any test (map (λ x. x) (filter p xs))
        ≡ list_any (λ x. p x && test x) xs →
        list_any test (map (λ x. x) (cond t (x ∷ filter p xs) (filter p xs))) ≡ (t && test x)
        || list_any (λ x. p x && test x) xs
    by_test true e = ap (λ m. test x || m) e
    by_test false e = e

-- a test of the lines that pass another
pub any_numbers : {X : Type 0} (test : X → Bool) (d : X) (p : X → Bool) (xs : List X) →
    list_any (λ k. test (get_or xs k d)) (numbers_of p xs) ≡ list_any (λ x. p x && test x) xs
any_numbers test d p xs = sym (any_map test (λ k. get_or xs k d) (numbers_of p xs))
    ∙ ap (list_any test) (map_numbers (λ x. x) d p xs) ∙ any_kept test p xs

map_kept : {X Y Z : Type 0} (f : Y → Z) (q : Y → Bool) (g : X → Y) (xs : List X) →
    map (λ x. f (g x)) (filter (λ x. q (g x)) xs) ≡ map f (filter q (map g xs))
map_kept f q g [] = refl
map_kept {Z = Z} f q g (x ∷ xs) = by_test (q (g x)) (map_kept f q g xs)
  where
    by_test : (t : Bool) → map (λ x. f (g x)) (filter (λ x. q (g x)) xs)
        ≡ map f (filter q (map g xs)) →
        map (λ x. f (g x)) (cond t (x ∷ filter (λ x. q (g x)) xs) (filter (λ x. q (g x)) xs))
        ≡ map f (cond t (g x ∷ filter q (map g xs)) (filter q (map g xs)))
    by_test true e = ap (λ ys. f (g x) ∷ ys) e
    by_test false e = e

kept_twice : {X : Type 0} (p q : X → Bool) (xs : List X) → filter q (map (λ x. x) (filter p xs))
    ≡ filter (λ x. p x && q x) xs
kept_twice p q [] = refl
kept_twice p q (x ∷ xs) = by_test (p x) (kept_twice p q xs)
  where
    by_test : (t : Bool) → filter q (map (λ x. x) (filter p xs)) ≡ filter (λ x. p x && q x) xs →
        filter q (map (λ x. x) (cond t (x ∷ filter p xs) (filter p xs)))
        ≡ cond (t && q x) (x ∷ filter (λ x. p x && q x) xs) (filter (λ x. p x && q x) xs)
    by_test true e = ap (λ ys. cond (q x) (x ∷ ys) ys) e
    by_test false e = e

kept_numbers : {X Y : Type 0} (f : X → Y) (d : X) (p q : X → Bool) (xs : List X) →
    map (λ k. f (get_or xs k d)) (filter (λ k. q (get_or xs k d)) (numbers_of p xs))
    ≡ map f (filter (λ x. p x && q x) xs)
kept_numbers f d p q xs =
    map_kept f q (λ k. get_or xs k d) (numbers_of p xs) ∙ ap (λ ys. map f (filter q ys))
    (map_numbers (λ x. x) d p xs) ∙ ap (map f) (kept_twice p q xs)

filter_same : {X : Type 0} (p q : X → Bool) (xs : List X) → ((x : X) → p x ≡ q x) →
    filter p xs ≡ filter q xs
filter_same p q [] h = refl
filter_same p q (x ∷ xs) h = ap (λ t. cond t (x ∷ filter p xs) (filter p xs)) (h x)
    ∙ ap (λ ys. cond (q x) (x ∷ ys) ys) (filter_same p q xs h)

merged_as : (s : Schedule) (t p : ℕ) → is_apart s (merges_at s t) p ≡ not (is_merged_at s t p)
merged_as s t p = ap not (any_numbers (λ (m : MergeLine). (m.one == p)
    || (m.two == p)) _ (λ (m : MergeLine). is_among m.slot (split_slot m) t) s.merges)

patches_are : (s : Schedule) (t : ℕ) → patches_of s (alive_at s t) (merges_at s t) ≡ patches_at s t
patches_are s t =
    kept_numbers (λ (line : InitLine). region_of_patch s line.patch) _ (λ (line : InitLine).
    is_among line.slot (read_slot s line.patch) t) (λ (line : InitLine).
    is_apart s (merges_at s t) line.patch) s.inits
    ∙ ap (map (λ (line : InitLine). region_of_patch s line.patch))
    (filter_same (λ (line : InitLine). is_among line.slot (read_slot s line.patch) t
    && is_apart s (merges_at s t) line.patch) (λ (line : InitLine).
    is_among line.slot (read_slot s line.patch) t && not (is_merged_at s t line.patch)) s.inits
    (λ line. ap (λ b. is_among line.slot (read_slot s line.patch) t
    && b) (merged_as s t line.patch)))

pub regions_are : (s : Schedule) (t : ℕ) → regions_of s (alive_at s t) (merges_at s t)
    ≡ regions_at s t
regions_are s t =
    ap (λ rs. rs ++ map (λ n. merged_region s (merge_line s n)) (merges_at s t)) (patches_are s t)
    ∙ ap (λ rs. patches_at s t ++ rs) (map_numbers (merged_region s) _ (λ (m : MergeLine).
    is_among m.slot (split_slot m) t) s.merges)
