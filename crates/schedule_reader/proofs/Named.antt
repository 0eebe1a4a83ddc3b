-- Names and labels among lists of items.
use Rattle.std.proofs.Common.{◌≡◌, ◌<◌, ℕ, ◌+◌, Bool, true, false, not, ◌||◌, cond, ltb, List, [], ◌∷◌, ◌++◌, drop, get_or, length, map, refl, ap, ◌∙◌, sym, bytes_eq, Some, None}
use Rattle.std.specs.Prelude.{find}
use Rattle.std.specs.List.{list_any, position, position_or_len}
use Rattle.std.proofs.lemmas.List.{at_drop_more, length-map}
use Rattle.std.proofs.lemmas.List.Folds.{list_any-append}
use Rattle.surface_model.specs.Schedules.{PatchLine, MergeLine, ReadLine, CondLine}
use Rattle.surface_model.specs.Text.{has}
use Rattle.schedule_reader.specs.Known.{Tables, names_in, labels_in}

pub has_map : {X : Type 0} (h : X → List ℕ) (xs : List X) (f : List ℕ) → has (map h xs) f
    ≡ list_any (λ x. bytes_eq f (h x)) xs
has_map h [] f = refl
has_map h (x ∷ xs) f = ap (λ b. bytes_eq f (h x) || b) (has_map h xs f)

pub names_has : (t : Tables) (f : List ℕ) → has (names_in t) f
    ≡ list_any (λ (p : PatchLine). bytes_eq f p.name) t.patches
names_has t f = has_map (λ (p : PatchLine). p.name) t.patches f

pub labels_has : (t : Tables) (f : List ℕ)
    → has (labels_in t) f ≡ ((list_any (λ (m : MergeLine). bytes_eq f m.label) t.merges
    || list_any (λ (r : ReadLine). bytes_eq f r.label) t.reads)
    || list_any (λ (c : CondLine). bytes_eq f c.label) t.conds)
labels_has t f =
    let ms = map (λ (m : MergeLine). m.label) t.merges in
    let rs = map (λ (r : ReadLine). r.label) t.reads in
    let cs = map (λ (c : CondLine). c.label) t.conds in
    list_any-append (bytes_eq f) (ms ++ rs) cs
    ∙ ap (λ b. b || has cs f) (list_any-append (bytes_eq f) ms rs)
    ∙ ap (λ b. (b || has rs f) || has cs f) (has_map (λ (m : MergeLine). m.label) t.merges f)
    ∙ ap (λ b. (list_any (λ (m : MergeLine). bytes_eq f m.label) t.merges || b)
    || has cs f) (has_map (λ (r : ReadLine). r.label) t.reads f)
    ∙ ap (λ b. (list_any (λ (m : MergeLine). bytes_eq f m.label) t.merges
    || list_any (λ (r : ReadLine). bytes_eq f r.label) t.reads)
    || b) (has_map (λ (c : CondLine). c.label) t.conds f)

place_map : {X Y : Type 0} (h : X → Y) (p : Y → Bool) (xs : List X) → position_or_len p (map h xs)
    ≡ position_or_len (λ x. p (h x)) xs
place_map h p [] = refl
place_map h p (x ∷ xs) = step (p (h x)) (place_map h p xs)
  where
    step : (b : Bool) → position_or_len p (map h xs) ≡ position_or_len (λ x. p (h x)) xs →
        cond (not b) (1 + position_or_len p (map h xs)) 0
        ≡ cond (not b) (1 + position_or_len (λ x. p (h x)) xs) 0
    step true e = refl
    step false e = ap (λ n. 1 + n) e

pub position_map : {X Y : Type 0} (h : X → Y) (p : Y → Bool) (xs : List X) → position p (map h xs)
    ≡ position (λ x. p (h x)) xs
position_map h p xs =
    ap (λ n. cond (ltb n (length (map h xs))) (Some n) None) (place_map h p xs)
    ∙ ap (λ k. cond (ltb (position_or_len (λ x. p (h x)) xs) k)
    (Some (position_or_len (λ x. p (h x)) xs)) None) (length-map xs h)

pub names_place : (t : Tables) (f : List ℕ) → position (bytes_eq f) (names_in t)
    ≡ position (λ (p : PatchLine). bytes_eq f p.name) t.patches
names_place t f = position_map (λ (p : PatchLine). p.name) (bytes_eq f) t.patches

-- the first that passes a test, as one more is looked at
pub found_here : {X : Type 0} (test : X → Bool) (xs : List X) (i : ℕ) (d : X) → i < length xs →
    find test (drop i xs) ≡ find test xs → test (get_or xs i d) ≡ true → Some (get_or xs i d)
    ≡ find test xs
found_here test xs i d h o t = sym (sym o ∙ at_drop_more (find test) xs i d h
    ∙ ap (λ b. cond b (Some (get_or xs i d)) (find test (drop (i + 1) xs))) t)

pub not_here : {X : Type 0} (test : X → Bool) (xs : List X) (i : ℕ) (d : X) → i < length xs →
    find test (drop i xs) ≡ find test xs → test (get_or xs i d) ≡ false →
    find test (drop (i + 1) xs) ≡ find test xs
not_here test xs i d h o t = sym (at_drop_more (find test) xs i d h
    ∙ ap (λ b. cond b (Some (get_or xs i d)) (find test (drop (i + 1) xs))) t) ∙ o
