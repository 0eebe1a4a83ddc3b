-- The fields of a line with their kinds, one at a time.
use Rattle.std.proofs.Common.{◌≡◌, ℕ, zero, suc, ◌+◌, ◌<◌, Bool, true, false, ◌&&◌, List, [], ◌∷◌, length, map, drop, refl, ap, sym, ◌∙◌, add-one, arith, slice_index_or}
use Rattle.std.specs.List.{list_all}
use Rattle.std.proofs.lemmas.List.{length-map, drop_all}
use Rattle.surface_model.specs.declared.FieldKind.{FieldKind}
use Rattle.surface_model.specs.declared.FieldKind.TheVariants.{OldObservable}
use Rattle.surface_model.specs.Text.{kinds_with}
use Rattle.schedule_reader.proofs.Numbers.{and_left, and_right}

-- whether the fields from this place on pass
abbrev pub all_from : (FieldKind → List ℕ → Bool) → List FieldKind → List (List ℕ) → ℕ → Bool
all_from test kinds fields i =
    list_all (λ (p : FieldKind × List ℕ). test p.0 p.1) (kinds_with (drop i kinds) (drop i fields))

abbrev next_is : (FieldKind → List ℕ → Bool) → List FieldKind → List (List ℕ) → ℕ → Type 0
next_is test kinds fields i = all_from test kinds fields i
    ≡ (test (slice_index_or kinds i OldObservable) (slice_index_or fields i [])
    && all_from test kinds fields (i + 1))

-- the next field where no kind is left
from_rest : (test : FieldKind → List ℕ → Bool) (fields : List (List ℕ)) (i : ℕ) → i < length fields
    → list_all (λ (p : FieldKind × List ℕ). test p.0 p.1) (kinds_with [] (drop i fields))
    ≡ (test OldObservable (slice_index_or fields i []) && list_all (λ (p : FieldKind × List ℕ).
    test p.0 p.1) (kinds_with [] (drop (suc i) fields)))
from_rest test [] i h = absurd (omega arith)
from_rest test (f ∷ fields) zero h = refl
from_rest test (f ∷ fields) (suc i) h = from_rest test fields i (omega arith)

-- the next kind and field, from the front
from_front : (test : FieldKind → List ℕ → Bool) (kinds : List FieldKind) (fields : List (List ℕ))
    (i : ℕ) → i < length fields
    → all_from test kinds fields i ≡ (test (slice_index_or kinds i OldObservable)
    (slice_index_or fields i []) && all_from test kinds fields (suc i))
from_front test kinds [] i h = absurd (omega arith)
from_front test [] (f ∷ fields) zero h = refl
from_front test (k ∷ kinds) (f ∷ fields) zero h = refl
from_front test [] (f ∷ fields) (suc i) h = from_rest test fields i (omega arith)
from_front test (k ∷ kinds) (f ∷ fields) (suc i) h = from_front test kinds fields i (omega arith)

pub typed_next : (test : FieldKind → List ℕ → Bool) (kinds : List FieldKind)
    (fields : List (List ℕ)) (i : ℕ) → i < length fields → next_is test kinds fields i
typed_next test kinds fields i h =
    from_front test kinds fields i h ∙ ap (λ n. test (slice_index_or kinds i OldObservable)
    (slice_index_or fields i []) && all_from test kinds fields n) (sym (add-one i))

-- what the loop needs: a field that fails, one that passes, and the end
pub typed_fails : {X : Type 0} (now : X → List ℕ) (test : FieldKind → List ℕ →
    Bool) (kinds : List FieldKind) (xs : List X) (i : ℕ) → i < length xs
    → all_from test kinds (map now xs) 0 ≡ all_from test kinds (map now xs) i →
    test (slice_index_or kinds i OldObservable) (slice_index_or (map now xs) i []) ≡ false
    → false ≡ all_from test kinds (map now xs) 0
typed_fails now test kinds xs i h e f =
    sym (e ∙ typed_next test kinds (map now xs) i (omega (arith, length-map xs now))
    ∙ ap (λ b. b && all_from test kinds (map now xs) (i + 1)) f)

pub typed_passes : {X : Type 0} (now : X → List ℕ) (test : FieldKind → List ℕ →
    Bool) (kinds : List FieldKind) (xs : List X) (i : ℕ) → i < length xs
    → all_from test kinds (map now xs) 0 ≡ all_from test kinds (map now xs) i →
    test (slice_index_or kinds i OldObservable) (slice_index_or (map now xs) i []) ≡ true
    → all_from test kinds (map now xs) 0 ≡ all_from test kinds (map now xs) (i + 1)
typed_passes now test kinds xs i h e f =
    e ∙ typed_next test kinds (map now xs) i (omega (arith, length-map xs now))
    ∙ ap (λ b. b && all_from test kinds (map now xs) (i + 1)) f

none_left : (kinds : List FieldKind) → kinds_with kinds [] ≡ []
none_left [] = refl
none_left (k ∷ kinds) = refl

pub typed_end : {X : Type 0} (now : X → List ℕ) (test : FieldKind → List ℕ → Bool)
    (kinds : List FieldKind) (xs : List X) → all_from test kinds (map now xs) (length xs) ≡ true
typed_end now test kinds xs =
    ap (λ fs. list_all (λ (p : FieldKind × List ℕ). test p.0 p.1) (kinds_with (drop (length xs)
    kinds) fs)) (drop_all (length xs) (map now xs) (omega (arith, length-map xs now)))
    ∙ ap (list_all (λ (p : FieldKind × List ℕ). test p.0 p.1)) (none_left (drop (length xs) kinds))

-- what a test of all says of one
pub typed_at : (test : FieldKind → List ℕ → Bool) (kinds : List FieldKind) (fields : List (List ℕ))
    (i : ℕ) → i < length fields → all_from test kinds fields 0 ≡ true
    → test (slice_index_or kinds i OldObservable) (slice_index_or fields i []) ≡ true
typed_at test kinds [] i h e = absurd (omega arith)
typed_at test [] (f ∷ fields) zero h e =
    and_left (test OldObservable f) (all_from test [] fields 0) e
typed_at test (k ∷ kinds) (f ∷ fields) zero h e =
    and_left (test k f) (all_from test kinds fields 0) e
typed_at test [] (f ∷ fields) (suc i) h e = typed_at test [] fields i (omega arith)
    (and_right (test OldObservable f) (all_from test [] fields 0) e)
typed_at test (k ∷ kinds) (f ∷ fields) (suc i) h e = typed_at test kinds fields i (omega arith)
    (and_right (test k f) (all_from test kinds fields 0) e)
