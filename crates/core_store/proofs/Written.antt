-- What is read where values were written.
use Rattle.std.proofs.lemmas.Bool.{cases_eq}
use Rattle.std.proofs.lemmas.List.{get_or-map, length-map}
use Rattle.std.proofs.Common.{◌≡◌, ⊎_elim, subst, ℕ, zero, suc, ◌+◌, ◌<◌, Bool, false, List, [], ◌∷◌, length, map, get_or, refl, sym, ap, ◌∙◌, arith, Some, slice_get}
use Rattle.core_journal.specs.Entries.{bit}
use Rattle.core_journal.specs.EntryLaws.{IsWrittenAt}
use Rattle.graph_model.specs.Graph.{is_in}
use Rattle.window_setting.specs.Slots.{AreRows, at_slot}
use Rattle.window_setting.proofs.Rows.{row_is}

-- what holds below n and at n holds below n + 1
pub further : (P : ℕ → Type 0) (n : ℕ) → ((k : ℕ) → k < n → P k) → P n → (k : ℕ) → k < n + 1 → P k
further P n below here k l =
    ⊎_elim (λ (e : k ≡ n). subst P (sym e) here)
    (λ (ne : k ≡ n → ⊥). below k (omega (arith, l, ne))) (cases_eq k n)

-- a function has these values at these places
pub map_read : (row : List ℕ) (f : ℕ → Bool) (values : List Bool) → length values ≡ length row →
    ((k : ℕ) → k < length row → f (get_or row k 0) ≡ get_or values k false) → map f row ≡ values
map_read [] f [] e read = refl
map_read [] f (b ∷ values) e read = absurd (omega (arith, e))
map_read (v ∷ row) f [] e read = absurd (omega (arith, e))
map_read (v ∷ row) f (b ∷ values) e read =
    ap (λ x. x ∷ map f row) (read 0 (omega arith))
    ∙ ap (λ xs. b ∷ xs) (map_read row f values (omega (arith, e)) (λ k l.
    read (suc k) (omega (arith, l))))

-- and what such a function reads at each of them
pub read_same : (row : List ℕ) (f : ℕ → Bool) (values : List Bool) → map f row ≡ values → (k : ℕ) →
    k < length row → f (get_or row k 0) ≡ get_or values k false
read_same row f values e k l =
    sym (get_or-map f row k 0 false l) ∙ ap (λ xs. get_or xs k false) e

pub read_length : (row : List ℕ) (f : ℕ → Bool) (values : List Bool) → map f row ≡ values →
    length row ≡ length values
read_length row f values e = sym (length-map row f) ∙ ap length e

module _ (slots : List ℕ) (count t : ℕ) (rows : List (List ℕ)) (row : List ℕ)
    (h : AreRows slots count rows) (read : slice_get rows t ≡ Some row) where
  pub brought_at : (values new : List Bool) → length values ≡ length (at_slot slots t) →
      ((k : ℕ) → k < length row → get_or new (get_or row k 0) false ≡ get_or values k false) →
      map (bit new) (at_slot slots t) ≡ values
  brought_at values new long written =
      ap (map (bit new)) (sym (row_is slots count t rows row h read))
      ∙ map_read row (bit new) values (long
      ∙ ap length (sym (row_is slots count t rows row h read))) written

  pub others_at : (old new : List Bool) → ((v : ℕ) → is_in row v ≡ false → get_or new v false
      ≡ get_or old v false) → IsWrittenAt slots t old new
  others_at old new others n out =
      others n (ap (λ xs. is_in xs n) (row_is slots count t rows row h read) ∙ out)
