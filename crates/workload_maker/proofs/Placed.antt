-- One bit of some rows is turned.
use Rattle.std.proofs.Common.{◌≡◌, ℕ, ◌+◌, ◌<◌, ◌==◌, ◌&&◌, ⊎_elim, Bool, true, false, List, [], length, map, take, get_or, set, refl, sym, ap, ◌∙◌, subst, eq-eqb}
use Rattle.std.proofs.Math.Seq.{map-set_same}
use Rattle.std.proofs.lemmas.Bool.{cases_eq, ne_eqb}
use Rattle.std.proofs.lemmas.Grind.{get_or-set_at}
use Rattle.std.proofs.lemmas.List.{get_or-map, get_or-set_other, length-map}
use Rattle.graph_model.specs.Parity.{◌⊕◌, parity}
use Rattle.graph_model.proofs.Parities.{parity_more}
use Rattle.workload_maker.specs.Turns.{bit_in, is_place}

xor-nothing : (b : Bool) → b ≡ b ⊕ false
xor-nothing true = refl
xor-nothing false = refl

pub turned_widths : (rows : List (List Bool)) (t : ℕ) (row : List Bool) →
    length row ≡ length (get_or rows t []) → map length (set rows t row) ≡ map length rows
turned_widths rows t row e = map-set_same length rows t row [] e

pub turned_bits : (rows : List (List Bool)) (slot at : ℕ) (row : List Bool) → slot < length rows →
    ((v : ℕ) → get_or row v false ≡ get_or (get_or rows slot []) v false ⊕ (at == v)) →
    (t k : ℕ) → bit_in (set rows slot row) t k ≡ bit_in rows t k ⊕ (slot == t && at == k)
turned_bits rows slot at row l h t k =
    ⊎_elim
    (λ (e : slot ≡ t).
    ap (λ r. get_or r k false) (get_or-set_at rows slot t row [] (sym e) l) ∙ h k
    ∙ ap (λ n. get_or (get_or rows n []) k false ⊕ (at == k)) e
    ∙ ap (λ b. bit_in rows t k ⊕ (b && at == k)) (sym (eq-eqb slot t e)))
    (λ ne.
    ap (λ r. get_or r k false) (get_or-set_other rows slot t row [] (λ s. ne (sym s)))
    ∙ xor-nothing (bit_in rows t k)
    ∙ ap (λ b. bit_in rows t k ⊕ (b && at == k)) (sym (ne_eqb slot t ne)))
    (cases_eq slot t)

-- a row is as long as before
pub same_width : (rows now : List (List Bool)) (t : ℕ) → map length now ≡ map length rows →
    t < length rows → (t < length now) × (length (get_or now t []) ≡ length (get_or rows t []))
same_width rows now t e l =
    let long : length now ≡ length rows =
    sym (length-map now length) ∙ ap length e ∙ length-map rows length in
    let l' : t < length now = subst (λ n. t < n) (sym long) l in (
      l',
      sym (get_or-map length now t [] 0 l') ∙ ap (λ ns. get_or ns t 0) e
          ∙ get_or-map length rows t [] 0 l,
    )

-- one place more is turned
pub turned_more : (rows now new : List (List Bool)) (places : List (ℕ × ℕ)) (i : ℕ)
    (d : ℕ × ℕ) → i < length places →
    ((t k : ℕ) → bit_in now t k ≡ bit_in rows t k ⊕ parity (is_place t k) (take i places)) →
    ((t k : ℕ) → bit_in new t k ≡ bit_in now t k ⊕ is_place t k (get_or places i d)) →
    (t k : ℕ) → bit_in new t k ≡ bit_in rows t k ⊕ parity (is_place t k) (take (i + 1) places)
turned_more rows now new places i d l was more t k =
    more t k ∙ ap (λ b. b ⊕ is_place t k (get_or places i d)) (was t k)
    ∙ assoc (bit_in rows t k) (parity (is_place t k) (take i places))
    (is_place t k (get_or places i d))
    ∙ ap (λ b. bit_in rows t k ⊕ b) (sym (parity_more (is_place t k) places i d l))
  where
    assoc : (a b c : Bool) → (a ⊕ b) ⊕ c ≡ a ⊕ (b ⊕ c)
    assoc true true true = refl
    assoc true true false = refl
    assoc true false true = refl
    assoc true false false = refl
    assoc false b c = refl
