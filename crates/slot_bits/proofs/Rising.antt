-- Bits in rising order: two such lists with the same members are equal.
use Rattle.std.proofs.Common.{◌≡◌, ℕ, ◌==◌, ◌⊎◌, ⊎_elim, inl, inr, Bool, true, false, ◌&&◌, ◌||◌, refl, sym, ap, ◌∙◌, arith, subst, List, [], ◌∷◌, ◌++◌}
use Rattle.std.specs.Prelude.{nat_lt}
use Rattle.std.proofs.lemmas.Bool.{false≢true, true≢false, or_cases, or_left, cases_Bool}
use Rattle.std.proofs.lemmas.Bool.Decides.{nat_tests}
use Rattle.surface_model.specs.Layout.{Place}
use Rattle.surface_model.specs.Measurements.{Bit, Readout, Outcome, same_bit}
use Rattle.surface_laws.proofs.Flips.{same_place_is, same_place_self}
use Rattle.slot_bits.specs.Order.{precedes, comes_before, IsBefore, IsRising, has_bit}

precedes_far : (i j k l m n : ℕ) → (nat_lt i k || (i == k && nat_lt j l)) ≡ true →
    (nat_lt k m || (k == m && nat_lt l n)) ≡ true → (nat_lt i m || (i == m && nat_lt j n)) ≡ true
precedes_far i j k l m n a b = grind (arith, nat_tests)

precedes_trans : (p q r : Place) → precedes p q ≡ true → precedes q r ≡ true → precedes p r ≡ true
precedes_trans p q r a b = precedes_far p.row p.column q.row q.column r.row r.column a b

precedes_self : (i j : ℕ) → (nat_lt i i || (i == i && nat_lt j j)) ≡ false
precedes_self i j = grind (arith, nat_tests)

order_of : (i j k l : ℕ) →
    ((nat_lt i k || (i == k && nat_lt j l)) ≡ true) ⊎
    (((i == k && j == l) ≡ true) ⊎ ((nat_lt k i || (k == i && nat_lt l j)) ≡ true))
order_of i j k l = grind (arith, nat_tests)

pub before_trans : (a b c : Bit) → comes_before a b ≡ true → comes_before b c ≡ true →
    comes_before a c ≡ true
before_trans (Readout p) (Readout q) (Readout r) h k = precedes_trans p q r h k
before_trans (Readout p) (Readout q) (Outcome r) h k = refl
before_trans (Readout p) (Outcome q) (Readout r) h k = absurd (false≢true k)
before_trans (Readout p) (Outcome q) (Outcome r) h k = refl
before_trans (Outcome p) (Readout q) (Readout r) h k = absurd (false≢true h)
before_trans (Outcome p) (Readout q) (Outcome r) h k = absurd (false≢true h)
before_trans (Outcome p) (Outcome q) (Readout r) h k = absurd (false≢true k)
before_trans (Outcome p) (Outcome q) (Outcome r) h k = precedes_trans p q r h k

pub before_self : (a : Bit) → comes_before a a ≡ false
before_self (Readout p) = precedes_self p.row p.column
before_self (Outcome p) = precedes_self p.row p.column

pub same_bit_is : (a b : Bit) → same_bit a b ≡ true → a ≡ b
same_bit_is (Readout p) (Readout q) h = ap Readout (same_place_is p q h)
same_bit_is (Readout p) (Outcome q) h = absurd (false≢true h)
same_bit_is (Outcome p) (Readout q) h = absurd (false≢true h)
same_bit_is (Outcome p) (Outcome q) h = ap Outcome (same_place_is p q h)

pub same_bit_self : (a : Bit) → same_bit a a ≡ true
same_bit_self (Readout p) = same_place_self p
same_bit_self (Outcome p) = same_place_self p

pub bit_order : (a b : Bit) → (comes_before a b ≡ true) ⊎ ((a ≡ b) ⊎ (comes_before b a ≡ true))
bit_order (Readout p) (Readout q) =
    ⊎_elim (λ h. inl h) (λ h. ⊎_elim (λ e. inr (inl (ap Readout (same_place_is p q e))))
    (λ k. inr (inr k)) h) (order_of p.row p.column q.row q.column)
bit_order (Readout p) (Outcome q) = inl refl
bit_order (Outcome p) (Readout q) = inr (inr refl)
bit_order (Outcome p) (Outcome q) =
    ⊎_elim (λ h. inl h) (λ h. ⊎_elim (λ e. inr (inl (ap Outcome (same_place_is p q e))))
    (λ k. inr (inr k)) h) (order_of p.row p.column q.row q.column)

-- one of two ways round at most
pub not_both : (a b : Bit) → comes_before a b ≡ true → comes_before b a ≡ true → ⊥
not_both a b h k = true≢false (sym (before_trans a b a h k) ∙ before_self a)

pub not_same : (a b : Bit) → comes_before a b ≡ true → same_bit b a ≡ false
not_same a b h =
    ⊎_elim (λ e. absurd (true≢false (sym h ∙ ap (comes_before a) (same_bit_is b a e)
    ∙ before_self a))) (λ e. e) (cases_Bool (same_bit b a))

-- ---- lists

-- what comes before all of a list comes before each
pub before_at : (a : Bit) (xs : List Bit) (b : Bit) → IsBefore a xs → has_bit xs b ≡ true →
    comes_before a b ≡ true
before_at a [] b h m = absurd (false≢true m)
before_at a (x ∷ xs) b h m =
    ⊎_elim (λ e. subst (λ y. comes_before a y ≡ true) (sym (same_bit_is b x e)) h.0)
    (λ r. before_at a xs b h.1 r) (or_cases (same_bit b x) (has_bit xs b) m)

pub before_none : (a : Bit) (xs : List Bit) → IsBefore a xs → has_bit xs a ≡ false
before_none a xs h =
    ⊎_elim (λ m. absurd (true≢false (sym (before_at a xs a h m) ∙ before_self a))) (λ e. e)
    (cases_Bool (has_bit xs a))

pub before_all : (a b : Bit) (xs : List Bit) → comes_before a b ≡ true → IsBefore b xs →
    IsBefore a xs
before_all a b [] h k = tt
before_all a b (x ∷ xs) h k = (before_trans a b x h k.0, before_all a b xs h k.1)

pub before-append : (a : Bit) (xs ys : List Bit) → IsBefore a xs → IsBefore a ys →
    IsBefore a (xs ++ ys)
before-append a [] ys h k = k
before-append a (x ∷ xs) ys h k = (h.0, before-append a xs ys h.1 k)

pub before_parts : (a : Bit) (xs ys : List Bit) → IsBefore a (xs ++ ys) →
    IsBefore a xs × IsBefore a ys
before_parts a [] ys h = (tt, h)
before_parts a (x ∷ xs) ys h = let k = before_parts a xs ys h.1 in ((h.0, k.0), k.1)

-- each bit of the first list comes before all of the second
abbrev pub AreBefore : List Bit → List Bit → Type 0
AreBefore [] ys = Unit {0}
AreBefore (x ∷ xs) ys = IsBefore x ys × AreBefore xs ys

pub rising-append : (xs ys : List Bit) → IsRising xs → IsRising ys → AreBefore xs ys →
    IsRising (xs ++ ys)
rising-append [] ys h k c = k
rising-append (x ∷ xs) ys h k c = (before-append x xs ys h.0 c.0, rising-append xs ys h.1 k c.1)

pub has-append : (xs ys : List Bit) (b : Bit) → has_bit (xs ++ ys) b ≡ has_bit xs b || has_bit ys b
has-append [] ys b = refl
has-append (x ∷ xs) ys b = by_test (same_bit b x) (has-append xs ys b)
  where
    by_test : (t : Bool) → has_bit (xs ++ ys) b ≡ has_bit xs b || has_bit ys b →
        t || has_bit (xs ++ ys) b ≡ (t || has_bit xs b) || has_bit ys b
    by_test true e = refl
    by_test false e = e

first_same : (x y : Bit) (xs ys : List Bit) → IsRising (x ∷ xs) → IsRising (y ∷ ys) →
    ((b : Bit) → has_bit (x ∷ xs) b ≡ has_bit (y ∷ ys) b) → x ≡ y
first_same x y xs ys h k same =
    let a = or_cases (same_bit x y) (has_bit ys x) (sym (same x)
    ∙ or_left (same_bit x x) (has_bit xs x) (same_bit_self x)) in
    let b = or_cases (same_bit y x) (has_bit xs y) (same y
    ∙ or_left (same_bit y y) (has_bit ys y) (same_bit_self y)) in
    ⊎_elim (λ e. same_bit_is x y e) (λ later. ⊎_elim (λ e. sym (same_bit_is y x e))
    (λ after. absurd (not_both x y (before_at x xs y h.0 after) (before_at y ys x k.0 later)))
    b) a

rest_same : (x : Bit) (xs ys : List Bit) (b : Bit) → IsBefore x xs → IsBefore x ys →
    same_bit b x || has_bit xs b ≡ same_bit b x || has_bit ys b → has_bit xs b ≡ has_bit ys b
rest_same x xs ys b h k e = by_test (same_bit b x) refl e
  where
    by_test : (t : Bool) → same_bit b x ≡ t → t || has_bit xs b ≡ t || has_bit ys b →
        has_bit xs b ≡ has_bit ys b
    by_test true s e = let here = sym (same_bit_is b x s) in ap (has_bit xs) (sym here)
        ∙ before_none x xs h ∙ sym (before_none x ys k) ∙ ap (has_bit ys) here
    by_test false s e = e

pub rising_same : (xs ys : List Bit) → IsRising xs → IsRising ys →
    ((b : Bit) → has_bit xs b ≡ has_bit ys b) → xs ≡ ys
rising_same [] [] h k same = refl
rising_same [] (y ∷ ys) h k same =
    absurd (false≢true (same y ∙ or_left (same_bit y y) (has_bit ys y) (same_bit_self y)))
rising_same (x ∷ xs) [] h k same =
    absurd (true≢false (sym (or_left (same_bit x x) (has_bit xs x) (same_bit_self x)) ∙ same x))
rising_same (x ∷ xs) (y ∷ ys) h k same =
    let e = first_same x y xs ys h k same in
    let k' : IsRising (x ∷ ys) = subst (λ z. IsRising (z ∷ ys)) (sym e) k in
    ap (λ zs. x ∷ zs)
    (rising_same xs ys h.1 k.1 (λ b. rest_same x xs ys b h.0 k'.0 (same b
    ∙ ap (λ z. same_bit b z || has_bit ys b) (sym e)))) ∙ ap (λ z. z ∷ ys) e

-- ---- the union of two rising lists, bit by bit: what is taken so far, and what is left of each
pub record IsMerging (one two out left right : List Bit) : Type 0 where
  pub rising_one : IsRising (out ++ left)
  pub rising_two : IsRising (out ++ right)
  pub members : (b : Bit) → has_bit out b || (has_bit left b || has_bit right b) ≡ has_bit one b
      || has_bit two b

rising_insert : (out : List Bit) (x : Bit) (xs ys : List Bit) → IsRising (out ++ x ∷ xs) →
    IsRising (out ++ ys) → IsBefore x ys → IsRising (out ++ x ∷ ys)
rising_insert [] x xs ys h k b = (b, k)
rising_insert (o ∷ os) x xs ys h k b =
    let u = before_parts o os (x ∷ xs) h.0 in let v = before_parts o os ys k.0 in
    (before-append o os (x ∷ ys) u.0 (u.1.0, v.1), rising_insert os x xs ys h.1 k.1 b)

joined : (xs : List Bit) (x : Bit) (ys : List Bit) → (xs ++ x ∷ []) ++ ys ≡ xs ++ x ∷ ys
joined [] x ys = refl
joined (z ∷ xs) x ys = ap (λ ws. z ∷ ws) (joined xs x ys)

tail_rising : (out xs : List Bit) → IsRising (out ++ xs) → IsRising xs
tail_rising [] xs h = h
tail_rising (o ∷ os) xs h = tail_rising os xs h.1

move_one : (o t l r : Bool) → (o || (t || false)) || (l || r) ≡ o || ((t || l) || r)
move_one true t l r = refl
move_one false true l r = refl
move_one false false l r = refl

move_two : (o t l r : Bool) → (o || (t || false)) || (l || r) ≡ o || (l || (t || r))
move_two true t l r = refl
move_two false true true r = refl
move_two false true false r = refl
move_two false false l r = refl

move_both : (o t l r : Bool) → (o || (t || false)) || (l || r) ≡ o || ((t || l) || (t || r))
move_both true t l r = refl
move_both false true l r = refl
move_both false false l r = refl

has_push : (out : List Bit) (x b : Bit) →
    has_bit (out ++ x ∷ []) b ≡ has_bit out b || (same_bit b x || false)
has_push out x b = has-append out (x ∷ []) b

pub take_first : (one two out : List Bit) (x y : Bit) (xs ys : List Bit) →
    IsMerging one two out (x ∷ xs) (y ∷ ys) → comes_before x y ≡ true →
    IsMerging one two (out ++ x ∷ []) xs (y ∷ ys)
take_first one two out x y xs ys m h =
    let rest = tail_rising out (y ∷ ys) m.rising_two in
    record {
      rising_one = subst IsRising (sym (joined out x xs)) m.rising_one;
      rising_two =
          subst IsRising (sym (joined out x (y ∷ ys)))
          (rising_insert out x xs (y ∷ ys) m.rising_one m.rising_two (
            h,
            before_all x y ys h rest.0,
          ));
      members = λ b. ap (λ t. t || (has_bit xs b || has_bit (y ∷ ys) b)) (has_push out x b)
          ∙ move_one (has_bit out b) (same_bit b x) (has_bit xs b) (has_bit (y ∷ ys) b)
          ∙ m.members b;
    }

pub take_second : (one two out : List Bit) (x y : Bit) (xs ys : List Bit) →
    IsMerging one two out (x ∷ xs) (y ∷ ys) → comes_before y x ≡ true →
    IsMerging one two (out ++ y ∷ []) (x ∷ xs) ys
take_second one two out x y xs ys m h =
    let rest = tail_rising out (x ∷ xs) m.rising_one in
    record {
      rising_one =
          subst IsRising (sym (joined out y (x ∷ xs)))
          (rising_insert out y ys (x ∷ xs) m.rising_two m.rising_one (
            h,
            before_all y x xs h rest.0,
          ));
      rising_two = subst IsRising (sym (joined out y ys)) m.rising_two;
      members = λ b. ap (λ t. t || (has_bit (x ∷ xs) b || has_bit ys b)) (has_push out y b)
          ∙ move_two (has_bit out b) (same_bit b y) (has_bit (x ∷ xs) b) (has_bit ys b)
          ∙ m.members b;
    }

pub take_both : (one two out : List Bit) (x : Bit) (xs ys : List Bit) →
    IsMerging one two out (x ∷ xs) (x ∷ ys) → IsMerging one two (out ++ x ∷ []) xs ys
take_both one two out x xs ys m = record {
  rising_one = subst IsRising (sym (joined out x xs)) m.rising_one;
  rising_two = subst IsRising (sym (joined out x ys)) m.rising_two;
  members = λ b. ap (λ t. t || (has_bit xs b || has_bit ys b)) (has_push out x b)
      ∙ move_both (has_bit out b) (same_bit b x) (has_bit xs b) (has_bit ys b) ∙ m.members b;
}
