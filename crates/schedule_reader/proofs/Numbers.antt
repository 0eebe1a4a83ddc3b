-- Numbers of at most nine digits.
use Rattle.std.proofs.Common.{◌≡◌, ℕ, ◌+◌, ◌*◌, ◌^◌, ◌<◌, ◌≤◌, Bool, true, false, ◌&&◌, List, length, get_or, refl, arith, lit<}
use Rattle.std.specs.List.{list_all}
use Rattle.std.proofs.lemmas.Grind.{pow_more}
use Rattle.std.proofs.Math.Nat.{pow-le-pow_right}
use Rattle.std.proofs.lemmas.List.Sums.{AllPass-from_list_all}
use Rattle.std.proofs.lemmas.Bool.Decides.{nat_tests}
use Rattle.surface_model.specs.Text.{is_number, is_between}

pub and_left : (a b : Bool) → (a && b) ≡ true → a ≡ true
and_left true b h = refl
and_left false b h = h

pub and_right : (a b : Bool) → (a && b) ≡ true → b ≡ true
and_right true b h = h
and_right false b h = absurd (cc)

pub between : (low high n : ℕ) → is_between low high n ≡ true → (low ≤ n) × (n ≤ high)
between low high n h = grind (arith, nat_tests)

pub number_length : (f : List ℕ) → is_number f ≡ true → length f ≤ 9
number_length f h = (between 1 9 (length f)
    (and_left (is_between 1 9 (length f)) (list_all (is_between 48 57) f) h)).1

pub number_digit : (f : List ℕ) (i : ℕ) → is_number f ≡ true → i < length f → (48 ≤ get_or f i 0)
    × (get_or f i 0 ≤ 57)
number_digit f i h lt = between 48 57 (get_or f i 0) (AllPass-from_list_all (is_between 48 57) f
    (and_right (is_between 1 9 (length f)) (list_all (is_between 48 57) f) h) i 0 lt)

pub number_room : (f : List ℕ) (i n : ℕ) → is_number f ≡ true → i < length f → n < 10 ^ i →
    (n * 10 + 9 < 10 ^ (i + 1)) × (10 ^ (i + 1) ≤ 10 ^ 9)
number_room f i n h lt small =
    let few = number_length f h in
    let more = pow_more 10 i in
    let top : 10 ^ (i + 1) ≤ 10 ^ 9 =
    pow-le-pow_right (lit< tt) {i = i + 1} {j = 9} (omega arith) in
    (omega arith, top)

pub number_bound : (f : List ℕ) (n : ℕ) → is_number f ≡ true → n < 10 ^ length f → n < 10 ^ 9
number_bound f n h small =
    let few = number_length f h in
    let top : 10 ^ length f ≤ 10 ^ 9 = pow-le-pow_right (lit< tt) few in
    omega arith
