-- How many observables a schedule has: two for each merge and one for each reading.
use Rattle.std.proofs.Common.{◌≡◌, ℕ, zero, suc, ◌+◌, ◌*◌, ◌<◌, ◌==◌, Bool, true, false, cond, ◌&&◌, ◌++◌, List, [], ◌∷◌, length, map, filter, flat_map, refl, ap, arith}
use Rattle.std.specs.Prelude.{nat_le, nat_lt}
use Rattle.std.specs.List.{All, range_with_len}
use Rattle.std.proofs.lemmas.Bool.Decides.{nat_tests}
use Rattle.std.proofs.lemmas.List.{length-append, length-map}
use Rattle.surface_model.specs.Schedules.{MergeLine, ReadLine, Schedule}
use Rattle.surface_model.specs.Measurements.{Observable, merge_observables, observables, read_observable}
use Rattle.schedule_reader.specs.Accepted.{EndsInRounds}

abbrev line_observables : Schedule → ℕ → List Observable
line_observables s n =
    flat_map (merge_observables s) (filter (λ (merge : MergeLine). merge.line == n) s.merges)
    ++ map (read_observable s) (filter (λ (line : ReadLine). line.line == n) s.reads)

two_each : (s : Schedule) (ms : List MergeLine) → length (flat_map (merge_observables s) ms)
    ≡ 2 * length ms
two_each s [] = refl
two_each s (m ∷ ms) = let k = two_each s ms in let e = length-append (merge_observables s m)
    (flat_map (merge_observables s) ms) in omega (arith, k, e)

-- the line is from a on and before b
abbrev between : ℕ → ℕ → ℕ → Bool
between a b n = nat_le a n && nat_lt n b

abbrev tally : Bool → ℕ
tally b = cond b 1 0

one_more : {X : Type 0} (p : X → Bool) (x : X) (xs : List X) → length (filter p (x ∷ xs))
    ≡ tally (p x) + length (filter p xs)
one_more p x xs = by (p x)
  where
    by : (b : Bool) → length (cond b (x ∷ filter p xs) (filter p xs))
        ≡ tally b + length (filter p xs)
    by true = omega arith
    by false = omega arith

parted : {X : Type 0} (p q r : X → Bool) → ((x : X) → tally (r x) ≡ tally (p x) + tally (q x)) →
    (xs : List X) → length (filter r xs) ≡ length (filter p xs) + length (filter q xs)
parted p q r h [] = omega arith
parted p q r h (x ∷ xs) = let k = parted p q r h xs in let e = h x in let a = one_more p x xs in
    let b = one_more q x xs in let c = one_more r x xs in omega (arith, k, e, a, b, c)

line_step : (a b n : ℕ) → a < b → tally (between a b n) ≡ tally (n == a)
    + tally (between (a + 1) b n)
line_step a b n l = grind (arith, nat_tests)

no_line : (a b n : ℕ) → b ≡ a → between a b n ≡ false
no_line a b n e = grind (arith, nat_tests)

nothing : {X : Type 0} (p : X → Bool) → ((x : X) → p x ≡ false) → (xs : List X) →
    length (filter p xs) ≡ 0
nothing p h [] = omega arith
nothing p h (x ∷ xs) = let k = nothing p h xs in let a = one_more p x xs in let e : tally (p x)
    ≡ 0 = ap tally (h x) in omega (arith, k, a, e)

everything : {X : Type 0} (p : X → Bool) (xs : List X) → All (λ x. p x ≡ true) xs →
    length (filter p xs) ≡ length xs
everything p [] h = omega arith
everything p (x ∷ xs) h =
    let k = everything p xs (λ i d l. h (suc i) d (omega (arith, l))) in
    let a = one_more p x xs in
    let e : tally (p x) ≡ 1 = ap tally (h 0 x (omega arith)) in omega (arith, k, a, e)

-- the observables of n lines from a on
counted : (s : Schedule) (a b n : ℕ) → b ≡ a + n →
    length (flat_map (line_observables s) (range_with_len a n))
    ≡ 2 * length (filter (λ (m : MergeLine). between a b m.line) s.merges)
    + length (filter (λ (r : ReadLine). between a b r.line) s.reads)
counted s a b zero e =
    let m = nothing (λ (m : MergeLine). between a b m.line) (λ m.
    no_line a b m.line (omega (arith, e))) s.merges in
    let r = nothing (λ (r : ReadLine). between a b r.line) (λ r.
    no_line a b r.line (omega (arith, e))) s.reads in
    omega (arith, m, r)
counted s a b (suc n) e =
    let k = counted s (a + 1) b n (omega (arith, e)) in
    let ms = filter (λ (m : MergeLine). m.line == a) s.merges in
    let rs = filter (λ (r : ReadLine). r.line == a) s.reads in
    let l : a < b = omega (arith, e) in
    let f = length-append (line_observables s a)
    (flat_map (line_observables s) (range_with_len (a + 1) n)) in
    let g = length-append (flat_map (merge_observables s) ms) (map (read_observable s) rs) in
    let h = two_each s ms in
    let i = length-map rs (read_observable s) in
    let m = parted (λ (m : MergeLine). m.line == a) (λ (m : MergeLine). between (a + 1) b m.line)
    (λ (m : MergeLine). between a b m.line) (λ m. line_step a b m.line l) s.merges in
    let r = parted (λ (r : ReadLine). r.line == a) (λ (r : ReadLine). between (a + 1) b r.line)
    (λ (r : ReadLine). between a b r.line) (λ r. line_step a b r.line l) s.reads in
    omega (arith, k, f, g, h, i, m, r)

inside : (b n : ℕ) → n < b → between 0 b n ≡ true
inside b n l = grind (arith, nat_tests)

pub observables_counted : (s : Schedule) → EndsInRounds s → length (observables s)
    ≡ 2 * length s.merges + length s.reads
observables_counted s e =
    let k = counted s 0 s.rounds_line s.rounds_line (omega arith) in
    let m = everything (λ (m : MergeLine). between 0 s.rounds_line m.line) s.merges (λ i d l.
    inside s.rounds_line _ (e.merges i d l)) in
    let r = everything (λ (r : ReadLine). between 0 s.rounds_line r.line) s.reads (λ i d l.
    inside s.rounds_line _ (e.reads i d l)) in
    omega (arith, k, m, r)
