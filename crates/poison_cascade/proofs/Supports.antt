-- Lists of supports: their sources, their origins, and the one that is named anew.
use Rattle.std.proofs.Common.{◌≡◌, ℕ, zero, suc, ◌+◌, ◌<◌, ◌==◌, Bool, true, false, cond, List, [], ◌∷◌, ◌++◌, refl, sym, ap, ◌∙◌, subst, map, length, get_or, set, take, AllPairs, arith, Option, None, Some}
use Rattle.std.specs.List.{list_any}
use Rattle.std.proofs.lemmas.Bool.{or_parts}
use Rattle.std.proofs.lemmas.List.{length-map, map-set, take_more_set, take_more}
use Rattle.std.proofs.Math.ListN.{get_or-map}
use Rattle.std.proofs.Math.Seq.{map-set_same}
use Rattle.window_model.specs.declared.Origin.{Origin}
use Rattle.window_model.specs.declared.Origin.TheVariants.{Guess, Ticket}
use Rattle.poison_cascade.specs.declared.support.Support.{Support}
use Rattle.poison_cascade.specs.Books.{Live, WindowEntry, entry_of, confirmed_by, with_ticket, supports_of}
use Rattle.poison_cascade.specs.Tests.{is_from}

abbrev pub sources : List Support → List ℕ
sources xs = map (λ (s : Support). s.source) xs

abbrev pub origins : List Support → List Origin
origins xs = map (λ (s : Support). s.origin) xs

abbrev pub Rise : List Support → Type 0
Rise xs = AllPairs (λ (s t : Support). s.source < t.source) xs

-- ---- sources that rise

pub rising_of_sources : (xs : List Support) → AllPairs (λ x y. x < y) (sources xs) → Rise xs
rising_of_sources xs rise = λ i j d before within.
    let small : j < length (sources xs) =
    omega (arith, within, length-map xs (λ (s : Support). s.source)) in
    let one : get_or (sources xs) i d.source ≡ (get_or xs i d).source =
    get_or-map (λ (s : Support). s.source) xs i d in
    let two : get_or (sources xs) j d.source ≡ (get_or xs j d).source =
    get_or-map (λ (s : Support). s.source) xs j d in
    let less : get_or (sources xs) i d.source < get_or (sources xs) j d.source =
    rise i j d.source before small in
    omega (arith, one, two, less)

pub sources_rise : (xs : List Support) → Rise xs → AllPairs (λ x y. x < y) (sources xs)
sources_rise xs rise = λ i j d before within.
    let some : Support = record { source = d; origin = Guess } in
    let small : j < length xs = omega (arith, within, length-map xs (λ (s : Support). s.source)) in
    let one : get_or (sources xs) i d ≡ (get_or xs i some).source =
    get_or-map (λ (s : Support). s.source) xs i some in
    let two : get_or (sources xs) j d ≡ (get_or xs j some).source =
    get_or-map (λ (s : Support). s.source) xs j some in
    let less : (get_or xs i some).source < (get_or xs j some).source = rise i j some before small in
    omega (arith, one, two, less)

pub rising_of : (xs : List Support) (deps : List ℕ) → AllPairs (λ x y. x < y) deps →
    sources xs ≡ deps → Rise xs
rising_of xs deps rise same = rising_of_sources xs (subst (AllPairs (λ x y. x < y)) (sym same) rise)

-- they rise where these sources do
pub rising_same : (xs ys : List Support) → sources ys ≡ sources xs → Rise xs → Rise ys
rising_same xs ys same rise =
    rising_of_sources ys (subst (AllPairs (λ x y. x < y)) (sym same) (sources_rise xs rise))

-- ---- origins that are written

pub sources_kept : (xs : List Support) (i : ℕ) (d : Support) (o : Origin) → i < length xs →
    sources (set xs i (record { source = (get_or xs i d).source; origin = o })) ≡ sources xs
sources_kept xs i d o within = map-set_same (λ (s : Support). s.source) xs
    i (record { source = (get_or xs i d).source; origin = o }) d refl

pub origins_more : (xs : List Support) (os : List Origin) (i n : ℕ) (o : Origin) → i < length xs →
    i < length os → take i (origins xs) ≡ take i os →
    take (i + 1) (origins (set xs i (record { source = n; origin = get_or os i o })))
    ≡ take (i + 1) os
origins_more xs os i n o within inside so_far =
    let new : Support = record { source = n; origin = get_or os i o } in
    ap (take (i + 1)) (map-set (λ (s : Support). s.origin) xs i new) ∙ take_more_set (origins xs) i
    (get_or os i o) (omega (arith, within, length-map xs (λ (s : Support). s.origin))) ∙
    ap (λ front. front ++ get_or os i o ∷ []) so_far ∙ sym (take_more os i o inside)

pub supports_are : (xs : List Support) (deps : List ℕ) (os : List Origin) → sources xs ≡ deps →
    origins xs ≡ os → xs ≡ supports_of deps os
supports_are xs deps os one two = rebuilt xs ∙ ap (λ d. supports_of d (origins xs)) one
    ∙ ap (supports_of deps) two
  where
    rebuilt : (ys : List Support) → ys ≡ supports_of (sources ys) (origins ys)
    rebuilt [] = refl
    rebuilt (y ∷ ys) = ap (λ rest. y ∷ rest) (rebuilt ys)

-- ---- the support of x names a ticket

pub named_sources : (x k : ℕ) (xs : List Support) → sources (with_ticket x k xs) ≡ sources xs
named_sources x k [] = refl
named_sources x k (s ∷ xs) = by_test (s.source == x) (named_sources x k xs)
  where
    by_test : (b : Bool) → sources (with_ticket x k xs) ≡ sources xs → sources
        (cond b (record { source = s.source; origin = Ticket k } ∷ xs) (s ∷ with_ticket x k xs))
        ≡ sources (s ∷ xs)
    by_test true rest = refl
    by_test false rest = ap (λ ys. s.source ∷ ys) rest

pub rising_named : (x k : ℕ) (xs : List Support) → Rise xs → Rise (with_ticket x k xs)
rising_named x k xs = rising_same xs (with_ticket x k xs) (named_sources x k xs)

-- none is about x
pub named_none : (x k : ℕ) (xs : List Support) → list_any (is_from x) xs ≡ false →
    xs ≡ with_ticket x k xs
named_none x k [] none = refl
named_none x k (s ∷ xs) none =
    let parts = or_parts (s.source == x) (list_any (is_from x) xs) none in
    ap (λ ys. s ∷ ys) (named_none x k xs parts.1) ∙ ap (λ b. cond b (record {
      source = s.source;
      origin = Ticket k;
    } ∷ xs) (s ∷ with_ticket x k xs)) (sym parts.0)

-- the first that is about x stands at this place
pub named_at : (x k : ℕ) (xs : List Support) (i : ℕ) (d : Support) → i < length xs →
    list_any (is_from x) (take i xs) ≡ false → ((get_or xs i d).source == x) ≡ true →
    set xs i (record { source = (get_or xs i d).source; origin = Ticket k }) ≡ with_ticket x k xs
named_at x k [] i d within none found = absurd (omega (arith, within))
named_at x k (s ∷ xs) zero d within none found =
    ap (λ b. cond b (record { source = s.source; origin = Ticket k } ∷ xs) (s ∷ with_ticket x k xs))
    (sym found)
named_at x k (s ∷ xs) (suc i) d within none found =
    let parts = or_parts (s.source == x) (list_any (is_from x) (take i xs)) none in
    ap (λ ys. s ∷ ys) (named_at x k xs i d (omega (arith, within)) parts.1 found) ∙
    ap (λ b. cond b (record { source = s.source; origin = Ticket k } ∷ xs) (s ∷ with_ticket x k xs))
    (sym parts.0)

pub named_entry : (x k : ℕ) (xs ys : List Support) (ticket : Option ℕ) (stands : Bool) (taken : ℕ) →
    ys ≡ with_ticket x k xs →
    entry_of ys ticket stands taken ≡ confirmed_by (Some k) x (entry_of xs ticket stands taken)
named_entry x k xs ys ticket stands taken are = ap (λ zs. entry_of zs ticket stands taken) are
    ∙ by_ticket ticket
  where
    by_ticket : (t : Option ℕ) → entry_of (with_ticket x k xs) t stands taken
        ≡ confirmed_by (Some k) x (entry_of xs t stands taken)
    by_ticket None = ap (λ deps. entry deps None) (named_sources x k xs)
      where
        entry : List ℕ → Option Live → WindowEntry
        entry deps live = record { deps = deps; live = live; taken = taken }
    by_ticket (Some j) = ap (λ deps. entry deps (Some (record {
      ticket = j;
      stands = stands;
      supports = with_ticket x k xs;
    }))) (named_sources x k xs)
      where
        entry : List ℕ → Option Live → WindowEntry
        entry deps live = record { deps = deps; live = live; taken = taken }
