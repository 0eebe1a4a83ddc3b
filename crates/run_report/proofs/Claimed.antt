-- The links of a claim, in the order of its window's dependencies.
use Rattle.std.proofs.Common.{◌≡◌, ◌≤◌, ◌+◌, ℕ, zero, suc, Bool, cond, List, [], ◌∷◌, ◌++◌, count_by, drop, flat_map, length, map, take, arith, refl, sym, ap, ◌∙◌, Some, slice_get}
use Rattle.std.proofs.lemmas.List.Sums.{sum_by-cons, sum_by_push}
use Rattle.std.proofs.lemmas.List.{flat_map_more, take_all, take_more}
use Rattle.std.proofs.lemmas.Option.{get_or_from_slice_get, none-some, same_Some, slice_get_within}
use Rattle.window_model.specs.declared.Origin.{Origin}
use Rattle.window_model.specs.Speculation.{Link, guesses_in, is_guess, sources_of}
use Rattle.core_store.specs.Tickets.{links_with}
use Rattle.run_report.specs.Words.{link_word}

-- a link for each dependency, where there are so many
pub links_long : (deps : List ℕ) (origins : List Origin) (bits : List (List Bool)) →
    length (links_with deps origins bits) ≤ length deps
links_long [] origins bits = omega arith
links_long (x ∷ deps) [] bits = omega arith
links_long (x ∷ deps) (o ∷ origins) [] = omega arith
links_long (x ∷ deps) (o ∷ origins) (b ∷ bits) =
    let rest = links_long deps origins bits in omega (arith, rest)

-- a link is read off the three lists
pub link_at : (deps : List ℕ) (origins : List Origin) (bits : List (List Bool)) (at x : ℕ)
    (o : Origin) (b : List Bool) → slice_get deps at ≡ Some x → slice_get origins at ≡ Some o →
    slice_get bits at ≡ Some b →
    slice_get (links_with deps origins bits) at ≡ Some (record { source = x; origin = o; bits = b })
link_at [] origins bits at x o b e f g = absurd (none-some x e)
link_at (y ∷ deps) [] bits at x o b e f g = absurd (none-some o f)
link_at (y ∷ deps) (p ∷ origins) [] at x o b e f g = absurd (none-some b g)
link_at (y ∷ deps) (p ∷ origins) (c ∷ bits) zero x o b e f g =
    let one : y ≡ x = same_Some y x e in
    let two : p ≡ o = same_Some p o f in
    let three : c ≡ b = same_Some c b g in
    cc
link_at (y ∷ deps) (p ∷ origins) (c ∷ bits) (suc at) x o b e f g =
    link_at deps origins bits at x o b e f g

-- one link more
pub links_more : (before : List ℕ) (links : List Link) (at : ℕ) (link : Link) →
    slice_get links at ≡ Some link →
    (before ++ flat_map link_word (take at links)) ++ link_word link
    ≡ before ++ flat_map link_word (take (at + 1) links)
links_more before links at link e =
    flat_map_more link_word before (take at links) link
    ∙ ap (λ xs. before ++ flat_map link_word xs)
    (ap (λ x. take at links ++ x ∷ []) (sym (get_or_from_slice_get links at link link e))
    ∙ sym (take_more links at link (slice_get_within links at link e)))

pub all_links : (deps : List ℕ) (origins : List Origin) (bits : List (List Bool)) (n : ℕ) →
    length deps ≤ n → take n (links_with deps origins bits) ≡ links_with deps origins bits
all_links deps origins bits n l =
    let few = links_long deps origins bits in
    take_all n (links_with deps origins bits) (omega (arith, few, l))

-- where the links have these dependencies, there are an origin and bits for each
pub has_origins : (deps : List ℕ) (origins : List Origin) (bits : List (List Bool)) →
    sources_of (links_with deps origins bits) ≡ deps → length deps ≤ length origins
has_origins [] origins bits e = omega arith
has_origins (x ∷ deps) [] bits e = absurd (cc)
has_origins (x ∷ deps) (o ∷ origins) [] e = absurd (cc)
has_origins (x ∷ deps) (o ∷ origins) (b ∷ bits) e =
    let rest = has_origins deps origins bits (ap (drop 1) e) in omega (arith, rest)

pub has_bits : (deps : List ℕ) (origins : List Origin) (bits : List (List Bool)) →
    sources_of (links_with deps origins bits) ≡ deps → length deps ≤ length bits
has_bits [] origins bits e = omega arith
has_bits (x ∷ deps) [] bits e = absurd (cc)
has_bits (x ∷ deps) (o ∷ origins) [] e = absurd (cc)
has_bits (x ∷ deps) (o ∷ origins) (b ∷ bits) e =
    let rest = has_bits deps origins bits (ap (drop 1) e) in omega (arith, rest)

-- the guesses among the links are those among the first origins
origins_are : (deps : List ℕ) (origins : List Origin) (bits : List (List Bool)) →
    length deps ≤ length origins → length deps ≤ length bits →
    map (λ (link : Link). link.origin) (links_with deps origins bits) ≡ take (length deps) origins
origins_are [] origins bits l m = refl
origins_are (x ∷ deps) [] bits l m = absurd (omega (arith, l))
origins_are (x ∷ deps) (o ∷ origins) [] l m = absurd (omega (arith, m))
origins_are (x ∷ deps) (o ∷ origins) (b ∷ bits) l m =
    ap (λ os. o ∷ os) (origins_are deps origins bits (omega (arith, l)) (omega (arith, m)))

guesses_mapped : (links : List Link) →
    guesses_in links ≡ count_by is_guess (map (λ (link : Link). link.origin) links)
guesses_mapped [] = refl
guesses_mapped (link ∷ links) =
    let rest = guesses_mapped links in
    sum_by-cons (λ (l : Link). cond (is_guess l.origin) 1 0) link links
    ∙ ap (λ n. cond (is_guess link.origin) 1 0 + n) rest
    ∙ sym (sum_by-cons (λ o. cond (is_guess o) 1 0) link.origin
    (map (λ (l : Link). l.origin) links))

pub guesses_are : (deps : List ℕ) (origins : List Origin) (bits : List (List Bool)) →
    length deps ≤ length origins → length deps ≤ length bits →
    count_by is_guess (take (length deps) origins) ≡ guesses_in (links_with deps origins bits)
guesses_are deps origins bits l m =
    sym (guesses_mapped (links_with deps origins bits)
    ∙ ap (count_by is_guess) (origins_are deps origins bits l m))

-- one origin more
pub guess_more : (origins : List Origin) (at : ℕ) (o : Origin) (count one : ℕ) →
    slice_get origins at ≡ Some o → count ≡ count_by is_guess (take at origins) →
    one ≡ cond (is_guess o) 1 0 → count + one ≡ count_by is_guess (take (at + 1) origins)
guess_more origins at o count one e was is =
    let more = ap (count_by is_guess) (take_more origins at o (slice_get_within origins at o e)
    ∙ ap (λ x. take at origins ++ x ∷ []) (get_or_from_slice_get origins at o o e)) in
    let pushed = sum_by_push (λ p. cond (is_guess p) 1 0) (take at origins) o in
    omega (arith, more, pushed, was, is)
