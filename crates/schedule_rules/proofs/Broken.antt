-- Laws of the least line and of the first rule that is broken.
use Rattle.std.proofs.Common.{◌≡◌, ℕ, ◌+◌, ◌<◌, Bool, true, false, ◌||◌, eqb, cond, List, [], ◌∷◌, ◌++◌, length, map, filter, take, drop, get_or, fold, refl, ap, sym, ◌∙◌, subst, arith, Option, Some, None}
use Rattle.std.specs.Prelude.{min, option_map}
use Rattle.std.specs.List.{list_any}
use Rattle.std.proofs.lemmas.Bool.Decides.{nat_tests}
use Rattle.std.proofs.lemmas.List.Folds.{list_any-append}
use Rattle.std.proofs.lemmas.List.{map-append, append-nil, at_drop_more, take_more, take-append-drop}
use Rattle.std.proofs.lemmas.List.Elements.{filter_more}
use Rattle.surface_model.specs.declared.RuleFault.{RuleFault}
use Rattle.surface_model.specs.Schedules.{PatchLine, Schedule}
use Rattle.surface_model.specs.Rules.{RuleBroken, breaking, first_broken, least_line, filter_numbered, has_repeats}
use Rattle.schedule_rules.specs.Least.{lesser, least}

pub least_from : (lines : List ℕ) (so_far : ℕ) → fold lesser (Some so_far) lines
    ≡ Some (fold min so_far lines)
least_from [] so_far = refl
least_from (line ∷ lines) so_far = least_from lines (min so_far line)

-- a rule that some line breaks is reported at the least; one that none breaks is passed over
pub broken_at : (rule : RuleFault) (lines : List ℕ) (line : ℕ) (others : Option RuleBroken) → least
    lines ≡ Some line → least_line rule lines others ≡ Some (record { line = line; kind = rule })
broken_at rule [] line others h = absurd (cc)
broken_at rule (x ∷ lines) line others h = let e = sym (least_from lines x) ∙ h in
    ap (option_map (λ n. record { line = n; kind = rule })) e

pub passed_over : (rule : RuleFault) (lines : List ℕ) (others : Option RuleBroken) →
    least lines ≡ None → least_line rule lines others ≡ others
passed_over rule [] others h = refl
passed_over rule (x ∷ lines) others h = absurd (let e = sym (least_from lines x) ∙ h in cc)

-- the least so far over the items that break a rule
abbrev pub so_far : {X : Type 0} → (X → ℕ) → (X → Bool) → List X → Option ℕ
so_far line breaks items = least (map line (filter breaks items))

least_push : (xs : List ℕ) (x : ℕ) (a : Option ℕ) → fold lesser a (xs ++ x ∷ [])
    ≡ lesser (fold lesser a xs) x
least_push [] x a = refl
least_push (y ∷ xs) x a = least_push xs x (lesser a y)

cond_map : {X : Type 0} (line : X → ℕ) (b : Bool) (x : X) (xs : List X) → least (map line (xs
    ++ cond b (x ∷ []) [])) ≡ cond b (lesser (least (map line xs)) (line x)) (least (map line xs))
cond_map line true x xs = ap least (map-append line xs (x ∷ []))
    ∙ least_push (map line xs) (line x) None
cond_map line false x xs = ap (λ ys. least (map line ys)) (append-nil xs)

-- one more item
pub least_more : {X : Type 0} (line : X → ℕ) (breaks : X → Bool) (xs : List X) (i : ℕ) (d : X) →
    i < length xs
    → so_far line breaks (take (i + 1) xs) ≡ cond (breaks (get_or xs i d)) (lesser
    (so_far line breaks (take i xs)) (line (get_or xs i d))) (so_far line breaks (take i xs))
least_more line breaks xs i d h = ap (λ ys. least (map line ys)) (filter_more breaks xs i d h)
    ∙ cond_map line (breaks (get_or xs i d)) (get_or xs i d) (filter breaks (take i xs))

-- one turn of a loop over the items
pub turn : {X : Type 0} (line : X → ℕ) (breaks : X → Bool) (xs : List X) (i : ℕ) (x : X) (b : Bool)
    (n : ℕ) (old new : Option ℕ) → i < length xs → x ≡ get_or xs i x → b ≡ breaks x → n ≡ line x
    → old ≡ so_far line breaks (take i xs) → new ≡ cond b (lesser old n) old →
    new ≡ so_far line breaks (take (i + 1) xs)
turn line breaks xs i x b n old new h at is e o s =
    s ∙ ap (λ c. cond c (lesser old n) old) (is ∙ ap breaks at)
    ∙ ap (λ m. cond (breaks (get_or xs i x)) (lesser old m) old) (e ∙ ap line at)
    ∙ ap (λ w. cond (breaks (get_or xs i x)) (lesser w (line (get_or xs i x))) w) o
    ∙ sym (least_more line breaks xs i x h)

pub turn_of : {X : Type 0} (line : X → ℕ) (breaks : X → Bool) (ys xs : List X) → ys ≡ xs →
    (i : ℕ) (x : X) (b : Bool) (n : ℕ) (old new : Option ℕ) → i < length ys → x ≡ get_or ys i x →
    b ≡ breaks x → n ≡ line x
    → old ≡ so_far line breaks (take i xs) → new ≡ cond b (lesser old n) old →
    new ≡ so_far line breaks (take (i + 1) xs)
turn_of line breaks ys xs q i x b n old new h at is e o s = turn line breaks xs i x b n old new
    (subst (λ zs. i < length zs) q h) (at ∙ ap (λ zs. get_or zs i x) q) is e o s

-- one turn of the loop over the patches by their numbers
pub numbered_turn : (line : PatchLine → ℕ) (test : ℕ → Bool) (xs : List PatchLine)
    (i : ℕ) (x : PatchLine) (b : Bool) (n : ℕ) (old new total : Option ℕ) → i < length xs →
    x ≡ get_or xs i x → b ≡ test i → n ≡ line x
    → fold lesser old (map line (filter_numbered test i (drop i xs))) ≡ total →
    new ≡ cond b (lesser old n) old →
    fold lesser new (map line (filter_numbered test (i + 1) (drop (i + 1) xs))) ≡ total
numbered_turn line test xs i x b n old new total h at is e o s =
    ap (λ w. fold lesser w (map line (filter_numbered test (i + 1) (drop (i + 1) xs)))) (s
    ∙ ap (λ c. cond c (lesser old n) old) is ∙ ap (λ m. cond (test i) (lesser old m) old) (e
    ∙ ap line at))
    ∙ by (test i) ∙ sym (ap (λ ys. fold lesser old (map line ys))
    (at_drop_more (filter_numbered test i) xs i x h)) ∙ o
  where
    by : (c : Bool) → fold lesser (cond c (lesser old (line (get_or xs i x))) old)
        (map line (filter_numbered test (i + 1) (drop (i + 1) xs)))
        ≡ fold lesser old (map line (cond c (get_or xs i x ∷ filter_numbered test (i + 1)
        (drop (i + 1) xs)) (filter_numbered test (i + 1) (drop (i + 1) xs))))
    by true = refl
    by false = refl

-- ---- repeats

or_push : (a r b x : Bool) → ((a || (x || false)) || (r || b)) ≡ ((a || r) || (x || b))
or_push true r b x = refl
or_push false true b true = refl
or_push false false b true = refl
or_push false true b false = refl
or_push false false b false = refl

eqb_turned : (x y : ℕ) → eqb x y ≡ eqb y x
eqb_turned x y = grind (arith, nat_tests)

pub repeats_push : (xs : List ℕ) (x : ℕ) → has_repeats (xs ++ x ∷ [])
    ≡ (has_repeats xs || list_any (λ y. eqb y x) xs)
repeats_push [] x = refl
repeats_push (y ∷ ys) x =
    ap (λ a. a || has_repeats (ys ++ x ∷ [])) (list_any-append (λ z. eqb z y) ys (x ∷ []))
    ∙ ap (λ r. (list_any (λ z. eqb z y) ys || (eqb x y || false)) || r) (repeats_push ys x)
    ∙ or_push (list_any (λ z. eqb z y) ys) (has_repeats ys) (list_any (λ z. eqb z x) ys) (eqb x y)
    ∙ ap (λ e. (list_any (λ z. eqb z y) ys || has_repeats ys) || (e || list_any (λ z. eqb z x) ys))
    (eqb_turned x y)

or_true : (a b c : Bool) → (a || b) ≡ true → (b ≡ true → c ≡ true) → (a || c) ≡ true
or_true true b c h f = refl
or_true false b c h f = f h

or_more : (a b c : Bool) → (a || b) ≡ true → ((a || c) || b) ≡ true
or_more true b c h = refl
or_more false b true h = refl
or_more false b false h = h

repeats_front : (p q : List ℕ) → has_repeats p ≡ true → has_repeats (p ++ q) ≡ true
repeats_front [] q h = absurd (cc)
repeats_front (y ∷ ys) q h =
    ap (λ a. a || has_repeats (ys ++ q)) (list_any-append (λ z. eqb z y) ys q)
    ∙ or_true (list_any (λ z. eqb z y) ys || list_any (λ z. eqb z y) q) (has_repeats ys)
    (has_repeats (ys ++ q)) (or_more (list_any (λ z. eqb z y) ys) (has_repeats ys)
    (list_any (λ z. eqb z y) q) h) (λ r. repeats_front ys q r)

or_right : (a b : Bool) → b ≡ true → (a || b) ≡ true
or_right true b h = refl
or_right false b h = h

pub repeated : (xs : List ℕ) (i : ℕ) → i < length xs →
    list_any (λ y. eqb y (get_or xs i 0)) (take i xs) ≡ true → has_repeats xs ≡ true
repeated xs i h r =
    sym (ap has_repeats (take-append-drop (i + 1) xs))
    ∙ repeats_front (take (i + 1) xs) (drop (i + 1) xs) (ap has_repeats (take_more xs i 0 h)
    ∙ repeats_push (take i xs) (get_or xs i 0)
    ∙ or_right (has_repeats (take i xs)) (list_any (λ y. eqb y (get_or xs i 0)) (take i xs)) r)

pub no_repeat : (xs : List ℕ) (i : ℕ) → i < length xs → has_repeats (take i xs) ≡ false →
    list_any (λ y. eqb y (get_or xs i 0)) (take i xs) ≡ false → has_repeats (take (i + 1) xs)
    ≡ false
no_repeat xs i h o r = ap has_repeats (take_more xs i 0 h) ∙ repeats_push (take i xs)
    (get_or xs i 0) ∙ ap (λ a. a || list_any (λ y. eqb y (get_or xs i 0)) (take i xs)) o ∙ r

-- ---- the first rule that is broken

next_rule : (s : Schedule) (rules : List RuleFault) (i : ℕ) (d : RuleFault) → i < length rules
    → first_broken s (drop i rules) ≡ least_line (get_or rules i d) (breaking s (get_or rules i d))
    (first_broken s (drop (i + 1) rules))
next_rule s rules i d h = at_drop_more (first_broken s) rules i d h

pub rule_found : (s : Schedule) (rules : List RuleFault) (i : ℕ) (d : RuleFault) (line : ℕ) →
    i < length rules → first_broken s (drop i rules) ≡ first_broken s rules →
    least (breaking s (get_or rules i d)) ≡ Some line
    → first_broken s rules ≡ Some (record { line = line; kind = get_or rules i d })
rule_found s rules i d line h o l = sym o ∙ next_rule s rules i d h ∙ broken_at (get_or rules i d)
    (breaking s (get_or rules i d)) line (first_broken s (drop (i + 1) rules)) l

pub rule_passed : (s : Schedule) (rules : List RuleFault) (i : ℕ) (d : RuleFault) →
    i < length rules → first_broken s (drop i rules) ≡ first_broken s rules →
    least (breaking s (get_or rules i d)) ≡ None
    → first_broken s (drop (i + 1) rules) ≡ first_broken s rules
rule_passed s rules i d h o l = sym (next_rule s rules i d h ∙ passed_over (get_or rules i d)
    (breaking s (get_or rules i d)) (first_broken s (drop (i + 1) rules)) l) ∙ o
