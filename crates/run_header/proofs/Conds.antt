-- Conditions stand in slots of the schedule, and name observables that are read in known slots.
use Rattle.std.proofs.Common.{◌≡◌, ℕ, ◌<◌, ◌≤◌, ◌==◌, ◌&&◌, ◌||◌, Bool, true, false, not, cond, List, [], ◌∷◌, filter, find, length, map, inl, inr, refl, sym, ap, ◌∙◌, subst, arith, Option, Some, None, eq-eqb}
use Rattle.std.specs.Prelude.{nat_le, option_map}
use Rattle.std.proofs.lemmas.Bool.{and_parts, false≢true, leb-true, true≢false}
use Rattle.std.proofs.lemmas.Option.{none-some}
use Rattle.graph_model.specs.Members.{In}
use Rattle.graph_model.proofs.Elements.{filter_in, all_at}
use Rattle.surface_model.specs.Accepted.{IsAccepted}
use Rattle.surface_model.specs.Layout.{last_slot}
use Rattle.surface_model.specs.Rules.{RuleBroken, breaking, first_broken, has_repeats, in_life, init_of, least_line, of_life, read_of, rule_fault}
use Rattle.surface_model.specs.declared.RuleFault.{RuleFault}
use Rattle.surface_model.specs.declared.RuleFault.TheVariants.{TileTaken, BadLife, NotNeighbours, MergeOutsideLife, MergesTouch, BadCond, Missing}
use Rattle.surface_model.specs.Schedules.{CondLine, InitLine, ReadLine, Schedule}
use Rattle.surface_laws.proofs.Acceptance.{sound}
use Rattle.run_header.proofs.Slots.{read_in_range}

-- ---- the rule of conditions is kept

behind : (kind : RuleFault) (lines : List ℕ) (others : Option RuleBroken) →
    least_line kind lines others ≡ None → (lines ≡ []) × (others ≡ None)
behind kind [] others e = (refl, e)
behind kind (line ∷ lines) others e = absurd (none-some _ (sym e))

no_bad_cond : (s : Schedule) → rule_fault s ≡ None → breaking s BadCond ≡ []
no_bad_cond s h =
    let a = behind TileTaken (breaking s TileTaken) (first_broken s (BadLife ∷ NotNeighbours
    ∷ MergeOutsideLife ∷ MergesTouch ∷ BadCond ∷ Missing ∷ [])) h in
    let b = behind BadLife (breaking s BadLife) (first_broken s (NotNeighbours ∷ MergeOutsideLife
    ∷ MergesTouch ∷ BadCond ∷ Missing ∷ [])) a.1 in
    let c = behind NotNeighbours (breaking s NotNeighbours)
    (first_broken s (MergeOutsideLife ∷ MergesTouch ∷ BadCond ∷ Missing ∷ [])) b.1 in
    let d = behind MergeOutsideLife (breaking s MergeOutsideLife)
    (first_broken s (MergesTouch ∷ BadCond ∷ Missing ∷ [])) c.1 in
    let e = behind MergesTouch (breaking s MergesTouch) (first_broken s (BadCond ∷ Missing ∷ []))
    d.1 in
    (behind BadCond (breaking s BadCond) (first_broken s (Missing ∷ [])) e.1).0

none_in : {X : Type 0} (xs : List X) (x : X) → xs ≡ [] → In x xs → ⊥
none_in xs x e m = subst (λ ys. In x ys) e m

nothing_mapped : {X Y : Type 0} (f : X → Y) (xs : List X) → map f xs ≡ [] → xs ≡ []
nothing_mapped f [] e = refl
nothing_mapped f (x ∷ xs) e = absurd (none_in (f x ∷ map f xs) (f x) e (inl refl))

passes_not : {X : Type 0} (p : X → Bool) (xs : List X) (x : X) → filter p xs ≡ [] → In x xs →
    p x ≡ false
passes_not p xs x e m = by (p x) refl
  where
    by : (b : Bool) → p x ≡ b → b ≡ false
    by true t = absurd (none_in (filter p xs) x e (filter_in p xs x m t))
    by false f = refl

neither : (a b : Bool) → (a || not b) ≡ false → b ≡ true
neither true b h = absurd (true≢false h)
neither false true h = refl
neither false false h = absurd (true≢false h)

-- ---- a condition stands within the life of its patch

-- the first that passes, where one does
first_of : {X : Type 0} (p : X → Bool) (xs : List X) (x : X) → In x xs → p x ≡ true →
    (y : X) × In y xs × (find p xs ≡ Some y)
first_of {X = X} p [] x m h = absurd m
first_of {X = X} p (y ∷ ys) x m h = by (p y) refl (λ n. first_of p ys x n h)
  where
    rest : (In x ys → (z : X) × In z ys × (find p ys ≡ Some z)) → p y ≡ false → In x (y ∷ ys) →
        (z : X) × In z ys × (find p ys ≡ Some z)
    rest later f (inl e) = absurd (false≢true (sym f ∙ ap p e ∙ h))
    rest later f (inr n) = later n

    by : (b : Bool) → p y ≡ b → (In x ys → (z : X) × In z ys × (find p ys ≡ Some z)) →
        (z : X) × In z (y ∷ ys) × (cond b (Some y) (find p ys) ≡ Some z)
    by true t later = (y, inl refl, refl)
    by false f later = let k = rest later f m in (k.0, inr k.1, k.2)

pub cond_in_range : (s : Schedule) → IsAccepted s → (c : CondLine) → In c s.conds →
    c.slot ≤ last_slot s
cond_in_range s is c m =
    let ok = sound s is in
    let known = (all_at (λ (x : CondLine). (x.patch < length s.patches) × (x.slot ≤ 4095)) s.conds c
    is.ranges.conds m).0 in
    let i = ok.prepared c.patch known in
    let r = ok.finished c.patch known in
    let init = first_of (λ (line : InitLine). line.patch == c.patch) s.inits i.0 i.1
    (eq-eqb i.0.patch c.patch i.2) in
    let read = first_of (λ (line : ReadLine). line.patch == c.patch) s.reads r.0 r.1
    (eq-eqb r.0.patch c.patch r.2) in
    let begun : init_of s c.patch ≡ Some init.0.slot =
    ap (option_map (λ (line : InitLine). line.slot)) init.2 in
    let over : read_of s c.patch ≡ Some read.0.slot =
    ap (option_map (λ (line : ReadLine). line.slot)) read.2 in
    let test : ℕ → ℕ → Bool = λ first last. nat_le first c.slot && nat_le c.slot last in
    let within : of_life s test c.patch ≡ true =
    neither (has_repeats c.labels) (of_life s test c.patch)
    (passes_not (λ (x : CondLine). has_repeats x.labels
    || not (of_life s (λ first last. nat_le first x.slot && nat_le x.slot last) x.patch))
    s.conds c (nothing_mapped (λ (x : CondLine). x.line) _ (no_bad_cond s is.sound)) m) in
    let both : nat_le init.0.slot c.slot && nat_le c.slot read.0.slot ≡ true =
    sym (ap (λ o. in_life test o (read_of s c.patch)) begun
    ∙ ap (in_life test (Some init.0.slot)) over) ∙ within in
    let low = leb-true c.slot read.0.slot
    (and_parts (nat_le init.0.slot c.slot) (nat_le c.slot read.0.slot) both).1 in
    let last = read_in_range s read.0 read.1 in omega (arith, low, last)
