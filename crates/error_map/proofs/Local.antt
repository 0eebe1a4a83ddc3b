-- What a mechanism flips, by where it strikes: an error at a qubit flips the detectors of its slot
-- at the corners round it, a space error those of one basis, and a wrong
-- outcome those of its check in its slot and in the next.
use Rattle.std.proofs.Common.{◌≡◌, ℕ, zero, suc, ◌-◌, ◌<◌, ◌≤◌, ◌==◌, ⊎_elim, Bool, true, false, cond, not, ◌&&◌, ◌||◌, refl, sym, ap, ◌∙◌, arith, eq-eqb, eqb-true, subst, Some, None, List}
use Rattle.std.specs.Prelude.{is_some}
use Rattle.std.proofs.lemmas.Bool.{cases_eq, and_parts, and_left, and_right, ne_eqb}
use Rattle.std.proofs.lemmas.Bool.Decides.{nat_tests}
use Rattle.graph_model.specs.Parity.{◌⊕◌, parity}
use Rattle.graph_model.proofs.Parities.{xor-false}
use Rattle.surface_model.specs.declared.Basis.{Basis}
use Rattle.surface_model.specs.Schedules.{same_basis, MergeLine, Schedule}
use Rattle.surface_model.specs.Layout.{Place, is_check, kind, has_qubit, covers, init_slot, last_slot, board, is_check_at, is_active_at, is_supported_at, readings_at}
use Rattle.surface_model.specs.Measurements.{Measurement, same_place, is_read_at, was_check, was_supported, earlier_outcome, is_prepared, is_finished, detector_bits}
use Rattle.surface_model.specs.Errors.{space_flips}
use Rattle.graph_model.specs.Members.{In}
use Rattle.graph_model.proofs.Elements.{any_in}
use Rattle.surface_laws.proofs.Sound.{Sound}
use Rattle.surface_laws.proofs.Spots.{Lone, Pair, active_any}
use Rattle.surface_laws.proofs.Regions.{supported_as, Reading, of_patch, of_seam, reading_of, living_active, read_inactive, fresh, gone, seam_is}
use Rattle.surface_laws.proofs.Flips.{flipped, flipped_as, was_here, is_new, finished_is, prepared_is, same_place_is}
use Rattle.surface_laws.proofs.Space.{is_watched, space_flip}
use Rattle.surface_laws.proofs.Others.{readout_of, readout_flip, outcome_of, outcome_readouts}
use Rattle.surface_laws.proofs.Grounded.{alone_before}

-- each merge lasts for some slot
abbrev pub Merges : Schedule → Type 0
Merges s = (m : MergeLine) → In m s.merges → 1 ≤ m.count

-- whether the slot has a detector at the corner
abbrev pub stands : Schedule → ℕ → Place → Bool
stands s u c = is_some (detector_bits s u c)

pub stands_as : (s : Schedule) (u : ℕ) (c : Place) →
    stands s u c ≡ was_here s u c || (is_new s u c || is_finished s u c)
stands_as s u c = by_parts (was_here s u c) (is_new s u c) (is_finished s u c) _ _ _
  where
    by_parts : (a b d : Bool) (x y z : List Measurement) →
        is_some (cond a (Some x) (cond b (Some y) (cond d (Some z) None))) ≡ a || (b || d)
    by_parts true b d x y z = refl
    by_parts false true d x y z = refl
    by_parts false false true x y z = refl
    by_parts false false false x y z = refl

-- ---- where a check was, and where a qubit was

-- a corner of a patch that is read had a check in the slot before
pub finished_was : (s : Schedule) → Sound s → (t : ℕ) (c : Place) → is_finished s t c ≡ true →
    was_check s t c ≡ true
finished_was s ok zero c h = let l = finished_is s 0 c h in
    absurd (omega (
      arith,
      ok.lives l.line.patch (ok.read_known l.line l.known),
      ok.read_is l.line l.known,
      l.slot,
    ))
finished_was s ok (suc t) c h =
    let l = finished_is s (suc t) c h in
    active_any s ok t (λ r. is_check r c) (Lone l.line.patch) (ok.read_known l.line l.known)
    (alone_before s ok l.line.patch t (ok.read_known l.line l.known) (ok.read_is l.line l.known
    ∙ l.slot)) l.check

-- a qubit that is read was active in the slot before, of which there is one
pub was_active : (s : Schedule) → Sound s → Merges s → (t : ℕ) (q : Place) →
    is_read_at s t q ≡ true → (u : ℕ) × (t ≡ suc u) × (is_active_at s u q ≡ true)
was_active s ok long t q h =
    let some = any_in (λ b. true) (readings_at s t q) h in
    by_reading some.0 (reading_of s t q some.0 some.1)
  where
    before : (first : ℕ) → first < t → (u : ℕ) × (t ≡ suc u) × (first ≤ u)
    before first l = (t - 1, omega (arith, l), omega (arith, l))

    by_reading : (basis : Basis) → Reading s t q basis →
        (u : ℕ) × (t ≡ suc u) × (is_active_at s u q ≡ true)
    by_reading basis (of_patch line m e g b) =
        let known = ok.read_known line m in
        let k = before (init_slot s line.patch) (omega (
          arith,
          ok.lives line.patch known,
          ok.read_is line m,
          e,
        )) in (
          k.0,
          k.1,
          living_active s ok k.0 line.patch q known k.2
              (omega (arith, ok.read_is line m, e, k.1)) g,
        )
    by_reading basis (of_seam m i e g b) =
        let k = before m.slot (omega (arith, long m i, e)) in (
          k.0,
          k.1,
          active_any s ok k.0 (λ r. has_qubit r q) (Pair m) i (k.2, omega (arith, e, k.1))
              (seam_is s m q g).merged,
        )

-- ---- a readout's error flips the detectors of its slot at the corners round the qubit

no_such : (b : Bool) → (b ≡ true → ⊥) → b ≡ false
no_such true h = absurd (h refl)
no_such false h = refl

same_test : (e x y : Bool) → (e ≡ true → x ≡ y) → (e && x) ≡ (e && y)
same_test true x y h = h refl
same_test false x y h = refl

and_comm : (a b : Bool) → (a && b) ≡ (b && a)
and_comm true true = refl
and_comm true false = refl
and_comm false true = refl
and_comm false false = refl

pub readout_at : (s : Schedule) → Sound s → Merges s → (t : ℕ) (q : Place) → In q (board s) →
    is_read_at s t q ≡ true → (u : ℕ) (c : Place) →
    flipped s (readout_of t q) u c ≡ (u == t) && (covers c q && stands s u c)
readout_at s ok long t q m read u c =
    readout_flip s t q m u c
    ∙ pulled (was_here s u c) (is_new s u c) (is_finished s u c)
    (is_read_at s u q && (was_supported s u c q && not (is_supported_at s u c q)))
    (is_read_at s u q && was_supported s u c q) (u == t)
    ∙ same_test (u == t) _ _ (λ e. subst (λ v. value v ≡ (covers c q && stands s v c))
    (sym (eqb-true u t e)) here)
  where
    value : ℕ → Bool
    value v = cond (was_here s v c)
        (is_read_at s v q && (was_supported s v c q && not (is_supported_at s v c q)))
        (cond (is_new s v c) false
        (cond (is_finished s v c) (is_read_at s v q && was_supported s v c q) false))

    pulled : (a b d x y e : Bool) → cond a (x && e) (cond b false (cond d (y && e) false))
        ≡ e && cond a x (cond b false (cond d y false))
    pulled true b d x y e = and_comm x e
    pulled false true d x y true = refl
    pulled false true d x y false = refl
    pulled false false true x y e = and_comm y e
    pulled false false false x y true = refl
    pulled false false false x y false = refl

    supported_when : (v : ℕ) → is_active_at s v q ≡ true →
        is_supported_at s v c q ≡ is_check_at s v c && covers c q
    supported_when v a =
        supported_as s ok v c q ∙ ap (λ b. is_check_at s v c && (b && covers c q)) a

    not_supported : (v : ℕ) → is_read_at s (suc v) q ≡ true → is_supported_at s (suc v) c q ≡ false
    not_supported v r =
        let some = any_in (λ b. true) (readings_at s (suc v) q) r in
        supported_as s ok (suc v) c q
        ∙ and_right (is_check_at s (suc v) c) _
        (and_left (is_active_at s (suc v) q) (covers c q)
        (no_such (is_active_at s (suc v) q)
        (λ x. read_inactive s ok (suc v) q some.0 (reading_of s (suc v) q some.0 some.1) x)))

    not_new : (v : ℕ) → is_active_at s v q ≡ true → covers c q ≡ true → is_new s (suc v) c ≡ false
    not_new v a k = no_such (is_new s (suc v) c)
        (λ n. let p = prepared_is s (suc v) c
        (and_parts (is_check_at s (suc v) c) (is_prepared s (suc v) c) n).1 in
        fresh s ok v p.line c q p.known p.slot p.check k a)

    by_bits : (check was new last v r w n : Bool) → r ≡ true → w ≡ (was && v) → n ≡ false →
        (v ≡ true → new ≡ false) → (last ≡ true → was ≡ true) →
        cond (check && was) (r && (w && not n)) (cond new false (cond last (r && w) false))
        ≡ v && ((check && was) || (new || last))
    by_bits check was new last v r w n a b d e f = grind (arith, nat_tests)

    after : (v : ℕ) → is_read_at s (suc v) q ≡ true → is_active_at s v q ≡ true →
        value (suc v) ≡ (covers c q && stands s (suc v) c)
    after v r a =
        by_bits (is_check_at s (suc v) c) (is_check_at s v c) (is_new s (suc v) c)
        (is_finished s (suc v) c) (covers c q) (is_read_at s (suc v) q)
        (is_supported_at s v c q) (is_supported_at s (suc v) c q)
        r (supported_when v a) (not_supported v r) (λ k. not_new v a k)
        (finished_was s ok (suc v) c)
        ∙ ap (λ b. covers c q && b) (sym (stands_as s (suc v) c))

    here : value t ≡ (covers c q && stands s t c)
    here = let w = was_active s ok long t q read in
        subst (λ x. value x ≡ (covers c q && stands s x c)) (sym w.1)
        (after w.0 (subst (λ x. is_read_at s x q ≡ true) w.1 read) w.2)

-- ---- a space error flips the detectors of its slot at the corners of its basis round the qubit

pub space_at : (s : Schedule) → Sound s → (basis : Basis) (t : ℕ) (q : Place) → In q (board s) →
    is_active_at s t q ≡ true → t ≤ last_slot s → (u : ℕ) (c : Place) → u ≤ last_slot s →
    flipped s (λ m. space_flips s basis t q m.slot m.bit) u c
    ≡ (u == t) && (covers c q && (same_basis (kind c) basis && stands s u c))
space_at s ok basis t q m active low u c last =
    space_flip s ok basis t q m active low u c last
    ∙ same_test (u == t) _ _
    (λ e. subst (λ v. (is_watched s v c
    && (same_basis (kind c) basis && is_supported_at s v c q))
    ≡ (covers c q && (same_basis (kind c) basis && stands s v c))) (sym (eqb-true u t e)) here)
  where
    by_bits : (check was new last k v w : Bool) → w ≡ (check && v) → (last ≡ true → was ≡ true) →
        (last ≡ true → v ≡ true → check ≡ true) →
        ((check && (was || new)) && (k && w))
        ≡ v && (k && ((check && was) || ((check && new) || last)))
    by_bits check was new last k v w a e f = grind (arith, nat_tests)

    still : is_finished s t c ≡ true → covers c q ≡ true → is_check_at s t c ≡ true
    still h k = let l = finished_is s t c h in
        absurd (gone s ok t l.line c q l.known l.slot l.check k active)

    here : (is_watched s t c && (same_basis (kind c) basis && is_supported_at s t c q))
        ≡ (covers c q && (same_basis (kind c) basis && stands s t c))
    here =
        by_bits (is_check_at s t c) (was_check s t c) (is_prepared s t c) (is_finished s t c)
        (same_basis (kind c) basis) (covers c q) (is_supported_at s t c q)
        (supported_as s ok t c q ∙ ap (λ b. is_check_at s t c && (b && covers c q)) active)
        (finished_was s ok t c) still
        ∙ ap (λ b. covers c q && (same_basis (kind c) basis && b)) (sym (stands_as s t c))

-- ---- a wrong outcome flips the detectors of its check in its slot and in the next

pub outcome_at : (s : Schedule) → Sound s → (t : ℕ) (p : Place) → is_check_at s t p ≡ true →
    (u : ℕ) (c : Place) →
    flipped s (outcome_of t p) u c ≡ same_place c p && ((u == t || u == suc t) && stands s u c)
outcome_at s ok t p check u c =
    flipped_as s (outcome_of t p) u c
    ∙ by_bits (same_place c p) (u == t) (u == suc t) (is_check_at s u c) (was_check s u c)
    (is_prepared s u c) (is_finished s u c) _ _ _ (before_is u)
    (outcome_readouts s t p u (λ q. was_supported s u c q && not (is_supported_at s u c q)))
    (outcome_readouts s t p u (was_supported s u c)) apart here before (finished_was s ok u c)
    ∙ ap (λ b. same_place c p && ((u == t || u == suc t) && b)) (sym (stands_as s u c))
  where
    next_test : (v : ℕ) → (v == t) ≡ (suc v == suc t)
    next_test v =
        ⊎_elim (λ e. eq-eqb v t e ∙ sym (eq-eqb (suc v) (suc t) (ap suc e))) (λ ne. ne_eqb v t ne
        ∙ sym (ne_eqb (suc v) (suc t) (λ e. ne (omega (arith, e))))) (cases_eq v t)

    before_is : (v : ℕ) → parity (outcome_of t p) (earlier_outcome v c) ≡ (v == suc t)
        && same_place c p
    before_is zero =
        sym (and_left (0 == suc t) (same_place c p) (ne_eqb 0 (suc t) (λ e. omega (arith, e))))
    before_is (suc v) =
        xor-false ((v == t) && same_place c p) ∙ ap (λ b. b && same_place c p) (next_test v)

    apart : (u == t) ≡ true → (u == suc t) ≡ true → ⊥
    apart e f = omega (arith, eqb-true u t e, eqb-true u (suc t) f)

    here : same_place c p ≡ true → (u == t) ≡ true → is_check_at s u c ≡ true
    here k e = subst (λ x. is_check_at s u x ≡ true) (sym (same_place_is c p k))
        (subst (λ v. is_check_at s v p ≡ true) (sym (eqb-true u t e)) check)

    before : same_place c p ≡ true → (u == suc t) ≡ true → was_check s u c ≡ true
    before k e =
        subst (λ v. was_check s v c ≡ true) (sym (eqb-true u (suc t) e))
        (subst (λ x. is_check_at s t x ≡ true) (sym (same_place_is c p k)) check)

    by_bits : (k e f check was new last before kept readout : Bool) → before ≡ (f && k) →
        kept ≡ false → readout ≡ false → (e ≡ true → f ≡ true → ⊥) →
        (k ≡ true → e ≡ true → check ≡ true) → (k ≡ true → f ≡ true → was ≡ true) →
        (last ≡ true → was ≡ true) →
        cond (check && was) ((e && k) ⊕ (before ⊕ kept))
        (cond (check && new) ((e && k) ⊕ false) (cond last (before ⊕ readout) false))
        ≡ k && ((e || f) && ((check && was) || ((check && new) || last)))
    by_bits k e f check was new last before kept readout a b d apart g h i =
        ap (λ x. cond (check && was) ((e && k) ⊕ (x ⊕ kept))
        (cond (check && new) ((e && k) ⊕ false) (cond last (x ⊕ readout) false))) a
        ∙ ap (λ x. cond (check && was) ((e && k) ⊕ ((f && k) ⊕ x))
        (cond (check && new) ((e && k) ⊕ false) (cond last ((f && k) ⊕ readout) false))) b
        ∙ ap (λ x. cond (check && was) ((e && k) ⊕ ((f && k) ⊕ false))
        (cond (check && new) ((e && k) ⊕ false) (cond last ((f && k) ⊕ x) false))) d
        ∙ by_cases k e f apart g h
      where
        by_cases : (k e f : Bool) → (e ≡ true → f ≡ true → ⊥) →
            (k ≡ true → e ≡ true → check ≡ true) → (k ≡ true → f ≡ true → was ≡ true) →
            cond (check && was) ((e && k) ⊕ ((f && k) ⊕ false))
            (cond (check && new) ((e && k) ⊕ false) (cond last ((f && k) ⊕ false) false))
            ≡ k && ((e || f) && ((check && was) || ((check && new) || last)))
        by_cases k true true apart g h = absurd (apart refl refl)
        by_cases true true false apart g h = grind (arith, nat_tests)
        by_cases true false true apart g h = grind (arith, nat_tests)
        by_cases true false false apart g h = grind (arith, nat_tests)
        by_cases false true false apart g h = grind (arith, nat_tests)
        by_cases false false true apart g h = grind (arith, nat_tests)
        by_cases false false false apart g h = grind (arith, nat_tests)
