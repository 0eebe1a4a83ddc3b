-- The distance and the weights of faultless lines, once their places are passed.
use Rattle.std.proofs.Common.{◌≡◌, ℕ, ◌%◌, ◌<◌, ◌≤◌, Bool, true, false, not, ◌&&◌, ◌||◌, eqb, List, [], ◌∷◌, length, filter, refl, ap, sym, ◌∙◌, subst, arith, codes, bytes_eq, slice_index_or, None}
use Rattle.std.specs.Prelude.{if◌then◌else◌, ◌==◌}
use Rattle.std.proofs.lemmas.Bool.{eqb-true}
use Rattle.std.proofs.lemmas.Bool.Decides.{nat_tests}
use Rattle.surface_model.specs.Text.{TextLine, BadLine, BadNumber, UnknownName, Repeated, BadDistance, field, begins, has_shape, all_fields, is_between, is_in_place, is_bad_distance, is_empty, is_rounds, is_skipped, fields_of, starts_with_hash, pieces_at, onto}
use Rattle.surface_model.specs.Layout.{is_even}
use Rattle.surface_model.specs.Parse.{number_at}
use Rattle.schedule_reader.specs.declared.known.Place.{Place}
use Rattle.schedule_reader.specs.declared.known.Place.TheVariants.{Version, Distance as AtDistance, Weights as AtWeights, Body}
use Rattle.schedule_reader.specs.declared.known.Check.TheVariants.{Form, Range, Name, New}
use Rattle.schedule_reader.specs.Known.{Tables, with_line, test_of, rank_of, next_place, fault_after_first, fault_in, is_repeated_in}
use Rattle.schedule_reader.proofs.Numbers.{and_left, and_right, between}
use Rattle.schedule_reader.proofs.Typed.{typed_at}
use Rattle.schedule_reader.proofs.ByKind.{IsClean, clean, none_if, not_not}
use Rattle.schedule_reader.proofs.Earlier.{apart}
use Rattle.schedule_reader.proofs.Agreed.{as_kind, kinds_of, so_many}
use Rattle.schedule_reader.proofs.Ranges.{ranged}

abbrev IsOdd : ℕ → Type 0
IsOdd d = (d % 2 ≡ 1) × (3 ≤ d) × (d ≤ 11)

abbrev IsWeight : ℕ → Type 0
IsWeight w = (1 ≤ w) × (w ≤ 1000)

-- what stands once so many lines are passed
abbrev pub IsPlaced : Place → ℕ → ℕ → ℕ → Type 0
IsPlaced Version d s t = Unit {0}
IsPlaced AtDistance d s t = Unit {0}
IsPlaced AtWeights d s t = IsOdd d
IsPlaced Body d s t = IsOdd d × IsWeight s × IsWeight t

good_distance : (d : ℕ) → (is_even d || not (is_between 3 11 d)) ≡ false → IsOdd d
good_distance d h =
    let e = or_no (is_even d) (not (is_between 3 11 d)) h in
    let b = between 3 11 d (not_no (is_between 3 11 d) e.1) in
    let o = odd (d % 2) (omega arith) e.0 in
    (o, b.0, b.1)
  where
    or_no : (a b : Bool) → (a || b) ≡ false → (a ≡ false) × (b ≡ false)
    or_no true b h = absurd (cc)
    or_no false b h = (refl, h)

    not_no : (b : Bool) → not b ≡ false → b ≡ true
    not_no true h = refl
    not_no false h = absurd (cc)

    odd : (r : ℕ) → r < 2 → eqb r 0 ≡ false → r ≡ 1
    odd r l h = grind (arith, nat_tests)

distance_of : (t : Tables) (l : TextLine) → fault_after_first t l ≡ None →
    begins (codes "distance") l ≡ true → IsOdd (number_at l 1)
distance_of t l h b =
    let a = none_if (not (has_shape l && all_fields (test_of t Form) l)) BadLine _ h in
    let r = none_if (not (all_fields (test_of t Range) l)) BadNumber _ a.1 in
    let k = none_if (not (all_fields (test_of t Name) l)) UnknownName _ r.1 in
    let n = none_if (not (all_fields (test_of t New) l) || is_repeated_in t l) Repeated _ k.1 in
    let d = none_if (is_bad_distance l) BadDistance _ n.1 in
    good_distance (number_at l 1) (sym
    (ap (λ x. x && (is_even (number_at l 1) || not (is_between 3 11 (number_at l 1)))) b) ∙ d.0)

weights_of : (t : Tables) (l : TextLine) → IsClean t l → begins (codes "weights") l ≡ true →
    IsWeight (number_at l 1) × IsWeight (number_at l 2)
weights_of t l c h = (
  as_kind (λ k. IsClean t k → IsWeight (number_at k 1)) l.number l.fields (codes "weights") h refl
      (λ rest e k. let n = so_many t (codes "weights") rest 2 3 k.shape refl in
      ranged 1 1000 (slice_index_or rest 0 [])
      (typed_at (test_of t Range) (kinds_of (codes "weights")) rest 0 (omega arith) k.range)) c,
  as_kind (λ k. IsClean t k → IsWeight (number_at k 2)) l.number l.fields (codes "weights") h refl
      (λ rest e k. let n = so_many t (codes "weights") rest 2 3 k.shape refl in
      ranged 1 1000 (slice_index_or rest 1 [])
      (typed_at (test_of t Range) (kinds_of (codes "weights")) rest 1 (omega arith) k.range)) c,
)

abbrev put : TextLine → Bool → ℕ → ℕ → ℕ
put l b k n = if b then number_at l k else n

pub placed_push : (t : Tables) (l : TextLine) (fo : Bool) → fault_in t fo l ≡ None →
    IsPlaced t.place t.distance t.space t.time
    → IsPlaced (with_line t l).place (with_line t l).distance (with_line t l).space
    (with_line t l).time
placed_push t l fo h p = at t.place (none_if (not (is_in_place (rank_of t.place) fo l)) BadLine _ h)
    p
  where
    none : (b : Bool) → not b ≡ true → b ≡ false
    none true h = absurd (cc)
    none false h = refl

    at : (q : Place) → (not (is_in_place (rank_of q) fo l) ≡ false) × ((if rank_of q == 0 then None
        else fault_after_first t l) ≡ None) → IsPlaced q t.distance t.space t.time
        → IsPlaced (next_place q) (put l (begins (codes "distance") l) 1 t.distance) (put l
        (begins (codes "weights") l) 1 t.space) (put l (begins (codes "weights") l) 2 t.time)
    at Version h p = tt
    at AtDistance h p =
        let b = not_not (is_in_place 1 fo l) h.0 in
        subst IsOdd (sym (ap (λ x. put l x 1 t.distance) b)) (distance_of t l h.1 b)
    at AtWeights h p =
        let b = not_not (is_in_place 2 fo l) h.0 in
        let w = weights_of t l (clean t l h.1) b in (
          subst IsOdd (sym (ap (λ x. put l x 1 t.distance) (apart (codes "weights") (codes
              "distance") l refl b))) p,
          subst IsWeight (sym (ap (λ x. put l x 1 t.space) b)) w.0,
          subst IsWeight (sym (ap (λ x. put l x 2 t.time) b)) w.1,
        )
    at Body h p =
        let i = not_not (is_in_place 3 fo l) h.0 in
        let both = and_left (not (begins (codes "distance") l) && not (begins (codes "weights") l))
        (not (begins (codes "rounds") l && fo)) i in
        let d = none (begins (codes "distance") l) (and_left (not (begins (codes "distance") l))
        (not (begins (codes "weights") l)) both) in
        let w = none (begins (codes "weights") l) (and_right (not (begins (codes "distance") l))
        (not (begins (codes "weights") l)) both) in (
          subst IsOdd (sym (ap (λ x. put l x 1 t.distance) d)) p.0,
          subst IsWeight (sym (ap (λ x. put l x 1 t.space) w)) p.1,
          subst IsWeight (sym (ap (λ x. put l x 2 t.time) w)) p.2,
        )

-- ---- the last line

-- a comment's first field begins with its mark
hash_is : (xs : List ℕ) → starts_with_hash xs ≡ true → is_rounds xs ≡ false
hash_is [] h = refl
hash_is (x ∷ xs) h =
    subst (λ y. is_rounds (y ∷ xs) ≡ false) (sym (eqb-true x 35 h)) (by (pieces_at 32 xs))
  where
    by : (ps : List (List ℕ)) → bytes_eq (slice_index_or (filter (λ piece. not (is_empty piece))
        (onto 35 ps)) 0 []) (codes "rounds") ≡ false
    by [] = refl
    by (p ∷ ps) = refl

none_is : (fs : List (List ℕ)) → is_empty fs ≡ true →
    bytes_eq (slice_index_or fs 0 []) (codes "rounds") ≡ false
none_is [] h = refl
none_is (f ∷ fs) h = absurd (cc)

pub rounds_counts : (xs : List ℕ) → is_rounds xs ≡ true → is_skipped xs ≡ false
rounds_counts xs r = by (is_empty (fields_of xs)) (starts_with_hash xs) (none_is (fields_of xs))
    (hash_is xs)
  where
    by : (a b : Bool) → (a ≡ true → is_rounds xs ≡ false) → (b ≡ true → is_rounds xs ≡ false) →
        (a || b) ≡ false
    by true b f g = absurd (let k = sym r ∙ f refl in cc)
    by false true f g = absurd (let k = sym r ∙ g refl in cc)
    by false false f g = refl

-- a line `rounds` without fault stands after the fixed lines
pub rounds_place : (t : Tables) (l : TextLine) (fo : Bool) → fault_in t fo l ≡ None →
    begins (codes "rounds") l ≡ true → (with_line t l).place ≡ Body
rounds_place t l fo h r =
    at t.place (none_if (not (is_in_place (rank_of t.place) fo l)) BadLine _ h).0
  where
    at : (q : Place) → not (is_in_place (rank_of q) fo l) ≡ false → next_place q ≡ Body
    at Version h =
        absurd (let s = and_left (begins (codes "swiper") l)
        (length l.fields == 2) (and_left (begins (codes "swiper") l && length l.fields == 2)
        (bytes_eq (field l 1) (codes "1")) (not_not (is_in_place 0 fo l) h)) in
        let k = sym s ∙ apart (codes "rounds") (codes "swiper") l refl r in cc)
    at AtDistance h = absurd (let k = sym (not_not (is_in_place 1 fo l) h)
        ∙ apart (codes "rounds") (codes "distance") l refl r in cc)
    at AtWeights h = refl
    at Body h = refl
