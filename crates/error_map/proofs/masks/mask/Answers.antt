use Rattle.std.proofs.Common.{◌≡◌, ◌<◌, Contains, Some, length, slice_get, sym, arith, subst}
use Rattle.std.proofs.lemmas.Option.{slice_get_within}
use Rattle.surface_model.specs.Layout.{Place}
use Rattle.surface_model.specs.Errors.{watched}
use Rattle.error_map.specs.Keys.{IsNumberAt, key_of}
use Rattle.error_map.specs.Seen.{error_in}
use Rattle.error_map.specs.Sees.{flips_observable}
use Rattle.error_map.specs.Watched.{AreTaken, IsWatch}
use Rattle.error_map.proofs.Keyed.{is_there}
use Rattle.error_map.proofs.Masked.{member_is}
use Rattle.error_map.proofs.Watching.{flipped_near, flips_below, taken_all, taken_more, taken_none}
use Rattle.error_map.proofs.masks.mask.Goals as goal

pub loop-number-init : goal.loop-number-init
loop-number-init c = record {
  above = c.first_from-at.ensures.above;
  taken = λ s a given known shown. subst
      (λ ns. AreTaken (flips_observable s (error_in c.args.effect)) c.keys-keys.result.now
      (record { row = c.place-row.result.0; column = c.place-row.result.1 }) c.first_from-at.result
      ns) (sym c.new-mask.ensures.items)
      (taken_none (flips_observable s (error_in c.args.effect)) c.keys-keys.result.now
      c.keys-keys.ensures.shaped (record {
        row = c.place-row.result.0;
        column = c.place-row.result.1;
      }) c.first_from-at.result c.first_from-at.ensures);
}

pub push_observable-requires : goal.push_observable-requires
push_observable-requires c =
    let q : Place = record { row = c.place-row.result.0; column = c.place-row.result.1 } in
    let here : slice_get c.keys-keys.result.now c.loop-number.at
    ≡ Some (key_of c.in-Some.number q) =
    subst (IsNumberAt c.keys-keys.result.now c.loop-number.at q) c.in-Some.is
    c.number_at.ensures in
    c.requires.within (key_of c.in-Some.number q)
    (subst (λ ks. Contains ks (key_of c.in-Some.number q)) c.keys-keys.ensures.keys
    (is_there c.keys-keys.result.now c.loop-number.at (key_of c.in-Some.number q) here))

pub overflow_add-at : goal.overflow_add-at
overflow_add-at c =
    let q : Place = record { row = c.place-row.result.0; column = c.place-row.result.1 } in
    let here : slice_get c.keys-keys.result.now c.loop-number.at
    ≡ Some (key_of c.in-Some.number q) =
    subst (IsNumberAt c.keys-keys.result.now c.loop-number.at q) c.in-Some.is
    c.number_at.ensures in
    let l : c.loop-number.at < length c.keys-keys.result.now =
    slice_get_within c.keys-keys.result.now c.loop-number.at (key_of c.in-Some.number q) here in
    omega (arith, l)

pub loop-number-smaller : goal.loop-number-smaller
loop-number-smaller c =
    let q : Place = record { row = c.place-row.result.0; column = c.place-row.result.1 } in
    let here : slice_get c.keys-keys.result.now c.loop-number.at
    ≡ Some (key_of c.in-Some.number q) =
    subst (IsNumberAt c.keys-keys.result.now c.loop-number.at q) c.in-Some.is
    c.number_at.ensures in
    let l : c.loop-number.at < length c.keys-keys.result.now =
    slice_get_within c.keys-keys.result.now c.loop-number.at (key_of c.in-Some.number q) here in
    omega (arith, l)

pub loop-number-preserved : goal.loop-number-preserved
loop-number-preserved c =
    let q : Place = record { row = c.place-row.result.0; column = c.place-row.result.1 } in
    let here : slice_get c.keys-keys.result.now c.loop-number.at
    ≡ Some (key_of c.in-Some.number q) =
    subst (IsNumberAt c.keys-keys.result.now c.loop-number.at q) c.in-Some.is
    c.number_at.ensures in
    record {
      above = λ j k l e. c.loop-number.invariant.above j k (omega (arith, l)) e;
      taken = λ s a given known shown.
          taken_more (flips_observable s (error_in c.args.effect)) c.keys-keys.result.now
          c.keys-keys.ensures.shaped q 0 c.loop-number.at c.loop-number.invariant.above
          c.in-Some.number here
          c.loop-number.mask.items c.push_observable.new.mask.items
          (c.loop-number.invariant.taken s a given known shown)
          (c.in_ok-push_observable.ensures s a given known shown);
    }

pub returns : goal.returns
returns c = λ s a given known shown.
    let e = error_in c.args.effect in
    let q : Place = record { row = c.place-row.result.0; column = c.place-row.result.1 } in
    let keys = c.keys-keys.result.now in
    let place_is : (error_in c.args.effect).place ≡ q =
    λ j. record {
      row = (sym c.place-row.ensures.row) j;
      column = (sym c.place-row.ensures.column) j;
    } in
    let i = member_is s e known in
    let w : IsWatch c.args.map.now keys =
    subst (IsWatch c.args.map.now) (sym c.keys-keys.ensures.keys) c.requires in
    taken_all (flips_observable s e) keys c.keys-keys.ensures.shaped q 0 c.loop-number.at
    c.loop-number.invariant.above
    (subst (IsNumberAt keys c.loop-number.at q) c.in_default.is c.number_at.ensures)
    (length (watched s)) (flips_below s e)
    (λ n h. subst (λ p. Contains keys (key_of n p)) place_is
    (flipped_near s a c.args.map.now given c.args.effect i shown keys w n h))
    c.loop-number.mask.items (c.loop-number.invariant.taken s a given known shown)
