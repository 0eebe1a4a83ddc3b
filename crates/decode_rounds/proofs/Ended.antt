-- The end of a run that has come to rest: the releases that were not told are put too.
use Rattle.std.proofs.Common.{◌≡◌, ◌<◌, ◌≤◌, inl, inr, ℕ, zero, suc, Bool, true, false, if◌then◌else◌, List, [], ◌∷◌, ◌++◌, None, Some, length, take, filter, flat_map, filter_map, refl, sym, ap, ◌∙◌, arith, subst, append_assoc, append-nil, slice_index_or, All, AllPairs, Contains}
use Rattle.std.specs.Prelude.{IsNone, is_none}
use Rattle.std.specs.declared.option.Option.{Option}
use Rattle.std.specs.declared.result.Result.{Result}
use Rattle.std.proofs.lemmas.List.{map-append}
use Rattle.std.proofs.lemmas.List.Elements.{All-append, All-cons, All-contains_itself, All-filter, All-head, All-map, All-nil, All-tail, All-weaker, Contains-append_left, Contains-append_right, filter_map-append, filter_passes}
use Rattle.std.proofs.lemmas.List.Kept.{AllPairs-cons}
use Rattle.port_io.specs.Port.{sent}
use Rattle.port_io.specs.Traffic.{Goes}
use Rattle.port_io.specs.declared.port.TapeByte.{TapeByte}
use Rattle.port_io.proofs.Traffic.{goes_both}
use Rattle.syndrome_source.specs.declared.error.RowError.{RowError}
use Rattle.surface_model.specs.Schedules.{Schedule}
use Rattle.window_model.specs.Decoder.{Task, Syndrome, Step, Arrive, Commit, Release, Decoder, start, after, after_all, operation_at, IsRun, IsRunFrom}
use Rattle.window_model.specs.Progress.{Progress, Fits, IsProgress}
use Rattle.window_model.proofs.Sums.{at_set}
use Rattle.window_model.proofs.Updates.{set_same}
use Rattle.window_table.specs.Readings.{Readings, told_at}
use Rattle.slot_decoder.specs.Slots.{releases_in}
use Rattle.report_model.specs.Tapes.{Move, Take, Put, AreAllPut, AreInTime, IsPut, IsTimed, bytes_of, put_of, take_of}
use Rattle.report_model.specs.Tasks.{labels_of, syndrome_of}
use Rattle.report_model.specs.Texts.{release_line}
use Rattle.run_rounds.specs.Moves.{begun_after, put_moves, puts_of, releases_of}
use Rattle.run_rounds.specs.Releases.{ArePutPartly}
use Rattle.run_rounds.specs.Rounds.{AreRead, AreRounds}
use Rattle.run_rounds.specs.declared.release.PutError.{PutError}
use Rattle.run_rounds.specs.declared.release.PutError.TheVariants.{WriteFault, Memory}
use Rattle.run_rounds.proofs.Moving.{moves_put, takes_put, timed_put}
use Rattle.run_rounds.proofs.Putting.{AreOnce, front_all, front_once, pairs, release_found, release_is_in, releases_once}
use Rattle.decode_rounds.specs.Courses.{IsBrokenOff, IsPartWay, IsReadThrough}
use Rattle.decode_rounds.specs.Seats.{HasCome, HasEnded, IsToldAs, untold}
use Rattle.decode_rounds.proofs.Courses.{same_releases}
use Rattle.decode_rounds.proofs.Tellings.{IsOther, none_some, others}

-- ---- a run releases an operation once

keeps : (task : Task) (s : Syndrome) (d : Decoder) (steps : List Step) (op : ℕ) (bit : Bool) →
    IsRunFrom task s d steps → d.released op ≡ Some bit → (after_all d steps).released op ≡ Some bit
keeps task s d [] op bit run e = e
keeps task s d (Arrive slot ∷ steps) op bit run e =
    keeps task s (after d (Arrive slot)) steps op bit run.1 e
keeps task s d (Commit window set ∷ steps) op bit run e =
    keeps task s (after d (Commit window set)) steps op bit run.1 e
keeps task s d (Release o b ∷ steps) op bit run e =
    keeps task s (after d (Release o b)) steps op bit run.1
    (at_set (λ (v : Option Bool). v ≡ Some bit) d.released o (Some b) op
    (λ here. absurd (none_some (d.released o) bit run.0.open_
    (subst (λ n. d.released n ≡ Some bit) here e))) (inl e))

stands : (task : Task) (s : Syndrome) (d : Decoder) (steps : List Step) (op : ℕ) (bit : Bool) →
    IsRunFrom task s d steps → Contains steps (Release op bit) →
    (after_all d steps).released op ≡ Some bit
stands task s d [] op bit run (k, l, is) = absurd (omega (arith, l))
stands task s d (step ∷ steps) op bit run (zero, l, is) =
    keeps task s (after d step) steps op bit run.1
    (subst (λ x. (after d x).released op ≡ Some bit) (sym is) (set_same d.released op (Some bit)))
stands task s d (step ∷ steps) op bit run (suc k, l, is) =
    stands task s (after d step) steps op bit run.1 (k, omega (arith, l), is)

-- ---- lists of releases

is_none_none : (o : Option Bool) → is_none o ≡ true → IsNone o
is_none_none None e = refl
is_none_none (Some bit) e = let no : false ≡ true = e in cc

none_is_none : (o : Option Bool) → o ≡ None → is_none o ≡ true
none_is_none o e = ap (λ x. is_none x) e

once_filter : (p : ℕ × Bool → Bool) (xs : List (ℕ × Bool)) → AreOnce xs → AreOnce (filter p xs)
once_filter p [] once = tt
once_filter p (x ∷ xs) once = by (p x) (All-filter p (λ (q : ℕ × Bool). IsOther x.0 q.0) xs once.0)
    (once_filter p xs once.1)
  where
    by : (t : Bool) → All (λ (q : ℕ × Bool). IsOther x.0 q.0) (filter p xs) →
        AreOnce (filter p xs) → AreOnce (if t then x ∷ filter p xs else filter p xs)
    by true all rest = (all, rest)
    by false all rest = rest

pairs_append : (xs ys : List ℕ) → AllPairs IsOther xs → AllPairs IsOther ys →
    All (λ x. All (λ y. IsOther x y) ys) xs → AllPairs IsOther (xs ++ ys)
pairs_append [] ys one two cross = two
pairs_append (x ∷ xs) ys one two cross =
    AllPairs-cons IsOther x (xs ++ ys)
    (All-append (IsOther x) xs ys (λ k d l. one 0 (suc k) d (omega arith) (omega (arith, l)))
    (All-head (λ z. All (λ y. IsOther z y) ys) x xs cross))
    (pairs_append xs ys (λ i j d l m. one (suc i) (suc j) d (omega (arith, l)) (omega (arith, m)))
    two (All-tail (λ z. All (λ y. IsOther z y) ys) x xs cross))

puts_are : (rs : List (ℕ × Bool)) → puts_of (put_moves rs) ≡ rs
puts_are [] = refl
puts_are (q ∷ rs) = ap (λ l. q ∷ l) (puts_are rs)

untold_ops : (r : Readings) (rs : List (ℕ × Bool)) →
    All (λ (q : ℕ × Bool). is_none (told_at r q.0) ≡ true) rs →
    All (λ o. IsNone (told_at r o)) (filter_map put_of (put_moves rs))
untold_ops r [] all = All-nil (λ o. IsNone (told_at r o))
untold_ops r (q ∷ rs) all =
    All-cons (λ o. IsNone (told_at r o)) q.0 (filter_map put_of (put_moves rs))
    (is_none_none (told_at r q.0)
    (All-head (λ (p : ℕ × Bool). is_none (told_at r p.0) ≡ true) q rs all))
    (untold_ops r rs (All-tail (λ (p : ℕ × Bool). is_none (told_at r p.0) ≡ true) q rs all))

kept_in : (p : ℕ × Bool → Bool) (xs : List (ℕ × Bool)) (x : ℕ × Bool) → p x ≡ true →
    Contains xs x → Contains (filter p xs) x
kept_in p [] x passes (k, l, is) = absurd (omega (arith, l))
kept_in p (y ∷ xs) x passes (zero, l, is) =
    subst (λ t. Contains (if t then y ∷ filter p xs else filter p xs) x)
    (sym (subst (λ z. p z ≡ true) (sym is) passes)) (0, omega arith, is)
kept_in p (y ∷ xs) x passes (suc k, l, is) =
    by (p y) (kept_in p xs x passes (k, omega (arith, l), is))
  where
    by : (t : Bool) → Contains (filter p xs) x →
        Contains (if t then y ∷ filter p xs else filter p xs) x
    by true (j, m, e) = (suc j, omega (arith, m), e)
    by false has = has

put_in_moves : (rs : List (ℕ × Bool)) (op : ℕ) (bit : Bool) → Contains rs (op, bit) →
    Contains (put_moves rs) (Put op bit)
put_in_moves [] op bit (k, l, is) = absurd (omega (arith, l))
put_in_moves (q ∷ rs) op bit (zero, l, is) =
    (0, omega arith, ap (λ (p : ℕ × Bool). Put p.0 p.1) is)
put_in_moves (q ∷ rs) op bit (suc k, l, is) =
    let has = put_in_moves rs op bit (k, omega (arith, l), is) in
    (suc has.0, (let m = has.1 in omega (arith, m)), has.2)

-- ---- the end

module _ (task : Task) (s : Schedule) (r : Readings) (d : Progress) (come : HasCome task r d)
    (progress : IsProgress d) (releases : List (ℕ × Bool))
    (releases_are : releases ≡ releases_in d.steps)
    (ranges : All (λ (q : ℕ × Bool). q.0 < length task.operations) releases)
    (end : Result (Unit {0}) RowError) (a b c : Option (List ℕ)) (t u v : Option (List TapeByte))
    (is : HasEnded task s a b t u r end) (same : c ≡ b) where
  abbrev labels : List (List ℕ)
  labels = labels_of s

  abbrev left : List (ℕ × Bool)
  left = untold r releases

  fits : Fits (syndrome_of s is.rows) d
  fits = come.fits (syndrome_of s is.rows) is.given

  run : IsRun task (syndrome_of s is.rows) d.steps
  run = subst (λ k. IsRun k (syndrome_of s is.rows) d.steps) come.task_is
      (progress.runs (syndrome_of s is.rows) fits)

  arrived : (after_all start d.steps).arrived ≡ length is.rows
  arrived = progress.arrived ∙ come.arrived ∙ is.brought

  -- each of them is one of the run
  are_released : All (λ (q : ℕ × Bool). Contains d.steps (Release q.0 q.1)) releases
  are_released =
      subst (λ l. All (λ (q : ℕ × Bool). Contains d.steps (Release q.0 q.1)) l)
      (sym (releases_are ∙ same_releases d.steps))
      (All-weaker (Contains (releases_of d.steps))
      (λ (q : ℕ × Bool). Contains d.steps (Release q.0 q.1))
      (λ (q : ℕ × Bool) has. release_found d.steps q.0 q.1 has) (releases_of d.steps)
      (All-contains_itself (releases_of d.steps)))

  once_left : AreOnce left
  once_left = once_filter (λ (q : ℕ × Bool). is_none (told_at r q.0)) releases
      (subst AreOnce (sym (releases_are ∙ same_releases d.steps))
      (releases_once task (syndrome_of s is.rows) start d.steps run))

  told_is_put : (move : Move) → IsToldAs r move → IsPut d.steps move
  told_is_put (Take byte) told = tt
  told_is_put (Put op bit) told = come.released op bit told

  -- some of them were put
  module _ (done rest : List (ℕ × Bool)) (split : left ≡ done ++ rest) where
    abbrev moves_now : List Move
    moves_now = is.moves ++ put_moves done

    front : (P : ℕ × Bool → Type 0) → All P left → All P done
    front P all = front_all P done rest (subst (All P) split all)

    none_told : All (λ (q : ℕ × Bool). is_none (told_at r q.0) ≡ true) done
    none_told = front (λ (q : ℕ × Bool). is_none (told_at r q.0) ≡ true)
        (filter_passes (λ (q : ℕ × Bool). is_none (told_at r q.0)) releases)

    released_now : All (IsPut d.steps) moves_now
    released_now =
        All-append (IsPut d.steps) is.moves (put_moves done)
        (All-weaker (IsToldAs r) (IsPut d.steps) told_is_put is.moves is.put.each)
        (All-map (IsPut d.steps) (λ (q : ℕ × Bool). Put q.0 q.1) done
        (front (λ (q : ℕ × Bool). Contains d.steps (Release q.0 q.1))
        (All-filter (λ (q : ℕ × Bool). is_none (told_at r q.0))
        (λ (q : ℕ × Bool). Contains d.steps (Release q.0 q.1)) releases are_released)))

    once_done : AllPairs IsOther (filter_map put_of (put_moves done))
    once_done = pairs (put_moves done) (subst AreOnce (sym (puts_are done))
        (front_once done rest (subst AreOnce split once_left)))

    cross : All (λ x. All (λ y. IsOther x y) (filter_map put_of (put_moves done)))
        (filter_map put_of is.moves)
    cross i e l j f m =
        others r (slice_index_or (filter_map put_of (put_moves done)) j f)
        (untold_ops r done none_told j f m) is.moves is.put.each i e l

    once_now : AllPairs IsOther (filter_map put_of moves_now)
    once_now = subst (AllPairs IsOther) (sym (filter_map-append put_of is.moves (put_moves done)))
        (pairs_append (filter_map put_of is.moves) (filter_map put_of (put_moves done))
        is.put.once once_done cross)

    not_late :
        All (λ (q : ℕ × Bool). begun_after 0 true is.moves ≤ (operation_at task q.0).slot) done
    not_late k e l =
        let q = slice_index_or done k e in
        is.late q.0 (front (λ (p : ℕ × Bool). p.0 < length task.operations)
        (All-filter (λ (p : ℕ × Bool). is_none (told_at r p.0))
        (λ (p : ℕ × Bool). p.0 < length task.operations) releases ranges) k e l)
        (is_none_none (told_at r q.0) (none_told k e l))

    timed_now : IsTimed task 0 true moves_now
    timed_now = timed_put task is.moves done is.timed not_late

    abbrev in_time : AreInTime task d.steps moves_now
    in_time = record { released = released_now; once = once_now; timed = timed_now }

    rounds_now : AreRounds s (filter_map take_of moves_now) c is.rows end
    rounds_now =
        subst (λ l. AreRounds s l c is.rows end) (sym (takes_put is.moves done))
        (subst (λ o. AreRounds s (filter_map take_of is.moves) o is.rows end) (sym same) is.rounds)

    abbrev part_way : IsPartWay s task c moves_now
    part_way = record {
      rows = is.rows;
      read = inr (end, rounds_now);
      steps = d.steps;
      run = run;
      arrived = let e = arrived in omega (arith, e);
      in_time = in_time;
    }

    goes_now : Goes (flat_map (bytes_of labels) (put_moves done)) b c u v →
        Goes (flat_map (bytes_of labels) moves_now) a c t v
    goes_now goes =
        subst (λ items. Goes items a c t v) (sym (moves_put labels is.moves done))
        (goes_both (flat_map (bytes_of labels) is.moves)
        (flat_map (bytes_of labels) (put_moves done)) a b c t u v is.goes goes)

  -- each release of the run is put
  all_there : AreAllPut d.steps (is.moves ++ put_moves left)
  all_there op bit has = by (told_at r op) refl
    where
      by : (o : Option Bool) → told_at r op ≡ o →
          Contains (is.moves ++ put_moves left) (Put op bit)
      by None e =
          Contains-append_right is.moves (put_moves left) (Put op bit)
          (put_in_moves left op bit
          (kept_in (λ (q : ℕ × Bool). is_none (told_at r q.0)) releases (op, bit)
          (none_is_none (told_at r op) e)
          (subst (λ l. Contains l (op, bit)) (sym (releases_are ∙ same_releases d.steps))
          (release_is_in d.steps op bit has))))
      by (Some other) e =
          let one = stands task (syndrome_of s is.rows) start d.steps op bit run has in
          let two = stands task (syndrome_of s is.rows) start d.steps op other run
          (come.released op other e) in
          let some : Some other ≡ Some bit = sym two ∙ one in
          let bits : other ≡ bit = cc in
          Contains-append_left is.moves (put_moves left) (Put op bit)
          (subst (λ x. Contains is.moves (Put op x)) bits (is.all_put op other e))

  pub read_so : Goes (flat_map (bytes_of labels) (put_moves left)) b c u v →
      IsReadThrough s task a c t v d end
  read_so goes = record {
    moves = is.moves ++ put_moves left;
    rows = is.rows;
    goes = goes_now left [] (sym (append-nil left)) goes;
    rounds = rounds_now left [] (sym (append-nil left));
    arrived = come.arrived ∙ is.brought;
    fits = fits;
    in_time = in_time left [] (sym (append-nil left));
    all_put = all_there;
  }

  pub broken_so : (error : PutError) → ArePutPartly labels left error b c u v →
      IsBrokenOff s task error a c t v
  broken_so WriteFault (done, op, bit, rest, count, split, goes) =
      let line = sent (take count (release_line labels op bit)) in
      let one = done ++ (op, bit) ∷ [] in
      let way = part_way one rest (split ∙ sym (append_assoc done ((op, bit) ∷ []) rest)) in
      let moves_are : is.moves ++ put_moves one ≡ (is.moves ++ put_moves done) ++ Put op bit ∷ [] =
      ap (λ l. is.moves ++ l) (map-append (λ (q : ℕ × Bool). Put q.0 q.1) done ((op, bit) ∷ []))
      ∙ sym (append_assoc is.moves (put_moves done) (Put op bit ∷ [])) in
      record {
        moves = is.moves ++ put_moves done;
        operation = op;
        bit = bit;
        count = count;
        goes = subst (λ items. Goes items a c t v)
            (sym (append_assoc (flat_map (bytes_of labels) is.moves)
            (flat_map (bytes_of labels) (put_moves done)) line)
            ∙ ap (λ l. l ++ line) (sym (moves_put labels is.moves done)))
            (goes_both (flat_map (bytes_of labels) is.moves)
            (flat_map (bytes_of labels) (put_moves done) ++ line) a b c t u v is.goes goes);
        due = record {
          rows = way.rows;
          read = subst (λ l. AreRead s (filter_map take_of l) c way.rows) moves_are way.read;
          steps = way.steps;
          run = way.run;
          arrived = way.arrived;
          in_time = subst (AreInTime task way.steps) moves_are way.in_time;
        };
        all_arrived = arrived;
      }
  broken_so Memory (done, rest, split, goes) = (
    is.moves ++ put_moves done,
    part_way done rest split,
    goes_now done rest split goes,
  )
