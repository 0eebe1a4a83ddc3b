-- A bit that is told is put, or stops the reading.
use Rattle.std.proofs.Common.{◌≡◌, ◌≢◌, ◌≤◌, ◌<◌, ◌+◌, ◌⊎◌, ⊎_elim, inl, ℕ, Bool, true, false, List, [], ◌∷◌, ◌++◌, None, Some, Ok, Err, length, map, take, flat_map, filter_map, refl, sym, ap, ◌∙◌, arith, subst, append_assoc, append-nil, All, AllPairs, Contains, IsSome}
use Rattle.std.specs.Prelude.{IsNone}
use Rattle.std.specs.declared.option.Option.{Option}
use Rattle.std.specs.declared.result.Result.{Result}
use Rattle.std.proofs.lemmas.Bool.{cases_eq, cases_lt}
use Rattle.std.proofs.lemmas.List.{get_or-set_same, get_or-set_other}
use Rattle.std.proofs.lemmas.List.Elements.{All-append, All-cons, All-head, All-nil, All-tail, All-weaker, Contains-append_left, Contains-push, filter_map-append}
use Rattle.std.proofs.lemmas.List.Quantifiers.{all_pairs_push}
use Rattle.std.specs.Result.{IfErr, IfOk}
use Rattle.port_io.specs.Port.{sent}
use Rattle.port_io.specs.Traffic.{Goes}
use Rattle.port_io.specs.declared.port.TapeByte.{TapeByte}
use Rattle.port_io.proofs.Traffic.{goes_both}
use Rattle.surface_model.specs.Schedules.{CondLine}
use Rattle.window_model.specs.Decoder.{Task, operation_at}
use Rattle.window_table.specs.Readings.{Readings, told_at, with_bit}
use Rattle.report_model.specs.Tapes.{Move, Take, Put, IsTimed, bytes_of, put_of, take_of}
use Rattle.report_model.specs.Tasks.{labels_of, syndrome_of}
use Rattle.report_model.specs.Texts.{release_line}
use Rattle.run_rounds.specs.Courses.{IsReadTo}
use Rattle.run_rounds.specs.Moves.{begun_after, put_moves}
use Rattle.run_rounds.specs.Releases.{IsLineCut}
use Rattle.run_rounds.specs.Rounds.{AreSoFar}
use Rattle.run_rounds.specs.Slots.{At}
use Rattle.run_rounds.specs.declared.release.PutError.{PutError}
use Rattle.run_rounds.specs.declared.release.PutError.TheVariants.{WriteFault, Memory}
use Rattle.run_rounds.proofs.Courses.{read_put, so_far_read}
use Rattle.run_rounds.proofs.Moving.{moves_put, takes_put, timed_put}
use Rattle.decode_rounds.specs.Seats.{ArePutAsTold, AreToldPut, HasTold, IsAtSlot, IsGiven, IsLeft, IsOnWay, IsSeated, IsToldAs}

-- ---- bits that were told

pub none_some : (o : Option Bool) (bit : Bool) → IsNone o → o ≡ Some bit → ⊥
none_some o bit none e = let no : true ≡ false = subst (λ x. IsNone x) e none in cc

pub some_none : (o : Option Bool) → IsSome o → IsNone o → ⊥
some_none None some none = let no : false ≡ true = some in cc
some_none (Some bit) some none = let no : true ≡ false = none in cc

abbrev pub IsOther : ℕ → ℕ → Type 0
IsOther a b = a ≡ b → ⊥

-- the operations of bits that were told are others than one that wasn't
pub others : (r : Readings) (op : ℕ) → IsNone (told_at r op) → (moves : List Move) →
    All (IsToldAs r) moves → All (λ o. IsOther o op) (filter_map put_of moves)
others r op none [] all = All-nil (λ o. IsOther o op)
others r op none (Take byte ∷ moves) all =
    others r op none moves (All-tail (IsToldAs r) (Take byte) moves all)
others r op none (Put o bit ∷ moves) all =
    All-cons (λ n. IsOther n op) o (filter_map put_of moves)
    (λ e. none_some (told_at r op) bit none (subst (λ n. told_at r n ≡ Some bit) e
    (All-head (IsToldAs r) (Put o bit) moves all)))
    (others r op none moves (All-tail (IsToldAs r) (Put o bit) moves all))

-- ---- one bit more

module _ (r : Readings) (op : ℕ) (bit : Bool) (in_range : op < length r.told)
    (untold : IsNone (told_at r op)) where
  abbrev new : Readings
  new = with_bit r op bit

  pub told_here : told_at new op ≡ Some bit
  told_here = get_or-set_same r.told op (Some bit) None in_range

  told_there : (o : ℕ) → o ≢ op → told_at new o ≡ told_at r o
  told_there o other = get_or-set_other r.told op o (Some bit) None other

  stays : (o : ℕ) (b : Bool) → told_at r o ≡ Some b → told_at new o ≡ Some b
  stays o b told =
      ⊎_elim
      (λ e. absurd (none_some (told_at r op) b untold (subst (λ n. told_at r n ≡ Some b) e told)))
      (λ other. told_there o other ∙ told) (cases_eq o op)

  pub kept : (o : ℕ) → IsSome (told_at r o) → IsSome (told_at new o)
  kept o some =
      ⊎_elim
      (λ e. subst (λ (x : Option Bool). IsSome x) (sym (ap (told_at new) e ∙ told_here)) refl)
      (λ other. subst (λ (x : Option Bool). IsSome x) (sym (told_there o other)) some)
      (cases_eq o op)

  as_told : (move : Move) → IsToldAs r move → IsToldAs new move
  as_told (Take byte) is = tt
  as_told (Put o b) is = stays o b is

  pub put_so : (moves : List Move) → ArePutAsTold r moves → ArePutAsTold new moves
  put_so moves put_ = record {
    each = All-weaker (IsToldAs r) (IsToldAs new) as_told moves put_.each;
    once = put_.once;
  }

  pub put_more : (moves : List Move) → ArePutAsTold r moves →
      ArePutAsTold new (moves ++ Put op bit ∷ [])
  put_more moves put_ = record {
    each = All-append (IsToldAs new) moves (Put op bit ∷ [])
        (All-weaker (IsToldAs r) (IsToldAs new) as_told moves put_.each)
        (All-cons (IsToldAs new) (Put op bit) [] told_here (All-nil (IsToldAs new)));
    once = subst (AllPairs IsOther) (sym (filter_map-append put_of moves (Put op bit ∷ [])))
        (all_pairs_push IsOther (filter_map put_of moves) op put_.once
        (others r op untold moves put_.each));
  }

  pub all_more : (moves : List Move) → AreToldPut r moves →
      AreToldPut new (moves ++ Put op bit ∷ [])
  all_more moves all o b told =
      ⊎_elim
      (λ e.
      let same : Some bit ≡ Some b = sym told_here ∙ ap (told_at new) (sym e) ∙ told in
      let bits : bit ≡ b = cc in
      subst (λ (m : Move). Contains (moves ++ Put op bit ∷ []) m)
      (ap (λ x. Put op x) bits ∙ ap (λ n. Put n b) (sym e)) (Contains-push moves (Put op bit)))
      (λ other. Contains-append_left moves (Put op bit ∷ []) (Put o b)
      (all o b (sym (told_there o other) ∙ told))) (cases_eq o op)

-- ---- at the seat

pub at_slot_so : (task : Task) (at : At) (r r' : Readings) → r'.given ≡ r.given →
    ((op : ℕ) → IsSome (told_at r op) → IsSome (told_at r' op)) → IsAtSlot task at r →
    IsAtSlot task at r'
at_slot_so task at r r' same kept_ is = record {
  each_slot = ap length same ∙ is.each_slot;
  before = is.before;
  told = λ op l early. kept_ op (is.told op l early);
}

-- nothing was told, or nothing more
pub told_none : (task : Task) (at : At) (r : Readings) (left : Option (List ℕ))
    (tape : Option (List TapeByte)) →
    HasTold {A = Unit {0}} task at r r left left tape tape (Ok tt)
told_none task at r left tape = record {
  given = refl;
  kept = λ op some. some;
  seated = λ first begin is. is;
  stopped = tt;
}

pub told_both : {A : Type 0} (task : Task) (at : At) (r r' r'' : Readings)
    (a b c : Option (List ℕ)) (t u v : Option (List TapeByte)) (result : Result A PutError) →
    HasTold {A = Unit {0}} task at r r' a b t u (Ok tt) →
    HasTold task at r' r'' b c u v result → HasTold task at r r'' a c t v result
told_both task at r r' r'' a b c t u v (Ok x) one two = record {
  given = two.given ∙ one.given;
  kept = λ op some. two.kept op (one.kept op some);
  seated = λ first begin is. two.seated first begin (one.seated first begin is);
  stopped = tt;
}
told_both task at r r' r'' a b c t u v (Err error) one two = record {
  given = two.given ∙ one.given;
  kept = λ op some. two.kept op (one.kept op some);
  seated = tt;
  stopped = λ first begin is. two.stopped first begin (one.seated first begin is);
}

-- the rows so far were brought, and these moves took them
module _ (task : Task) (at : At) (r r' : Readings) (a b c : Option (List ℕ))
    (t u : Option (List TapeByte)) (at_slot : IsAtSlot task at r)
    (is : IsSeated task at a b t u r) (same : c ≡ b) (given : r'.given ≡ r.given) where
  abbrev pub on_way : (moves : List Move) →
      filter_map take_of moves ≡ filter_map take_of is.so_far.moves →
      ArePutAsTold r' moves → IsTimed task 0 true moves → IsOnWay task at.schedule c r' moves
  on_way moves takes put_ timed = record {
    rows = is.so_far.rows;
    read = inl (subst (λ l. AreSoFar at.schedule l c is.so_far.rows) (sym takes)
        (subst (λ left. AreSoFar at.schedule (filter_map take_of is.so_far.moves) left
        is.so_far.rows) (sym same) (so_far_read (labels_of at.schedule) at a b t u is.so_far)));
    given = subst (λ l. All (IsGiven task (syndrome_of at.schedule is.so_far.rows)) l) (sym given)
        (subst (λ rows. All (IsGiven task (syndrome_of at.schedule rows)) r.given)
        (append-nil is.so_far.rows) (is.given []));
    brought = let one = ap length given in let two = at_slot.each_slot in
        let three = is.so_far.each_slot in omega (arith, one, two, three);
    put = put_;
    timed = timed;
  }

-- want of memory at the table
pub unheard : (task : Task) (at : At) (r : Readings) (left : Option (List ℕ))
    (tape : Option (List TapeByte)) → IsAtSlot task at r →
    HasTold {A = Unit {0}} task at r r left left tape tape (Err Memory)
unheard task at r left tape at_slot = record {
  given = refl;
  kept = λ op some. some;
  seated = tt;
  stopped = λ first begin is. (
    is.so_far.moves,
    on_way task at r r first left left begin tape at_slot is refl refl is.so_far.moves refl is.put
        is.timed,
    is.so_far.goes,
  );
}

-- the line of a bit that is told is put, or is cut
module _ (task : Task) (at : At) (r : Readings) (op : ℕ) (bit : Bool)
    (in_range : op < length r.told) (known : op < length task.operations)
    (untold : IsNone (told_at r op)) (at_slot : IsAtSlot task at r) (b c : Option (List ℕ))
    (u v : Option (List TapeByte)) (same : c ≡ b) where
  abbrev labels : List (List ℕ)
  labels = labels_of at.schedule

  abbrev told : Readings
  told = with_bit r op bit

  abbrev one : List (ℕ × Bool)
  one = (op, bit) ∷ []

  -- its slot has not begun
  not_early : at.slot ≤ (operation_at task op).slot
  not_early =
      ⊎_elim (λ early. absurd (some_none (told_at r op) (at_slot.told op known early) untold))
      (λ l. l) (cases_lt (operation_at task op).slot at.slot)

  timed_now : (first : Option (List ℕ)) (begin : Option (List TapeByte))
      (is : IsSeated task at first b begin u r) →
      IsTimed task 0 true (is.so_far.moves ++ Put op bit ∷ [])
  timed_now first begin is = timed_put task is.so_far.moves one is.timed
      (All-cons (λ (q : ℕ × Bool). begun_after 0 true is.so_far.moves
      ≤ (operation_at task q.0).slot) (op, bit) [] (let l = not_early in let m = is.so_far.begun in
      omega (arith, l, m)) (All-nil (λ (q : ℕ × Bool). begun_after 0 true is.so_far.moves
      ≤ (operation_at task q.0).slot)))

  line_is : flat_map (bytes_of labels) (put_moves one) ≡ sent (release_line labels op bit)
  line_is = append-nil (sent (release_line labels op bit))

  pub told_put : Goes (sent (release_line labels op bit)) b c u v →
      HasTold {A = Unit {0}} task at r told b c u v (Ok tt)
  told_put goes = record {
    given = refl;
    kept = kept r op bit in_range untold;
    seated = λ first begin is. record {
      so_far = read_put labels at one first b c begin u v is.so_far same
          (subst (λ items. Goes items b c u v) (sym line_is) goes);
      given = is.given;
      put = put_more r op bit in_range untold is.so_far.moves is.put;
      all_put = all_more r op bit in_range untold is.so_far.moves is.all_put;
      timed = timed_now first begin is;
    };
    stopped = tt;
  }

  pub told_cut : (error : PutError) → IsLineCut (release_line labels op bit) error b c u v →
      HasTold {A = Unit {0}} task at r told b c u v (Err error)
  told_cut WriteFault cut = record {
    given = refl;
    kept = kept r op bit in_range untold;
    seated = tt;
    stopped = λ first begin is. record {
      moves = is.so_far.moves;
      operation = op;
      bit = bit;
      count = cut.0;
      goes = goes_both (flat_map (bytes_of labels) is.so_far.moves)
          (sent (take cut.0 (release_line labels op bit))) first b c begin u v is.so_far.goes cut.1;
      due = on_way task at r told first b c begin u at_slot is same refl
          (is.so_far.moves ++ Put op bit ∷ []) (takes_put is.so_far.moves one)
          (put_more r op bit in_range untold is.so_far.moves is.put) (timed_now first begin is);
      all_brought = at_slot.each_slot ∙ sym is.so_far.each_slot;
    };
  }
  told_cut Memory none = record {
    given = refl;
    kept = kept r op bit in_range untold;
    seated = tt;
    stopped = λ first begin is. (
      is.so_far.moves,
      on_way task at r told first b c begin u at_slot is same refl is.so_far.moves refl
          (put_so r op bit in_range untold is.so_far.moves is.put) is.timed,
      subst (λ items. Goes items first c begin v)
          (append-nil (flat_map (bytes_of labels) is.so_far.moves))
          (goes_both (flat_map (bytes_of labels) is.so_far.moves) [] first b c begin u v
          is.so_far.goes none),
    );
  }

-- whichever it is
pub by_result : {A : Type 0} (task : Task) (at : At) (r : Readings) (op : ℕ) (bit : Bool) →
    length r.told ≡ length task.operations → op < length task.operations →
    IsNone (told_at r op) → IsAtSlot task at r → (conds : List CondLine) →
    conds ≡ at.schedule.conds → (b c : Option (List ℕ)) (u v : Option (List TapeByte)) → c ≡ b →
    (result : Result A PutError) →
    IfOk result (λ x. Goes (sent (release_line (map (λ (line : CondLine). line.label) conds) op
    bit)) b c u v) →
    IfErr result (λ error. IsLineCut (release_line (map (λ (line : CondLine). line.label) conds) op
    bit) error b c u v) →
    HasTold task at r (with_bit r op bit) b c u v result
by_result task at r op bit places known untold at_slot conds are b c u v same (Ok x) put_ cut =
    let in_range : op < length r.told = omega (arith, places, known) in
    let has = told_put task at r op bit in_range known untold at_slot b c u v same
    (subst (λ l. Goes (sent (release_line (map (λ (line : CondLine). line.label) l) op bit)) b c u
    v) are put_) in
    record {
      given = has.given;
      kept = has.kept;
      seated = has.seated;
      stopped = tt;
    }
by_result task at r op bit places known untold at_slot conds are b c u v same (Err error) put_ cut =
    let in_range : op < length r.told = omega (arith, places, known) in
    let has = told_cut task at r op bit in_range known untold at_slot b c u v same error
    (subst (λ l. IsLineCut (release_line (map (λ (line : CondLine). line.label) l) op bit) error b
    c u v) are cut) in
    record {
      given = has.given;
      kept = has.kept;
      seated = tt;
      stopped = has.stopped;
    }

-- one operation more, of those that are due
pub told_next : (task : Task) (r r' : Readings) (slot op : ℕ) →
    ((o : ℕ) → o < op → (operation_at task o).slot ≤ slot → IsSome (told_at r o)) →
    ((o : ℕ) → IsSome (told_at r o) → IsSome (told_at r' o)) →
    ((operation_at task op).slot ≤ slot → IsSome (told_at r' op)) →
    (o : ℕ) → o < op + 1 → (operation_at task o).slot ≤ slot → IsSome (told_at r' o)
told_next task r r' slot op below kept_ here o l due =
    ⊎_elim (λ e. subst (λ n. IsSome (told_at r' n)) (sym e)
    (here (subst (λ n. (operation_at task n).slot ≤ slot) e due)))
    (λ other. kept_ o (below o (omega (arith, l, other)) due)) (cases_eq o op)
