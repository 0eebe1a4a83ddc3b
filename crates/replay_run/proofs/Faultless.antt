-- A replay whose input is good comes to its end.
use Rattle.std.proofs.Common.{◌≡◌, ◌⊎◌, inl, inr, ◌+◌, ◌++◌, ℕ, Bool, List, [], ◌∷◌, Some, None, refl, sym, ap, subst, ◌∙◌, append_assoc, append-nil}
use Rattle.surface_model.specs.Layout.{last_slot}
use Rattle.surface_model.specs.Reading.{EndedAt, Good, Reading, RowFault, Trailing, at_end, reading_before_more, reading_of}
use Rattle.surface_model.specs.Schedules.{Schedule}
use Rattle.syndrome_source.specs.Rows.{kind_of}
use Rattle.syndrome_source.specs.declared.error.RowError.{RowError}
use Rattle.syndrome_source.specs.declared.error.RowError.TheVariants as row
use Rattle.run_rounds.specs.Courses.{with_rows}
use Rattle.run_rounds.specs.Fed.{AreAllFed, AreUnfed, rows_before_more}
use Rattle.run_rounds.specs.Rounds.{rounds_of}
use Rattle.run_rounds.proofs.Courses.{no_lengths}
use Rattle.replay_model.specs.Replays.{IsReplay}
use Rattle.replay_model.specs.Scripts.{Begun, Ended as NotWhole, Unfit, due_from, due_line, script_of}
use Rattle.script_reader.specs.declared.error.ScriptError.TheVariants as error
use Rattle.window_model.specs.Speculation.{Event}
use Rattle.replay_run.specs.declared.end.End.{End}
use Rattle.replay_run.specs.declared.end.End.TheVariants.{Complete, Row, Ended, ReadFault, Script}
use Rattle.replay_run.specs.Scripts.{IsFaultless}
use Rattle.replay_run.specs.Readings.{IsCutAt, IsUnbegun, due_number, end_of_rows}
use Rattle.replay_run.specs.Replies.{IsReadSo, IsReplayOf, IsReplayedTo, IsReplied, Subject, stage_on}

-- ---- fronts of one list

-- of two fronts of one list, one is a front of the other
fronts : (a b x y : List ℕ) → a ++ x ≡ b ++ y →
    ((z : List ℕ) × (a ≡ b ++ z)) ⊎ ((z : List ℕ) × (b ≡ a ++ z))
fronts [] b x y e = inr (b, refl)
fronts (n ∷ a) [] x y e = inl (n ∷ a, refl)
fronts (n ∷ a) (m ∷ b) x y e =
    let first : n ≡ m = cc in
    let others : a ++ x ≡ b ++ y = cc in elim (fronts a b x y others) [
      | inl more ↦ inl (more.0, ap (λ k. k ∷ a) first ∙ ap (λ l. m ∷ l) more.1)
      | inr more ↦ inr (more.0, ap (λ k. k ∷ b) (sym first) ∙ ap (λ l. n ∷ l) more.1)
    ]

cancel : (xs a b : List ℕ) → xs ++ a ≡ xs ++ b → a ≡ b
cancel [] a b e = e
cancel (x ∷ xs) a b e = cancel xs a b (let h : xs ++ a ≡ xs ++ b = cc in h)

-- ---- all rows

-- the rows of all slots read well, whatever follows
fed_reads : (s : Schedule) (front rest : List ℕ) (rows : List (List Bool)) →
    AreAllFed s front rows →
    rows_before_more s (front ++ rest) ≡ record { rows = rows; ending = Good }
fed_reads s front rest rows fed =
    let now = s.rounds_line + 1 + (last_slot s + 1) in
    fed.feeds rest
    ∙ ap (λ l. with_rows rows (reading_before_more l now rest)) (no_lengths s)
    ∙ ap (λ l. record { rows = l; ending = Good }) (append-nil rows)

-- where they are all, so that a further byte is one too many
fed_whole : (s : Schedule) (front rest : List ℕ) (rows : List (List Bool)) →
    AreAllFed s front rows →
    (rounds_of s (front ++ rest)).ending
    ≡ (at_end (s.rounds_line + 1 + (last_slot s + 1)) rest).ending
fed_whole s front rest rows fed =
    let now = s.rounds_line + 1 + (last_slot s + 1) in
    ap (λ (r : Reading). r.ending) (fed.reads rest
    ∙ ap (λ l. with_rows rows (reading_of l now rest)) (no_lengths s))

no_longer : (s : Schedule) (front z : List ℕ) (rows rows' : List (List Bool)) →
    AreAllFed s front rows → AreAllFed s (front ++ z) rows' → z ≡ []
no_longer s front [] rows rows' fed more = refl
no_longer s front (x ∷ z) rows rows' fed more =
    let long = fed_whole s front (x ∷ z) rows fed in
    let whole = ap (λ l. (rounds_of s l).ending) (sym (append-nil (front ++ x ∷ z)))
    ∙ fed_whole s (front ++ x ∷ z) [] rows' more in
    absurd (let no : RowFault (s.rounds_line + 1 + (last_slot s + 1)) Trailing ≡ Good =
    sym long ∙ whole in cc)

-- the rows of all slots are one front of what they begin
same_front : (s : Schedule) (front other x y : List ℕ) (rows rows' : List (List Bool)) →
    AreAllFed s front rows → AreAllFed s other rows' → front ++ x ≡ other ++ y → front ≡ other
same_front s front other x y rows rows' fed fed' e = elim (fronts front other x y e) [
  | inl more ↦
      let none = no_longer s other more.0 rows' rows fed'
      (subst (λ l. AreAllFed s l rows) more.1 fed) in
      more.1 ∙ ap (λ z. other ++ z) none ∙ append-nil other
  | inr more ↦
      let none = no_longer s front more.0 rows rows' fed
      (subst (λ l. AreAllFed s l rows') more.1 fed') in
      sym (more.1 ∙ ap (λ z. front ++ z) none ∙ append-nil front)
]

same_rows : (s : Schedule) (front : List ℕ) (rows rows' : List (List Bool)) →
    AreAllFed s front rows → AreAllFed s front rows' → rows ≡ rows'
same_rows s front rows rows' fed fed' =
    ap (λ (r : Reading). r.rows)
    (sym (fed_reads s front [] rows fed) ∙ fed_reads s front [] rows' fed')

-- ---- a good input

module _ (r : Subject) (rows : List (List Bool)) (front script bytes rest : List ℕ)
    (fed : AreAllFed r.schedule front rows)
    (good : IsFaultless (stage_on r rows) (due_number r.schedule + 1) script)
    (is : front ++ due_line ++ script ≡ bytes ++ rest) where
  abbrev s : Schedule
  s = r.schedule

  split : front ++ (due_line ++ script) ≡ bytes ++ rest
  split = sym (append_assoc front due_line script) ∙ is

  reads_well : rows_before_more s (bytes ++ rest) ≡ record { rows = rows; ending = Good }
  reads_well = ap (rows_before_more s) (sym split) ∙ fed_reads s front (due_line ++ script) rows fed

  -- no row is at fault
  all_rows : (rows' : List (List Bool)) (e : RowError) → AreUnfed s bytes (Some rest) rows' e →
      e ≡ row.ReadFault
  all_rows rows' (row.Fault line kind) unfed =
      let no : Good ≡ RowFault line (kind_of kind) =
      ap (λ (k : Reading). k.ending) (sym reads_well ∙ unfed.wrong rest) in absurd cc
  all_rows rows' (row.Ended line) unfed =
      let no : Good ≡ EndedAt line =
      ap (λ (k : Reading). k.ending) (sym reads_well
      ∙ ap (λ l. rows_before_more s (bytes ++ l)) unfed.0
      ∙ ap (rows_before_more s) (append-nil bytes) ∙ unfed.1) in absurd cc
  all_rows rows' row.ReadFault unfed = refl
  all_rows rows' row.Memory unfed = absurd unfed

  -- the line `script` is there
  due_there : (front' due : List ℕ) (rows' : List (List Bool)) → bytes ≡ front' ++ due →
      AreAllFed s front' rows' → due ++ rest ≡ due_line ++ script
  due_there front' due rows' are fed' =
      let both : front ++ (due_line ++ script) ≡ front' ++ (due ++ rest) =
      split ∙ ap (λ l. l ++ rest) are ∙ append_assoc front' due rest in
      let same = same_front s front front' _ _ rows rows' fed fed' both in
      cancel front' (due ++ rest) (due_line ++ script) (sym both ∙ ap (λ l. l
      ++ (due_line ++ script)) same)

  due_taken : (front' due : List ℕ) (rows' : List (List Bool)) (how : End) →
      bytes ≡ front' ++ due → AreAllFed s front' rows' →
      IsCutAt (due_number s) due (Some rest) how → how ≡ ReadFault
  due_taken front' due rows' how are fed' (error.Fault line, which, why) =
      let no : Unfit ≡ Begun script = sym (why.1.unfit rest)
      ∙ ap (due_from due_line) (due_there front' due rows' are fed') in absurd cc
  due_taken front' due rows' how are fed' (error.Ended line, which, why) =
      let no : NotWhole ≡ Begun script = sym why.2
      ∙ ap (due_from due_line) (sym (append-nil due) ∙ ap (λ l. due ++ l) (sym why.1)
      ∙ due_there front' due rows' are fed') in absurd cc
  due_taken front' due rows' how are fed' (error.ReadFault, which, why) = which

  unbegun : (rows' : List (List Bool)) (how : End) → IsUnbegun s bytes (Some rest) rows' how →
      how ≡ ReadFault
  unbegun rows' how (inl (e, which, unfed)) = which ∙ ap end_of_rows (all_rows rows' e unfed)
  unbegun rows' how (inr (front', due, are, fed', cut)) =
      due_taken front' due rows' how are fed' cut

  -- no line of the script is at fault
  no_fault : (script' : List ℕ) (events : List Event) (printed : List ℕ) (line : ℕ) →
      script' ++ rest ≡ script →
      IsReplayOf (stage_on r rows) (due_number s + 1) script' (Some rest) events printed
      (Some line) →
      ⊥
  no_fault script' events printed line same (inl always) =
      let no : Some line ≡ None = good events printed (Some line)
      (subst (λ l. IsReplay (stage_on r rows) (script_of (due_number s + 1) l) (due_number s + 1)
      events printed (Some line)) same (always rest)) in cc
  no_fault script' events printed line same (inr last) =
      let all : script' ≡ script = sym (append-nil script') ∙ ap (λ l. script' ++ l) (sym last.0)
      ∙ same in
      let no : Some line ≡ None = good events printed (Some line)
      (subst (λ l. IsReplay (stage_on r rows) (script_of (due_number s + 1) l) (due_number s + 1)
      events printed (Some line)) all last.1) in cc

  played : (script' : List ℕ) (events : List Event) (printed : List ℕ) (how : End) →
      script' ++ rest ≡ script →
      IsReplayedTo (stage_on r rows) (due_number s + 1) script' (Some rest) events printed how →
      (how ≡ Complete) ⊎ (how ≡ ReadFault)
  played script' events printed Complete same to = inl refl
  played script' events printed ReadFault same to = inr refl
  played script' events printed (Script line) same to =
      absurd (no_fault script' events printed line same to.1)
  played script' events printed (Row line kind) same to = absurd to
  played script' events printed (Ended line) same to = absurd to

  read_good : (rows' : List (List Bool)) (events : List Event) (printed : List ℕ) (how : End) →
      IsReadSo r bytes (Some rest) rows' events printed how → (how ≡ Complete) ⊎ (how ≡ ReadFault)
  read_good rows' events printed how (inl (none, nothing, un)) = inr (unbegun rows' how un)
  read_good rows' events printed how (inr (front', script', are, fed', to)) =
      let there = due_there front' (due_line ++ script') rows'
      (are ∙ append_assoc front' due_line script') fed' in
      let same : script' ++ rest ≡ script = cancel due_line (script' ++ rest) script
      (sym (append_assoc due_line script' rest) ∙ there) in
      let both : front ++ (due_line ++ script) ≡ front' ++ ((due_line ++ script') ++ rest) =
      split ∙ ap (λ l. l ++ rest) (are ∙ append_assoc front' due_line script')
      ∙ append_assoc front' (due_line ++ script') rest in
      let one = same_front s front front' _ _ rows rows' fed fed' both in
      let same_here = same_rows s front rows' rows
      (subst (λ l. AreAllFed s l rows') (sym one) fed') fed in
      played script' events printed how same (subst (λ l. IsReplayedTo (stage_on r l)
      (due_number s + 1) script' (Some rest) events printed how) same_here to)

-- Where the rows of all slots, the line `script` and a script without fault are left, a replay
-- comes to its end, or a take fails.
pub never_at_fault : (r : Subject) (rows : List (List Bool))
    (front script bytes rest text : List ℕ) (how : End) → AreAllFed r.schedule front rows →
    IsFaultless (stage_on r rows) (due_number r.schedule + 1) script →
    front ++ due_line ++ script ≡ bytes ++ rest → IsReplied r bytes (Some rest) how text →
    (how ≡ Complete) ⊎ (how ≡ ReadFault)
never_at_fault r rows front script bytes rest text how fed good is replied =
    read_good r rows front script bytes rest fed good is replied.rows replied.events replied.printed
    how replied.read
