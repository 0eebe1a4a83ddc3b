-- What a replay says.
use Rattle.std.proofs.Common.{◌≡◌, ◌≢◌, ◌⊎◌, inl, inr, ◌+◌, ◌++◌, ℕ, Bool, List, [], length, take, Some, None, Ok, Err, refl, sym, ap, subst, ◌∙◌, ◌≤◌, append_assoc, append-nil, arith, All}
use Rattle.std.specs.declared.option.Option.{Option}
use Rattle.std.specs.declared.result.Result.{Result}
use Rattle.std.proofs.lemmas.List.{length-map, map-append}
use Rattle.std.proofs.lemmas.List.Elements.{All-nil}
use Rattle.detector_graph.specs.declared.folded.Folded.{Folded}
use Rattle.port_io.specs.Port.{Rose, sent}
use Rattle.port_io.specs.Traffic.{Goes, taken}
use Rattle.port_io.specs.declared.port.TapeByte.{TapeByte}
use Rattle.port_io.specs.declared.port.TapeByte.TheVariants.{Taken}
use Rattle.port_io.proofs.Traffic.{goes_both, goes_nothing}
use Rattle.port_io.proofs.Takings.{bytes_joined}
use Rattle.surface_model.specs.Schedules.{Schedule}
use Rattle.surface_model.specs.Measurements.{Observable, observables}
use Rattle.measure_map.specs.Placed.{map_of, placed_observable}
use Rattle.window_model.specs.declared.GuessView.{GuessView}
use Rattle.window_model.specs.Decoder.{Syndrome, Task}
use Rattle.window_model.specs.Speculation.{Event, IsBrought, start, visible}
use Rattle.window_model.specs.SpeculationLaws.{BroughtLaw}
use Rattle.window_setting.proofs.Lawful.{laws_of}
use Rattle.report_model.specs.Faults.{Fault}
use Rattle.report_model.specs.Outcomes.{fault_line, frames_where_done, output_of}
use Rattle.report_model.specs.Tasks.{HasTask, labels_of, names_of, syndrome_of}
use Rattle.report_model.specs.Texts.{log_of, summary_of}
use Rattle.core_state.specs.States.{CoreTable, IsState, events_of}
use Rattle.run_report.specs.Reports.{FitsCore, steps_of}
use Rattle.core_journal.specs.Entries.{history_of}
use Rattle.syndrome_source.specs.declared.error.RowError.{RowError}
use Rattle.syndrome_source.specs.declared.error.RowError.TheVariants as ends
use Rattle.run_rounds.specs.Fed.{AreAllFed, AreUnfed}
use Rattle.run_rounds.specs.declared.release.PutError.{PutError}
use Rattle.run_rounds.specs.declared.release.PutError.TheVariants.{WriteFault, Memory}
use Rattle.run_rounds.proofs.Values.{detectors_chosen, observables_chosen}
use Rattle.replay_model.specs.Replays.{IsReplay, Stage}
use Rattle.replay_model.specs.Scripts.{Script as Reading, due_line}
use Rattle.script_run.specs.Plays.{AreMeasured, Playing, stage_of}
use Rattle.replay_run.specs.declared.end.End.{End}
use Rattle.replay_run.specs.declared.end.End.TheVariants.{Complete, Ended, ReadFault, Row, Script}
use Rattle.replay_run.specs.Answers.{IsAnswered, IsNothingTold, IsScriptTold, subject}
use Rattle.replay_run.specs.Playings.{IsPlayedTo, IsTakenTo, IsUnplayed}
use Rattle.replay_run.specs.Readings.{AreFolded, IsCutAt, due_number, end_of_rows}
use Rattle.replay_run.specs.Replies.{IsReplayedTo, IsReplied, Subject, fault_at}
use Rattle.replay_run.proofs.Lines.{all_brought}

-- ---- the text

-- the line of a fault stands at the end
pub output_ends : (task : Task) (s : Syndrome) (labels names : List (List ℕ))
    (events : List Event) (printed : List ℕ) (fault : Option Fault) →
    (printed ++ output_of task s labels names (visible task events) None None)
    ++ fault_line fault
    ≡ printed ++ output_of task s labels names (visible task events) None fault
output_ends task s labels names events printed fault =
    let steps = visible task events in
    at_end printed (log_of labels steps) (frames_where_done task s names steps)
    (summary_of task s steps) (fault_line fault)
  where
    at_end : (front log frames summary line : List ℕ) →
        (front ++ (log ++ [] ++ frames ++ summary ++ [])) ++ line
        ≡ front ++ (log ++ [] ++ frames ++ summary ++ line)
    at_end front log frames summary line = simp (append_assoc, append-nil)

-- ---- what the rows give

-- the values of each slot were measured
pub are_measured : (s : Schedule) (task : Task) (rows : List (List Bool)) (items : List Folded) →
    HasTask s task → AreFolded s rows items → AreMeasured task (syndrome_of s rows) items
are_measured s task rows items is folded = record {
  each = folded.each ∙ ap (λ (k : Task). k.last_slot + 1) (sym is.1);
  brings = λ t f e.
      let here = folded.gives t f e in record {
        slot = here.slot;
        values = here.defects ∙ detectors_chosen s rows t task is;
        raws = here.raws ∙ observables_chosen s rows t task is;
      };
}

-- there is an observable for each raw value
pub each_raw : (s : Schedule) (task : Task) → HasTask s task →
    length (map_of s).observables ≡ length task.raw_slots
unfolding map_of
each_raw s task is =
    length-map (observables s) (placed_observable s)
    ∙ sym (ap (λ (t : Task). length t.raw_slots) is.1
    ∙ length-map (observables s) (λ (o : Observable). o.slot))

-- ---- the core has the values that the rows give

pub fits_core : BroughtLaw → (c : CoreTable) (s : Syndrome) → IsState c →
    All (IsBrought c.task s) (events_of c) → FitsCore c s
fits_core law c s state brought =
    law c.task c.retries (events_of c) s (laws_of c.task state.setting) state.history brought

pub nothing_fits : BroughtLaw → (c : CoreTable) (s : Syndrome) → IsState c → events_of c ≡ [] →
    FitsCore c s
nothing_fits law c s state none =
    fits_core law c s state (subst (All (IsBrought c.task s)) (sym none)
    (All-nil (IsBrought c.task s)))

-- ---- answers

moved : (front bytes : List ℕ) (said : List TapeByte) →
    taken (front ++ bytes) ++ said ≡ taken front ++ (taken bytes ++ said)
moved front bytes said = ap (λ l. l ++ said) (map-append Taken front bytes)
    ∙ append_assoc (taken front) (taken bytes) said

pub rose_since : (a b c : ℕ) → a ≤ b → Rose b c → Rose a c
rose_since a b c l rose = omega (arith, l, rose)

pub rose_until : (a b c : ℕ) → Rose a b → b ≤ c → Rose a c
rose_until a b c rose l = omega (arith, l, rose)

-- what an answer says may be said otherwise, and bytes may be taken before it
pub answered_behind : (Told Said : List ℕ → End → List ℕ → Type 0) (front : List ℕ)
    (reads mid reads' : ℕ) (a b c : Option (List ℕ)) (t u v : Option (List TapeByte))
    (result : Result End PutError) → reads ≤ mid → Goes (taken front) a b t u →
    ((bytes : List ℕ) (end : End) (text : List ℕ) → Told bytes end text →
    Said (front ++ bytes) end text) → IsAnswered Told mid reads' b c u v result →
    IsAnswered Said reads reads' a c t v result
answered_behind Told Said front reads mid reads' a b c t u v (Ok end) l goes told
    (bytes, text, went, is) = (
      front ++ bytes,
      text,
      subst (λ k. Goes k a c t v) (sym (moved front bytes (sent text)))
          (goes_both (taken front) (taken bytes ++ sent text) a b c t u v goes went),
      told bytes end text is,
    )
answered_behind Told Said front reads mid reads' a b c t u v (Err WriteFault) l goes told
    (end, bytes, text, count, went, is, cause) = (
      end,
      front ++ bytes,
      text,
      count,
      subst (λ k. Goes k a c t v) (sym (moved front bytes (sent (take count text))))
          (goes_both (taken front) (taken bytes ++ sent (take count text)) a b c t u v goes went),
      told bytes end text is,
      λ e. rose_since reads mid reads' l (cause e),
    )
answered_behind Told Said front reads mid reads' a b c t u v (Err Memory) l goes told
    (bytes, went) = (
      front ++ bytes,
      bytes_joined front bytes _ _ _ _ _ _ goes went,
    )

-- likewise where no byte is taken before it
pub answered_as : (Told Said : List ℕ → End → List ℕ → Type 0) (reads reads' : ℕ)
    (a c : Option (List ℕ)) (t v : Option (List TapeByte)) (result : Result End PutError) →
    ((bytes : List ℕ) (end : End) (text : List ℕ) → Told bytes end text → Said bytes end text) →
    IsAnswered Told reads reads' a c t v result → IsAnswered Said reads reads' a c t v result
answered_as Told Said reads reads' a c t v result told is =
    answered_behind Told Said [] reads reads reads' a a c t t v result
    (let l : reads ≤ reads = omega arith in l) (goes_nothing a t) told is

-- ---- the script

-- each arrival of a replay brought what was measured
played_brings : (stage : Stage) (script : Reading) (first : ℕ) (events : List Event)
    (printed : List ℕ) (fault : Option ℕ) → IsReplay stage script first events printed fault →
    All (IsBrought stage.task stage.syndrome) events
played_brings stage script first events printed fault r =
    all_brought stage start (take r.count script.commands) events printed r.plays

pub replayed_brings : (stage : Stage) (first : ℕ) (bytes : List ℕ) (left : Option (List ℕ))
    (events : List Event) (printed : List ℕ) (end : End) →
    IsReplayedTo stage first bytes left events printed end →
    All (IsBrought stage.task stage.syndrome) events
replayed_brings stage first bytes left events printed Complete r =
    played_brings stage _ first events printed None r.1
replayed_brings stage first bytes left events printed (Script line) (judged, inl always) =
    played_brings stage _ first events printed (Some line) (always [])
replayed_brings stage first bytes left events printed (Script line) (judged, inr last) =
    played_brings stage _ first events printed (Some line) last.1
replayed_brings stage first bytes left events printed ReadFault r =
    played_brings stage _ first events printed None r.1
replayed_brings stage first bytes left events printed (Row line kind) r = absurd r
replayed_brings stage first bytes left events printed (Ended line) r = absurd r

-- the text of a player, with the line of a fault after it
text_told : (p : Playing) (task : Task) (s : Syndrome) (labels labels' names names' : List (List ℕ))
    (events : List Event) (printed text said : List ℕ) (fault : Option Fault) →
    p.core.task ≡ task → events_of p.core ≡ events → labels' ≡ labels → names' ≡ names →
    p.text ≡ printed →
    text ≡ p.text ++ output_of p.core.task s labels' names' (steps_of p.core) None None →
    said ≡ text ++ fault_line fault →
    said ≡ printed ++ output_of task s labels names (visible task events) None fault
text_told p task s labels labels' names names' events printed text said fault task_is events_are
    labels_are
    names_are text_is told said_is =
    said_is
    ∙ ap (λ t. t ++ fault_line fault) (told
    ∙ ap (λ e. p.text ++ output_of p.core.task s labels' names' (visible p.core.task e) None None)
    events_are
    ∙ ap (λ k. p.text ++ output_of k s labels' names' (visible k events) None None) task_is
    ∙ ap (λ l. p.text ++ output_of task s l names' (visible task events) None None) labels_are
    ∙ ap (λ n. p.text ++ output_of task s labels n (visible task events) None None) names_are
    ∙ ap (λ t. t ++ output_of task s labels names (visible task events) None None) text_is)
    ∙ output_ends task s labels names events printed fault

-- what is said of a script that was played, or of a line `script` that was cut
module _ (law : BroughtLaw) (sch : Schedule) (may_guess : GuessView → Bool → Type 0)
    (rows : List (List Bool)) (old mid : Playing) (bytes : List ℕ) (left : Option (List ℕ))
    (end : End) (labels names : List (List ℕ)) (text said : List ℕ)
    (unplayed : IsUnplayed old) (labels_are : old.labels ≡ labels_of sch) (state : IsState mid.core)
    (given_are : labels ≡ labels_of sch) (names_are : names ≡ names_of sch)
    (told : (s : Syndrome) → FitsCore mid.core s →
    text ≡ mid.text ++ output_of mid.core.task s labels names (steps_of mid.core) None None)
    (said_is : said ≡ text ++ fault_line (fault_at end)) where
  abbrev s : Syndrome
  s = syndrome_of sch rows

  told_cut : mid ≡ old → IsCutAt (due_number sch) bytes left end →
      IsScriptTold (subject sch old.core may_guess) rows bytes left end said
  told_cut same cut =
      let events = ap (λ (p : Playing). events_of p.core) same ∙ unplayed.events in
      record {
        events = [];
        printed = [];
        read = inl (refl, refl, cut);
        text_is = text_told mid old.core.task s (labels_of sch) labels (names_of sch) names
            [] [] text
            said (fault_at end) (ap (λ (p : Playing). p.core.task) same) events given_are names_are
            (ap (λ (p : Playing). p.text) same ∙ unplayed.text)
            (told s (nothing_fits law mid.core s state events)) said_is;
      }

  told_played : (script : List ℕ) → bytes ≡ due_line ++ script →
      (p : IsPlayedTo (stage_of may_guess s old.labels old.core) (due_number sch + 1) script left
      old mid end) → IsScriptTold (subject sch old.core may_guess) rows bytes left end said
  told_played script is p =
      let brought = replayed_brings (stage_of may_guess s old.labels old.core) (due_number sch + 1)
      script left p.events p.printed end p.replayed in
      let here : All (IsBrought mid.core.task s) (events_of mid.core) =
      subst (λ e. All (IsBrought mid.core.task s) e) (sym p.events_are)
      (subst (λ k. All (IsBrought k s) p.events) (sym p.same.task) brought) in
      record {
        events = p.events;
        printed = p.printed;
        read = inr (
          script,
          is,
          subst
              (λ l. IsReplayedTo (stage_of may_guess s l old.core) (due_number sch + 1) script left
              p.events p.printed end) labels_are p.replayed,
        );
        text_is = text_told mid old.core.task s (labels_of sch) labels (names_of sch) names p.events
            p.printed text said (fault_at end) p.same.task p.events_are given_are names_are
            p.text_is
            (told s (fits_core law mid.core s state here)) said_is;
      }

  pub told_script : (number : ℕ) → number ≡ due_number sch →
      IsTakenTo (stage_of may_guess s old.labels old.core) number bytes left old mid end →
      IsScriptTold (subject sch old.core may_guess) rows bytes left end said
  told_script number is taken_to =
      elim (subst (λ n. IsTakenTo (stage_of may_guess s old.labels old.core) n bytes left old mid
      end) is taken_to) [
        | inl cut ↦ told_cut cut.0 cut.1
        | inr played ↦ told_played played.0 played.1 played.2
      ]

-- the task stays
pub taken_task : (stage : Stage) (number : ℕ) (bytes : List ℕ) (left : Option (List ℕ))
    (old new : Playing) (end : End) → IsTakenTo stage number bytes left old new end →
    new.core.task ≡ old.core.task
taken_task stage number bytes left old new end (inl (same, cut)) =
    ap (λ (p : Playing). p.core.task) same
taken_task stage number bytes left old new end (inr (script, is, played)) = played.same.task

-- ---- the whole

pub replied_script : (r : Subject) (rows : List (List Bool)) (front bytes : List ℕ)
    (left : Option (List ℕ)) (end : End) (text : List ℕ) → AreAllFed r.schedule front rows →
    IsScriptTold r rows bytes left end text → IsReplied r (front ++ bytes) left end text
replied_script r rows front bytes left end text fed told = record {
  rows = rows;
  events = told.events;
  printed = told.printed;
  read = elim told.read [
    | inl (none, nothing, cut) ↦ inl (none, nothing, inr (front, bytes, refl, fed, cut))
    | inr (script, is, replayed) ↦ inr (
      front,
      script,
      ap (λ l. front ++ l) is ∙ sym (append_assoc front due_line script),
      fed,
      replayed,
    )
  ];
  text_is = told.text_is;
}

pub replied_none : (r : Subject) (rows : List (List Bool)) (bytes : List ℕ)
    (left : Option (List ℕ)) (error : RowError) (end : End) (text : List ℕ) →
    AreUnfed r.schedule bytes left rows error → end ≡ end_of_rows error →
    IsNothingTold r.schedule r.task end text → IsReplied r bytes left end text
replied_none r rows bytes left error end text unfed is told = record {
  rows = rows;
  events = [];
  printed = [];
  read = inl (refl, refl, inl (error, is, unfed));
  text_is = told rows;
}

-- what is said of a core that has not begun
pub nothing_told : BroughtLaw → (s : Schedule) (c : CoreTable) (end : End)
    (labels names : List (List ℕ)) (text said : List ℕ) → IsState c → c.journal ≡ [] →
    labels ≡ labels_of s → names ≡ names_of s →
    ((d : Syndrome) → FitsCore c d →
    text ≡ [] ++ output_of c.task d labels names (steps_of c) None None) →
    said ≡ text ++ fault_line (fault_at end) → IsNothingTold s c.task end said
nothing_told law s c end labels names text said state none labels_are names_are told said_is rows =
    let p : Playing = record { core = c; text = []; rows = []; labels = labels } in
    let events : events_of c ≡ [] = ap (λ j. history_of c.task c.kept j) none in
    text_told p c.task (syndrome_of s rows) (labels_of s) labels (names_of s) names [] [] text said
    (fault_at end) refl events labels_are names_are refl
    (told (syndrome_of s rows) (nothing_fits law c (syndrome_of s rows) state events)) said_is

-- want of memory is one error or another
pub memory_or_not : (e : RowError) → (e ≡ ends.Memory) ⊎ (e ≢ ends.Memory)
memory_or_not (ends.Fault line kind) = inr (λ e. cc)
memory_or_not (ends.Ended line) = inr (λ e. cc)
memory_or_not ends.ReadFault = inr (λ e. cc)
memory_or_not ends.Memory = inl refl

-- ---- a replay from its first row on

pub replied_all : (sch sch' : Schedule) (core : CoreTable) (p : Playing)
    (may : GuessView → Bool → Type 0) (front : List ℕ) (rows : List (List Bool))
    (items : List Folded) (result : Result End PutError) (reads mid reads' : ℕ)
    (a b c : Option (List ℕ)) (t u v : Option (List TapeByte)) → sch' ≡ sch → p.core ≡ core →
    p.rows ≡ items → reads ≤ mid → Goes (taken front) a b t u → AreAllFed sch front rows →
    AreFolded sch rows items →
    ((rs : List (List Bool)) → AreFolded sch' rs p.rows →
    IsAnswered (λ bytes end text. IsScriptTold (subject sch' p.core may) rs bytes c end text)
    mid reads' b c u v result) →
    IsAnswered (λ bytes end text. IsReplied (subject sch core may) bytes c end text) reads reads'
    a c t v result
replied_all sch sch' core p may front rows items result reads mid reads' a b c t u v same core_is
    rows_are later goes fed folded answer =
    let here = answer rows (subst (λ l. AreFolded sch' rows l) (sym rows_are)
    (subst (λ s. AreFolded s rows items) (sym same) folded)) in
    let of_core = subst (λ k. IsAnswered (λ bytes end text. IsScriptTold (subject sch' k may) rows
    bytes c end text) mid reads' b c u v result) core_is here in
    let of_both = subst (λ s. IsAnswered (λ bytes end text. IsScriptTold (subject s core may) rows
    bytes c end text) mid reads' b c u v result) same of_core in
    answered_behind (λ bytes end text. IsScriptTold (subject sch core may) rows bytes c end text)
    (λ bytes end text. IsReplied (subject sch core may) bytes c end text) front reads mid reads' a b
    c t u v result later goes (λ bytes end text told.
    replied_script (subject sch core may) rows front bytes c end text fed told) of_both

-- a replay whose rows can't be taken
pub replied_unfed : (sch sch' : Schedule) (core : CoreTable) (may : GuessView → Bool → Type 0)
    (front : List ℕ) (rows : List (List Bool)) (error : RowError) (result : Result End PutError)
    (reads mid reads' : ℕ) (a b c : Option (List ℕ)) (t u v : Option (List TapeByte)) →
    sch' ≡ sch → c ≡ b → Goes (taken front) a b t u →
    (error ≢ ends.Memory → AreUnfed sch front b rows error) →
    (error ≡ ends.ReadFault → Rose reads mid) → mid ≤ reads' →
    (error ≢ ends.Memory → (n : ℕ) → (error ≡ ends.ReadFault → Rose n reads') →
    IsAnswered (λ bytes end text. (bytes ≡ []) × (end ≡ end_of_rows error)
    × IsNothingTold sch' core.task end text) n reads' b c u v result) →
    (error ≡ ends.Memory → (result ≡ Err Memory) × Goes [] b c u v) →
    IsAnswered (λ bytes end text. IsReplied (subject sch core may) bytes c end text) reads reads'
    a c t v result
replied_unfed sch sch' core may front rows error result reads mid reads' a b c t u v same left goes
    unfed rose later answer none = elim (memory_or_not error) [
      | inl is ↦
          subst
          (λ r. IsAnswered (λ bytes end text. IsReplied (subject sch core may) bytes c end text)
          reads reads' a c t v r) (sym (none is).0)
          (front ++ [], bytes_joined front [] _ _ _ _ _ _ goes (none is).1)
      | inr other ↦
          answered_behind (λ bytes end text. (bytes ≡ []) × (end ≡ end_of_rows error)
          × IsNothingTold sch' core.task end text)
          (λ bytes end text. IsReplied (subject sch core may) bytes c end text) front reads reads
          reads' a b c t u v result (let l : reads ≤ reads = omega arith in l) goes
          (λ bytes end text told.
          let all : front ++ bytes ≡ front = ap (λ l. front ++ l) told.0 ∙ append-nil front in
          replied_none (subject sch core may) rows (front ++ bytes) c error end text
          (subst (λ l. AreUnfed sch l c rows error) (sym all)
          (subst (λ k. AreUnfed sch front k rows error) (sym left) (unfed other))) told.1
          (subst (λ s. IsNothingTold s core.task end text) same told.2))
          (answer other reads (λ e. rose_until reads mid reads' (rose e) later))
    ]

-- a fault of reading is that of a row
pub rows_read : (error : RowError) → end_of_rows error ≡ ReadFault → error ≡ ends.ReadFault
rows_read (ends.Fault line kind) e = absurd cc
rows_read (ends.Ended line) e = absurd cc
rows_read ends.ReadFault e = refl
rows_read ends.Memory e = absurd cc
