-- A core whose one slot brings the raw values of two observables.
use Rattle.std.proofs.Common.{◌≡◌, ◌<◌, ◌≤◌, ◌+◌, ℕ, Bool, List, [], ◌∷◌, ◌++◌, arith, length, map, sym, ap, subst, ◌∙◌, refl}
use Rattle.graph_model.specs.declared.Tag.{Tag}
use Rattle.graph_model.specs.Graph.{DetectorGraph}
use Rattle.window_model.specs.Windows.{WindowPlan}
use Rattle.release_gate.specs.Operations.{IsTaskOf, TimedOperation}
use Rattle.window_setting.specs.Settings.{task_for}
use Rattle.window_model.specs.Speculation.{Arrived, Event, Machine, IsEnabled, count_in, start}
use Rattle.core_journal.specs.declared.event.Event.{Event as Entry}
use Rattle.core_journal.specs.Entries.{history_of}
use Rattle.cascade_laws.specs.MirrorLaws.{reached}
use Rattle.core_state.specs.States.{CoreTable, HasHappened, MayHappen, events_of, machine_of}

-- its task has no operations
pub is_task : (g : DetectorGraph) (tags : List Tag) (plan : WindowPlan) (ops : List TimedOperation)
    (raws : List ℕ) (last : ℕ) → ops ≡ [] → IsTaskOf g plan ops (task_for g tags plan ops raws last)
is_task g tags plan ops raws last none = rw none (record {
  graph = refl;
  plan = refl;
  operations = refl;
  raw_slots = λ k d l. absurd (omega (arith, l));
})

at_start : (c : CoreTable) → c.journal ≡ [] → machine_of c ≡ start
at_start c none = ap (λ entries. reached c.task (history_of c.task c.kept entries)) none

pub may_arrive : (c : CoreTable) → c.journal ≡ [] → c.task.tags ≡ [] → c.task.operations ≡ [] →
    c.task.raw_slots ≡ 0 ∷ 0 ∷ [] → (slot : ℕ) (values raws : List Bool) → slot ≡ 0 →
    values ≡ [] → length raws ≡ 2 → MayHappen c (Arrived slot values raws)
may_arrive c none tags ops slots slot values raws first empty two =
    subst (λ m. IsEnabled c.task c.retries m (Arrived slot values raws)) (sym (at_start c none)) (
      record {
        next = first;
        in_range = omega (arith, first);
        released = λ op l s. absurd (let no = ap length ops in omega (arith, l, no));
      },
      ap length empty
          ∙ sym (ap (λ (ts : List Tag). count_in (map (λ (t : Tag). t.slot) ts) slot) tags),
      two ∙ sym (ap (λ xs. count_in xs slot) slots ∙ ap (count_in (0 ∷ 0 ∷ [])) first),
    )

pub has_arrived : (old new : CoreTable) (entry_ : Entry) (slot : ℕ) (values raws : List Bool) →
    HasHappened old entry_ (Arrived slot values raws) new → old.journal ≡ [] →
    old.task.last_slot ≡ 0 → new.task.last_slot < (machine_of new).arrived
has_arrived old new entry_ slot values raws happened none last =
    let events : events_of new ≡ Arrived slot values raws ∷ [] = happened.events
    ∙ ap (λ es. history_of old.task old.kept es ++ Arrived slot values raws ∷ []) none in
    let one : (machine_of new).arrived ≡ 1 = ap (λ (es : List Event). (reached new.task es).arrived)
    events in
    let same = ap (λ t. t.last_slot) happened.task in
    omega (arith, one, same, last)

pub one_entry : (old new : CoreTable) (entry_ : Entry) (event : Event) →
    HasHappened old entry_ event new → old.journal ≡ [] → length new.journal ≡ 1
one_entry old new entry_ event happened none =
    ap length (happened.journal ∙ ap (λ es. es ++ entry_ ∷ []) none)
