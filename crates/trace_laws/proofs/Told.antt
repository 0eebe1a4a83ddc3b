-- A journal is printed entry by entry.
use Rattle.std.proofs.Common.{◌≡◌, ◌⊎◌, ⊎_elim, inl, inr, ℕ, true, false, cond, List, [], ◌∷◌, ◌++◌, codes, decimal, flat_map, map, Option, None, Some, IsSome, is_some, unwrap_or, refl, sym, ap, subst, ◌∙◌, append_assoc, eq-eqb}
use Rattle.std.proofs.lemmas.Bool.{cases_eq, false≢true}
use Rattle.std.proofs.lemmas.List.{map-append}
use Rattle.window_model.specs.Decoder.{Task, Commit, owned_part}
use Rattle.window_model.specs.Laws.{PlanLaws}
use Rattle.window_model.specs.Speculation.{Claim, Machine, Phase, Waiting, Running, Held, Done, confirm, happens, happen_all, pending, result_of, standing, start, visible_from, visible_step, IsEnabled, IsHistory}
use Rattle.window_model.proofs.Histories.{happen_all-append, history_back, history_front}
use Rattle.window_model.proofs.Soundness.{sound_law}
use Rattle.window_model.proofs.Updates.{set_other, set_part}
use Rattle.report_model.specs.Texts.{event_line, event_lines, line, running_text}
use Rattle.core_journal.specs.declared.event.Event.{Event as Entry}
use Rattle.core_journal.specs.declared.event.Event.TheVariants as entry
use Rattle.core_journal.specs.Entries.{Kept, event_of, history_of, links_of, result_in}
use Rattle.trace_laws.specs.Told.{AreTold, LineLaw, LogLaw, TraceLaw, current_text, entry_line, entry_steps, running, running_now}

-- ---- a ticket has no result, or the one that is kept

abbrev pub kept_at : Kept → ℕ → List ℕ
kept_at kept k = unwrap_or (result_in kept.results k) []

abbrev pub Has : Kept → ℕ → Option (List ℕ) → Type 0
Has kept k result = (result ≡ None) ⊎ (result ≡ Some (kept_at kept k))

abbrev pub HaveKept : Kept → Machine → Type 0
HaveKept kept m = (k : ℕ) → Has kept k (m.claim k).result

stays : (kept : Kept) (m n : Machine) → ((k : ℕ) → (n.claim k).result ≡ (m.claim k).result) →
    HaveKept kept m → HaveKept kept n
stays kept m n same h k = subst (Has kept k) (sym (same k)) (h k)

confirmed : (m : Machine) (x : ℕ) (own other : Option ℕ) (k : ℕ) →
    ((confirm m x own other).claim k).result ≡ (m.claim k).result
confirmed m x None None k = refl
confirmed m x None (Some j) k = refl
confirmed m x (Some i) None k = refl
confirmed m x (Some i) (Some j) k =
    set_part (λ (c : Claim). c.result) m.claim i _ refl k

next : (task : Task) (kept : Kept) (m : Machine) (e : Entry) → HaveKept kept m →
    HaveKept kept (happens task m (event_of task kept e))
next task kept m (entry.Arrived t) h = h
next task kept m (entry.Claimed k w) h = λ x.
    ⊎_elim (λ same. inl (ap (λ b. (cond b (record {
      window = w;
      links = links_of kept k;
      result = None;
      closed = false;
    }) (m.claim x)).result) (eq-eqb x k same)))
    (λ other. subst (λ (c : Claim). Has kept x c.result) (sym (set_other m.claim k _ x other))
    (h x))
    (cases_eq x k)
next task kept m (entry.Held k) h = λ x.
    ⊎_elim (λ same. inr (ap (λ b. (cond b (record (m.claim k) {
      result = Some (kept_at kept k);
      closed = true;
    }) (m.claim x)).result) (eq-eqb x k same) ∙ ap (λ j. Some (kept_at kept j)) (sym same)))
    (λ other. subst (λ (c : Claim). Has kept x c.result) (sym (set_other m.claim k _ x other))
    (h x))
    (cases_eq x k)
next task kept m (entry.Stale k current) h =
    stays kept m (happens task m (event_of task kept (entry.Stale k current)))
    (λ x. set_part (λ (c : Claim). c.result) m.claim k _ refl x) h
next task kept m (entry.Verified x w) h =
    stays kept m (happens task m (event_of task kept (entry.Verified x w)))
    (confirmed m x (pending (m.phase w)) (standing (m.phase x))) h
next task kept m (entry.Poisoned x w) h = h
next task kept m (entry.Dropped w) h = h
next task kept m (entry.Committed k w) h = h
next task kept m (entry.Released op bit) h = h

-- the result that is there is the one that is kept
pub result_is : (kept : Kept) (k : ℕ) (result : Option (List ℕ)) → Has kept k result →
    IsSome result → unwrap_or result [] ≡ kept_at kept k
result_is kept k result (inl none) some = absurd (false≢true (sym (ap is_some none) ∙ some))
result_is kept k result (inr is) some = ap (λ r. unwrap_or r []) is

-- ---- the machine after some entries

abbrev pub reached : Task → Kept → List Entry → Machine
reached task kept entries = happen_all task start (history_of task kept entries)

reached_more : (task : Task) (kept : Kept) (entries : List Entry) (e : Entry) →
    reached task kept (entries ++ e ∷ []) ≡
    happens task (reached task kept entries) (event_of task kept e)
reached_more task kept entries e =
    ap (happen_all task start) (map-append (event_of task kept) entries (e ∷ []))
    ∙ happen_all-append task start (history_of task kept entries) (event_of task kept e ∷ [])

-- what a commit takes is the result that is kept
committed : (task : Task) (retries : ℕ) (kept : Kept) (before : List Entry) (k w : ℕ) →
    PlanLaws task.graph task.tags task.plan → IsHistory task retries (history_of task kept before) →
    HaveKept kept (reached task kept before) →
    (reached task kept before).phase w ≡ Held k →
    result_of (reached task kept before) k ≡ kept_at kept k
committed task retries kept before k w laws h have held =
    let sound = sound_law task retries (history_of task kept before) laws h in
    result_is kept k ((reached task kept before).claim k).result (have k)
    (sound.least w k (ap standing held)).0

run_text : (phase : Phase) (current : Option ℕ) → running phase ≡ current →
    running_text phase ≡ current_text current
run_text Waiting current e = ap current_text e
run_text (Running k) current e = ap current_text e
run_text (Held k) current e = ap current_text e
run_text (Done k) current e = ap current_text e

-- after all entries each ticket has the result that is kept, or none
have_from : (task : Task) (kept : Kept) (m : Machine) (entries : List Entry) → HaveKept kept m →
    HaveKept kept (happen_all task m (history_of task kept entries))
have_from task kept m [] h = h
have_from task kept m (e ∷ entries) h =
    have_from task kept (happens task m (event_of task kept e)) entries (next task kept m e h)

pub have_all : (task : Task) (kept : Kept) (entries : List Entry) →
    HaveKept kept (reached task kept entries)
have_all task kept entries = have_from task kept start entries (λ k. inl refl)

-- ---- one entry

-- before an entry, in a history of a journal
record Stands (task : Task) (retries : ℕ) (kept : Kept) (before : List Entry)
    (e : Entry) : Type 0 where
  laws : PlanLaws task.graph task.tags task.plan
  history : IsHistory task retries (history_of task kept before)
  have : HaveKept kept (reached task kept before)
  enabled : IsEnabled task retries (reached task kept before) (event_of task kept e)

line_is : (task : Task) (retries : ℕ) (labels : List (List ℕ)) (kept : Kept) (before : List Entry)
    (e : Entry) → Stands task retries kept before e →
    ((k : ℕ) (current : Option ℕ) → e ≡ entry.Stale k current →
    running_now (reached task kept before) k ≡ current) →
    event_line task labels (reached task kept before) (event_of task kept e)
    ≡ entry_line task labels kept e
line_is task retries labels kept before (entry.Arrived t) s told = refl
line_is task retries labels kept before (entry.Claimed k w) s told = refl
line_is task retries labels kept before (entry.Held k) s told = refl
line_is task retries labels kept before (entry.Stale k current) s told =
    ap (λ t. line (codes "stale" ∷ decimal k ∷ t ∷ []))
    (run_text _ current (told k current refl))
line_is task retries labels kept before (entry.Verified x w) s told = refl
line_is task retries labels kept before (entry.Poisoned x w) s told = refl
line_is task retries labels kept before (entry.Dropped w) s told = refl
line_is task retries labels kept before (entry.Committed k w) s told =
    ap (λ set. line (codes "commit" ∷ decimal w ∷ map decimal (owned_part task w set)))
    (committed task retries kept before k w s.laws s.history s.have s.enabled.held)
line_is task retries labels kept before (entry.Released op bit) s told = refl

steps_are : (task : Task) (retries : ℕ) (kept : Kept) (before : List Entry) (e : Entry) →
    Stands task retries kept before e →
    visible_step task (reached task kept before) (event_of task kept e) ≡ entry_steps task kept e
steps_are task retries kept before (entry.Arrived t) s = refl
steps_are task retries kept before (entry.Claimed k w) s = refl
steps_are task retries kept before (entry.Held k) s = refl
steps_are task retries kept before (entry.Stale k current) s = refl
steps_are task retries kept before (entry.Verified x w) s = refl
steps_are task retries kept before (entry.Poisoned x w) s = refl
steps_are task retries kept before (entry.Dropped w) s = refl
steps_are task retries kept before (entry.Committed k w) s =
    ap (λ set. Commit w (owned_part task w set) ∷ [])
    (committed task retries kept before k w s.laws s.history s.have s.enabled.held)
steps_are task retries kept before (entry.Released op bit) s = refl

-- ---- all entries

-- what stands before an entry, where the whole is a history
stands : (task : Task) (retries : ℕ) (kept : Kept) (before : List Entry) (e : Entry)
    (after : List Entry) → PlanLaws task.graph task.tags task.plan →
    IsHistory task retries (history_of task kept (before ++ e ∷ after)) →
    HaveKept kept (reached task kept before) → Stands task retries kept before e
stands task retries kept before e after laws h have =
    let parts = subst (IsHistory task retries)
    (map-append (event_of task kept) before (e ∷ after)) h in
    record {
      laws = laws;
      history = history_front task retries start (history_of task kept before)
          (history_of task kept (e ∷ after)) parts;
      have = have;
      enabled = (history_back task retries start (history_of task kept before)
          (history_of task kept (e ∷ after)) parts).0;
    }

trace_from : (task : Task) (retries : ℕ) (labels : List (List ℕ)) (kept : Kept)
    (before after : List Entry) → PlanLaws task.graph task.tags task.plan →
    IsHistory task retries (history_of task kept (before ++ after)) →
    AreTold task kept (before ++ after) → HaveKept kept (reached task kept before) →
    event_lines task labels (reached task kept before) (history_of task kept after)
    ≡ flat_map (entry_line task labels kept) after
trace_from task retries labels kept before [] laws h told have = refl
trace_from task retries labels kept before (e ∷ after) laws h told have =
    ap (λ t. t ++ event_lines task labels
    (happens task (reached task kept before) (event_of task kept e)) (history_of task kept after))
    (line_is task retries labels kept before e (stands task retries kept before e after laws h have)
    (λ k current is. told.told before after k current (ap (λ x. before ++ x ∷ after) is)))
    ∙ ap (λ m. entry_line task labels kept e
    ++ event_lines task labels m (history_of task kept after))
    (sym (reached_more task kept before e))
    ∙ ap (λ t. entry_line task labels kept e ++ t)
    (trace_from task retries labels kept (before ++ e ∷ []) after laws
    (subst (λ es. IsHistory task retries (history_of task kept es)) joined h)
    (subst (AreTold task kept) joined told)
    (subst (HaveKept kept) (sym (reached_more task kept before e))
    (next task kept (reached task kept before) e have)))
  where
    joined : before ++ e ∷ after ≡ (before ++ e ∷ []) ++ after
    joined = sym (append_assoc before (e ∷ []) after)

log_from : (task : Task) (retries : ℕ) (kept : Kept) (before after : List Entry) →
    PlanLaws task.graph task.tags task.plan →
    IsHistory task retries (history_of task kept (before ++ after)) →
    HaveKept kept (reached task kept before) →
    visible_from task (reached task kept before) (history_of task kept after)
    ≡ flat_map (entry_steps task kept) after
log_from task retries kept before [] laws h have = refl
log_from task retries kept before (e ∷ after) laws h have =
    ap (λ t. t ++ visible_from task
    (happens task (reached task kept before) (event_of task kept e)) (history_of task kept after))
    (steps_are task retries kept before e (stands task retries kept before e after laws h have))
    ∙ ap (λ m. entry_steps task kept e ++ visible_from task m (history_of task kept after))
    (sym (reached_more task kept before e))
    ∙ ap (λ t. entry_steps task kept e ++ t)
    (log_from task retries kept (before ++ e ∷ []) after laws
    (subst (λ es. IsHistory task retries (history_of task kept es)) joined h)
    (subst (HaveKept kept) (sym (reached_more task kept before e))
    (next task kept (reached task kept before) e have)))
  where
    joined : before ++ e ∷ after ≡ (before ++ e ∷ []) ++ after
    joined = sym (append_assoc before (e ∷ []) after)

pub trace_law : TraceLaw
trace_law task retries labels kept entries laws h told =
    trace_from task retries labels kept [] entries laws h told (λ k. inl refl)

pub line_law : LineLaw
line_law task retries labels kept before e after laws h told =
    line_is task retries labels kept before e
    (stands task retries kept before e after laws h (have_all task kept before))
    (λ k current is. told.told before after k current (ap (λ x. before ++ x ∷ after) is))

pub log_law : LogLaw
log_law task retries kept entries laws h =
    log_from task retries kept [] entries laws h (λ k. inl refl)
