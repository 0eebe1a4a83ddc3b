-- What a journal prints, entry by entry. A line of a trace speaks of the machine as it was; the
-- entries and what is kept beside them say it without the machine.
use Rattle.std.specs.Prelude.{◌≡◌, ◌<◌, ℕ, All, List, [], ◌∷◌, ◌++◌, codes, decimal, flat_map, map, Option, None, Some, unwrap_or}
use Rattle.std.specs.Bool.{⊤}
use Rattle.window_model.specs.Decoder.{Task, Step, Arrive, Commit, Release, owned_part}
use Rattle.window_model.specs.Laws.{PlanLaws}
use Rattle.window_model.specs.Windows.{window_at}
use Rattle.window_model.specs.Speculation.{Event, Machine, Phase, Waiting, Running, Held, Done, IsHistory, happen_all, result_of, sources_of, visible}
use Rattle.window_model.specs.Speculation
use Rattle.report_model.specs.Texts.{event_line, event_lines, line, link_text, release_line}
use Rattle.core_journal.specs.declared.event.Event.{Event as Entry}
use Rattle.core_journal.specs.declared.event.Event.TheVariants as entry
use Rattle.core_journal.specs.Entries.{Kept, event_of, history_of, links_of, result_in}

-- the ticket that a window runs
abbrev pub running : Phase → Option ℕ
running Waiting = None
running (Running k) = Some k
running (Held k) = None
running (Done k) = None

abbrev pub running_now : Machine → ℕ → Option ℕ
running_now m k = running (m.phase (m.claim k).window)

-- Each stale entry names the ticket that its window ran then.
pub record AreTold (task : Task) (kept : Kept) (entries : List Entry) : Type 0 where
  pub told : (before after : List Entry) (k : ℕ) (current : Option ℕ) →
      entries ≡ before ++ entry.Stale k current ∷ after →
      running_now (happen_all task Speculation.start (history_of task kept before)) k ≡ current

-- ---- the trace

abbrev pub current_text : Option ℕ → List ℕ
current_text None = codes "none"
current_text (Some k) = decimal k

-- the edges that the result of a ticket commits for a window
abbrev pub committed_by : Task → Kept → ℕ → ℕ → List ℕ
committed_by task kept k w = owned_part task w (unwrap_or (result_in kept.results k) [])

abbrev pub entry_line : Task → List (List ℕ) → Kept → Entry → List ℕ
entry_line task labels kept (entry.Arrived t) = line (codes "arrive" ∷ decimal t ∷ [])
entry_line task labels kept (entry.Claimed k w) =
    line (codes "claim" ∷ decimal k ∷ decimal w ∷ map link_text (links_of kept k))
entry_line task labels kept (entry.Held k) = line (codes "hold" ∷ decimal k ∷ [])
entry_line task labels kept (entry.Stale k current) =
    line (codes "stale" ∷ decimal k ∷ current_text current ∷ [])
entry_line task labels kept (entry.Verified x w) =
    line (codes "verify" ∷ decimal x ∷ decimal w ∷ [])
entry_line task labels kept (entry.Poisoned x w) =
    line (codes "poison" ∷ decimal x ∷ decimal w ∷ [])
entry_line task labels kept (entry.Dropped w) = line (codes "drop" ∷ decimal w ∷ [])
entry_line task labels kept (entry.Committed k w) =
    line (codes "commit" ∷ decimal w ∷ map decimal (committed_by task kept k w))
entry_line task labels kept (entry.Released op bit) = release_line labels op bit

-- What an entry speaks of stands yet where the journal ends: a ticket that was claimed is one of
-- the tickets, of this window, and has a link for each of the window's dependencies; and a window
-- that was committed is committed with its ticket, whose result is the one that is kept.
abbrev pub StandsYet : Task → Kept → Machine → Entry → Type 0
StandsYet task kept m (entry.Claimed k w) =
    (k < m.tickets) × ((m.claim k).window ≡ w)
    × (sources_of (links_of kept k) ≡ (window_at task.plan w).deps)
StandsYet task kept m (entry.Committed k w) =
    (m.phase w ≡ Done k) × (result_of m k ≡ unwrap_or (result_in kept.results k) [])
StandsYet task kept m _ = ⊤

-- ---- the log

abbrev pub entry_steps : Task → Kept → Entry → List Step
entry_steps task kept (entry.Arrived t) = Arrive t ∷ []
entry_steps task kept (entry.Committed k w) = Commit w (committed_by task kept k w) ∷ []
entry_steps task kept (entry.Released op bit) = Release op bit ∷ []
entry_steps task kept _ = []

-- ---- laws

abbrev pub TraceLaw : Type 0
TraceLaw =
    (task : Task) (retries : ℕ) (labels : List (List ℕ)) (kept : Kept) (entries : List Entry) →
    PlanLaws task.graph task.tags task.plan →
    IsHistory task retries (history_of task kept entries) → AreTold task kept entries →
    event_lines task labels Speculation.start (history_of task kept entries)
    ≡ flat_map (entry_line task labels kept) entries

-- The line of one entry.
abbrev pub LineLaw : Type 0
LineLaw =
    (task : Task) (retries : ℕ) (labels : List (List ℕ)) (kept : Kept) (before : List Entry)
    (e : Entry) (after : List Entry) → PlanLaws task.graph task.tags task.plan →
    IsHistory task retries (history_of task kept (before ++ e ∷ after)) →
    AreTold task kept (before ++ e ∷ after) →
    event_line task labels (happen_all task Speculation.start (history_of task kept before))
    (event_of task kept e) ≡ entry_line task labels kept e

abbrev pub StandingLaw : Type 0
StandingLaw =
    (task : Task) (retries : ℕ) (kept : Kept) (entries : List Entry) →
    PlanLaws task.graph task.tags task.plan →
    IsHistory task retries (history_of task kept entries) →
    All (StandsYet task kept (happen_all task Speculation.start (history_of task kept entries)))
    entries

abbrev pub LogLaw : Type 0
LogLaw =
    (task : Task) (retries : ℕ) (kept : Kept) (entries : List Entry) →
    PlanLaws task.graph task.tags task.plan →
    IsHistory task retries (history_of task kept entries) →
    visible task (history_of task kept entries) ≡ flat_map (entry_steps task kept) entries

-- One more entry is reported, if it is stale, as the machine then is.
abbrev pub MoreToldLaw : Type 0
MoreToldLaw =
    (task : Task) (before after : Kept) (entries : List Entry) (e : Entry) (event : Event) →
    AreTold task before entries →
    history_of task after (entries ++ e ∷ []) ≡ history_of task before entries ++ event ∷ [] →
    ((k : ℕ) (current : Option ℕ) → e ≡ entry.Stale k current →
    running_now (happen_all task Speculation.start (history_of task before entries)) k ≡ current) →
    AreTold task after (entries ++ e ∷ [])
