-- The lines of steps, and of all of a text.
use Rattle.std.proofs.Common.{◌≡◌, ◌<◌, ◌^◌, ℕ, Bool, true, List, [], ◌∷◌, ◌++◌, length, refl, sym, ap, ◌∙◌, arith, subst, append_assoc, append-nil, Option, option_map, unwrap_or, slice_index_or, flat_map, All}
use Rattle.std.proofs.lemmas.List.Concat.{flat_map-append}
use Rattle.std.proofs.lemmas.List.Elements.{All-append, All-cons, All-head, All-nil, All-tail}
use Rattle.matching_model.specs.Certificates.{Certificate}
use Rattle.surface_model.specs.Text.{is_name}
use Rattle.window_model.specs.Decoder.{Task, Step, Arrive, Commit, Release, owned_part}
use Rattle.window_model.specs.Speculation.{Machine, done, happens, result_of, start, IsHistoryFrom}
use Rattle.window_model.specs.Windows.{window_count}
use Rattle.report_model.specs.Logs.{Arrived, Committed, Released}
use Rattle.report_model.specs.Texts.{label_of, step_line}
use Rattle.log_reader.specs.Steps.{AreEdges}
use Rattle.core_journal.specs.declared.event.Event.{Event as Entry}
use Rattle.core_journal.specs.declared.event.Event.TheVariants as entry
use Rattle.core_journal.specs.Entries.{Kept, event_of, history_of}
use Rattle.core_state.specs.States.{CoreTable, IsState, machine_of}
use Rattle.core_state.proofs.Begun.{windows_few}
use Rattle.cascade_laws.specs.Turns.{is_done}
use Rattle.trace_laws.specs.Told.{StandsYet, committed_by, entry_steps}
use Rattle.trace_laws.proofs.Told.{log_law}
use Rattle.run_report.specs.Reports.{steps_of}
use Rattle.window_setting.proofs.Lawful.{laws_of}
use Rattle.certified_lines.specs.Certified.{CertifiedLine, Started, Stepped, Finished, IsLine, text_of}
use Rattle.certified_lines.proofs.Lines.{whole_lines_law}
use Rattle.certified_log.specs.Texts.{IsShownLeast, IsStepShown, ReadBackLaw, lines_of, shown_lines, step_lines}
use Rattle.certified_log.specs.Shown.{AreCertificates, IsReleaseIn, certificate_at, whole_in}
use Rattle.certified_log.proofs.Answered.{window_in}
use Rattle.certified_log.proofs.Spelled.{text_append}

-- ---- releases are of operations

module _ (task : Task) (retries : ℕ) (kept : Kept) where
  first_in : (m : Machine) (e : Entry) (rest : List Entry) →
      IsHistoryFrom task retries m (history_of task kept (e ∷ rest)) →
      IsReleaseIn (length task.operations) e
  first_in m (entry.Arrived t) rest h = tt
  first_in m (entry.Claimed k w) rest h = tt
  first_in m (entry.Held k) rest h = tt
  first_in m (entry.Stale k current) rest h = tt
  first_in m (entry.Verified x w) rest h = tt
  first_in m (entry.Poisoned x w) rest h = tt
  first_in m (entry.Dropped w) rest h = tt
  first_in m (entry.Committed k w) rest h = tt
  first_in m (entry.Released op bit) rest h = h.0.in_range

  pub all_in : (m : Machine) (entries : List Entry) →
      IsHistoryFrom task retries m (history_of task kept entries) →
      All (IsReleaseIn (length task.operations)) entries
  all_in m [] h = All-nil (IsReleaseIn (length task.operations))
  all_in m (e ∷ rest) h =
      All-cons (IsReleaseIn (length task.operations)) e rest (first_in m e rest h)
      (all_in (happens task m (event_of task kept e)) rest h.1)

module _ (c : CoreTable) (h : IsState c) where
  pub releases_in : All (IsReleaseIn (length c.task.operations)) c.journal
  releases_in = all_in c.task c.retries c.kept start c.journal h.history

  -- what shows of the journal
  pub steps_in : flat_map (entry_steps c.task c.kept) c.journal ≡ steps_of c
  steps_in = sym (log_law c.task c.retries c.kept c.journal (laws_of c.task h.setting) h.history)

-- ---- what is said of a step

module _ (task : Task) (labels : List (List ℕ)) (whole : ℕ → List ℕ)
    (cert : ℕ → Option Certificate) where
  one : (step : Step) → IsStepShown task labels whole cert step →
      All (IsStepShown task labels whole cert) (step ∷ [])
  one step is = All-cons (IsStepShown task labels whole cert) step [] is
      (All-nil (IsStepShown task labels whole cert))

  pub none_shown : All (IsStepShown task labels whole cert) []
  none_shown = All-nil (IsStepShown task labels whole cert)

  pub arrived_shown : (slot : ℕ) → slot < 2 ^ 32 →
      All (IsStepShown task labels whole cert) (Arrive slot ∷ [])
  arrived_shown slot l = one (Arrive slot) (record {
    kept = tt;
    lines = All-cons IsLine (Stepped (Arrived slot)) [] l (All-nil IsLine);
  })

  pub committed_shown : (window : ℕ) (set : List ℕ) → window < 2 ^ 32 → AreEdges set →
      set ≡ owned_part task window (whole window) →
      IsShownLeast task window (whole window) (cert window) →
      All (IsStepShown task labels whole cert) (Commit window set ∷ [])
  committed_shown window set l edges own shown = one (Commit window set) (record {
    kept = (own, shown);
    lines = All-cons IsLine (Stepped (Committed window set))
        (shown_lines (whole window) (cert window)) (l, edges.each, edges.rising)
        shown.shown.lines;
  })

  pub released_shown : (op : ℕ) (bit : Bool) → is_name (label_of labels op) ≡ true →
      All (IsStepShown task labels whole cert) (Release op bit ∷ [])
  released_shown op bit named = one (Release op bit) (record {
    kept = tt;
    lines = All-cons IsLine (Stepped (Released (label_of labels op) bit)) [] named
        (All-nil IsLine);
  })

  all_lines : (steps : List Step) → All (IsStepShown task labels whole cert) steps →
      All IsLine (lines_of labels whole cert steps)
  all_lines [] each = All-nil IsLine
  all_lines (step ∷ steps) each =
      All-append IsLine (step_lines labels whole cert step) (lines_of labels whole cert steps)
      (All-head (IsStepShown task labels whole cert) step steps each).lines
      (all_lines steps (All-tail (IsStepShown task labels whole cert) step steps each))

-- ---- what is said of an entry

module _ (c : CoreTable) (h : IsState c) where
  pub releases_at : (items : List Entry) → items ≡ c.journal → (n : ℕ) →
      length c.task.operations ≡ n → (at : ℕ) (d : Entry) → at < length items →
      IsReleaseIn n (slice_index_or items at d)
  releases_at items same n count at d low =
      subst (λ m. IsReleaseIn m (slice_index_or items at d)) count
      (subst (λ es. All (IsReleaseIn (length c.task.operations)) es) (sym same) (releases_in c h)
      at d low)

  module _ (e : Entry) (k w : ℕ) (is : e ≡ entry.Committed k w)
      (stands : StandsYet c.task c.kept (machine_of c) e) where
    there : StandsYet c.task c.kept (machine_of c) (entry.Committed k w)
    there = subst (StandsYet c.task c.kept (machine_of c)) is stands

    pub committed_in : w < window_count c.task.plan
    committed_in = window_in c h w k (ap done there.0)

    whole_is : whole_in c w ≡ result_of (machine_of c) k
    whole_is = ap (λ p. unwrap_or (option_map (result_of (machine_of c)) (done p)) []) there.0

    pub entry_committed : (labels : List (List ℕ)) (certs : List (Option Certificate)) →
        AreCertificates c certs → (kept : List ℕ) → AreEdges kept →
        kept ≡ owned_part c.task w (result_of (machine_of c) k) →
        All (IsStepShown c.task labels (whole_in c) (certificate_at certs))
        (entry_steps c.task c.kept e)
    entry_committed labels certs all kept edges owned =
        subst (λ z. All (IsStepShown c.task labels (whole_in c) (certificate_at certs))
        (entry_steps c.task c.kept z)) (sym is)
        (committed_shown c.task labels (whole_in c) (certificate_at certs) w
        (committed_by c.task c.kept k w) below
        (subst AreEdges (owned ∙ ap (owned_part c.task w) there.1) edges)
        (ap (owned_part c.task w) (sym there.1 ∙ sym whole_is))
        (all.each w committed_in (ap is_done there.0)))
      where
        below : w < 2 ^ 32
        below = let few = windows_few c.task h.setting in let low = committed_in in
            omega (arith, few, low)

-- ---- the text of the entries

module _ (task : Task) (kept : Kept) (labels : List (List ℕ)) (whole : ℕ → List ℕ)
    (cert : ℕ → Option Certificate) where
  abbrev pub entry_text : Entry → List ℕ
  entry_text e = text_of (lines_of labels whole cert (entry_steps task kept e))

  pub entries_text : (entries : List Entry) →
      flat_map entry_text entries
      ≡ text_of (lines_of labels whole cert (flat_map (entry_steps task kept) entries))
  entries_text [] = refl
  entries_text (e ∷ entries) =
      ap (λ t. entry_text e ++ t) (entries_text entries)
      ∙ sym (text_append (lines_of labels whole cert (entry_steps task kept e))
      (lines_of labels whole cert (flat_map (entry_steps task kept) entries)))
      ∙ ap text_of (sym (flat_map-append (step_lines labels whole cert) (entry_steps task kept e)
      (flat_map (entry_steps task kept) entries)))

pub commit_text : (labels : List (List ℕ)) (whole : ℕ → List ℕ) (cert : ℕ → Option Certificate)
    (before : List ℕ) (window : ℕ) (set : List ℕ) →
    (before ++ flat_map (step_line labels) (Commit window set ∷ []))
    ++ text_of (shown_lines (whole window) (cert window))
    ≡ before ++ text_of (lines_of labels whole cert (Commit window set ∷ []))
commit_text labels whole cert before window set =
    let first = step_line labels (Commit window set) in
    let shown = shown_lines (whole window) (cert window) in
    append_assoc before (first ++ []) (text_of shown)
    ∙ ap (λ t. before ++ t) (ap (λ t. t ++ text_of shown) (append-nil first)
    ∙ ap (λ ls. first ++ text_of ls) (sym (append-nil shown)))

-- ---- all lines of a log

pub read_back_law : ReadBackLaw
read_back_law task labels steps text log = record {
  text_is = log.text_is;
  each = each;
  whole = whole_lines_law (Started ∷ (lines ++ Finished ∷ [])) each;
}
  where
    lines : List CertifiedLine
    lines = lines_of labels log.whole log.cert steps

    each : All IsLine (Started ∷ (lines ++ Finished ∷ []))
    each = All-cons IsLine Started (lines ++ Finished ∷ []) tt
        (All-append IsLine lines (Finished ∷ [])
        (all_lines task labels log.whole log.cert steps log.each)
        (All-cons IsLine Finished [] tt (All-nil IsLine)))
