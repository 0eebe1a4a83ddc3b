-- What a claim takes and what it leaves; and problems of tickets.
use Rattle.std.proofs.Common.{◌≡◌, ◌≢◌, ℕ, ◌+◌, ◌-◌, ◌<◌, ◌≤◌, ◌==◌, false, true, Bool, List, [], ◌∷◌, ◌++◌, refl, sym, ap, ◌∙◌, subst, length, map, arith, count_by, None, Some, All, eq-eqb}
use Rattle.std.proofs.lemmas.Bool.{ne_eqb}
use Rattle.graph_model.specs.Problems.{Problem}
use Rattle.window_model.specs.declared.GuessView.{GuessView}
use Rattle.window_model.specs.Decoder.{Task}
use Rattle.window_model.specs.Parts.{part_of}
use Rattle.window_model.specs.Progress.{HasValues}
use Rattle.window_model.specs.Speculation.{Claim, Event, Claimed, IsFirstTurn, IsNewLink, Link, Machine, MayClaim, defect_of, happens, sources_of, start, syndrome_of}
use Rattle.window_model.specs.SpeculationLaws.{is_claim_of}
use Rattle.window_model.specs.TicketLaws.{problem_of}
use Rattle.window_model.specs.Windows.{places, window_at, window_count}
use Rattle.window_model.proofs.Claims.{claim_law}
use Rattle.window_model.proofs.Histories.{happen_all-append, history_push}
use Rattle.window_model.proofs.Updates.{set_same}
use Rattle.window_setting.specs.Defects.{AreClaimDefects}
use Rattle.window_setting.proofs.Lawful.{laws_of}
use Rattle.cascade_laws.specs.MirrorLaws.{reached}
use Rattle.cascade_laws.specs.Store.{bits_of}
use Rattle.cascade_laws.specs.Turns.{IsClaimTurn}
use Rattle.cascade_laws.proofs.Entries.{claims_more, tally}
use Rattle.core_journal.specs.declared.event.Event.TheVariants as entry
use Rattle.core_store.specs.Tickets.{ClaimBits, links_in}
use Rattle.core_state.specs.States.{CoreTable, HasHappened, IsState, events_of, machine_of}
use Rattle.claim_drafts.specs.Drafts.{AreDrafts, AreSheets, Draft, IsDraftOf, IsTaken, drafts_of}
use Rattle.claim_drafts.proofs.Left.{taken_law}
use Rattle.window_core.specs.declared.turn.Job.{Job}
use Rattle.window_core.specs.Claims.{AreFilled, HasPlaces, dependencies}
use Rattle.window_core.specs.Cores.{IsEquipped, claims_left}
use Rattle.window_core.specs.Turned.{IsJobOf}
use Rattle.window_core.proofs.Equipped.{drafts_stay, left, ordered}
use Rattle.window_core.proofs.Filled.{bits_are, guessed_links, new_links, sources_are}

-- what is kept of values is what the machine has
pub has_values : (c : CoreTable) → IsState c →
    HasValues c.task (syndrome_of (machine_of c)) (machine_of c).arrived c.kept.values
has_values c h = record { value = λ v l a. h.agrees.value v l a }

-- The problem of a ticket: its window's part, with what its links leave of the values.
pub problem_made : (task : Task) (m : Machine) (k w : ℕ) (values : List Bool)
    (bits : List (List Bool)) (problem : Problem) → (window_at task.plan w).last < m.arrived →
    HasValues task (syndrome_of m) m.arrived values → (m.claim k).window ≡ w →
    sources_of (m.claim k).links ≡ (window_at task.plan w).deps →
    bits_of (m.claim k).links ≡ bits → problem.part ≡ part_of task.graph task.plan w →
    AreClaimDefects task w values bits problem.defects → problem ≡ problem_of task m k
problem_made task m k w values bits problem last has window sources are_bits part are = λ i.
    record { part = parts i; defects = defects i }
  where
    parts : problem.part ≡ part_of task.graph task.plan (m.claim k).window
    parts = part ∙ ap (part_of task.graph task.plan) (sym window)

    defects : problem.defects ≡ map (defect_of task m.value (m.claim k))
        (window_at task.plan (m.claim k).window).detectors
    defects =
        are.defect m (m.claim k) last has window sources are_bits
        ∙ ap (λ x. map (defect_of task m.value (m.claim k)) (window_at task.plan x).detectors)
        (sym window)

-- how often a window may still be claimed, once window w was
abbrev pub left_after : CoreTable → ℕ → ℕ → ℕ
left_after c w x =
    (c.retries + 1) - (count_by (is_claim_of x) (events_of c) + tally (w == x))

module _ (old : CoreTable) (state : IsState old) (drafts : List (List Draft))
    (sheets : List (List Bool)) (h : IsEquipped old drafts sheets) (w : ℕ)
    (turn : IsClaimTurn old.task old.retries (machine_of old) (Some w)) where
  abbrev m : Machine
  m = machine_of old

  abbrev was : MayClaim old.task old.retries m turn.0.0 w turn.0.1
  was = turn.0.2

  pub one_left : claims_left old w ≡ left_after old w w + 1
  one_left =
      let few = claim_law old.task old.retries (events_of old ++ Claimed turn.0.0 w turn.0.1 ∷ [])
      w (laws_of old.task state.setting)
      (history_push old.task old.retries start (events_of old) (Claimed turn.0.0 w turn.0.1)
      state.history was) in
      let more = claims_one in
      let one : tally (w == w) ≡ 1 = ap tally (eq-eqb w w refl) in
      omega (arith, few, more, one)
    where
      claims_one : count_by (is_claim_of w) (events_of old ++ Claimed turn.0.0 w turn.0.1 ∷ [])
          ≡ count_by (is_claim_of w) (events_of old) + tally (w == w)
      claims_one = claims_more w (events_of old)
          (Claimed turn.0.0 w turn.0.1)

  others_left : (x : ℕ) → x ≢ w → claims_left old x ≡ left_after old w x
  others_left x ne =
      let none : tally (w == x) ≡ 0 = ap tally (ne_eqb w x (λ e. ne (sym e))) in
      ap (λ n. (old.retries + 1) - n) (omega (arith, none))

  -- the window has a draft
  pub some_left : drafts_of drafts w ≢ []
  some_left e =
      let long = h.drafts_are.left_are w was.in_range in
      let none : length (drafts_of drafts w) ≡ 0 = ap length e in
      let one = one_left in
      omega (arith, long, none, one)

  pub in_drafts : w < length drafts
  in_drafts = subst (λ n. w < n) (sym h.drafts_are.each_window) was.in_range

  module _ (draft : Draft) (after : List (List Draft)) (taken : IsTaken w draft drafts after) where
    pub is_draft : AreDrafts old.task (left_after old w) after × IsDraftOf old.task w draft
    is_draft =
        taken_law old.task (claims_left old) (left_after old w) w draft drafts after was.in_range
        h.drafts_are taken one_left others_left

    -- what its links are to be filled with
    pub draft_in_plan : draft.claim.window < window_count old.task.plan
    draft_in_plan = subst (λ v. v < window_count old.task.plan) (sym is_draft.1.window) was.in_range

    pub draft_last : (window_at old.task.plan draft.claim.window).last < m.arrived
    draft_last = subst (λ v. (window_at old.task.plan v).last < m.arrived) (sym is_draft.1.window)
        was.arrived

    pub draft_places : HasPlaces old.task draft.claim
    draft_places = subst
        (λ v. (length draft.claim.origins ≡ length (window_at old.task.plan v).deps)
        → (map length draft.claim.bits ≡ map (λ x. length (places old.task.graph old.task.plan x v))
        (window_at old.task.plan v).deps) → HasPlaces old.task draft.claim) is_draft.1.window
        (λ origins bits. record { origins = origins; bits = bits })
        is_draft.1.origins is_draft.1.bits

    module _ (may_guess : GuessView → Bool → Type 0) (from filled : ClaimBits)
        (blank : from ≡ draft.claim) (window : filled.window ≡ from.window)
        (are_from : AreFilled may_guess old.task m filled
        (length (window_at old.task.plan from.window).deps)) where
      are : AreFilled may_guess old.task m filled (length (dependencies old.task filled))
      are = subst (λ v. AreFilled may_guess old.task m filled (length (window_at old.task.plan
          v).deps)) (sym window) are_from

      pub at_window : filled.window ≡ w
      at_window = window ∙ ap (λ (c : ClaimBits). c.window) blank ∙ is_draft.1.window

      pub is_filled_draft : IsDraftOf old.task filled.window (record draft { claim = filled })
      is_filled_draft = record {
        window = refl;
        origins = are.has_places.origins;
        bits = are.has_places.bits;
        part = is_draft.1.part ∙ ap (part_of old.task.graph old.task.plan) (sym at_window);
        defects = is_draft.1.defects ∙ ap (λ x. length (window_at old.task.plan x).detectors)
            (sym at_window);
      }

      pub filled_in_plan : filled.window < window_count old.task.plan
      filled_in_plan = subst (λ v. v < window_count old.task.plan) (sym at_window) was.in_range

      pub may_claim : MayClaim old.task old.retries m m.tickets filled.window
          (links_in old.task.plan filled)
      may_claim = subst (λ x. MayClaim old.task old.retries m m.tickets x
          (links_in old.task.plan filled)) (sym at_window) (record {
            number = refl;
            in_range = was.in_range;
            waiting = was.waiting;
            arrived = was.arrived;
            allowed = was.allowed;
            sources = sources_are old.task filled are.has_places ∙ ap (λ x.
                (window_at old.task.plan x).deps) at_window;
            new = subst (λ x. All (IsNewLink old.task m x)
                (links_in old.task.plan filled)) at_window (new_links may_guess old.task m filled
                are);
          })

      module _ (new : CoreTable) (k : ℕ) (number : k ≡ m.tickets)
          (went : HasHappened old (entry.Claimed k filled.window)
          (Claimed k filled.window (links_in old.task.plan filled)) new) where
        abbrev event : Event
        event = Claimed k filled.window (links_in old.task.plan filled)

        may_k : MayClaim old.task old.retries m k filled.window (links_in old.task.plan filled)
        may_k = subst (λ n. MayClaim old.task old.retries m n filled.window
            (links_in old.task.plan filled)) (sym number) may_claim

        first : IsFirstTurn old.task old.retries m event
        first = subst (λ x. IsFirstTurn old.task old.retries m
            (Claimed k x (links_in old.task.plan filled))) (sym at_window)
            (turn.1 k (links_in old.task.plan filled))

        pub equipped : IsEquipped new after sheets
        equipped = record {
          ordered = ordered old new (entry.Claimed k filled.window) event went h.ordered may_k
              (λ _. first);
          drafts_are = subst (λ (t : Task). AreDrafts t (claims_left new) after) (sym went.task)
              (drafts_stay old.task (left_after old w) (claims_left new) after same is_draft.0);
          sheets_are = subst (λ (t : Task). AreSheets t sheets) (sym went.task) h.sheets_are;
        }
          where
            same : (x : ℕ) → left_after old w x ≡ claims_left new x
            same x =
                ap (λ y. (old.retries + 1) - (count_by (is_claim_of x) (events_of old)
                + tally (y == x))) (sym at_window)
                ∙ sym (left old new (entry.Claimed k filled.window) event went x)

        machine_is : machine_of new ≡ happens old.task m event
        machine_is =
            ap (λ (t : Task). reached t (events_of new)) went.task
            ∙ ap (reached old.task) went.events
            ∙ happen_all-append old.task start (events_of old) (event ∷ [])

        pub is_job : (problem : Problem) → problem.part ≡ draft.part →
            AreClaimDefects old.task filled.window old.kept.values filled.bits problem.defects →
            IsJobOf may_guess old new (record { ticket = k; problem = problem })
        is_job problem part are_defects = record {
          window = filled.window;
          links = links_in old.task.plan filled;
          turned = record { next = record { may = may_k; first = first }; happened = went };
          problem = subst (λ n. problem ≡ problem_of old.task n k) (sym machine_is) its_problem;
          guessed = guessed_links may_guess old.task m filled are;
        }
          where
            claim_is : (happens old.task m event).claim k ≡ record {
              window = filled.window;
              links = links_in old.task.plan filled;
              result = None;
              closed = false;
            }
            claim_is = set_same m.claim k (record {
              window = filled.window;
              links = links_in old.task.plan filled;
              result = None;
              closed = false;
            })

            its_problem : problem ≡ problem_of old.task (happens old.task m event) k
            its_problem = problem_made old.task (happens old.task m event) k filled.window
                old.kept.values filled.bits problem may_k.arrived
                (record { value = λ v l a. state.agrees.value v l a })
                (ap (λ (c : Claim). c.window) claim_is)
                (ap (λ (c : Claim). sources_of c.links) claim_is
                ∙ sources_are old.task filled are.has_places)
                (ap (λ (c : Claim). bits_of c.links) claim_is
                ∙ bits_are old.task filled are.has_places)
                (part ∙ is_filled_draft.part) are_defects
