-- What a standing ticket's answer keeps, and what a commit asks of the operations that wait for its
-- window.
use Rattle.std.proofs.Common.{◌≡◌, ℕ, ◌<◌, ◌&&◌, Bool, true, List, [], ◌∷◌, All, Contains, length, filter, get_or, sym, ap, ◌∙◌, subst, arith, Some, None, is_none, is_some, option_map, unwrap_or}
use Rattle.std.specs.List.{range_with_len}
use Rattle.std.specs.List.Sorted.{IsStrictlyIncreasing}
use Rattle.std.proofs.lemmas.Bool.{false≢true}
use Rattle.std.proofs.lemmas.Option.{none-some}
use Rattle.std.proofs.lemmas.List.Kept.{IsStrictlyIncreasing-filter}
use Rattle.graph_model.specs.Graph.{is_in}
use Rattle.graph_model.specs.Problems.{Decoding, owned_members}
use Rattle.graph_model.proofs.Incidence.{increasing_range}
use Rattle.graph_model.proofs.Members.{All-at, all_within, is_in-Contains, is_in-filter}
use Rattle.window_model.specs.Decoder.{needs, owned_part}
use Rattle.window_model.specs.Parts.{part_of}
use Rattle.window_model.specs.Windows.{IsPlan, window_at, window_count}
use Rattle.window_model.specs.Speculation.{Waiting, Running, Held, Done, MayCommitTicket, Phase, decoder_of, done, held_by, result_of, standing}
use Rattle.window_model.specs.TicketLaws.{IsSound}
use Rattle.window_model.proofs.Plans.{in_below}
use Rattle.boundary_fold.proofs.Folded.{owned_inside, owned_members_are}
use Rattle.release_gate.specs.Operations.{IsPlanOf}
use Rattle.release_gate.proofs.Planned.{owned_within}
use Rattle.release_laws.specs.Tables.{waiting_for}
use Rattle.cascade_laws.proofs.Laws.{inside, sound}
use Rattle.core_store.specs.Tickets.{answer_at, set_of}
use Rattle.core_state.specs.States.{AreParts, Parts, history_in, machine_in}
use Rattle.core_state.proofs.Follows.{laws}
use Rattle.core_state.proofs.Told.{answer_set}

some_in : (xs : List ℕ) (w : ℕ) → is_in xs w ≡ true → 0 < length xs
some_in [] w m = absurd (false≢true m)
some_in (x ∷ xs) w m = omega arith

standing_held : (ph : Phase) (k : ℕ) → standing ph ≡ Some k → held_by ph ≡ Some k
standing_held Waiting k e = absurd (none-some k e)
standing_held (Running j) k e = absurd (none-some k e)
standing_held (Held j) k e = e
standing_held (Done j) k e = e

module _ (p : Parts) (h : AreParts p) (k w : ℕ)
    (stands : standing ((machine_in p).phase w) ≡ Some k) where
  is_held : held_by ((machine_in p).phase w) ≡ Some k
  is_held = standing_held ((machine_in p).phase w) k stands

  in_plan : w < window_count p.task.plan
  in_plan = inside p.task p.retries (history_in p) (laws p h) h.history w k is_held

  keeps : IsSound p.task (machine_in p)
  keeps = sound p.task p.retries (history_in p) (laws p h) h.history

  pub stand_taken : k < (machine_in p).tickets
  stand_taken = (keeps.current w k is_held).0

  own_window : ((machine_in p).claim k).window ≡ w
  own_window = (keeps.current w k is_held).1

  -- ---- its answer

  pub has_answer : answer_at p.tickets k ≡ None → ⊥
  has_answer none =
      false≢true (sym (ap (λ o. is_some (set_of o)) none)
      ∙ ap is_some (answer_set p h k stand_taken) ∙ (keeps.least w k stands).0)

  result_is : (d : Decoding) → answer_at p.tickets k ≡ Some d → result_of (machine_in p) k ≡ d.set
  result_is d e = ap (λ o. unwrap_or o []) (sym (answer_set p h k stand_taken) ∙ ap set_of e)

  part_is : (d : Decoding) → answer_at p.tickets k ≡ Some d →
      d.problem.part ≡ part_of p.task.graph p.task.plan w
  part_is d e =
      h.answered.part k d e
      ∙ ap (part_of p.task.graph p.task.plan) (h.tickets.window k stand_taken ∙ own_window)

  in_edges : (e : ℕ) → is_in (result_of (machine_in p) k) e ≡ true →
      is_in (window_at p.task.plan w).edges e ≡ true
  in_edges e m =
      ap (λ x. is_in (window_at p.task.plan x).edges e) (sym own_window)
      ∙ is_in-Contains (window_at p.task.plan ((machine_in p).claim k).window).edges e
      (All-at (Contains (window_at p.task.plan ((machine_in p).claim k).window).edges)
      (result_of (machine_in p) k) e
      (keeps.least w k stands).1.correction.within m)

  owned_is : owned_members (part_of p.task.graph p.task.plan w) (result_of (machine_in p) k)
      ≡ owned_part p.task w (result_of (machine_in p) k)
  owned_is =
      ap (λ plan. owned_members (part_of p.task.graph plan w) (result_of (machine_in p) k))
      h.setting.plan_is
      ∙ owned_members_are p.task h.setting.placed h.setting.fit.is_plan h.setting.plan_is w
      (subst (λ plan. w < window_count plan) h.setting.plan_is in_plan)
      (result_of (machine_in p) k)
      (λ e m. ap (λ plan. is_in (window_at plan w).edges e) (sym h.setting.plan_is) ∙ in_edges e m)

  -- what the answer keeps is what the window commits
  pub kept_is : (d : Decoding) → answer_at p.tickets k ≡ Some d → d.kept ≡ owned_members
      d.problem.part d.set → d.kept ≡ owned_part p.task w (result_of (machine_in p) k)
  kept_is d e kept =
      kept ∙ ap (λ part. owned_members part d.set) (part_is d e)
      ∙ ap (owned_members (part_of p.task.graph p.task.plan w)) (sym (result_is d e)) ∙ owned_is

  plan_of : IsPlanOf p.task.graph p.task.plan
  plan_of =
      let made = h.setting.fit.is_plan in
      record {
        tags = p.task.tags;
        order = made.order;
        commit = made.commit;
        buffer = made.buffer;
        each_tag = made.each_tag;
        is_plan = subst (IsPlan p.task.graph p.task.tags made.order made.commit made.buffer)
            (sym h.setting.plan_is) made.is_placed.is_plan;
      }

  pub edges_in : All (λ e. e < length p.task.graph.edges)
      (owned_part p.task w (result_of (machine_in p) k))
  edges_in =
      all_within (λ e. e < length p.task.graph.edges)
      (owned_part p.task w (result_of (machine_in p) k))
      (λ e m. All-at (λ x. x < length p.task.graph.edges) (window_at p.task.plan w).owned e
      (owned_within p.task.graph p.task.plan h.setting.is_graph plan_of w in_plan)
      (owned_inside p.task w (result_of (machine_in p) k) e m))

module _ (p : Parts) (h : AreParts p) (k w : ℕ)
    (may : MayCommitTicket p.task (machine_in p) k w) where
  -- ---- the operations that wait for the window

  abbrev waits : ℕ → Bool
  waits op = is_in (needs p.task op) w

  pub ops_rise : IsStrictlyIncreasing (waiting_for p.task w)
  ops_rise = IsStrictlyIncreasing-filter waits (range_with_len 0 (length p.task.operations))
      (increasing_range 0 (length p.task.operations))

  pub ops_in : All (λ op. op < length p.releases.missing) (waiting_for p.task w)
  ops_in = all_within (λ op. op < length p.releases.missing) (waiting_for p.task w)
      (λ op m. let l = (in_below waits (length p.task.operations) op m).0 in
      let e = h.releases.each_missing in omega (arith, l, e))

  pub ops_wait : All (λ op. 0 < get_or p.releases.missing op 0) (waiting_for p.task w)
  ops_wait = all_within (λ op. 0 < get_or p.releases.missing op 0) (waiting_for p.task w)
      (λ op m.
      let both = in_below waits (length p.task.operations) op m in
      let open_ : (decoder_of p.task (machine_in p)).kept w ≡ None = ap (λ (ph : Phase).
      option_map (λ j. owned_part p.task w (result_of (machine_in p) j)) (done ph)) may.held in
      let there = is_in-filter (λ x. is_none ((decoder_of p.task (machine_in p)).kept x)) (needs
      p.task op) w ∙ ap (λ b. b && is_none ((decoder_of p.task (machine_in p)).kept w)) both.1
      ∙ ap is_none open_ in
      let some = some_in (filter (λ x. is_none ((decoder_of p.task (machine_in p)).kept x))
      (needs p.task op)) w there in
      let is = h.releases.missing op both.0 in
      omega (arith, some, is))
