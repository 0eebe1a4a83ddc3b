-- At the beginning every syndrome fits; once all slots have arrived, all is committed and
-- explained.
use Rattle.std.proofs.Common.{◌≡◌, ℕ, ◌+◌, ◌<◌, ◌≤◌, ⊎_elim, get_or, sym, ap, ◌∙◌, arith, IsSome}
use Rattle.std.proofs.lemmas.Bool.{cases_lt, true≢false}
use Rattle.std.proofs.lemmas.List.{get_or_past}
use Rattle.graph_model.specs.Graph.{is_in}
use Rattle.window_model.specs.Decoder.{start, after_all}
use Rattle.window_model.specs.Windows.{Window, home_of, no_window, window_count}
use Rattle.window_model.proofs.ReadyRounds.{prompt_law}
use Rattle.window_model.proofs.Sums.{sum_law}
use Rattle.window_model.specs.Progress.{IsComplete, IsProgress, Progress}
use Rattle.window_setting.specs.Settings.{IsSetting}
use Rattle.window_setting.specs.Slots.{ready_rounds}
use Rattle.window_setting.proofs.Early.{below_slot, ready_at}
use Rattle.window_setting.proofs.Limits.{last_in}
use Rattle.window_setting.proofs.Lawful.{laws_of}

module _ (m : Progress) (setting : IsSetting m.task) (h : IsProgress m) where
  -- a detector's home is a window
  home_in : (v : ℕ) → v < m.task.graph.vertices →
      home_of m.task.plan.homes v < window_count m.task.plan
  home_in v l =
      ⊎_elim (λ (low : home_of m.task.plan.homes v < window_count m.task.plan). low)
      (λ (past : window_count m.task.plan ≤ home_of m.task.plan.homes v).
      absurd (true≢false (sym ((laws_of m.task setting).home_inside v l)
      ∙ ap (λ (window : Window). is_in window.detectors v)
      (get_or_past m.task.plan.windows (home_of m.task.plan.homes v) no_window past))))
      (cases_lt (home_of m.task.plan.homes v) (window_count m.task.plan))

  all_committed : m.arrived ≡ m.task.last_slot + 1 → (w : ℕ) → w < window_count m.task.plan →
      IsSome ((after_all start m.steps).kept w)
  all_committed end w l =
      h.settled.windows w l (omega (arith, last_in m.task setting w, end, h.arrived)) (λ x older.
      omega (arith, last_in m.task setting x, end, h.arrived))

  pub is_complete : IsComplete m
  is_complete = record {
    committed = all_committed;
    released = λ end op l. prompt_law m.task (after_all start m.steps) op (get_or (ready_rounds
        m.task) op 0) h.settled l (setting.fit.operations.named op l) (ready_at m.task setting op l)
        (let low = below_slot m.task setting op l in let last = setting.fit.operations.in_slots op
        l in omega (arith, low, last, end, h.arrived));
    explained = λ end s fits v l.
        sum_law m.task s m.steps v (laws_of m.task setting) (h.runs s fits) l
        (all_committed end (home_of m.task.plan.homes v) (home_in v l));
  }
