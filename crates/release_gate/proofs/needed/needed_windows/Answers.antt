use Rattle.std.proofs.Common.{[], false, ap, ◌∙◌, arith, get_or}
use Rattle.std.specs.List.{list_any, range_with_len}
use Rattle.std.proofs.lemmas.List.{length-map}
use Rattle.graph_model.proofs.Members.{filter_same, is_in-range}
use Rattle.window_model.specs.Windows.{all_below, window_at, window_count}
use Rattle.release_gate.specs.Gated.{turns}
use Rattle.release_gate.specs.Operations.{labels_of, timed_at}
use Rattle.release_gate.proofs.needed.needed_windows.Goals as goal

pub returns : goal.returns
returns c =
    let g = c.args.graph.now in
    let plan = c.args.plan.now.plan in
    let ops = c.args.ops.now in
    let touched = c.in_ok-touched.touched.items in
    record {
      each = length-map c.loop-at.needs.items (λ v. v.items) ∙ c.loop-at.invariant.each
          ∙ omega (arith, c.loop-at-test.false, c.loop-at.auto.at-end);
      needed = λ k l.
          c.loop-at.invariant.needed k (omega (arith, l, c.loop-at-test.false))
          ∙ ap (λ n. all_below n (λ w. get_or (get_or touched w []) k false))
          c.in_ok-touched.ensures.each
          ∙ filter_same (λ w. get_or (get_or touched w []) k false) (λ w.
          list_any (turns g (labels_of (timed_at ops k))) (window_at plan w).owned)
          (range_with_len 0 (window_count plan))
          (λ w m. let within = is_in-range 0 (window_count plan) w m in
          (c.in_ok-touched.ensures.rows w (omega (arith, within.1))).touches k l);
    }
