-- An answer of a ticket's problem may return, and keeps what its window commits.
use Rattle.std.proofs.Common.{◌≡◌, ◌<◌, ℕ, true, List, map, sym, ap, ◌∙◌, subst, Contains}
use Rattle.graph_model.specs.Graph.{is_in}
use Rattle.graph_model.specs.Problems.{Decoding, Part, Problem, Solves, owned_members}
use Rattle.graph_model.specs.declared.PartEdge.{PartEdge}
use Rattle.graph_model.proofs.Members.{All-at, is_in-Contains}
use Rattle.window_model.specs.Decoder.{Task}
use Rattle.window_model.specs.Parts.{part_of}
use Rattle.window_model.specs.Speculation.{Machine, held_by, start, happen_all}
use Rattle.window_model.specs.Windows.{IsPlan, window_at, window_count}
use Rattle.window_model.proofs.Soundness.{sound_law}
use Rattle.window_model.proofs.Tickets.{covered_law, result_law}
use Rattle.boundary_fold.proofs.Fits.{edges_real, numbers_same}
use Rattle.boundary_fold.proofs.Folded.{owned_members_are}
use Rattle.window_setting.specs.Settings.{IsSetting}
use Rattle.window_setting.proofs.Lawful.{laws_of}
use Rattle.claim_bits.specs.ClaimLaws.{IsAnswer, KeptLaw, AnswerLaw}

module _ (task : Task) (setting : IsSetting task) (w : ℕ) (within : w < window_count task.plan)
  where
    in_plan : w < window_count setting.placed.plan
    in_plan = subst (λ plan. w < window_count plan) setting.plan_is within

    -- the edges of a part are its window's
    edge_inside : (set : List ℕ) (e : ℕ) → is_in (map (λ (x : PartEdge). x.edge)
        (part_of task.graph setting.placed.plan w).edges) e ≡ true →
        is_in (window_at setting.placed.plan w).edges e ≡ true
    edge_inside set e m =
        let window = window_at setting.placed.plan w in
        sym (ap (λ xs. is_in xs e) (numbers_same task.graph window.detectors window.owned
        window.edges
        (edges_real task.graph task.tags setting.placed setting.fit.is_plan w in_plan))) ∙ m

    kept_is : (answer : Decoding) → answer.problem.part ≡ part_of task.graph task.plan w →
        IsAnswer answer →
        answer.kept ≡ owned_members (part_of task.graph setting.placed.plan w) answer.set
    kept_is answer is good =
        good.kept ∙ ap (λ part. owned_members part answer.set)
        (is ∙ ap (λ plan. part_of task.graph plan w) setting.plan_is)

    set_inside : (answer : Decoding) → answer.problem.part ≡ part_of task.graph task.plan w →
        IsAnswer answer → (e : ℕ) → is_in answer.set e ≡ true →
        is_in (window_at setting.placed.plan w).edges e ≡ true
    set_inside answer is good e m =
        edge_inside answer.set e
        (subst (λ (part : Part). is_in (map (λ (x : PartEdge). x.edge) part.edges) e ≡ true)
        (is ∙ ap (λ plan. part_of task.graph plan w) setting.plan_is)
        (is_in-Contains (map (λ (x : PartEdge). x.edge) answer.problem.part.edges) e
        (All-at (Contains (map (λ (x : PartEdge). x.edge) answer.problem.part.edges)) answer.set e
        good.least.correction.within m)))

pub kept_law : KeptLaw
kept_law task w answer setting within is good =
    kept_is task setting w within answer is good
    ∙ owned_members_are task setting.placed setting.fit.is_plan setting.plan_is w
    (in_plan task setting w within) answer.set
    (set_inside task setting w within answer is good)

pub answer_law : AnswerLaw
answer_law task retries events k answer setting h running is good =
    let m : Machine = happen_all task start events in
    let laws = laws_of task setting in
    let made = setting.fit.is_plan in
    let now = (sound_law task retries events laws h).current (m.claim k).window k
    (ap held_by running) in
    let there = covered_law task retries events k laws h now.0 in
    record {
      taken = now.0;
      running = running;
      least =
          (result_law task made.order made.commit made.buffer setting.is_graph made.each_tag
          (subst (IsPlan task.graph task.tags made.order made.commit made.buffer)
          (sym setting.plan_is) made.is_placed.is_plan) m k answer.set there.in_range).0
          (subst (λ (problem : Problem). Solves problem answer.set) is good.least);
    }
