use Rattle.std.proofs.Common.{◌≡◌, ◌<◌, Some, All, List, ℕ, length, sym, ap, ◌∙◌, subst}
use Rattle.graph_model.specs.Problems.{Decoding}
use Rattle.window_model.specs.Decoder.{owned_part}
use Rattle.window_model.specs.Speculation.{result_of, standing}
use Rattle.core_state.specs.States.{CoreTable, machine_of}
use Rattle.core_state.proofs.Committing.{edges_in, has_answer, kept_is, stand_taken}
use Rattle.core_state.proofs.Told.{none_lent}
use Rattle.core_state.proofs.Ticketed.{has_place}
use Rattle.core_state.proofs.state.CoreState.kept_of.Goals as goal

pub answer_of-requires : goal.answer_of-requires
answer_of-requires c =
    let stands = subst (λ (t : CoreTable). standing ((machine_of t).phase c.args.window)
    ≡ Some c.args.ticket) (sym c.self.view_is) c.requires in
    has_place _ c.self.invariant c.args.ticket
    (stand_taken _ c.self.invariant c.args.ticket c.args.window stands)

pub returns-clause-value : goal.returns-clause-value
returns-clause-value c =
    let stands = subst (λ (t : CoreTable). standing ((machine_of t).phase c.args.window)
    ≡ Some c.args.ticket) (sym c.self.view_is) c.requires in
    subst (λ (t : CoreTable). c.answer.inside.kept
    ≡ owned_part t.task c.args.window (result_of (machine_of t) c.args.ticket)) c.self.view_is
    (ap (λ (d : Decoding). d.kept) c.answer.view_is
    ∙ kept_is _ c.self.invariant c.args.ticket c.args.window stands c.in-Some.answer.now
    (sym c.in-Some.ensures) c.is_least.ensures.kept)

pub returns-clause-edges : goal.returns-clause-edges
returns-clause-edges c =
    let stands = subst (λ (t : CoreTable). standing ((machine_of t).phase c.args.window)
    ≡ Some c.args.ticket) (sym c.self.view_is) c.requires in
    subst (λ (t : CoreTable). All (λ e. e < length t.task.graph.edges) c.answer.inside.kept)
    c.self.view_is
    (subst (λ (set : List ℕ). All (λ e. e < length c.self.inside.timeline.graph.edges) set)
    (sym (ap (λ (d : Decoding). d.kept) c.answer.view_is
    ∙ kept_is _ c.self.invariant c.args.ticket c.args.window stands c.in-Some.answer.now
    (sym c.in-Some.ensures) c.is_least.ensures.kept))
    (edges_in _ c.self.invariant c.args.ticket c.args.window stands))

pub unreachable-requires : goal.unreachable-requires
unreachable-requires c =
    let stands = subst (λ (t : CoreTable). standing ((machine_of t).phase c.args.window)
    ≡ Some c.args.ticket) (sym c.self.view_is) c.requires in
    has_answer _ c.self.invariant c.args.ticket c.args.window stands (sym c.answer_of.ensures
    ∙ none_lent (λ d. d.now) c.answer_of.result c.in_default.is)
