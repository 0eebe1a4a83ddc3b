use Rattle.std.proofs.Common.{◌<◌, All, List, ℕ, length, get_or, sym, ap, ◌∙◌, subst}
use Rattle.std.specs.List.Sorted.{IsStrictlyIncreasing}
use Rattle.graph_model.specs.Graph.{DetectorGraph}
use Rattle.graph_model.specs.Problems.{Decoding}
use Rattle.pauli_frame.specs.Frames.{mask_at}
use Rattle.pauli_frame.proofs.Turning.{masks_below}
use Rattle.window_model.specs.Decoder.{Task}
use Rattle.window_model.specs.Speculation.{Committed, standing}
use Rattle.release_laws.specs.Tables.{TakesWindow}
use Rattle.core_state.specs.States.{CoreTable, MayHappen}
use Rattle.core_state.proofs.Arrived.{committed_goes, has_flag}
use Rattle.core_state.proofs.Committing.{edges_in, has_answer, kept_is, ops_in, ops_rise, ops_wait, stand_taken}
use Rattle.core_state.proofs.Follows.{from_view, has_room}
use Rattle.core_state.proofs.Told.{none_lent}
use Rattle.core_state.proofs.Ticketed.{has_place}
use Rattle.core_state.proofs.state.CoreState.commit.Goals as goal

pub answer_of-requires : goal.answer_of-requires
answer_of-requires c =
    let may = subst (λ (t : CoreTable). MayHappen t (Committed c.args.ticket c.args.window))
    (sym c.self.view_is) c.requires in
    has_place _ c.self.invariant c.args.ticket
    (stand_taken _ c.self.invariant c.args.ticket c.args.window (ap standing may.held))

pub note-requires : goal.note-requires
note-requires c =
    has_room _ c.self.invariant (Committed c.args.ticket c.args.window)
    (subst (λ (t : CoreTable). MayHappen t (Committed c.args.ticket c.args.window))
    (sym c.self.view_is) c.requires)

pub waiting_for-ops-requires : goal.waiting_for-ops-requires
waiting_for-ops-requires c =
    let may = subst (λ (t : CoreTable). MayHappen t (Committed c.args.ticket c.args.window))
    (sym c.self.view_is) c.requires in
    may.in_range

pub take_window-requires-clause-ascending : goal.take_window-requires-clause-ascending
take_window-requires-clause-ascending c =
    let may = subst (λ (t : CoreTable). MayHappen t (Committed c.args.ticket c.args.window))
    (sym c.self.view_is) c.requires in
    subst IsStrictlyIncreasing (sym c.waiting_for-ops.ensures)
    (ops_rise _ c.self.invariant c.args.ticket c.args.window may)

pub take_window-requires-clause-ops : goal.take_window-requires-clause-ops
take_window-requires-clause-ops c =
    let may = subst (λ (t : CoreTable). MayHappen t (Committed c.args.ticket c.args.window))
    (sym c.self.view_is) c.requires in
    subst (All (λ op. op < length c.self.inside.releases.missing)) (sym c.waiting_for-ops.ensures)
    (ops_in _ c.self.invariant c.args.ticket c.args.window may)

pub take_window-requires-clause-missing : goal.take_window-requires-clause-missing
take_window-requires-clause-missing c =
    let may = subst (λ (t : CoreTable). MayHappen t (Committed c.args.ticket c.args.window))
    (sym c.self.view_is) c.requires in
    subst (All (λ op. 0 < get_or c.self.inside.releases.missing op 0))
    (sym c.waiting_for-ops.ensures)
    (ops_wait _ c.self.invariant c.args.ticket c.args.window may)

pub take_window-requires-clause-edges : goal.take_window-requires-clause-edges
take_window-requires-clause-edges c =
    let may = subst (λ (t : CoreTable). MayHappen t (Committed c.args.ticket c.args.window))
    (sym c.self.view_is) c.requires in
    subst (λ (g : DetectorGraph). All (λ e. e < length g.edges) c.answer.inside.kept)
    (sym (c.graph-whole.ensures ∙ ap (λ (t : Task). t.graph) c.setting.ensures))
    (subst (λ (set : List ℕ). All (λ e. e < length c.self.inside.timeline.graph.edges) set)
    (sym (ap (λ (d : Decoding). d.kept) c.answer.view_is
    ∙ kept_is _ c.self.invariant c.args.ticket c.args.window (ap standing may.held)
    c.in-Some.answer.now
    (sym c.in-Some.ensures) c.is_least.ensures.kept))
    (edges_in _ c.self.invariant c.args.ticket c.args.window (ap standing may.held)))

pub take_window-requires-clause-masks : goal.take_window-requires-clause-masks
take_window-requires-clause-masks c =
    let may = subst (λ (t : CoreTable). MayHappen t (Committed c.args.ticket c.args.window))
    (sym c.self.view_is) c.requires in
    subst (λ (g : DetectorGraph). All (λ e.
    All (λ l. l < length c.self.inside.releases.frame) (mask_at g e)) c.answer.inside.kept)
    (sym (c.graph-whole.ensures ∙ ap (λ (t : Task). t.graph) c.setting.ensures))
    (subst (λ n. All (λ e. All (λ l. l < n) (mask_at c.self.inside.timeline.graph e))
    c.answer.inside.kept) (sym c.self.invariant.each_flip)
    (masks_below c.self.inside.timeline.graph (length c.self.inside.timeline.raw_slots)
    c.self.invariant.setting.fit.masks_in c.answer.inside.kept
    (subst (λ (set : List ℕ). All (λ e. e < length c.self.inside.timeline.graph.edges) set)
    (sym (ap (λ (d : Decoding). d.kept) c.answer.view_is
    ∙ kept_is _ c.self.invariant c.args.ticket c.args.window (ap standing may.held)
    c.in-Some.answer.now
    (sym c.in-Some.ensures) c.is_least.ensures.kept))
    (edges_in _ c.self.invariant c.args.ticket c.args.window (ap standing may.held)))))

pub commit-requires : goal.commit-requires
commit-requires c =
    let may = subst (λ (t : CoreTable). MayHappen t (Committed c.args.ticket c.args.window))
    (sym c.self.view_is) c.requires in
    has_flag _ c.self.invariant c.args.ticket c.args.window may

pub invariant_of-self : goal.invariant_of-self
invariant_of-self c =
    let may = subst (λ (t : CoreTable). MayHappen t (Committed c.args.ticket c.args.window))
    (sym c.self.view_is) c.requires in
    rw (c.commit.ensures, c.note.ensures)
    (committed_goes _ c.self.invariant c.args.ticket c.args.window may c.take_window.new.self
    (subst (λ (set : List ℕ). TakesWindow c.self.inside.timeline c.args.window set
    c.self.inside.releases c.take_window.new.self)
    (ap (λ (d : Decoding). d.kept) c.answer.view_is
    ∙ kept_is _ c.self.invariant c.args.ticket c.args.window (ap standing may.held)
    c.in-Some.answer.now
    (sym c.in-Some.ensures) c.is_least.ensures.kept)
    (c.take_window.ensures.takes c.self.inside.timeline c.args.window (sym (c.graph-whole.ensures
    ∙ ap (λ (t : Task). t.graph) c.setting.ensures)) c.waiting_for-ops.ensures))).parts

pub returns : goal.returns
returns c =
    let may = subst (λ (t : CoreTable). MayHappen t (Committed c.args.ticket c.args.window))
    (sym c.self.view_is) c.requires in
    from_view _ _ _ _ _ c.self.view_is
    (rw c.note.ensures
    (committed_goes _ c.self.invariant c.args.ticket c.args.window may c.take_window.new.self
    (subst (λ (set : List ℕ). TakesWindow c.self.inside.timeline c.args.window set
    c.self.inside.releases c.take_window.new.self)
    (ap (λ (d : Decoding). d.kept) c.answer.view_is
    ∙ kept_is _ c.self.invariant c.args.ticket c.args.window (ap standing may.held)
    c.in-Some.answer.now
    (sym c.in-Some.ensures) c.is_least.ensures.kept)
    (c.take_window.ensures.takes c.self.inside.timeline c.args.window (sym (c.graph-whole.ensures
    ∙ ap (λ (t : Task). t.graph) c.setting.ensures)) c.waiting_for-ops.ensures))).happened)

pub unreachable-requires : goal.unreachable-requires
unreachable-requires c =
    let may = subst (λ (t : CoreTable). MayHappen t (Committed c.args.ticket c.args.window))
    (sym c.self.view_is) c.requires in
    has_answer _ c.self.invariant c.args.ticket c.args.window (ap standing may.held)
    (sym c.answer_of.ensures ∙ none_lent (λ d. d.now) c.answer_of.result c.in_default.is)
