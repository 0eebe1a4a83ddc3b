use Rattle.std.proofs.Common.{[], false, length, replicate, ap, ◌∙◌, subst, sym}
use Rattle.std.proofs.lemmas.List.{length-replicate}
use Rattle.graph_model.specs.Graph.{DetectorGraph}
use Rattle.release_laws.specs.Tables.{ReleaseTable, IsReleaseTableOf}
use Rattle.release_laws.proofs.Following.{none_released_law}
use Rattle.core_journal.specs.Entries.{Entries}
use Rattle.core_store.specs.Tickets.{no_claims}
use Rattle.core_state.proofs.Begun.{begun_with}
use Rattle.core_state.proofs.state.CoreState.start.Goals as goal

pub invariant_of-result : goal.invariant_of-result
invariant_of-result c =
    let task = c.args.setting in
    begun_with task c.is_setting.ensures c.args.retries c.requires c.in_ok-phases.phases
    c.in_ok-phases.ensures c.in_ok-releases.releases
    (subst (IsReleaseTableOf task []) (sym c.in_ok-releases.ensures)
    (none_released_law task (length task.raw_slots)))
    (ap (λ (t : ReleaseTable). length t.frame) c.in_ok-releases.ensures
    ∙ length-replicate (length task.raw_slots) false)
    c.in_ok-timeline.timeline c.in_ok-timeline.ensures
    c.in_ok-values.values c.in_ok-raws.raws
    (c.in_ok-values.ensures ∙ ap (λ n. replicate n false)
    (c.vertices.ensures ∙ ap (λ (g : DetectorGraph). g.vertices) c.graph.ensures))
    (c.in_ok-raws.ensures ∙ ap (λ n. replicate n false) c.raw_count.ensures)
    c.in_ok-tickets.tickets (c.in_ok-tickets.ensures ∙ ap no_claims c.ticket_room.ensures)
    c.in_ok-journal.journal
    (c.in_ok-journal.ensures
    ∙ ap (λ n. let e : Entries = record { entries = []; room = n } in e) c.event_room.ensures)
