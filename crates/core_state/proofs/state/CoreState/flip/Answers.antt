use Rattle.std.proofs.Common.{◌≡◌, ◌<◌, false, List, Bool, length, get_or, sym, ap, ◌∙◌, subst, arith}
use Rattle.core_state.specs.States.{CoreTable, machine_of}
use Rattle.graph_model.specs.Graph.{flip_of}
use Rattle.window_model.specs.Decoder.{committed_edges}
use Rattle.window_model.specs.Speculation.{decoder_of}
use Rattle.core_state.proofs.state.CoreState.flip.Goals as goal

pub flip-requires : goal.flip-requires
flip-requires c =
    let l = subst (λ (t : CoreTable). c.args.label < length t.task.raw_slots) (sym c.self.view_is)
    c.requires in
    let each = c.self.invariant.each_flip in
    subst (λ (frame : List Bool). c.args.label < length frame) (sym c.frame.ensures) (omega (
      arith,
      l,
      each,
    ))

pub returns : goal.returns
returns c =
    subst (λ (t : CoreTable). c.flip.result ≡ flip_of t.task.graph
    (committed_edges t.task (decoder_of t.task (machine_of t))) c.args.label) c.self.view_is
    (c.flip.ensures ∙ ap (λ (frame : List Bool). get_or frame c.args.label false) c.frame.ensures
    ∙ c.self.invariant.releases.frame c.args.label)
