-- The bit of an operation that may be released.
use Rattle.std.proofs.Common.{◌≡◌, ℕ, ◌<◌, Bool, false, All, length, get_or, sym, ap, ◌∙◌, subst}
use Rattle.std.proofs.lemmas.List.Elements.{All-weaker}
use Rattle.graph_model.specs.Parity.{◌⊕◌, parity}
use Rattle.window_model.specs.Decoder.{HasRaw, MayRelease, operation_at}
use Rattle.window_model.specs.Speculation.{Released, decoder_of, syndrome_of as syndrome_in}
use Rattle.window_model.specs.TurnLaws.{CanRelease}
use Rattle.window_model.proofs.Updates.{parity-same_all}
use Rattle.pauli_frame.proofs.Following.{bit_law}
use Rattle.core_state.specs.States.{AreParts, MayHappen, Parts, machine_in, table_of}
use Rattle.core_state.proofs.Follows.{agrees}

module _ (p : Parts) (h : AreParts p) where
  module _ (op : ℕ) (can : CanRelease p.task (machine_in p) op) where
    pub op_in : op < length p.task.operations
    op_in = can.1.in_range

    pub labels_in : (n : ℕ) → n ≡ length p.task.raw_slots →
        All (λ l. l < n) (operation_at p.task op).labels
    labels_in n e = subst (λ m. All (λ l. l < m) (operation_at p.task op).labels) (sym e)
        (h.setting.fit.operations.named op op_in)

    abbrev framed : Bool
    framed = parity (λ l. get_or p.raws l false ⊕ get_or p.releases.frame l false)
        (operation_at p.task op).labels

    bit_is : framed ≡ can.0
    bit_is =
        parity-same_all (λ l. get_or p.raws l false ⊕ get_or p.releases.frame l false) (λ l.
        (machine_in p).raw l ⊕ get_or p.releases.frame l false) (operation_at p.task op).labels
        (All-weaker (HasRaw p.task (decoder_of p.task (machine_in p))) (λ l.
        get_or p.raws l false ⊕ get_or p.releases.frame l false ≡ (machine_in p).raw l
        ⊕ get_or p.releases.frame l false)
        (λ l has. ap (λ b. b ⊕ get_or p.releases.frame l false)
        ((agrees p h).raw l has.in_range has.arrived))
        (operation_at p.task op).labels can.1.raw_arrived)
        ∙ sym (bit_law p.task (syndrome_in (machine_in p)) (decoder_of p.task (machine_in p))
        p.releases.frame op h.releases.frame)
        ∙ sym can.1.value

    pub may_release : (given : Bool) → given ≡ framed → MayHappen (table_of p) (Released op given)
    may_release given e = subst (λ b. MayRelease p.task (syndrome_in (machine_in p))
        (decoder_of p.task (machine_in p)) op b) (sym (e ∙ bit_is)) can.1
