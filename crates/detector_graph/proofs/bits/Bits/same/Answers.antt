use Rattle.std.proofs.Common.{sym, ◌∙◌}
use Rattle.std.proofs.lemmas.Bool.{true≢false}
use Rattle.std.proofs.lemmas.Slice.Eq.{slice_eq-Decides}
use Rattle.std.specs.Cmp.{booleans_Decides}
use Rattle.detector_graph.proofs.bits.Bits.same.Goals as goal

pub returns-clause-equal : goal.returns-clause-equal
returns-clause-equal c h =
    sym (c.as_slice.ensures.value ∙ c.self.view_is)
    ∙ (slice_eq-Decides booleans_Decides c.as_slice.result.now c.as_slice-2.result.now c.eq.result
    c.eq.ensures).0 h
    ∙ (c.as_slice-2.ensures.value ∙ c.other.view_is)

pub returns-clause-differ : goal.returns-clause-differ
returns-clause-differ c h e =
    true≢false (sym ((slice_eq-Decides booleans_Decides c.as_slice.result.now
    c.as_slice-2.result.now c.eq.result c.eq.ensures).1
    (c.as_slice.ensures.value ∙ c.self.view_is ∙ e
    ∙ sym (c.as_slice-2.ensures.value ∙ c.other.view_is))) ∙ h)
