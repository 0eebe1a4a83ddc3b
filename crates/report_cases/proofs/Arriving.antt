-- A slot that may arrive, and brings what it has to.
use Rattle.window_model.specs.Decoder.{MayArrive}
use Rattle.window_model.specs.Speculation.{Arrived, decoder_of}
use Rattle.detector_graph.specs.declared.folded.Folded.{Folded}
use Rattle.core_state.specs.Arrivals.{FitsSlot}
use Rattle.core_state.specs.States.{CoreTable, MayHappen, machine_of}

pub may_happen : (c : CoreTable) (f : Folded) →
    MayArrive c.task (decoder_of c.task (machine_of c)) f.slot → FitsSlot c.task f →
    MayHappen c (Arrived f.slot f.defects f.raws)
may_happen c f may fits = (may, fits.values, fits.raws)
