use Rattle.error_map.proofs.Alive.{active_are}
use Rattle.error_map.proofs.listing.next_qubits.Goals as goal

pub returns : goal.returns
returns c = active_are c.args.schedule.now c.requires.accepted c.args.slot
    c.in_ok-regions.regions.items c.deref.result.now c.in_ok-regions.ensures.regions
    c.deref.ensures.value c.in_ok-qubits.qubits.items c.in_ok-qubits.ensures
