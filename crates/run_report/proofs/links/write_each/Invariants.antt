use Rattle.std.proofs.Common.{◌≡◌, ◌++◌, flat_map, take, string_bytes}
use Rattle.core_store.specs.Tickets.{links_with}
use Rattle.run_report.specs.Words.{link_word}
use Rattle.run_report.proofs.links.write_each.Given as goal

abbrev pub invariant-loop-at : goal.invariant-loop-at
invariant-loop-at l = string_bytes l.text ≡ string_bytes l.fn.text
    ++ flat_map link_word (take l.at (links_with l.deps l.origins l.bits))
