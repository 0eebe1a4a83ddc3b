use Rattle.std.proofs.Common.{◌≡◌, map, length}
use Rattle.std.specs.List.{range_with_len}
use Rattle.window_model.specs.Decoder.{needs}
use Rattle.release_watch.proofs.waiting.needed_counts.Given as goal

-- the counts so far
abbrev pub invariant-loop-op : goal.invariant-loop-op
invariant-loop-op l = l.counts.items ≡ map (λ op. length (needs l.setting op))
    (range_with_len 0 l.op)
