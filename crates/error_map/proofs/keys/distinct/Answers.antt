use Rattle.std.proofs.Common.{subst, sym}
use Rattle.std.proofs.lemmas.List.Filters.{dedup_is}
use Rattle.error_map.specs.Keys.{AreDistinct}
use Rattle.error_map.proofs.Keyed.{sorted_distinct}
use Rattle.error_map.proofs.keys.distinct.Goals as goal

pub returns : goal.returns
returns c =
    subst (λ ks. AreDistinct c.args.keys.items ks) (sym (dedup_is _ _ _ c.dedup.ensures.filtered))
    (sorted_distinct c.args.keys.items c.sort_unstable.new.self.items
    c.sort_unstable.ensures.permutation c.sort_unstable.ensures.sorted)
