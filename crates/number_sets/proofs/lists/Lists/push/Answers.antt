use Rattle.std.proofs.Common.{◌≡◌, ◌++◌, ◌∷◌, [], length, ap, ◌∙◌, arith}
use Rattle.number_sets.specs.Lists.{lists_in}
use Rattle.number_sets.proofs.Cuts.{pushed_lists}
use Rattle.number_sets.proofs.lists.Lists.push.Goals as goal

pub returns : goal.returns
returns c =
    let bounds = c.self.inside.bounds.items in
    let values = c.self.inside.values.items in
    let list = c.args.list.now in
    let added = c.in_ok-extend_from_slice.ensures.items in
    let end : c.len.result ≡ length (values ++ list) = let k = ap length added in
    omega (arith, c.len.ensures, c.extend_from_slice.new.self.ok, k) in
    record {
      ok =
          ap (λ bs. lists_in bs c.extend_from_slice.new.self.items) (c.push_reserved.ensures.items
          ∙ ap (λ bs. bs ++ c.len.result ∷ []) c.reserve.ensures.items
          ∙ ap (λ n. bounds ++ n ∷ []) end)
          ∙ ap (lists_in (bounds ++ length (values ++ list) ∷ [])) added
          ∙ pushed_lists bounds values c.self.invariant list
          ∙ ap (λ ls. ls ++ list ∷ []) c.self.view_is;
    }
