use Rattle.std.proofs.Common.{◌≡◌, ℕ, length, replicate, ◌∙◌, ap}
use Rattle.std.proofs.lemmas.List.{get_or-replicate, length-replicate}
use Rattle.link_lists.specs.Chains.{at}
use Rattle.link_lists.specs.Lists.{bare}
use Rattle.link_lists.proofs.Chained.{IsLeft}
use Rattle.link_lists.proofs.Writes.{begun}
use Rattle.link_lists.proofs.chains.Chains.new.Goals as goal
use Rattle.link_lists.proofs.chains.Chains.new.Goals.{In_ok-home}

made : (c : In_ok-home) → IsLeft c.args.nodes c.args.lists c.in_ok-next.next.items
    c.in_ok-prev.prev.items c.in_ok-home.home.items (bare c.args.nodes c.args.lists)
made c =
    let same : c.in_ok-home.home.items ≡ replicate c.args.nodes c.args.lists =
    c.in_ok-home.ensures.items_if_clones_equal (λ y e. e) in
    begun c.args.nodes c.args.lists _ _ _ c.requires.nodes c.requires.lists c.in_ok-next.ensures.len
    c.in_ok-prev.ensures.len
    (ap (λ xs. length xs) same ∙ length-replicate {A = ℕ} c.args.nodes c.args.lists)
    c.in_ok-next.ensures.each
    c.in_ok-prev.ensures.each
    (λ v low. ap (λ xs. at xs v) same ∙ get_or-replicate c.args.nodes v c.args.lists 0 low)

pub invariant_of-result : goal.invariant_of-result
invariant_of-result c = (made (goal.at.invariant_of-result c).In_ok-home).chains

pub returns : goal.returns
returns c = (made (goal.at.returns c).In_ok-home).view
