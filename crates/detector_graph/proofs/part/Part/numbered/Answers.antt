use Rattle.std.proofs.Common.{rules, ◌≡◌, ap, subst, ◌∙◌, ◌==◌, ◌<◌, List, length, find, get_or}
use Rattle.std.specs.Ordering.{nat_cmp}
use Rattle.std.specs.declared.cmp.Ordering.TheVariants.{Equal}
use Rattle.std.proofs.lemmas.List.Sorted.{answers_always}
use Rattle.graph_model.specs.Problems.{Part}
use Rattle.graph_model.specs.declared.PartEdge.{PartEdge}
use Rattle.detector_graph.proofs.Searches.{found_by_search, missed_by_search}
use Rattle.detector_graph.proofs.part.Part.numbered.Goals as goal

pub returns-in-Ok : goal.returns-in-Ok
returns-in-Ok c =
    let by_key = c.in-Ok.ensures.position (λ (x : PartEdge). x.edge)
    (answers_always _ _ _ (λ f a r g called. search rules)) in
    let edges = c.self.inside.edges.items in
    let within = subst (λ (es : List PartEdge). c.in-Ok.at < length es) c.deref.ensures.value
    c.in-Ok.ensures.bound in
    let told = subst (λ (es : List PartEdge). (d : PartEdge) →
    nat_cmp (get_or es c.in-Ok.at d).edge c.args.number ≡ Equal) c.deref.ensures.value by_key in
    let found = found_by_search edges c.self.invariant.is_part.ascending c.args.number c.in-Ok.at
    within told c.unpack.result (search rules) in
    found ∙ ap (λ (p : Part). find (λ x. x.edge == c.args.number) p.edges) c.self.view_is

pub returns-in-Err : goal.returns-in-Err
returns-in-Err c =
    let by_key = c.in-Err.ensures.position (λ (x : PartEdge). x.edge)
    (answers_always _ _ _ (λ f a r g called. search rules)) in
    missed_by_search c.self.inside.edges.items c.self.invariant.is_part.ascending c.args.number
    c.in-Err.field-0 (rw (← c.deref.ensures.value) by_key)
    ∙ ap (λ (p : Part). find (λ x. x.edge == c.args.number) p.edges) c.self.view_is
