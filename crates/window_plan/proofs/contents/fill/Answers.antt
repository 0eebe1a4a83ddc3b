use Rattle.std.proofs.Common.{◌∙◌, ap}
use Rattle.window_plan.specs.Contents.{Gathered, edges_in, last_in, links_in}
use Rattle.window_plan.proofs.Filled.{contents_more}
use Rattle.window_plan.proofs.contents.fill.Goals as goal

pub loop-window-preserved : goal.loop-window-preserved
loop-window-preserved c =
    let g = c.args.graph.now in
    let tags = c.args.tags.now in
    let homes = c.args.layout.now.homes.items in
    let count = c.args.layout.now.windows in
    let buffer = c.args.survey.now.buffer in
    let w = c.loop-window.window in
    let old = c.loop-window.contents in
    let first = c.loop-window.invariant.scratch in
    let second = c.in_ok-add_edges.ensures.same ∙ first in
    record {
      scratch = c.in_ok-add_places.ensures.same ∙ second;
      contents =
          contents_more g tags homes count buffer w old.edges c.add_edges.new.edges
          old.lasts.items c.push.new.self.items old.places c.add_places.new.places
          (edges_in c.loop-window.scratch w) c.last.result
          (links_in c.add_edges.new.self w) c.loop-window.invariant.contents
          (ap (λ (s : Gathered). edges_in s w) first)
          (c.last.ensures ∙ ap (λ (s : Gathered). last_in s w) second)
          (ap (λ (s : Gathered). links_in s w) second)
          c.in_ok-add_edges.ensures.edges c.in_ok-push.ensures.items
          c.in_ok-add_places.ensures.places;
    }
