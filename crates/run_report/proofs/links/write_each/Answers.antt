use Rattle.std.proofs.Common.{◌<◌, ◌++◌, ◌∙◌, ap, arith, flat_map, get_or, length, refl, string_bytes}
use Rattle.window_model.specs.Speculation.{Link}
use Rattle.std.proofs.lemmas.Option.{slice_get-get_or, slice_get_read}
use Rattle.core_store.specs.Tickets.{links_with}
use Rattle.run_report.specs.Words.{link_word}
use Rattle.run_report.proofs.Claimed.{all_links, link_at, links_more}
use Rattle.run_report.proofs.links.write_each.Goals as goal

pub loop-at-preserved : goal.loop-at-preserved
loop-at-preserved c =
    let deps = c.args.deps.now in
    let bits = c.args.bits.now in
    let at = c.loop-at.at in
    let within : at < length bits = omega (arith, c.loop-at-test.true, c.requires.bits) in
    let link : Link = record {
      source = get_or deps at 0;
      origin = c.origin_at.result;
      bits = c.index-bits-at.result;
    } in
    c.in_ok-write_link.ensures ∙ ap (λ t. t ++ link_word link) c.loop-at.invariant
    ∙ links_more (string_bytes c.args.text.now) (links_with deps c.args.origins.now bits) at link
    (link_at deps c.args.origins.now bits at (get_or deps at 0) c.origin_at.result
    c.index-bits-at.result (slice_get-get_or deps at 0 c.loop-at-test.true) c.origin_at.ensures
    (slice_get_read bits (length bits) at c.index-bits-at.result refl within
    c.index-bits-at.is))

pub returns : goal.returns
returns c =
    c.loop-at.invariant ∙ ap (λ links. string_bytes c.args.text.now ++ flat_map link_word links)
    (all_links c.args.deps.now c.args.origins.now c.args.bits.now c.loop-at.at
    c.loop-at-test.false)
