use Rattle.std.proofs.Common.{◌≡◌, ℕ, false, None, length, replicate, ap, ◌∙◌}
use Rattle.std.proofs.lemmas.List.FromFn.{length-map-range_with_len}
use Rattle.window_model.specs.Decoder.{needs}
use Rattle.release_watch.proofs.Taking.{made}
use Rattle.release_watch.proofs.watch.ReleaseWatch.start.Goals as goal

pub returns : goal.returns
returns c =
    let task = c.args.setting.now in
    let count : ℕ → ℕ = λ op. length (needs task op) in
    let many : length c.in_ok-missing.missing.items ≡ length task.operations =
    ap length c.in_ok-missing.ensures ∙ length-map-range_with_len count 0
    (length task.operations) in
    c.in_ok-watch.ensures
    ∙ ap (λ n. made c.in_ok-missing.missing.items (replicate n None) c.in_ok-frame.frame) many
    ∙ ap (λ ms. made ms (replicate (length task.operations) None) c.in_ok-frame.frame)
    c.in_ok-missing.ensures
    ∙ ap (made _ _) (c.in_ok-frame.ensures ∙ ap (λ n. replicate n false) c.raw_count.ensures)
