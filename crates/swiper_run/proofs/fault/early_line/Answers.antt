use Rattle.std.proofs.Common.{◌++◌, ap, ◌∙◌, append_assoc}
use Rattle.std.proofs.lemmas.Result.{on_ok_weaker}
use Rattle.swiper_run.proofs.fault.early_line.Goals as goal

pub returns : goal.returns
returns c =
    let so_far = c.in_ok-write_label.ensures
    ∙ ap (λ t. t ++ c.args.label.now) c.in_ok-push_str.ensures.bytes in
    on_ok_weaker c.writeln.result (λ e. e ∙ simp (so_far, append_assoc)) c.writeln.ensures.bytes
