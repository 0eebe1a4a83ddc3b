use Rattle.std.proofs.Common.{string_bytes}
use Rattle.std.proofs.lemmas.Result.{on_ok_weaker}
use Rattle.workload_maker.proofs.Written.{header_whole}
use Rattle.workload_maker.proofs.header.write_header.Goals as goal

pub returns : goal.returns
returns c =
    on_ok_weaker c.write_last.result
    (λ e. header_whole c.args.distance c.args.patches c.args.slots c.merge_count-merges.result
    c.cond_count-conds.result (string_bytes c.args.text.now)
    (string_bytes c.write_first.new.text) (string_bytes c.write_lines.new.text)
    (string_bytes c.write_lines-2.new.text) (string_bytes c.write_lines-3.new.text)
    (string_bytes c.write_lines-4.new.text) (string_bytes c.write_lines-5.new.text)
    (string_bytes c.write_last.new.text)
    c.merge_count-merges.ensures.value c.cond_count-conds.ensures.value
    c.in_ok-write_first.ensures c.in_ok-write_lines.ensures c.in_ok-write_lines-2.ensures
    c.in_ok-write_lines-3.ensures c.in_ok-write_lines-4.ensures c.in_ok-write_lines-5.ensures e)
    c.write_last.ensures
