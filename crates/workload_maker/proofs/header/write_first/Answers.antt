use Rattle.std.proofs.Common.{string_bytes}
use Rattle.std.proofs.lemmas.Result.{on_ok_weaker}
use Rattle.workload_maker.proofs.Written.{first_whole}
use Rattle.workload_maker.proofs.header.write_first.Goals as goal

pub returns : goal.returns
returns c =
    on_ok_weaker c.write_weights.result
    (λ e. first_whole c.args.distance (string_bytes c.args.text.now)
    (string_bytes c.write_version.new.text) (string_bytes c.write_distance.new.text)
    (string_bytes c.write_weights.new.text) c.in_ok-write_version.ensures
    c.in_ok-write_distance.ensures e)
    c.write_weights.ensures
