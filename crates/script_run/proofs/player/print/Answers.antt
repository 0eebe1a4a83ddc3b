use Rattle.std.proofs.Common.{refl, sym, subst, string_bytes}
use Rattle.script_run.specs.Plays.{IsLastTold, IsPrinted}
use Rattle.script_run.specs.declared.player.Played.TheVariants.{Done}
use Rattle.script_run.proofs.player.print.Goals as goal

pub returns-in_ok-write_last-in-Moved : goal.returns-in_ok-write_last-in-Moved
returns-in_ok-write_last-in-Moved c =
    subst (λ a. IsPrinted c.args.labels.now c.args.core.now a Done (string_bytes c.args.text.now)
    (string_bytes c.write_last.new.text)) (sym c.in-Moved.is) (
      refl,
      subst (λ t. IsLastTold
          c.args.labels.now t (string_bytes c.args.text.now) (string_bytes c.write_last.new.text))
          c.state.ensures c.in_ok-write_last-in-Moved.ensures,
    )
