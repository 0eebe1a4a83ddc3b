use Rattle.std.proofs.Common.{◌≡◌, ap, subst, ◌∙◌}
use Rattle.std.specs.Prelude.{IfOk}
use Rattle.surface_model.specs.Errors.{mechanisms}
use Rattle.error_map.specs.Seen.{mechanisms_of}
use Rattle.workload_maker.specs.Draws.{generator_of, happening, made_errors}
use Rattle.workload_maker.specs.Inputs.{rows_of}
use Rattle.workload_maker.proofs.Drawn.{all_known}
use Rattle.workload_maker.proofs.making.made_rows.Goals as goal

pub rows_with-requires-clause-known : goal.rows_with-requires-clause-known
rows_with-requires-clause-known c =
    let s = c.args.program.now in
    let g = generator_of c.args.seed in
    all_known g (mechanisms s) c.deref-2.result.now
    (ap mechanisms_of c.deref-2.ensures.value ∙ c.in_ok-errors.ensures
    ∙ ap (happening g) (ap mechanisms_of c.deref.ensures.value ∙ c.in_ok-listed.ensures))

pub returns : goal.returns
unfolding made_errors
returns c =
    let s = c.args.program.now in
    let g = generator_of c.args.seed in
    subst (λ es. IfOk c.rows_with.result (λ rows. rows.items ≡ rows_of s es))
    (ap mechanisms_of c.deref-2.ensures.value ∙ c.in_ok-errors.ensures
    ∙ ap (happening g) (ap mechanisms_of c.deref.ensures.value ∙ c.in_ok-listed.ensures))
    c.rows_with.ensures
