use Rattle.std.proofs.Common.{◌≡◌, ◌≤◌, ◌++◌, List, ℕ, length, subst, sym, ap, ◌∙◌, arith}
use Rattle.std.specs.Prelude.{IfErr, IfOk, OnOk}
use Rattle.surface_model.specs.Limits.{most_detectors}
use Rattle.surface_model.specs.Measurements.{detectors}
use Rattle.surface_model.specs.Parse.{schedule_of}
use Rattle.workload_maker.specs.Digits.{rows_text}
use Rattle.workload_maker.specs.Draws.{made_errors}
use Rattle.workload_maker.specs.Inputs.{HaveTooMany, IsSound, made_text, rows_of}
use Rattle.workload_maker.proofs.Parsed.{sound_header}
use Rattle.workload_maker.proofs.Sound.{short_header, some_header}
use Rattle.workload_maker.proofs.making.make.Goals as goal

pub input_of-input-requires-clause-some : goal.input_of-input-requires-clause-some
input_of-input-requires-clause-some c =
    let bytes = ap length (c.as_bytes.ensures.value ∙ c.in_ok-header.ensures) in
    let some = some_header c.args.distance c.args.patches c.args.slots in
    omega (arith, bytes, some)

pub input_of-input-requires-clause-short : goal.input_of-input-requires-clause-short
input_of-input-requires-clause-short c =
    let bytes = ap length (c.as_bytes.ensures.value ∙ c.in_ok-header.ensures) in
    let short = short_header c.args.distance c.args.patches c.args.slots c.requires in
    omega (arith, bytes, short)

pub input_of-input-requires-clause-sound : goal.input_of-input-requires-clause-sound
input_of-input-requires-clause-sound c =
    subst IsSound (sym (c.as_bytes.ensures.value ∙ c.in_ok-header.ensures))
    (sound_header c.args.distance c.args.patches c.args.slots c.requires)

pub returns-clause-text : goal.returns-clause-text
unfolding made_text
returns-clause-text c =
    subst (λ (h : List ℕ). IfOk c.input_of-input.result (λ v. v.items ≡ h
    ++ rows_text (rows_of (schedule_of h) (made_errors (schedule_of h) c.args.seed))))
    (c.as_bytes.ensures.value ∙ c.in_ok-header.ensures) c.input_of-input.ensures.text

pub returns-clause-few : goal.returns-clause-few
returns-clause-few c =
    subst (λ (h : List ℕ). OnOk c.input_of-input.result
    (length (detectors (schedule_of h)) ≤ most_detectors))
    (c.as_bytes.ensures.value ∙ c.in_ok-header.ensures) c.input_of-input.ensures.few

pub returns-clause-refused : goal.returns-clause-refused
returns-clause-refused c =
    subst (λ (h : List ℕ). IfErr c.input_of-input.result (HaveTooMany (schedule_of h)))
    (c.as_bytes.ensures.value ∙ c.in_ok-header.ensures) c.input_of-input.ensures.refused

pub returns-in_err-header-clause-sound : goal.returns-in_err-header-clause-sound
returns-in_err-header-clause-sound c =
    sound_header c.args.distance c.args.patches c.args.slots c.requires

pub returns-clause-sound : goal.returns-clause-sound
returns-clause-sound c = sound_header c.args.distance c.args.patches c.args.slots c.requires
