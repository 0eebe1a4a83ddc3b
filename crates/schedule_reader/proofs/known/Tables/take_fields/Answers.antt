use Rattle.std.proofs.Common.{sym, ◌∙◌, ap, map}
use Rattle.std.specs.Prelude.{option_map}
use Rattle.schedule_reader.specs.Faults.{reported_kind}
use Rattle.schedule_reader.specs.Known.{fault_in, with_line}
use Rattle.schedule_reader.specs.Lines.{kind_of, line_of}
use Rattle.schedule_reader.specs.Pieces.{lines_of, others}
use Rattle.schedule_reader.proofs.ByKind.{known_kind, fit}
use Rattle.schedule_reader.proofs.Walked.{reported_fault, reported_none}
use Rattle.schedule_reader.proofs.known.Tables.take_fields.Goals as goal

pub returns-in-Some-fault_of-clause-fault : goal.returns-in-Some-fault_of-clause-fault
returns-in-Some-fault_of-clause-fault c =
    let fo = others (lines_of c.args.after.now) in
    let fs = map (λ f. f.now) c.args.fields.now in
    let word = ap kind_of (sym c.field_at.ensures) ∙ sym c.of.ensures ∙ c.in-Some.is in
    let same = known_kind fs c.in-Some.kind 0 (map (λ f. f.now) c.after_first-others.result.now)
    c.after_first-others.ensures word in
    reported_fault c.args.number (fault_in c.args.self.now fo (record { number = 0; fields = fs }))
    c.in-Some-fault_of.kind
    (ap (λ l. option_map reported_kind (fault_in c.args.self.now fo l)) (sym same)
    ∙ sym c.fault_of.ensures ∙ c.in-Some-fault_of.is)

pub add-requires : goal.add-requires
add-requires c =
    let fo = others (lines_of c.args.after.now) in
    let rest = map (λ f. f.now) c.after_first-others.result.now in
    fit c.args.self.now fo c.in-Some.kind 0 rest (reported_none (fault_in c.args.self.now fo
    (line_of c.in-Some.kind 0 rest)) (sym c.fault_of.ensures ∙ c.in_default-fault_of.is))

pub returns-clause-taken : goal.returns-clause-taken
returns-clause-taken c =
    let fs = map (λ f. f.now) c.args.fields.now in
    let word = ap kind_of (sym c.field_at.ensures) ∙ sym c.of.ensures ∙ c.in-Some.is in
    let same = known_kind fs c.in-Some.kind c.args.number
    (map (λ f. f.now) c.after_first-others.result.now) c.after_first-others.ensures word in
    c.in_ok-add.ensures ∙ ap (with_line c.args.self.now) same

pub returns-clause-faultless : goal.returns-clause-faultless
returns-clause-faultless c =
    let fo = others (lines_of c.args.after.now) in
    let fs = map (λ f. f.now) c.args.fields.now in
    let rest = map (λ f. f.now) c.after_first-others.result.now in
    let word = ap kind_of (sym c.field_at.ensures) ∙ sym c.of.ensures ∙ c.in-Some.is in
    let same = known_kind fs c.in-Some.kind 0 rest c.after_first-others.ensures word in
    ap (fault_in c.args.self.now fo) (sym same) ∙ reported_none (fault_in c.args.self.now fo
    (line_of c.in-Some.kind 0 rest)) (sym c.fault_of.ensures ∙ c.in_default-fault_of.is)
