use Rattle.std.proofs.Common.{ℕ, List, [], ◌∷◌, ◌++◌, arith, rules, ap, ◌∙◌, string_bytes, SFits, w64, to_z-of_z}
use Rattle.std.specs.Prelude.{ℤ, pos}
use Rattle.certified_lines.specs.Certified.{OddSet, text_of}
use Rattle.certified_log.proofs.Spelled.{sets_more}
use Rattle.certified_log.proofs.written.write_sets.Goals as goal

abbrev nothing : List ℕ × ℤ
nothing = ([], pos 0)

pub loop-at-preserved : goal.loop-at-preserved
loop-at-preserved c =
    let fits : SFits w64 c.number_of.result = search rules in
    sets_more (string_bytes c.args.text.now) (string_bytes c.loop-at.text)
    (string_bytes c.write_set.new.text) c.args.cert.now.sets c.loop-at.at nothing
    c.number_of.result c.members_of.result.now (omega arith) c.loop-at.invariant
    (c.members_of.ensures nothing) (c.number_of.ensures nothing)
    (c.in_ok-write_set.ensures
    ∙ ap (λ z. string_bytes c.loop-at.text ++ text_of (OddSet z c.members_of.result.now ∷ []))
    (to_z-of_z fits))
