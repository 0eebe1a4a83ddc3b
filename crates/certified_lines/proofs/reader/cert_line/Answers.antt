use Rattle.std.proofs.Common.{◌≤◌, length, subst, rules}
use Rattle.log_reader.specs.Words.{words_in}
use Rattle.certified_lines.specs.Read.{IsLineIn}
use Rattle.certified_lines.proofs.Reading.{found_so, none_read, read_as}
use Rattle.certified_lines.proofs.reader.cert_line.Goals as goal

pub returns-in-Some-clause-found : goal.returns-in-Some-clause-found
returns-in-Some-clause-found c =
    let short : length c.args.line.now ≤ 67108864 = search rules in
    found_so c.args.line.now c.in-Some.found short
    (subst (IsLineIn (words_in c.args.line.now)) c.in-Some.is c.in_ok-found.ensures)

pub returns-in-Some-clause-only : goal.returns-in-Some-clause-only
returns-in-Some-clause-only c =
    let short : length c.args.line.now ≤ 67108864 = search rules in
    read_as c.args.line.now c.in-Some.found short
    (subst (IsLineIn (words_in c.args.line.now)) c.in-Some.is c.in_ok-found.ensures)

pub returns-in-None-clause-only : goal.returns-in-None-clause-only
returns-in-None-clause-only c = none_read c.args.line.now
    (subst (IsLineIn (words_in c.args.line.now)) c.in-None.is c.in_ok-found.ensures)
