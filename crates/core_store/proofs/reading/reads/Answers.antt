use Rattle.std.proofs.Common.{◌≡◌, ◌<◌, ℕ, false, get_or, length, sym, ◌∙◌, arith}
use Rattle.core_journal.specs.Entries.{bit}
use Rattle.core_store.proofs.Written.{further, map_read, read_length, read_same}
use Rattle.core_store.proofs.reading.reads.Goals as goal

pub returns-then-not-are_as_many-clause-no : goal.returns-then-not-are_as_many-clause-no
returns-then-not-are_as_many-clause-no c _ equal =
    c.are_as_many.ensures.no c.if-not-are_as_many.true
    (read_length c.args.places.now (bit c.args.of.now) c.args.values.now equal)

pub returns-then-not-is_read-clause-no : goal.returns-then-not-is_read-clause-no
returns-then-not-is_read-clause-no c _ equal =
    let end = c.len-at-end.ensures in
    let many = c.are_as_many.ensures.yes c.if-not-are_as_many.false in
    let below = c.loop-at-test.true in
    c.is_read.ensures.no c.if-not-is_read.true
    (read_same c.args.places.now (bit c.args.of.now) c.args.values.now equal c.loop-at.at
    (omega (arith, end, many, below)) ∙ sym c.get.ensures)

pub loop-at-preserved : goal.loop-at-preserved
loop-at-preserved c =
    further (λ k. get_or c.args.of.now (get_or c.args.places.now k 0) false
    ≡ get_or c.args.values.now k false) c.loop-at.at c.loop-at.invariant
    (c.is_read.ensures.yes c.if-not-is_read.false ∙ c.get.ensures)

pub returns-clause-yes : goal.returns-clause-yes
returns-clause-yes c _ =
    let end = c.len-at-end.ensures in
    let many = c.are_as_many.ensures.yes c.if-not-are_as_many.false in
    let over = c.loop-at-test.false in
    map_read c.args.places.now (bit c.args.of.now) c.args.values.now (sym many)
    (λ k l. c.loop-at.invariant k (omega (arith, l, end, many, over)))
