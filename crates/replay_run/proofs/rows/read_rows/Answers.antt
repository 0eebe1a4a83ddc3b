use Rattle.std.proofs.Common.{◌≡◌, ◌≤◌, ◌+◌, ◌++◌, [], ◌∷◌, Err, refl, sym, ap, subst, ◌∙◌, arith, rules}
use Rattle.std.specs.Prelude.{if◌then◌else◌, is_ok}
use Rattle.surface_model.specs.Layout.{last_slot}
use Rattle.run_rounds.specs.Fed.{AreAllFed, AreUnfed}
use Rattle.run_rounds.specs.Slots.{At}
use Rattle.replay_run.specs.Playings.{AreReadTo}
use Rattle.replay_run.specs.Readings.{AreFolded}
use Rattle.replay_run.proofs.SlotRows.{read_all, read_more, read_no_more, read_start}
use Rattle.replay_run.proofs.rows.read_rows.Goals as goal

pub loop-slot-init : goal.loop-slot-init
loop-slot-init g c = record {
  so_far = subst (λ l. AreReadTo c.args.reader.now (g.P.Port.left c.args.port.now)
      (g.P.Port.left c.args.port.now) (g.P.Port.tape c.args.port.now)
      (g.P.Port.tape c.args.port.now) l) (sym c.new-rows.ensures.items)
      (subst (λ at. AreReadTo at (g.P.Port.left c.args.port.now)
      (g.P.Port.left c.args.port.now) (g.P.Port.tape c.args.port.now)
      (g.P.Port.tape c.args.port.now) []) (sym c.requires)
      (read_start c.args.reader.now.schedule _ _));
  schedule = refl;
  slot = ap (λ (at : At). at.slot) c.requires;
  counts = (omega arith, omega arith);
}

pub returns-in_err-row-clause-refused : goal.returns-in_err-row-clause-refused
returns-in_err-row-clause-refused g c =
    let is : c.from_residual.result ≡ Err c.in_err-row.field-0.0 = search rules in
    let last = ap last_slot c.loop-slot.invariant.schedule in
    let within : c.loop-slot.reader.slot ≤ last_slot c.loop-slot.reader.schedule = omega (
      arith,
      last,
      c.loop-slot.invariant.slot,
      c.loop-slot-test.true,
      c.slots-slot-end.ensures,
    ) in
    let unread = c.in_err-row.ensures.refused in
    let no_more = read_no_more c.loop-slot.reader c.loop-slot.rows.items unread.0
    c.in_err-row.field-0.0 _ _ _ _ _ _ c.loop-slot.invariant.so_far within unread.1 unread.2 in
    rw is (
      no_more.0,
      no_more.1,
      no_more.2,
      λ other. subst
          (λ s. AreUnfed s no_more.0 (g.P.Port.left c.next_before_more.new.port) no_more.1
          c.in_err-row.field-0.0) c.loop-slot.invariant.schedule (no_more.3 other),
    )

pub returns-in_default-clause-refused : goal.returns-in_default-clause-refused
returns-in_default-clause-refused g c =
    let last = ap last_slot c.loop-slot.invariant.schedule in
    let within : c.loop-slot.reader.slot ≤ last_slot c.loop-slot.reader.schedule = omega (
      arith,
      last,
      c.loop-slot.invariant.slot,
      c.loop-slot-test.true,
      c.slots-slot-end.ensures,
    ) in
    let read = read_more c.loop-slot.reader _ c.loop-slot.rows.items c.in_ok-row.row _ _ _ _ _ _
    c.loop-slot.invariant.so_far within c.in_ok-row.ensures.read c.in_ok-row.ensures.slot in
    (read.bytes, read.rows, read.goes, λ other. absurd (other refl))

pub loop-slot-preserved : goal.loop-slot-preserved
loop-slot-preserved g c =
    let last = ap last_slot c.loop-slot.invariant.schedule in
    let within : c.loop-slot.reader.slot ≤ last_slot c.loop-slot.reader.schedule = omega (
      arith,
      last,
      c.loop-slot.invariant.slot,
      c.loop-slot-test.true,
      c.slots-slot-end.ensures,
    ) in
    let row = c.in_ok-row.ensures.read in
    let pushed : c.push.new.self.items ≡ c.loop-slot.rows.items ++ c.in_ok-row.row ∷ [] =
    subst (λ r. c.push.new.self.items ≡ (if is_ok r
    then c.loop-slot.rows.items ++ c.in_ok-row.row ∷ []
    else c.loop-slot.rows.items)) c.in-Ok.is c.push.ensures.items in
    record {
      so_far = subst (λ l. AreReadTo c.next_before_more.new.self (g.P.Port.left c.args.port.now)
          (g.P.Port.left c.next_before_more.new.port) (g.P.Port.tape c.args.port.now)
          (g.P.Port.tape c.next_before_more.new.port) l) (sym pushed)
          (read_more c.loop-slot.reader c.next_before_more.new.self c.loop-slot.rows.items
          c.in_ok-row.row _ _ _ _ _ _ c.loop-slot.invariant.so_far within row
          c.in_ok-row.ensures.slot);
      schedule = ap (λ (a : At). a.schedule) row.next ∙ c.loop-slot.invariant.schedule;
      slot = ap (λ (a : At). a.slot) row.next ∙ ap (λ k. k + 1) c.loop-slot.invariant.slot;
      counts = (search rules, search rules);
    }

pub returns-clause-read : goal.returns-clause-read
returns-clause-read g c =
    let last = ap last_slot c.loop-slot.invariant.schedule in
    let all : c.loop-slot.reader.slot ≡ last_slot c.loop-slot.reader.schedule + 1 =
    omega (
      arith,
      last,
      c.loop-slot.invariant.slot,
      c.loop-slot-test.false,
      c.loop-slot.auto._slot-end,
      c.slots-slot-end.ensures,
    ) in
    let read = read_all c.loop-slot.reader c.loop-slot.rows.items _ _ _ _
    c.loop-slot.invariant.so_far all in (
      read.0,
      read.1,
      read.2,
      subst (λ s. AreAllFed s read.0 read.1) c.loop-slot.invariant.schedule read.3,
      subst (λ s. AreFolded s read.1 c.loop-slot.rows.items) c.loop-slot.invariant.schedule read.4,
    )
