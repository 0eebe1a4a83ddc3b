use Rattle.std.proofs.Common.{inl, inr, refl, sym, ap, ◌∙◌}
use Rattle.replay_model.specs.Scripts.{command_of}
use Rattle.script_reader.proofs.reader.read_line.Goals as goal

pub returns-in-Some-clause-read : goal.returns-in-Some-clause-read
returns-in-Some-clause-read g c =
    let t = c.in-Whole.ensures.taken in
    let is = c.in-Some.ensures.some in (
      t.0,
      t.1,
      (
        c.take_line.new.line.items,
        t.2.0,
        t.2.1,
        sym (ap command_of c.as_slice.ensures.value) ∙ is.0,
        is.1,
      ),
    )

pub returns-in-None-clause-refused : goal.returns-in-None-clause-refused
returns-in-None-clause-refused g c =
    let t = c.in-Whole.ensures.taken in (
      t.0,
      t.1,
      (
        refl,
        inr (
          c.take_line.new.line.items,
          (t.2.0, inl t.2.1),
          elim (c.command_in.ensures.none c.in-None.is) [
            | inl none ↦ inl (sym (ap command_of c.as_slice.ensures.value) ∙ none)
            | inr full ↦ inr full
          ],
        ),
      ),
    )

pub returns-in-Some-command_in-clause-read : goal.returns-in-Some-command_in-clause-read
returns-in-Some-command_in-clause-read g c =
    let t = c.in-Last.ensures.taken in
    let is = c.in-Some-command_in.ensures.some in (
      t.0,
      t.1,
      (
        c.take_line.new.line.items,
        t.2.0,
        t.2.1,
        sym (ap command_of c.as_slice-in-Last.ensures.value) ∙ is.0,
        is.1,
      ),
    )

pub returns-in-None-command_in-clause-refused : goal.returns-in-None-command_in-clause-refused
returns-in-None-command_in-clause-refused g c =
    let t = c.in-Last.ensures.taken in (
      t.0,
      t.1,
      (
        refl,
        inr (
          c.take_line.new.line.items,
          (t.2.0, inr t.2.1),
          elim (c.command_in-in-Last.ensures.none c.in-None-command_in.is) [
            | inl none ↦ inl (sym (ap command_of c.as_slice-in-Last.ensures.value) ∙ none)
            | inr full ↦ inr full
          ],
        ),
      ),
    )
