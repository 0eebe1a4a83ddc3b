-- What a line says of the script: one that is read, one in which the input ends, and one at fault.
use Rattle.std.proofs.Common.{◌≡◌, ◌≢◌, inl, inr, ℕ, zero, suc, ◌+◌, ◌-◌, List, [], ◌∷◌, ◌++◌, refl, ap, sym, subst, ◌∙◌, arith}
use Rattle.std.specs.declared.option.Option.{Option}
use Rattle.port_io.specs.Traffic.{IsAtEnd}
use Rattle.replay_model.specs.declared.ScriptLine.{ScriptLine}
use Rattle.replay_model.specs.Scripts.{Script, Complete, FaultAt, NextLine, after_line, ends, given, judged, line_within, most_line_bytes, script_within, with_command}
use Rattle.script_reader.specs.declared.found.Found.TheVariants.{Line, Last}
use Rattle.script_reader.specs.Lines.{IsBad, IsRead, IsTooLong, at, behind}
use Rattle.script_reader.specs.Laws.{LastLaw, ReadOnLaw, ReadsSo, StoppedLaw, reads}

some_more : (bytes rest : List ℕ) → bytes ≢ [] → bytes ++ rest ≢ []
some_more [] rest some e = some refl
some_more (b ∷ bytes) rest some e = absurd (cc)

-- the lines after the next
abbrev later : ℕ → ℕ → NextLine → Script
later more number next = after_line (λ rest. script_within more (number + 1) rest) number next

-- a line stands where a byte is left
next_is : (more number : ℕ) (bytes : List ℕ) → bytes ≢ [] →
    script_within (suc more) number bytes ≡
    later more number (judged (line_within most_line_bytes bytes))
next_is more number [] some = absurd (some refl)
next_is more number (b ∷ bytes) some = refl

-- no line may come
none_may : (number : ℕ) (bytes : List ℕ) → bytes ≢ [] →
    script_within zero number bytes ≡ ends (FaultAt number)
none_may number [] some = absurd (some refl)
none_may number (b ∷ bytes) some = refl

-- ---- a line that is read

on : (room number : ℕ) (command : ScriptLine) (bytes : List ℕ) (left : Option (List ℕ)) →
    IsRead (at number room) (Line command) bytes left →
    (rest : List ℕ) → reads (at number room) (bytes ++ rest)
    ≡ with_command command (reads (behind (at number room)) rest)
on zero number command bytes left (line, some, fed, spelled, none) rest =
    absurd (omega (arith, none))
on (suc more) number command bytes left (line, some, fed, spelled, may) rest =
    next_is more number (bytes ++ rest) (some_more bytes rest some)
    ∙ ap (λ t. later more number (judged t)) (fed rest)
    ∙ ap (λ o. later more number (given o rest)) spelled
    ∙ ap (λ n. with_command command (script_within n (number + 1) rest))
    (let k : more ≡ suc more - 1 = omega arith in k)

pub read_on_law : ReadOnLaw
read_on_law where_ command bytes left read =
    on where_.room where_.line command bytes left read

-- where the input has ended, nothing follows
nothing_more : (more number : ℕ) → script_within more number [] ≡ ends Complete
nothing_more zero number = refl
nothing_more (suc more) number = refl

ended_in : (room number : ℕ) (command : ScriptLine) (bytes : List ℕ) (left : Option (List ℕ)) →
    IsRead (at number room) (Last command) bytes left →
    IsAtEnd left × (reads (at number room) bytes ≡ with_command command (ends Complete))
ended_in zero number command bytes left (line, some, last, spelled, none) =
    absurd (omega (arith, none))
ended_in (suc more) number command bytes left (line, some, last, spelled, may) = (
  last.0,
  next_is more number bytes some
      ∙ ap (λ t. later more number (judged t)) last.1
      ∙ ap (λ o. later more number (given o [])) spelled
      ∙ ap (with_command command) (nothing_more more (number + 1)),
)

pub last_law : LastLaw
last_law where_ command bytes left read = ended_in where_.room where_.line command bytes left read

-- ---- a line that is at fault

some_long : (bytes : List ℕ) → IsTooLong bytes → bytes ≢ []
some_long [] long e = let k = long [] in absurd (cc)
some_long (b ∷ bytes) long e = absurd (cc)

bad : (room number : ℕ) (bytes : List ℕ) (left : Option (List ℕ)) →
    IsBad (at number room) bytes left →
    ReadsSo (at number room) bytes left (ends (FaultAt number))
bad zero number bytes left (inl long) =
    inl (λ rest. none_may number (bytes ++ rest) (some_more bytes rest (some_long bytes long)))
bad (suc more) number bytes left (inl long) =
    inl (λ rest. next_is more number (bytes ++ rest) (some_more bytes rest (some_long bytes long))
    ∙ ap (λ t. later more number (judged t)) (long rest))
bad zero number bytes left (inr (line, (some, inl fed), why)) =
    inl (λ rest. none_may number (bytes ++ rest) (some_more bytes rest some))
bad zero number bytes left (inr (line, (some, inr last), why)) =
    inr (last.0, none_may number bytes some)
bad (suc more) number bytes left (inr (line, how, inr none)) = absurd (omega arith)
bad (suc more) number bytes left (inr (line, (some, inl fed), inl unspelled)) =
    inl (λ rest. next_is more number (bytes ++ rest) (some_more bytes rest some)
    ∙ ap (λ t. later more number (judged t)) (fed rest)
    ∙ ap (λ o. later more number (given o rest)) unspelled)
bad (suc more) number bytes left (inr (line, (some, inr last), inl unspelled)) =
    inr (
      last.0,
      next_is more number bytes some
          ∙ ap (λ t. later more number (judged t)) last.1
          ∙ ap (λ o. later more number (given o [])) unspelled,
    )

pub stopped_law : StoppedLaw
stopped_law where_ bytes left line (is, why) =
    subst (λ n. ReadsSo where_ bytes left (ends (FaultAt n))) (sym is)
    (bad where_.room where_.line bytes left why)
