-- What a call that takes and puts any number of bytes did to its port, and the words for it.
-- A contract says it by `Moves P.Port port.old port.new items`, and of the counts of faults by
-- `KeepsCounts P.Port port.old port.new`.
use Rattle.std.specs.Prelude.{◌≡◌, ◌≤◌, ℕ, map, List, [], ◌∷◌, ◌++◌, None, Some}
use Rattle.std.specs.declared.option.Option.{Option}
use Rattle.port_io.specs.Port.{WhereTold}
use Rattle.port_io.specs.declared.port.Port.{Ghosts as PortOf}
use Rattle.port_io.specs.declared.port.TapeByte.{TapeByte}
use Rattle.port_io.specs.declared.port.TapeByte.TheVariants.{Taken, Sent}
use Rattle.port_io.specs.declared.port.Take.{Take}
use Rattle.port_io.specs.declared.port.Take.TheVariants.{Byte, End, Failed}

-- bytes that were taken, as the tape has them
abbrev pub taken : List ℕ → List TapeByte
taken bytes = map Taken bytes

-- what one take appends to the tape
abbrev pub noted : Take → List TapeByte
noted (Byte b) = Taken b ∷ []
noted End = []
noted Failed = []

-- of a stretch of tape, the bytes that were taken
abbrev pub takings : List TapeByte → List ℕ
takings [] = []
takings (Taken b ∷ items) = b ∷ takings items
takings (Sent b ∷ items) = takings items

-- where reported, these bytes were taken from the front, and no others
abbrev pub Takes : List ℕ → Option (List ℕ) → Option (List ℕ) → Type 0
Takes bytes left left' = WhereTold (λ before after. before ≡ bytes ++ after) left left'

-- where reported, the tape grew by these
abbrev pub Grows : List TapeByte → Option (List TapeByte) → Option (List TapeByte) → Type 0
Grows items tape tape' = WhereTold (λ before after. after ≡ before ++ items) tape tape'

-- where reported, the tape grew by these, and of them the bytes taken were taken from the front of
-- those left
unfoldable pub Goes : List TapeByte → Option (List ℕ) → Option (List ℕ) → Option (List TapeByte) →
    Option (List TapeByte) → Type 0
Goes items left left' tape tape' = Takes (takings items) left left' × Grows items tape tape'

-- between two states of a port, where reported, these were taken and put, in this order
abbrev pub Moves : {P : Type 0} → PortOf P → P → P → List TapeByte → Type 0
Moves port old new items =
    Goes items (port.left old) (port.left new) (port.tape old) (port.tape new)

-- neither count of faults has fallen
abbrev pub KeepsCounts : {P : Type 0} → PortOf P → P → P → Type 0
KeepsCounts port old new =
    (port.read_faults old ≤ port.read_faults new) × (port.write_faults old ≤ port.write_faults new)

-- where reported, nothing is left
abbrev pub IsAtEnd : Option (List ℕ) → Type 0
IsAtEnd None = Unit {0}
IsAtEnd (Some left) = left ≡ []
