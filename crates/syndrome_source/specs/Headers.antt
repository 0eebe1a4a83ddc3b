-- Where the taking of a header ends without one.
use Rattle.std.specs.Prelude.{◌≡◌, ℕ, ◌+◌, ◌==◌, Bool, false, List, [], ◌∷◌, ◌++◌, length, Option}
use Rattle.port_io.specs.Traffic.{IsAtEnd}
use Rattle.surface_model.specs.Header.{Header, EndedIn, with_byte, header_within, header_of}
use Rattle.surface_model.specs.Limits.{most_taken_bytes}
use Rattle.syndrome_source.specs.declared.error.HeaderError.{HeaderError}
use Rattle.syndrome_source.specs.declared.error.HeaderError.TheVariants.{Ended, ReadFault, Memory}

-- an input that ends after these bytes has no header
abbrev pub IsFront : List ℕ → Type 0
IsFront bytes = (line : ℕ) × (header_of bytes ≡ EndedIn line)

-- What was taken where no header was: the whole input, which has none; a front of one; or a front
-- of one and a byte for which there was no room
abbrev pub IsNoHeader : List ℕ → Option (List ℕ) → HeaderError → Type 0
IsNoHeader bytes left (Ended line) = IsAtEnd left × (header_of bytes ≡ EndedIn line)
IsNoHeader bytes left ReadFault = IsFront bytes
IsNoHeader bytes left Memory =
    (front : List ℕ) × (byte : ℕ) × (bytes ≡ front ++ byte ∷ []) × IsFront front

-- ---- on the way

-- the header begins with this text
abbrev pub with_text : List ℕ → Header → Header
with_text [] header = header
with_text (byte ∷ text) header = with_byte byte (with_text text header)

-- the text is taken, with these bytes in the line of this number, and what follows decides
pub record IsBegun (number : ℕ) (begun text : List ℕ) : Type 0 where
  pub goes_on : (room : ℕ) → length text + room ≡ most_taken_bytes → (rest : List ℕ) →
      header_of (text ++ rest) ≡ with_text text (header_within room number begun rest)

abbrev pub begins_with_space : List ℕ → Bool
begins_with_space [] = false
begins_with_space (byte ∷ bytes) = byte == 32
