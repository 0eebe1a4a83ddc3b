-- An edge of a part in twelve bytes: how its second end is written.
use Rattle.std.specs.Prelude.{ℕ, ◌==◌, cond, Option, None, Some}

-- what stands for a free end: more than a place of a part
abbrev pub free_end : ℕ
free_end = 65535

-- the second end that is written so
abbrev pub end_of : ℕ → Option ℕ
end_of written = cond (written == free_end) None (Some written)
