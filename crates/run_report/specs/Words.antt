-- Words of lines, each after a space.
use Rattle.std.specs.Prelude.{ℕ, List, ◌∷◌, ◌++◌, decimal, flat_map}
use Rattle.window_model.specs.Speculation.{Link}
use Rattle.report_model.specs.Texts.{link_text}

abbrev pub spaced : List ℕ → List ℕ
spaced numbers = flat_map (λ n. 32 ∷ decimal n) numbers

-- a word and its number
abbrev pub field : List ℕ → ℕ → List ℕ
field word number = 32 ∷ word ++ 32 ∷ decimal number

abbrev pub link_word : Link → List ℕ
link_word link = 32 ∷ link_text link
