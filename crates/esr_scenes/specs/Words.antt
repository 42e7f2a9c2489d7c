-- The words of a line that aren't read yet, and the number that a word spells.
use Rattle.std.specs.Prelude.{◌≡◌, ◌==◌, ◌<◌, ◌^◌, ℕ, Bool, List}
use Rattle.std.specs.Str.Parse.{IsNumeral, digits_value, without_leading_plus}
use Rattle.esr_scenes.specs.declared.words.Words.{Words}

-- the byte of a space
abbrev pub is_space : ℕ → Bool
is_space c = c == 32

-- the words that are left, as they stand
abbrev pub rest_of : Words → List ℕ
rest_of words = words.rest.now

-- the number that the digits of a text write, where a plus may stand before them
abbrev pub value_of : List ℕ → ℕ
value_of text = digits_value 10 (without_leading_plus text)

-- the text has digits, one or more, and nothing else but that plus, and the number is below 2^64
abbrev pub IsNumber : List ℕ → Type 0
IsNumber text = IsNumeral 10 (without_leading_plus text) × (value_of text < 2 ^ 64)

-- n is the number that the text spells, and 0 where it spells none
abbrev pub Spells : List ℕ → ℕ → Type 0
Spells text n = (IsNumber text → n ≡ value_of text) × ((IsNumber text → ⊥) → n ≡ 0)
