-- Numbers in plain decimal.
use Rattle.std.specs.Prelude.{ℕ, ◌+◌, ◌*◌, ◌-◌, ◌==◌, ◌&&◌, ◌||◌, nat_lt, nat_le, Bool, false, List, [], ◌∷◌, length, if◌then◌else◌, Option, Some, None, option_and_then}

abbrev pub is_digit : ℕ → Bool
is_digit c = nat_le 48 c && nat_le c 57

-- the number that digits spell after those of n, unless it is above the bound
unfoldable pub number_up_to : ℕ → ℕ → List ℕ → Option ℕ
number_up_to most n [] = Some n
number_up_to most n (c ∷ cs) =
    if is_digit c then (if nat_lt most (n * 10 + (c - 48)) then None else number_up_to most (n * 10 + (c - 48)) cs) else None

abbrev pub has_leading_zero : List ℕ → Bool
has_leading_zero [] = false
has_leading_zero (c ∷ []) = false
has_leading_zero (c ∷ d ∷ cs) = c == 48

-- the number, where it is at least the bound
abbrev pub at_least : ℕ → ℕ → Option ℕ
at_least least n = if nat_lt n least then None else Some n

-- the number from `least` to `most` that a text spells, without sign or leading zero
abbrev pub number_in : ℕ → ℕ → List ℕ → Option ℕ
number_in least most text =
    if length text == 0 || has_leading_zero text then None
    else option_and_then (at_least least) (number_up_to most 0 text)
