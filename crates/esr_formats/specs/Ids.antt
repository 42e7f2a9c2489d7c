-- An id is its number.
use Rattle.std.specs.Prelude.{ℕ}
use Rattle.esr_names.specs.declared.ids.Id.{Id}

-- the number of an id
abbrev pub number_of : Id → ℕ
number_of u = u.number

-- the id of a number
abbrev pub id_of : ℕ → Id
id_of n = record { number = n }
