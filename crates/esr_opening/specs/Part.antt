-- A part of what was answered.
use Rattle.std.specs.Prelude.{Result, Ok, Err}

-- the answer, but of its value this part alone
abbrev pub part : {A B E : Type 0} → (A → B) → Result A E → Result B E
part f (Ok x) = Ok (f x)
part f (Err e) = Err e
