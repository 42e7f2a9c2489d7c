-- What a function of this crate answers.
use Rattle.std.specs.Prelude.{ℕ, Bool, List, Option, Some, None}
use Rattle.esr_model.specs.Values.{Bytes, Formats}
use Rattle.esr_formats.specs.Formats.{formats}

-- it holds with the real texts, whatever the sources tell
abbrev pub Always : (Formats → Type 0) → Type 0
Always P = (known : Bytes → Bytes → ℕ → Bool) (told : Bytes → Bytes → ℕ → Option (List (Bytes × Bytes))) → P (formats known told)

-- what was found stands; nothing was found where nothing stands
abbrev pub IsExactly : {A : Type 0} → (A → Type 0) → Option A → Type 0
IsExactly Stands (Some x) = Stands x
IsExactly {A} Stands None = (x : A) → Stands x → ⊥
