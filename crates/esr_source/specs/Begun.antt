-- A file that is being written.
use Rattle.std.specs.Prelude.{ℕ, ◌-◌, Bool, true, false, List, [], ◌∷◌, ◌++◌, length, Option, Some, None, option_map}
use Rattle.std.specs.Io.KnownBytes.{append_known}

-- its name, its bytes so far where they are told, and how many more may be written
pub record Begun : Type 0 where
  pub name : List ℕ
  pub bytes : Option (List ℕ)
  pub room : ℕ

-- the files of a new target: none, where it tells
abbrev pub new_files : Bool → Option (List (List ℕ × List ℕ))
new_files true = Some []
new_files false = None

-- a file as it is begun, told where the files are
abbrev pub begun_file : List ℕ → Option (List (List ℕ × List ℕ)) → ℕ → Begun
begun_file name files room = record { name = name; bytes = option_map (λ _. []) files; room = room }

-- the same file with these bytes at its end
abbrev pub more : List ℕ → Begun → Begun
more bytes b = record { name = b.name; bytes = append_known b.bytes bytes; room = b.room - length bytes }

abbrev pub with_file : List (List ℕ × List ℕ) → List ℕ → Option (List ℕ) → Option (List (List ℕ × List ℕ))
with_file files name None = None
with_file files name (Some bytes) = Some (files ++ (name, bytes) ∷ [])

-- the files with the begun one at their end, told where both are
abbrev pub with_ended : Option (List (List ℕ × List ℕ)) → Option Begun → Option (List (List ℕ × List ℕ))
with_ended None begun = None
with_ended (Some files) None = None
with_ended (Some files) (Some b) = with_file files b.name b.bytes
