-- The first reading of a shard's files.
use Rattle.std.specs.Prelude.{◌≡◌, ◌^◌, ◌<◌, true, List, Option, Some, None, map, length}
use Rattle.std.specs.List.{AllByRecursion}
use Rattle.esr_hash.specs.declared.print.Print.{Print}
use Rattle.esr_hash.specs.Prints.{print_of}
use Rattle.esr_model.specs.Values.{Bytes}
use Rattle.esr_source.specs.declared.files.ListedFile.{ListedFile}
use Rattle.esr_source.specs.Files.{is_rising}
use Rattle.esr_source.specs.Told.{ShardTold}
use Rattle.esr_reuse.specs.declared.reuse.ReadFile.{ReadFile}
use Rattle.esr_reuse.specs.Plans.{file_read}

-- the shard may have been listed and read, and is as it was else
abbrev pub SameShard : ShardTold → ShardTold → Type 0
SameShard old new = new ≡ record old { listed = new.listed; left = new.left }

-- a file's name, and the print of what was read
abbrev pub printed : Bytes × Bytes → Bytes × Print
printed f = (f.0, print_of f.1)

-- the files are these, where they are told
abbrev pub TellsAll : Option (List (Bytes × Bytes)) → List (Bytes × Bytes) → Type 0
TellsAll None files = Unit {0}
TellsAll (Some told) files = files ≡ told

-- a file is shorter than 2^60 bytes
abbrev pub IsShort : Bytes × Bytes → Type 0
IsShort f = length f.1 < 2 ^ 60

-- what was listed has as many files
abbrev pub ListsAsMany : Option (List ListedFile) → List (Bytes × Bytes) → Type 0
ListsAsMany None files = ⊥
ListsAsMany (Some fs) files = length fs ≡ length files

-- the names of the files rise
abbrev pub names_rise : List (Bytes × Bytes) → List ListedFile
names_rise files = map (λ (f : Bytes × Bytes). record { name = f.0; length = length f.1 }) files

-- all files were read once, in the order of the list
pub record Surveyed (told : Option (List (Bytes × Bytes))) (listed : Option (List ListedFile)) (reads : List ReadFile) : Type 0 where
  pub files : List (Bytes × Bytes)
  pub reads_are : map file_read reads ≡ map printed files
  pub tells : TellsAll told files
  pub short : AllByRecursion IsShort files
  pub few : length files < 2 ^ 32
  pub many : ListsAsMany listed files
  pub rising : is_rising None (names_rise files) ≡ true
