-- The sources are those of which the start tells.
use Rattle.std.specs.Prelude.{◌≡◌, ◌⊎◌, ℕ, true, false, Option, Some, None}
use Rattle.esr_model.specs.Values.{Bytes}
use Rattle.esr_source.specs.Told.{SourcesTold, FileList}
use Rattle.esr_desk.specs.Start.{Start}

-- two tell the files of an address, and the same ones
abbrev pub TellSame : Option FileList → Option FileList → Type 0
TellSame here there = (files : FileList) × (here ≡ Some files) × (there ≡ Some files)

-- the place of an address doesn't exist, and so none tells files of it
abbrev pub TellAbsence : Start → SourcesTold → Bytes → Bytes → ℕ → Type 0
TellAbsence s c place name number = (c.is_there place name number ≡ Some false) × (s.told place name number ≡ None)

-- where the files of an address are known, the sources tell the same, or its place doesn't exist
abbrev pub TellsFiles : Start → SourcesTold → Type 0
TellsFiles s c = (place name : Bytes) (number : ℕ) → s.known place name number ≡ true → TellSame (c.files place name number) (s.told place name number) ⊎ TellAbsence s c place name number

-- where a shard is steady, the sources are quiet and its place exists
abbrev pub TellsSteady : Start → SourcesTold → Type 0
TellsSteady s c = (place name : Bytes) (number : ℕ) → s.steady place name number ≡ true → (c.is_quiet ≡ true) × (c.is_there place name number ≡ Some true)

-- they tell what the start says of them
pub record AreSources (s : Start) (c : SourcesTold) : Type 0 where
  pub told : TellsFiles s c
  pub steady : TellsSteady s c
