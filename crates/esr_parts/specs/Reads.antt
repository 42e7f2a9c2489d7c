-- What reading and copying a file does.
use Rattle.std.specs.Prelude.{◌≡◌, ℕ, ◌+◌, ◌<◌, ◌≤◌, Bool, true, false, List, ◌++◌, length, Option, None, Some, Result, Ok, Err}
use Rattle.std.specs.Io.KnownBytes.{append_known, Consumes, IsAtEnd}
use Rattle.esr_hash.specs.declared.hasher.Hasher.{Hasher}
use Rattle.esr_hash.specs.declared.print.Print.{Print}
use Rattle.esr_hash.specs.Fed.{fed_count, HasFed}
use Rattle.esr_hash.specs.Prints.{print_of}
use Rattle.esr_source.specs.Told.{ShardTold}
use Rattle.esr_parts.specs.declared.copy.CopyError.{CopyError}
use Rattle.esr_parts.specs.declared.copy.CopyError.TheVariants.{Source, Stage}

-- the shard may have gone on in its files, and is as it was else
abbrev pub ReadOn : ShardTold → ShardTold → Type 0
ReadOn old new = new ≡ record old { left = new.left }

-- what is told, if anything is, is this
abbrev pub Tells : Option (List ℕ) → List ℕ → Type 0
Tells None bytes = Unit {0}
Tells (Some told) bytes = told ≡ bytes

-- a file was read, at most so many bytes, and this is its print
pub record Hashed (told : Option (List ℕ)) (len : ℕ) (print : Print) : Type 0 where
  pub bytes : List ℕ
  pub print_is : print ≡ print_of bytes
  pub tells : Tells told bytes
  pub bound : length bytes ≤ len

-- the hasher was fed these bytes more
pub record Fed (old new : Hasher) (bytes : List ℕ) : Type 0 where
  pub joined : (m : List ℕ) → HasFed old m → HasFed new (m ++ bytes)
  pub count : fed_count new ≡ fed_count old + length bytes

-- a piece was read, written to the stage and hashed: it has the whole size, or the file is at its end
pub record Copied (left_old left_new stage_old stage_new : Option (List ℕ)) (hasher_old hasher_new : Hasher) (size : ℕ) (full : Bool) : Type 0 where
  pub piece : List ℕ
  pub took : Consumes left_old left_new piece
  pub stage_is : stage_new ≡ append_known stage_old piece
  pub fed : Fed hasher_old hasher_new piece
  pub whole : full ≡ true → length piece ≡ size
  pub short : full ≡ false → (length piece < size) × IsAtEnd left_new

-- the source failed
abbrev pub is_of_source : {T : Type 0} → Result T CopyError → Bool
is_of_source (Ok x) = false
is_of_source (Err Source) = true
is_of_source (Err Stage) = false

-- the stage failed
abbrev pub is_of_stage : {T : Type 0} → Result T CopyError → Bool
is_of_stage (Ok x) = false
is_of_stage (Err Source) = false
is_of_stage (Err Stage) = true
