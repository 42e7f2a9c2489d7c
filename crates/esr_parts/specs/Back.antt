-- What reading a stored file back does.
use Rattle.std.specs.Prelude.{◌≡◌, ℕ, ◌+◌, ◌<◌, ◌≤◌, Bool, true, false, List, length, take, Option, option_map, Result, Ok, Err}
use Rattle.std.specs.Io.KnownBytes.{Consumes, IsAtEnd}
use Rattle.esr_hash.specs.declared.hasher.Hasher.{Hasher}
use Rattle.esr_source.specs.Begun.{Begun, more}
use Rattle.esr_parts.specs.Reads.{Fed}
use Rattle.esr_parts.specs.declared.back.Extent.{Extent}
use Rattle.esr_parts.specs.declared.back.Extent.TheVariants.{Whole, Short, Long}
use Rattle.esr_parts.specs.declared.back.BackError.{BackError}
use Rattle.esr_parts.specs.declared.back.BackError.TheVariants.{Fetch, Target}

-- what was read of a file that is said to have so many bytes: exactly these, fewer, or one more
abbrev pub HasExtent : Extent → ℕ → List ℕ → Option (List ℕ) → Type 0
HasExtent Whole size piece left = (length piece ≡ size) × IsAtEnd left
HasExtent Short size piece left = (length piece < size) × IsAtEnd left
HasExtent Long size piece left = length piece ≡ size + 1

-- this piece was read, and all of it was fed to the hasher
pub record Taken (left_old left_new : Option (List ℕ)) (hasher_old hasher_new : Hasher) (piece : List ℕ) : Type 0 where
  pub took : Consumes left_old left_new piece
  pub fed : Fed hasher_old hasher_new piece

-- the begun file has grown by the first `count` bytes of the piece, and its room is less by these
abbrev pub Grew : Option Begun → Option Begun → ℕ → List ℕ → Type 0
Grew old new count piece = new ≡ option_map (more (take count piece)) old

-- a file of `size` bytes was read to its end, or to one byte past them, and hashed as it was read
pub record HashedBack (left_old left_new : Option (List ℕ)) (hasher_old hasher_new : Hasher) (size : ℕ) (extent : Extent) : Type 0 where
  pub piece : List ℕ
  pub taken : Taken left_old left_new hasher_old hasher_new piece
  pub extent_is : HasExtent extent size piece left_new

-- the same, and what is within the size was written to the begun file
pub record ReadBack (left_old left_new : Option (List ℕ)) (hasher_old hasher_new : Hasher) (begun_old begun_new : Option Begun) (size : ℕ) (extent : Extent) : Type 0 where
  pub piece : List ℕ
  pub taken : Taken left_old left_new hasher_old hasher_new piece
  pub extent_is : HasExtent extent size piece left_new
  pub grew : Grew begun_old begun_new size piece

-- a read or a write failed before that: some piece was read and hashed, to at most one byte past the size, and a front
-- of it within the size was written
pub record Broken (left_old left_new : Option (List ℕ)) (hasher_old hasher_new : Hasher) (begun_old begun_new : Option Begun) (size : ℕ) : Type 0 where
  pub piece : List ℕ
  pub taken : Taken left_old left_new hasher_old hasher_new piece
  pub bound : length piece ≤ size + 1
  pub count : ℕ
  pub within : (count ≤ length piece) × (count ≤ size)
  pub grew : Grew begun_old begun_new count piece

-- one piece was read and hashed, to at most one byte past those that are missing; it is empty at the end alone
pub record NextPiece (left_old left_new : Option (List ℕ)) (hasher_old hasher_new : Hasher) (missing : ℕ) (buf : List ℕ) (got : ℕ) : Type 0 where
  pub taken : Taken left_old left_new hasher_old hasher_new (take got buf)
  pub fits : got ≤ length buf
  pub bound : got ≤ missing + 1
  pub end : got ≡ 0 → IsAtEnd left_new

-- the fetch failed
abbrev pub is_of_fetch : {T : Type 0} → Result T BackError → Bool
is_of_fetch (Ok x) = false
is_of_fetch (Err Fetch) = true
is_of_fetch (Err Target) = false

-- the target failed
abbrev pub is_of_target : {T : Type 0} → Result T BackError → Bool
is_of_target (Ok x) = false
is_of_target (Err Fetch) = false
is_of_target (Err Target) = true
