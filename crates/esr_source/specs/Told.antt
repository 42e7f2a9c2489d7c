-- What sources and targets, and the shards and targets that they make, show to proofs.
use Rattle.std.specs.Prelude.{ℕ, Bool, List, Option}
use Rattle.esr_source.specs.declared.address.Address.{Address}
use Rattle.esr_source.specs.declared.files.ListedFile.{ListedFile}
use Rattle.esr_source.specs.Begun.{Begun}

-- files, names with bytes
abbrev pub FileList : Type 0
FileList = List (List ℕ × List ℕ)

pub record ShardTold : Type 0 where
  -- the address that it was made for
  pub address : Address
  -- its files, where they are told
  pub files : Option FileList
  -- whether its place exists, where that is told
  pub is_there : Option Bool
  -- no call of it fails
  pub is_sure : Bool
  -- what `list` gave last
  pub listed : Option (List ListedFile)
  -- what is left of the file that was started last, where that is told
  pub left : Option (List ℕ)

pub record SourcesTold : Type 0 where
  -- the files of the shard at a place, an index and a number, where they are told
  pub files : List ℕ → List ℕ → ℕ → Option FileList
  -- whether the place of that shard exists, where that is told
  pub is_there : List ℕ → List ℕ → ℕ → Option Bool
  -- no shard whose place exists ever fails
  pub is_quiet : Bool

pub record TargetTold : Type 0 where
  -- the address that it was made for
  pub made_for : Address
  -- the files that were ended, in the order in which they were, where they are told
  pub files : Option FileList
  -- the file that is begun, if one is
  pub begun : Option Begun
  -- no call of it fails
  pub is_sure : Bool

pub record TargetsTold : Type 0 where
  -- its targets tell the files that were ended
  pub tells : Bool
  -- no target ever fails
  pub is_quiet : Bool
