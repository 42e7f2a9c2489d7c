-- The blobs of a file, which are its parts.
use Rattle.std.specs.Prelude.{◌≡◌, ◌≤◌, ℕ, zero, suc, ◌+◌, ◌*◌, ◌-◌, ◌/◌, nat_lt, nat_le, if◌then◌else◌, List, [], ◌∷◌, ◌++◌, length, take, drop}
use Rattle.esr_names.specs.declared.blob.ShardId.{ShardId}
use Rattle.esr_names.specs.declared.blob.BlobName.{BlobName}
use Rattle.esr_names.specs.declared.blob.BlobName.TheVariants.{Whole, Part}
use Rattle.esr_shardidx.specs.declared.entry.FileEntry.{FileEntry}

-- one where the file fits into one, and else its length by the size of a part, rounded up
abbrev pub part_count : ℕ → ℕ → ℕ
part_count len size = if nat_le len size then 1 else (len + size - 1) / size

-- a file that fits into one blob has its name without a number
abbrev pub part_name : ShardId → FileEntry → ℕ → BlobName
part_name shard e k = if nat_le e.print.len e.part_size then Whole shard e.name else Part shard e.name k

-- the length of part k
abbrev pub part_len : ℕ → ℕ → ℕ → ℕ
part_len len size k = if nat_lt (k * size + size) len then size else len - k * size

-- the length of the first n parts
abbrev pub len_of_parts : ℕ → ℕ → ℕ → ℕ
len_of_parts len size zero = 0
len_of_parts len size (suc n) = len_of_parts len size n + part_len len size n

-- n pieces of some bytes, each with as many of them as there are, up to the size
abbrev pub pieces : ℕ → ℕ → List ℕ → List (List ℕ)
pieces size zero bytes = []
pieces size (suc n) bytes = take size bytes ∷ pieces size n (drop size bytes)

-- the parts of a file of these bytes
abbrev pub parts_of : ℕ → List ℕ → List (List ℕ)
parts_of size bytes = pieces size (part_count (length bytes) size) bytes

-- pieces one after another
abbrev pub join : List (List ℕ) → List ℕ
join [] = []
join (p ∷ ps) = p ++ join ps

-- each piece but the last is of exactly the size, and the last is no longer
abbrev pub IsCut : ℕ → List (List ℕ) → Type 0
IsCut size [] = Unit {0}
IsCut size (p ∷ []) = length p ≤ size
IsCut size (p ∷ q ∷ ps) = (length p ≡ size) × IsCut size (q ∷ ps)
