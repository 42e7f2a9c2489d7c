-- The parts in which a file is stored.
use Rattle.std.specs.Prelude.{◌≡◌, ℕ, zero, suc, ◌+◌, ◌-◌, ◌/◌, leb, if◌then◌else◌, List, [], ◌∷◌, length}
use Rattle.esr_model.specs.Names.{BlobName, File, Part}
use Rattle.esr_model.specs.Values.{Bytes, FileEntry}

-- one part for a file that isn't longer than the part size, else the length by the size, rounded up
abbrev pub part_count : ℕ → ℕ → ℕ
part_count len size = if leb len size then 1 else (len + (size - 1)) / size

-- so many parts of a file, numbered from a number on
abbrev pub parts_from : ℕ → ℕ → ℕ → ℕ → ℕ → List BlobName
parts_from index shard file first zero = []
parts_from index shard file first (suc n) = Part index shard file first ∷ parts_from index shard file (suc first) n

-- a file of one part is one blob without a number
abbrev pub part_names : ℕ → ℕ → FileEntry → List BlobName
part_names index shard e =
    if leb e.len e.part_size then File index shard e.name ∷ [] else parts_from index shard e.name 0 (part_count e.len e.part_size)

-- each part but the last has exactly the part size
abbrev pub AreFull : ℕ → List Bytes → Type 0
AreFull size [] = Unit {0}
AreFull size (last ∷ []) = Unit {0}
AreFull size (part ∷ next ∷ parts) = (length part ≡ size) × AreFull size (next ∷ parts)
