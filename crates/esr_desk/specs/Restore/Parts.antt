-- The parts of a file with their stated lengths, and what is read of them.
use Rattle.std.specs.Prelude.{◌≡◌, ℕ, suc, ◌-◌, List, [], ◌∷◌, length, take}
use Rattle.esr_model.specs.Names.{BlobName}
use Rattle.esr_model.specs.Values.{Bytes, FileEntry}
use Rattle.esr_model.specs.Parts.{part_names}
use Rattle.esr_model.specs.Image.{AllPairs}

-- each part but the last has exactly the part size
abbrev pub sized : ℕ → ℕ → List BlobName → List (BlobName × ℕ)
sized len size [] = []
sized len size (last ∷ []) = (last, len) ∷ []
sized len size (part ∷ next ∷ parts) = (part, size) ∷ sized (len - size) size (next ∷ parts)

abbrev pub sized_parts : ℕ → ℕ → FileEntry → List (BlobName × ℕ)
sized_parts index number e = sized e.len e.part_size (part_names index number e)

-- of a blob that is said to have so many bytes at most one more is read
abbrev pub front_of : ℕ → Bytes → Bytes
front_of size bytes = take (suc size) bytes

-- this is what was read of the part
abbrev pub IsFront : (BlobName → Bytes → Type 0) → BlobName × ℕ → Bytes → Type 0
IsFront has part front = (bytes : Bytes) × has part.0 bytes × (front ≡ front_of part.1 bytes)

-- what was read of all parts of a file
abbrev pub AreFronts : (BlobName → Bytes → Type 0) → ℕ → ℕ → FileEntry → List Bytes → Type 0
AreFronts has index number e fronts = AllPairs (IsFront has) (sized_parts index number e) fronts

-- each has its stated length
abbrev pub AreExact : ℕ → ℕ → FileEntry → List Bytes → Type 0
AreExact index number e fronts = AllPairs (λ (part : BlobName × ℕ) (front : Bytes). length front ≡ part.1) (sized_parts index number e) fronts
