-- The blobs of a container, from the list of them.
use Rattle.std.specs.Prelude.{List, [], ◌∷◌}
use Rattle.std.specs.Coded.{Coded, coded_ℕ, coded_list}
use Rattle.std.specs.FinMap as fin
use Rattle.esr_model.specs.Image.{Blobs}
use Rattle.esr_plain.specs.declared.image.Blob.{Blob}

-- by the texts of their names; of two with one name the first counts
abbrev pub blobs_of : List Blob → Blobs
blobs_of [] = fin.empty
blobs_of (b ∷ bs) = fin.insert (blobs_of bs) b.name b.bytes

-- they are stored as their entries
abbrev pub blobs_code : Coded Blobs
blobs_code = fin.code (coded_list coded_ℕ) (coded_list coded_ℕ)
