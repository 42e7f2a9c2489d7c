-- What is stored of a shard, where its snapshot reads and each of its files stands.
use Rattle.std.proofs.Common.{◌≡◌, ℕ, List, [], ◌∷◌, Some, map, refl, ap, ◌∙◌}
use Rattle.std.specs.FinMap as fin
use Rattle.esr_model.specs.Names.{BlobName, ShardSnap}
use Rattle.esr_model.specs.Values.{Bytes, FileEntry, ShardSnapshot, Formats}
use Rattle.esr_model.specs.Parts.{part_names}
use Rattle.esr_model.specs.Image.{Blobs, AllPairs, Reads, FileStands, concat}
use Rattle.esr_core.specs.Stored.{or_no_bytes, blob_at, stored_file, or_no_entries, stored_entries, stored_files}

-- the snapshot of a shard reads, and stands with these files
pub record StandsAs (f : Formats) (has : BlobName → Bytes → Type 0) (index shard uuid : ℕ) (files : List (Bytes × Bytes)) : Type 0 where
  pub snap : ShardSnapshot
  pub reads : Reads has (ShardSnap index shard uuid) f.shard_snap snap
  pub stand : AllPairs (λ (e : FileEntry) (file : Bytes × Bytes). (e.physical ≡ file.0) × FileStands f has index shard e file.1) snap.files files

module _ (f : Formats) (blobs : Blobs) (has : BlobName → Bytes → Type 0) (at : (name : BlobName) (bytes : Bytes) → has name bytes → fin.get blobs (f.names.text name) ≡ Some bytes) where
  blob_is : (name : BlobName) (bytes : Bytes) → has name bytes → blob_at f blobs name ≡ bytes
  blob_is name bytes h = ap or_no_bytes (at name bytes h)

  parts_are : (names : List BlobName) (parts : List Bytes) → AllPairs has names parts → map (blob_at f blobs) names ≡ parts
  parts_are [] [] h = refl
  parts_are (name ∷ names) (bytes ∷ parts) h = λ j. blob_is name bytes h.0 j ∷ parts_are names parts h.1 j
  parts_are names parts h = absurd h

  bytes_are : (index shard : ℕ) (e : FileEntry) (bytes : Bytes) → FileStands f has index shard e bytes → concat (map (blob_at f blobs) (part_names index shard e)) ≡ bytes
  bytes_are index shard e bytes h = ap concat (parts_are (part_names index shard e) h.parts h.there) ∙ h.joined

  files_are : (index shard : ℕ) (entries : List FileEntry) (files : List (Bytes × Bytes)) → AllPairs (λ (e : FileEntry) (file : Bytes × Bytes). (e.physical ≡ file.0) × FileStands f has index shard e file.1) entries files
      → map (stored_file f blobs index shard) entries ≡ files
  files_are index shard [] [] h = refl
  files_are index shard (e ∷ entries) ((physical, bytes) ∷ files) h = λ j. (h.0.0 j, bytes_are index shard e bytes h.0.1 j) ∷ files_are index shard entries files h.1 j
  files_are index shard entries files h = absurd h

  entries_are : (index shard uuid : ℕ) (snap : ShardSnapshot) → Reads has (ShardSnap index shard uuid) f.shard_snap snap → stored_entries f blobs index shard uuid ≡ snap.files
  entries_are index shard uuid snap reads = ap or_no_entries (ap f.shard_snap.read (blob_is (ShardSnap index shard uuid) reads.bytes reads.there) ∙ reads.reads)

  -- what is stored of the shard are these files
  pub stored_is : (index shard uuid : ℕ) (snap : ShardSnapshot) → Reads has (ShardSnap index shard uuid) f.shard_snap snap
      → (files : List (Bytes × Bytes)) → AllPairs (λ (e : FileEntry) (file : Bytes × Bytes). (e.physical ≡ file.0) × FileStands f has index shard e file.1) snap.files files
      → stored_files f blobs index shard uuid ≡ files
  stored_is index shard uuid snap reads files h = ap (map (stored_file f blobs index shard)) (entries_are index shard uuid snap reads) ∙ files_are index shard snap.files files h
