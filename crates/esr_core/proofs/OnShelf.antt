-- What a restore's ticket has read of its shard are the files of the shelf.
use Rattle.std.proofs.Common.{◌≡◌, ℕ, ◌+◌, List, [], ◌∷◌, map, refl, sym, ap, ◌∙◌, subst}
use Rattle.std.specs.Prelude.{length, sum_by, min, ◌-◌, ◌^◌}
use Rattle.std.proofs.lemmas.List.Sums.{sum_by-cons}
use Rattle.esr_model.specs.Names.{BlobName, ShardSnap}
use Rattle.esr_model.specs.Values.{Bytes, FileEntry, ShardSnapshot, Formats}
use Rattle.esr_model.specs.Shelf.{Shelved}
use Rattle.esr_model.specs.Image.{AllPairs, IsOne, FileStands}
use Rattle.esr_core.specs.World.{World, Reader, HeldIn}
use Rattle.esr_core.specs.Restores.{IsReading, WasRead}
use Rattle.esr_core.specs.Ids.{Law}
use Rattle.esr_core.specs.Allowed.{RestoredBy}
use Rattle.esr_core.specs.ReadLaw.{ReaderLaw, ReadLaw, IsOnShelf}
use Rattle.esr_core.specs.Laws.OneValue.{reads_one, held_one}
use Rattle.esr_model.specs.Lists.{AllPairs-map, pairs_length}
use Rattle.esr_core.specs.Laws.BlobFrames.{reads_kept, file_kept}
use Rattle.esr_core.proofs.Determined.{file_one}
use Rattle.esr_core.proofs.Shelving.{shelved_one}
use Rattle.esr_core.proofs.ReadLaws.{Serves, serves_now, serves_snap}

-- the name and the contents of a stored file
abbrev IsFile : Formats → (BlobName → Bytes → Type 0) → ℕ → ℕ → FileEntry → Bytes × Bytes → Type 0
IsFile f has index number e file = (e.physical ≡ file.0) × FileStands f has index number e file.1

contents_one : (f : Formats) (has : BlobName → Bytes → Type 0) → IsOne has → (index number : ℕ) (es : List FileEntry) (contents : List Bytes) (files : List (Bytes × Bytes))
    → AllPairs (FileStands f has index number) es contents → AllPairs (IsFile f has index number) es files → contents ≡ map (λ (file : Bytes × Bytes). file.1) files
contents_one f has func index number [] [] [] h k = refl
contents_one f has func index number [] (c ∷ contents) files h k = absurd h
contents_one f has func index number (e ∷ es) [] files h k = absurd h
contents_one f has func index number (e ∷ es) (c ∷ contents) (y ∷ files) h k = λ i. file_one f has func index number e c y.1 h.0 k.0.1 i ∷ contents_one f has func index number es contents files h.1 k.1 i
contents_one f has func index number es contents files h k = absurd k

lengths : (files : List (Bytes × Bytes)) → sum_by (λ (b : Bytes). length b) (map (λ (file : Bytes × Bytes). file.1) files) ≡ sum_by (λ (file : Bytes × Bytes). length file.1) files
lengths [] = refl
lengths (y ∷ files) =
    sum_by-cons (λ (b : Bytes). length b) y.1 (map (λ (file : Bytes × Bytes). file.1) files) ∙ ap (λ n. length y.1 + n) (lengths files) ∙ sym (sum_by-cons (λ (file : Bytes × Bytes). length file.1) y files)

module _ (f : Formats) (w : World) (shelf : List Shelved) (l : Law f w shelf) (r : ReadLaw f w) (k : ℕ) (q : Reader) (reading : IsReading w k q) (count bytes : ℕ) (by : RestoredBy f q count bytes) where
  law : ReaderLaw f (HeldIn f w) q
  law = r.readers k q reading.there reading.out

  keeps : (name : BlobName) (b : Bytes) → WasRead q.read name b → HeldIn f w name b
  keeps name b has = law.held name b has

  s : Serves f w shelf q
  s = serves_now f w shelf l r k q reading.there reading.out

  -- the snapshot of the shard that it read is the one that stands
  snap_same : s.found.stands.snap ≡ by.snap
  snap_same = reads_one (HeldIn f w) (held_one f w) (ShardSnap q.index q.number q.uuid) f.shard_snap s.found.stands.snap by.snap
      (serves_snap f w shelf q s) (reads_kept f (WasRead q.read) (HeldIn f w) keeps (ShardSnap q.index q.number q.uuid) f.shard_snap by.snap by.snap_read)

  files : AllPairs (IsFile f (HeldIn f w) q.index q.number) by.snap.files s.found.shard.files
  files = subst (λ (x : ShardSnapshot). AllPairs (IsFile f (HeldIn f w) q.index q.number) x.files s.found.shard.files) snap_same
      (subst (λ i. AllPairs (IsFile f (HeldIn f w) i q.number) s.found.stands.snap.files s.found.shard.files) s.index_is
      (subst (λ n. AllPairs (IsFile f (HeldIn f w) s.place.0.id n) s.found.stands.snap.files s.found.shard.files) s.number_is s.found.stands.files))

  contents : by.contents ≡ map (λ (file : Bytes × Bytes). file.1) s.found.shard.files
  contents = contents_one f (HeldIn f w) (held_one f w) q.index q.number by.snap.files by.contents s.found.shard.files
      (AllPairs-map (λ e b h. file_kept f (WasRead q.read) (HeldIn f w) keeps q.index q.number e b h) by.snap.files by.contents by.stand) files

  pub on_shelf : IsOnShelf f shelf q count bytes by
  on_shelf =
      record {
        shelved = s.found.shelved;
        there = s.found.there;
        uuid_is = s.found.uuid_is;
        only = λ x m e. shelved_one f w shelf l x s.found.shelved m s.found.there (e ∙ sym s.found.uuid_is);
        shard = s.found.shard;
        shard_there = s.found.shard_there;
        index_is = s.found.stands.name_is ∙ s.name_is;
        number_is = s.found.stands.number_is ∙ s.number_is;
        names = AllPairs-map (λ e file h. h.0) by.snap.files s.found.shard.files files;
        contents = contents;
        files_is = by.count ∙ pairs_length (IsFile f (HeldIn f w) q.index q.number) by.snap.files s.found.shard.files files;
        bytes_is = by.sum ∙ ap (λ n. min n (2 ^ 64 - 1)) (ap (sum_by (λ (b : Bytes). length b)) contents ∙ lengths s.found.shard.files);
      }
