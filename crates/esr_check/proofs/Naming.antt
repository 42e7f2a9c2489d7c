-- Names of blobs: of what they are, and that those of one aren't those of another.
use Rattle.std.proofs.Common.{◌≡◌, ℕ, ◌<◌, nat_le, true, false, refl, sym, ◌∙◌, subst, arith}
use Rattle.std.specs.Prelude.{if◌then◌else◌}
use Rattle.esr_names.specs.declared.blob.ShardId.{ShardId}
use Rattle.esr_names.specs.declared.blob.BlobName.TheVariants as code
use Rattle.esr_formats.specs.Names.{name_of}
use Rattle.esr_model.specs.Names.{BlobName, Root, Snap, Meta, IndexMeta, ShardSnap, ShardIndex, File, Part}
use Rattle.esr_model.specs.Values.{IndexRef, RootSnap, RootIndex, FileEntry, SnapList}
use Rattle.esr_shardidx.specs.declared.entry.FileEntry.{FileEntry as CodeEntry}
use Rattle.esr_shardidx.specs.Parts.{part_count}
use Rattle.esr_restore.specs.PartSizes.{blob_name}
use Rattle.esr_restore.specs.PartsApart.{parts_differ}
use Rattle.esr_check.specs.Names.{Just, IsOfSnap, IsOfAnySnap, IsMetaIn, IsOfShard, IsSnapOf, IsOfFile, IsPieceOf, IsOfShards, IsOfAnyShard}

-- ---- of one item

abbrev pub MetaOf : ℕ → IndexRef → BlobName → Type 0
MetaOf uuid r name = name ≡ IndexMeta r.id uuid

abbrev pub SnapOf : RootSnap → BlobName → Type 0
SnapOf snap name = IsOfSnap snap.uuid name

abbrev pub ListOf : ℕ → ℕ → SnapList → BlobName → Type 0
ListOf index shard l name = name ≡ ShardSnap index shard l.uuid

abbrev pub FileOf : ℕ → ℕ → FileEntry → BlobName → Type 0
FileOf index shard e name = IsOfFile index shard e.name name

abbrev pub PartOf : ShardId → CodeEntry → ℕ → BlobName → Type 0
PartOf at e k name = name ≡ blob_name at e k

abbrev pub IndexOf : RootIndex → BlobName → Type 0
IndexOf x name = IsOfShards x.id name

-- ---- of one alone

pub meta_key : (uuid : ℕ) (q r : IndexRef) (name : BlobName) → MetaOf uuid q name → MetaOf uuid r name → q.id ≡ r.id
meta_key uuid q r name one two = let same : IndexMeta q.id uuid ≡ IndexMeta r.id uuid = sym one ∙ two in cc

of_snap : (u v : ℕ) (name : BlobName) → IsOfSnap u name → IsOfSnap v name → u ≡ v
of_snap u v (Snap w) one two = sym one ∙ two
of_snap u v (Meta w) one two = sym one ∙ two
of_snap u v (IndexMeta i w) one two = sym one ∙ two
of_snap u v name one two = absurd one

pub snap_key : (a b : RootSnap) (name : BlobName) → SnapOf a name → SnapOf b name → a.uuid ≡ b.uuid
snap_key a b name one two = of_snap a.uuid b.uuid name one two

pub list_key : (index shard : ℕ) (a b : SnapList) (name : BlobName) → ListOf index shard a name → ListOf index shard b name → a.uuid ≡ b.uuid
list_key index shard a b name one two = let same : ShardSnap index shard a.uuid ≡ ShardSnap index shard b.uuid = sym one ∙ two in cc

of_file : (index shard x y : ℕ) (name : BlobName) → IsOfFile index shard x name → IsOfFile index shard y name → x ≡ y
of_file index shard x y (File i k z) one two = sym one.2 ∙ two.2
of_file index shard x y (Part i k z p) one two = sym one.2 ∙ two.2
of_file index shard x y name one two = absurd one

pub file_key : (index shard : ℕ) (a b : FileEntry) (name : BlobName) → FileOf index shard a name → FileOf index shard b name → a.name ≡ b.name
file_key index shard a b name one two = of_file index shard a.name b.name name one two

of_shard : (i j k n : ℕ) (name : BlobName) → IsOfShard i k name → IsOfShard j n name → (i ≡ j) × (k ≡ n)
of_shard i j k n (ShardSnap x y u) one two = (sym one.0 ∙ two.0, sym one.1 ∙ two.1)
of_shard i j k n (ShardIndex x y g) one two = (sym one.0 ∙ two.0, sym one.1 ∙ two.1)
of_shard i j k n (File x y z) one two = (sym one.0 ∙ two.0, sym one.1 ∙ two.1)
of_shard i j k n (Part x y z p) one two = (sym one.0 ∙ two.0, sym one.1 ∙ two.1)
of_shard i j k n name one two = absurd one

pub numbers_apart : (index k n : ℕ) (name : BlobName) → k < n → IsOfShard index k name → IsOfShard index n name → ⊥
numbers_apart index k n name less one two = let same : k ≡ n = (of_shard index index k n name one two).1 in omega (arith, less, same)

pub index_key : (a b : RootIndex) (name : BlobName) → IndexOf a name → IndexOf b name → a.id ≡ b.id
index_key a b name one two = (of_shard a.id b.id one.0 two.0 name one.1 two.1).0

-- the parts of a file have different names
pub part_apart : (at : ShardId) (e : CodeEntry) (i k : ℕ) (name : BlobName) → k < part_count e.print.len e.part_size → i < k → PartOf at e i name → PartOf at e k name → ⊥
part_apart at e i k name within less one two = parts_differ at e i k less within (sym one ∙ two)

-- ---- which are some of more

pub meta_in : (uuid : ℕ) (r : IndexRef) (name : BlobName) → MetaOf uuid r name → IsMetaIn uuid name
meta_in uuid r name own = (r.id, own)

pub info_of_snap : (uuid : ℕ) (name : BlobName) → Just (Snap uuid) name → IsOfSnap uuid name
info_of_snap uuid name own = subst (λ (n : BlobName). IsOfSnap uuid n) (sym own) refl

pub global_of_snap : (uuid : ℕ) (name : BlobName) → Just (Meta uuid) name → IsOfSnap uuid name
global_of_snap uuid name own = subst (λ (n : BlobName). IsOfSnap uuid n) (sym own) refl

pub metas_of_snap : (uuid : ℕ) (name : BlobName) → IsMetaIn uuid name → IsOfSnap uuid name
metas_of_snap uuid name own = subst (λ (n : BlobName). IsOfSnap uuid n) (sym own.1) refl

pub snap_any : (snap : RootSnap) (name : BlobName) → SnapOf snap name → IsOfAnySnap name
snap_any snap name own = (snap.uuid, own)

pub list_in : (index shard : ℕ) (l : SnapList) (name : BlobName) → ListOf index shard l name → IsSnapOf index shard name
list_in index shard l name own = (l.uuid, own)

pub file_in : (index shard : ℕ) (e : FileEntry) (name : BlobName) → FileOf index shard e name → IsPieceOf index shard name
file_in index shard e name own = (e.name, own)

part_file : (at : ShardId) (e : CodeEntry) (k : ℕ) → IsOfFile at.index.number at.number e.name.number (blob_name at e k)
part_file at e k = elim (nat_le e.print.len e.part_size) as (λ b. IsOfFile at.index.number at.number e.name.number (name_of (if b then code.Whole at e.name else code.Part at e.name k))) [
  | true ↦ (refl, refl, refl)
  | false ↦ (refl, refl, refl)
]

pub part_in : (at : ShardId) (e : CodeEntry) (k : ℕ) (name : BlobName) → PartOf at e k name → IsOfFile at.index.number at.number e.name.number name
part_in at e k name own = subst (λ (n : BlobName). IsOfFile at.index.number at.number e.name.number n) (sym own) (part_file at e k)

pub held_of_shard : (index shard generation : ℕ) (name : BlobName) → Just (ShardIndex index shard generation) name → IsOfShard index shard name
held_of_shard index shard generation name own = subst (λ (n : BlobName). IsOfShard index shard n) (sym own) (refl, refl)

pub lists_of_shard : (index shard : ℕ) (name : BlobName) → IsSnapOf index shard name → IsOfShard index shard name
lists_of_shard index shard name own = subst (λ (n : BlobName). IsOfShard index shard n) (sym own.1) (refl, refl)

of_piece : (index shard file : ℕ) (name : BlobName) → IsOfFile index shard file name → IsOfShard index shard name
of_piece index shard file (File i k x) own = (own.0, own.1)
of_piece index shard file (Part i k x p) own = (own.0, own.1)
of_piece index shard file name own = absurd own

pub files_of_shard : (index shard : ℕ) (name : BlobName) → IsPieceOf index shard name → IsOfShard index shard name
files_of_shard index shard name own = of_piece index shard own.0 name own.1

pub shard_in : (index k : ℕ) (name : BlobName) → IsOfShard index k name → IsOfShards index name
shard_in index k name own = (k, own)

pub index_any : (x : RootIndex) (name : BlobName) → IndexOf x name → IsOfAnyShard name
index_any x name own = (x.id, own)

-- ---- which are none of others

pub global_no_info : (uuid : ℕ) (name : BlobName) → Just (Meta uuid) name → Just (Snap uuid) name → ⊥
global_no_info uuid name one two = let same : Meta uuid ≡ Snap uuid = sym one ∙ two in cc

pub metas_no_info : (uuid : ℕ) (name : BlobName) → IsMetaIn uuid name → Just (Snap uuid) name → ⊥
metas_no_info uuid name one two = let same : IndexMeta one.0 uuid ≡ Snap uuid = sym one.1 ∙ two in cc

pub metas_no_global : (uuid : ℕ) (name : BlobName) → IsMetaIn uuid name → Just (Meta uuid) name → ⊥
metas_no_global uuid name one two = let same : IndexMeta one.0 uuid ≡ Meta uuid = sym one.1 ∙ two in cc

pub lists_no_held : (index shard generation : ℕ) (name : BlobName) → IsSnapOf index shard name → Just (ShardIndex index shard generation) name → ⊥
lists_no_held index shard generation name one two = let same : ShardSnap index shard one.0 ≡ ShardIndex index shard generation = sym one.1 ∙ two in cc

pub files_no_held : (index shard generation : ℕ) (name : BlobName) → IsPieceOf index shard name → Just (ShardIndex index shard generation) name → ⊥
files_no_held index shard generation name one two = subst (λ (n : BlobName). IsOfFile index shard one.0 n) two one.1

pub files_no_lists : (index shard : ℕ) (name : BlobName) → IsPieceOf index shard name → IsSnapOf index shard name → ⊥
files_no_lists index shard name one two = subst (λ (n : BlobName). IsOfFile index shard one.0 n) two.1 one.1

pub snaps_no_root : (n : ℕ) (name : BlobName) → IsOfAnySnap name → Just (Root n) name → ⊥
snaps_no_root n name one two = subst (λ (m : BlobName). IsOfSnap one.0 m) two one.1

pub shards_no_root : (n : ℕ) (name : BlobName) → IsOfAnyShard name → Just (Root n) name → ⊥
shards_no_root n name one two = subst (λ (m : BlobName). IsOfShard one.0 one.1.0 m) two one.1.1

of_both : (index shard uuid : ℕ) (name : BlobName) → IsOfShard index shard name → IsOfSnap uuid name → ⊥
of_both index shard uuid (ShardSnap i k u) one two = two
of_both index shard uuid (ShardIndex i k g) one two = two
of_both index shard uuid (File i k x) one two = two
of_both index shard uuid (Part i k x p) one two = two
of_both index shard uuid name one two = one

pub shards_no_snaps : (name : BlobName) → IsOfAnyShard name → IsOfAnySnap name → ⊥
shards_no_snaps name one two = of_both one.0 one.1.0 two.0 name one.1.1 two.1
