-- What a cleanup lists, and what it dooms: the names of the layout that it listed and its new root doesn't reach.
use Rattle.std.specs.Prelude.{◌≡◌, ◌⊎◌, ℕ, ◌≤◌, Bool, true, false, ◌&&◌, ◌==◌, nat_lt, if◌then◌else◌, List, [], ◌∷◌, length, Option, Some, None}
use Rattle.std.specs.List.{list_any}
use Rattle.std.specs.declared.cmp.Ordering.TheVariants.{Less}
use Rattle.std.specs.Ordering.{nat_cmp}
use Rattle.std.specs.Cmp.Lexicographic.{slice_cmp}
use Rattle.std.specs.FinMap as map
use Rattle.esr_model.specs.Names.{BlobName, Root, Latest, Snap, Meta, IndexMeta, ShardSnap, ShardIndex, File, Part, TestMaster, TestNode}
use Rattle.esr_model.specs.Values.{Bytes, Has, RootIndex, RootData, FileEntry, SnapList, ShardFiles, Formats}
use Rattle.esr_model.specs.Shelf.{names_uuid}
use Rattle.esr_model.specs.Parts.{part_names}
use Rattle.esr_model.specs.Image.{Blobs, index_at, at_shard_of}
use Rattle.esr_model.specs.Delete.{uuids_of, files_read}

-- ---- pages of a listing

-- a blob that is listed: the text of its name, and its length
pub record BlobSize : Type 0 where
  pub text : Bytes
  pub size : ℕ

-- the text comes after the one at which a page begins
abbrev pub IsAfter : Option Bytes → Bytes → Type 0
IsAfter None text = Unit {0}
IsAfter (Some from) text = slice_cmp nat_cmp from text ≡ Less

-- the last text of some pages
abbrev pub last_text : List BlobSize → Option Bytes
last_text [] = None
last_text (b ∷ []) = Some b.text
last_text (b ∷ c ∷ rest) = last_text (c ∷ rest)

-- a page of fewer than 1,000 names ends the listing
abbrev pub is_short : List BlobSize → Bool
is_short page = nat_lt (length page) 1000

-- each comes before those that follow
abbrev pub IsRising : List BlobSize → Type 0
IsRising [] = Unit {0}
IsRising (b ∷ rest) = ((c : BlobSize) → Has rest c → slice_cmp nat_cmp b.text c.text ≡ Less) × IsRising rest

-- a page holds at most 1,000 names after the one at which it begins, in byte order
pub record IsPage (from : Option Bytes) (page : List BlobSize) : Type 0 where
  pub few : length page ≤ 1000
  pub follow : (b : BlobSize) → Has page b → IsAfter from b.text
  pub rising : IsRising page

-- some blob of the page has the text
abbrev pub IsListed : List BlobSize → Bytes → Type 0
IsListed page text = (b : BlobSize) × Has page b × (b.text ≡ text)

-- of these blobs it holds the first: each, with its length, that comes after the name at which it begins, and not after the page's end
pub record IsPageOf (blobs : Blobs) (from : Option Bytes) (page : List BlobSize) : Type 0 where
  pub there : (b : BlobSize) → Has page b → (bytes : Bytes) × (map.get blobs b.text ≡ Some bytes) × (length bytes ≡ b.size)
  pub all : (text bytes : Bytes) → map.get blobs text ≡ Some bytes → IsAfter from text → IsListed page text ⊎ ((is_short page ≡ false) × IsAfter (last_text page) text)

-- ---- what a root reaches, by what was read of the indices of its shards

abbrev pub and_name : Option BlobName → List BlobName → List BlobName
and_name None names = names
and_name (Some name) names = name ∷ names

-- the names of the layout among what was listed
abbrev pub names_listed : Formats → List BlobSize → List BlobName
names_listed f [] = []
names_listed f (b ∷ listed) = and_name (f.names.read b.text) (names_listed f listed)

-- the index of a shard, by its generation
abbrev pub held_by : Formats → List (BlobName × Bytes) → ℕ → ℕ → Option ℕ → Option ShardFiles
held_by f read index number None = None
held_by f read index number (Some g) = files_read f read (record { index = index; number = number; base = g; kept = false })

abbrev pub held_of : Formats → RootData → List (BlobName × Bytes) → ℕ → ℕ → Option ShardFiles
held_of f root read index number = held_by f read index number (at_shard_of (index_at root.indices index) number)

abbrev pub lists_uuid : Option ShardFiles → ℕ → Bool
lists_uuid None uuid = false
lists_uuid (Some held) uuid = list_any (λ (l : SnapList). l.uuid == uuid) held.snapshots

-- it is the one blob of a file
abbrev pub is_file : ℕ → ℕ → ℕ → BlobName → Bool
is_file i k x (File index shard file) = ((index == i) && (shard == k)) && (file == x)
is_file i k x (Root n) = false
is_file i k x Latest = false
is_file i k x (Snap u) = false
is_file i k x (Meta u) = false
is_file i k x (IndexMeta a u) = false
is_file i k x (ShardSnap a s u) = false
is_file i k x (ShardIndex a s g) = false
is_file i k x (Part a s e p) = false
is_file i k x (TestMaster v) = false
is_file i k x (TestNode v n) = false

-- it is this part of a file
abbrev pub is_part : ℕ → ℕ → ℕ → ℕ → BlobName → Bool
is_part i k x p (Part index shard file part) = ((index == i) && (shard == k)) && ((file == x) && (part == p))
is_part i k x p (Root n) = false
is_part i k x p Latest = false
is_part i k x p (Snap u) = false
is_part i k x p (Meta u) = false
is_part i k x p (IndexMeta a u) = false
is_part i k x p (ShardSnap a s u) = false
is_part i k x p (ShardIndex a s g) = false
is_part i k x p (File a s e) = false
is_part i k x p (TestMaster v) = false
is_part i k x p (TestNode v n) = false

-- some file has a blob that passes
abbrev pub has_piece : (BlobName → Bool) → ℕ → ℕ → Option ShardFiles → Bool
has_piece test index number None = false
has_piece test index number (Some held) = list_any (λ (e : FileEntry). list_any test (part_names index number e)) held.files

abbrev pub is_generation : Option ℕ → ℕ → Bool
is_generation None g = false
is_generation (Some h) g = h == g

-- the root of this number reaches the name, or the name is its own, or `index.latest`
abbrev pub reaches : Formats → Option ℕ → RootData → List (BlobName × Bytes) → BlobName → Bool
reaches f number root read (Root n) = is_generation number n
reaches f number root read Latest = true
reaches f number root read (Snap u) = names_uuid (uuids_of root) u
reaches f number root read (Meta u) = names_uuid (uuids_of root) u
reaches f number root read (IndexMeta i u) = list_any (λ (x : RootIndex). (x.id == i) && names_uuid x.snapshots u) root.indices
reaches f number root read (ShardIndex i k g) = is_generation (at_shard_of (index_at root.indices i) k) g
reaches f number root read (ShardSnap i k u) = names_uuid (uuids_of root) u && lists_uuid (held_of f root read i k) u
reaches f number root read (File i k x) = has_piece (is_file i k x) i k (held_of f root read i k)
reaches f number root read (Part i k x p) = has_piece (is_part i k x p) i k (held_of f root read i k)
reaches f number root read (TestMaster v) = false
reaches f number root read (TestNode v n) = false

-- the names that the root doesn't reach
abbrev pub unreached : Formats → Option ℕ → RootData → List (BlobName × Bytes) → List BlobName → List BlobName
unreached f number root read [] = []
unreached f number root read (name ∷ names) = if reaches f number root read name then unreached f number root read names else name ∷ unreached f number root read names

-- what a cleanup dooms that listed this, whose root has this number, by what it read and wrote of the indices of shards
unfoldable pub cleaned_names : Formats → Option ℕ → RootData → List (BlobName × Bytes) → List BlobSize → List BlobName
cleaned_names f number root read listed = unreached f number root read (names_listed f listed)
