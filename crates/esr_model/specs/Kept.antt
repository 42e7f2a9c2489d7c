-- What opening can rely on: the images that a run, or a crash in it, leaves.
use Rattle.std.specs.Prelude.{◌≡◌, ◌⊎◌, ℕ, suc, ◌*◌, ◌^◌, ◌<◌, List, [], Option, Some, None}
use Rattle.std.specs.FinMap as map
use Rattle.esr_model.specs.Names.{BlobName, Root, Latest, Snap, Meta, IndexMeta, ShardSnap, ShardIndex, File, Part, TestMaster, TestNode}
use Rattle.esr_model.specs.Values.{Bytes, Has, IndexRef, RootSnap, RootIndex, RootData, RecordWork, Creating, Cloning, DeletingOf, Cleaning, Ledger, ClusterRecord, Formats}
use Rattle.esr_model.specs.Shelf.{Shelved}
use Rattle.esr_model.specs.Image.{Image, Blobs, At, Present, Generation, RootIs, KeptAt}

-- an id is its term times 2^64 and a counter; this is the first of a term
abbrev pub first_id : ℕ → ℕ
first_id term = term * 2 ^ 64

-- the ids in a name lie below a bound
abbrev pub IdsBelow : BlobName → ℕ → Type 0
IdsBelow (Root n) c = Unit {0}
IdsBelow Latest c = Unit {0}
IdsBelow (Snap u) c = u < c
IdsBelow (Meta u) c = u < c
IdsBelow (IndexMeta i u) c = (i < c) × (u < c)
IdsBelow (ShardSnap i s u) c = (i < c) × (u < c)
IdsBelow (ShardIndex i s g) c = (i < c) × (g < c)
IdsBelow (File i s x) c = (i < c) × (x < c)
IdsBelow (Part i s x p) c = (i < c) × (x < c)
IdsBelow (TestMaster v) c = v < c
IdsBelow (TestNode v n) c = v < c

pub record RootIds (root : RootData) (c : ℕ) : Type 0 where
  pub generations : (i k g : ℕ) → Generation root i k g → g < c
  pub snapshots : (s : RootSnap) → Has root.snapshots s → s.uuid < c
  pub ids : (x : RootIndex) → Has root.indices x → x.id < c
  pub uuids : (x : RootIndex) (u : ℕ) → Has root.indices x → Has x.snapshots u → u < c
  -- one name to each id
  pub one_name : (x y : RootIndex) → Has root.indices x → Has root.indices y → x.id ≡ y.id → x.name ≡ y.name

-- the ids of an op of the record
abbrev pub WorkIds : RecordWork → ℕ → Type 0
WorkIds (Creating name uuid moment indices) c = (uuid < c) × ((r : IndexRef) → Has indices r → r.id < c)
WorkIds (Cloning name uuid moment indices source) c = (uuid < c) × (source < c) × ((r : IndexRef) → Has indices r → r.id < c)
WorkIds (DeletingOf uuids) c = (u : ℕ) → Has uuids u → u < c
WorkIds Cleaning c = Unit {0}

-- an image whose record reads: its pick stands for the shelf, and no id has a term above the record's
pub record Recorded (f : Formats) (image : Image) (shelf : List Shelved) : Type 0 where
  pub cluster : ClusterRecord
  pub text : Bytes
  pub there : image.text ≡ Some text
  pub reads : f.cluster.read text ≡ Some cluster
  pub kept : KeptAt f image.blobs cluster.ledger shelf
  pub names_below : (name : BlobName) → Present f image.blobs name → IdsBelow name (first_id (suc cluster.ledger.term))
  pub root_below : (root : RootData) → RootIs f (At f image.blobs) cluster.ledger.safe root → RootIds root (first_id (suc cluster.ledger.term))
  pub ops_below : (op : ℕ × RecordWork) → Has cluster.ops op → WorkIds op.1 (first_id (suc cluster.ledger.term))

-- nothing was written yet
pub record IsEmpty (image : Image) (shelf : List Shelved) : Type 0 where
  pub no_record : image.text ≡ None
  pub no_blob : (text bytes : Bytes) → map.get image.blobs text ≡ Some bytes → ⊥
  pub no_snapshot : shelf ≡ []

abbrev pub Kept : Formats → Image → List Shelved → Type 0
Kept f image shelf = IsEmpty image shelf ⊎ Recorded f image shelf
