-- What opening finds in an image, where no call fails: the record and the safe root, or the first thing that is wrong.
use Rattle.std.specs.Prelude.{ℕ, suc, ◌-◌, ◌^◌, ◌==◌, if◌then◌else◌, ℤ, pos, negsuc, codes, List, [], ◌∷◌, Option, Some, None, Result, Ok, Err}
use Rattle.std.specs.FinMap as fin
use Rattle.esr_model.specs.Names.{Root, Snap}
use Rattle.esr_model.specs.Values.{Bytes}
use Rattle.esr_model.specs.Kept.{first_id}
use Rattle.esr_json.specs.declared.refusal.Reason.{Reason}
use Rattle.esr_names.specs.declared.blob.BlobName.{BlobName as CodeName}
use Rattle.esr_names.specs.declared.blob.BlobName.TheVariants as code
use Rattle.esr_depot.specs.Image.{Image as Held, Blobs, sizes_of}
use Rattle.esr_record.specs.Record.{Record}
use Rattle.esr_record.specs.Reading.{record_from}
use Rattle.esr_root.specs.Root as roots
use Rattle.esr_root.specs.Root.{empty_root}
use Rattle.esr_root.specs.Reading.{root_from}
use Rattle.esr_root.specs.declared.snaps.RootSnap.{RootSnap}
use Rattle.esr_meta.specs.Info.{Info, info_from}
use Rattle.esr_formats.specs.Ids.{id_of}
use Rattle.esr_formats.specs.Names.{name_kind}
use Rattle.esr_formats.specs.Roots.{root_of, root_snap_of}
use Rattle.esr_formats.specs.Infos.{info_of_code}
use Rattle.esr_opening.specs.declared.refusal.Why.{Why}
use Rattle.esr_opening.specs.declared.refusal.Why.TheVariants.{NoRecord, Absent, Unreadable, Disagrees, ForeignId}
use Rattle.esr_agreement.specs.Agreement.{agrees}
use Rattle.esr_opening.specs.Foreign.{root_ids, first_from}

-- why an image can't be opened: what is wrong with a blob, or the term is the last one
pub data Obstacle : Type 0 where
  Damage : (name : Bytes) (why : Why) → Obstacle
  LastTerm : (term : ℕ) → Obstacle

-- the next step, where the first one found no obstacle
infixl 10 ◌>>=◌
abbrev pub ◌>>=◌ : {A B : Type 0} → Result A Obstacle → (A → Result B Obstacle) → Result B Obstacle
(Ok x) >>= f = f x
(Err e) >>= f = Err e

abbrev pub readable : {A : Type 0} → Bytes → Result A Reason → Result A Obstacle
readable name (Ok x) = Ok x
readable name (Err reason) = Err (Damage name (Unreadable reason))

-- the value of a blob, which is to be there and to read
abbrev pub read_as : {A : Type 0} → (Bytes → Result A Reason) → Bytes → Option Bytes → Result A Obstacle
read_as from name None = Err (Damage name Absent)
read_as from name (Some bytes) = readable name (from bytes)

-- ---- the record

-- what stands for the record where nothing was written
abbrev pub empty_record : Record
empty_record = record { ops = []; pending = negsuc 0; safe = negsuc 0; term = 0 }

abbrev pub without_record : List (Bytes × ℕ) → Result Record Obstacle
without_record [] = Ok empty_record
without_record (listed ∷ rest) = Err (Damage listed.0 NoRecord)

abbrev pub record_in : Blobs → Option Bytes → Result Record Obstacle
record_in blobs None = without_record (sizes_of blobs)
record_in blobs (Some text) = readable (codes "record") (record_from text)

-- ---- the safe root

abbrev pub root_name : ℕ → Bytes
root_name n = name_kind.text (Root n)

abbrev pub root_in : Blobs → ℤ → Result roots.Root Obstacle
root_in blobs (pos n) = read_as root_from (root_name n) (fin.get blobs (root_name n))
root_in blobs (negsuc n) = Ok empty_root

-- the number of the safe root, where there is one
abbrev pub safe_number : ℤ → ℕ
safe_number (pos n) = n
safe_number (negsuc n) = 0

-- ---- the infos of its snapshots, in its order

abbrev pub info_name : RootSnap → Bytes
info_name s = name_kind.text (Snap s.uuid.number)

abbrev pub agreed : roots.Root → ℕ → RootSnap → Info → Result Unit Obstacle
agreed root n s info =
    if agrees (root_of root) (root_snap_of s) (info_of_code info) then Ok tt else Err (Damage (info_name s) (Disagrees (code.Root n)))

abbrev pub info_in : Blobs → roots.Root → ℕ → RootSnap → Result Unit Obstacle
info_in blobs root n s = read_as info_from (info_name s) (fin.get blobs (info_name s)) >>= agreed root n s

abbrev pub infos_in : Blobs → roots.Root → ℕ → List RootSnap → Result Unit Obstacle
infos_in blobs root n [] = Ok tt
infos_in blobs root n (s ∷ snaps) = info_in blobs root n s >>= λ x. infos_in blobs root n snaps

-- ---- its ids, the term

abbrev pub known_by : ℕ → Option ℕ → Result Unit Obstacle
known_by n None = Ok tt
known_by n (Some id) = Err (Damage (root_name n) (ForeignId (id_of id)))

-- no id of the root is of a later term than the record's
abbrev pub known_ids : roots.Root → ℕ → ℕ → Result Unit Obstacle
known_ids root n term = known_by n (first_from (first_id (suc term)) (root_ids (root_of root)))

-- there is a next term
abbrev pub has_term : ℕ → Result Unit Obstacle
has_term term = if term == 2 ^ 63 - 1 then Err (LastTerm term) else Ok tt

-- ---- all of it

-- what is looked at once the record and the root are read
abbrev pub checked : Blobs → Record → roots.Root → Result (Record × roots.Root) Obstacle
checked blobs cluster root =
    infos_in blobs root (safe_number cluster.safe) root.snapshots
    >>= λ x. known_ids root (safe_number cluster.safe) cluster.term
    >>= λ y. has_term cluster.term
    >>= λ z. Ok (cluster, root)

unfoldable pub found : Held → Result (Record × roots.Root) Obstacle
found i = record_in i.blobs i.text >>= λ cluster. root_in i.blobs cluster.safe >>= λ root. checked i.blobs cluster root
