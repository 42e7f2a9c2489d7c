-- Which names a ticket has noted.
use Rattle.std.proofs.Common.{◌≡◌, ◌⊎◌, inl, inr, ℕ, zero, suc, ◌+◌, ◌<◌, ◌≤◌, Bool, true, false, leb, List, [], ◌∷◌, Option, Some, None, if◌then◌else◌, sym, ap, subst, arith}
use Rattle.std.specs.List.{AllByRecursion}
use Rattle.esr_model.specs.Names.{BlobName, File, Part, ShardSnap, ShardIndex}
use Rattle.esr_model.specs.Values.{Bytes, FileEntry, Has}
use Rattle.esr_model.specs.Parts.{part_count, part_names, parts_from}
use Rattle.esr_model.specs.Uploads.{pieces, pairs, file_blobs}
use Rattle.esr_core.specs.World.{Ticket}
use Rattle.esr_core.specs.After.{committing}
use Rattle.esr_shardidx.specs.declared.entry.FileEntry.{FileEntry as CodeEntry}
use Rattle.esr_formats.specs.Shards.{entry_of}
use Rattle.esr_desk.specs.Start.{Start, told_bytes}
use Rattle.esr_desk.specs.Taken.{after_writes}
use Rattle.esr_upload.specs.Entries.{is_new}
use Rattle.esr_upload.specs.Stored.{IsFileBelow, AreBelow, Stored}

-- a commit notes its name and no other
pub committing_only : (name : BlobName) (o : Option Bytes) (t : Ticket) (n : BlobName) → Has (committing name o t).noted n → (name ≡ n) ⊎ Has t.noted n
committing_only name None t n has = has
committing_only name (Some bytes) t n has = has

-- what the names of the blobs and those before are, all that are noted are
pub noted_all : (P : BlobName → Type 0) (s : Start) (ws : List (BlobName × Bytes)) (t : Ticket) → AllByRecursion (λ w. P w.0) ws → ((n : BlobName) → Has t.noted n → P n) → (n : BlobName) → Has (after_writes s ws t).noted n → P n
noted_all P s [] t all was n has = was n has
noted_all P s (w ∷ ws) t all was n has =
    let next = committing w.0 (told_bytes s w.1) t in
    noted_all P s ws next all.1 (one_more P w.0 (told_bytes s w.1) t all.0 was) n has
  where
    one_more : (P : BlobName → Type 0) (name : BlobName) (o : Option Bytes) (t : Ticket) → P name → ((n : BlobName) → Has t.noted n → P n) → (n : BlobName) → Has (committing name o t).noted n → P n
    one_more P name o t here was n has = elim (committing_only name o t n has) [
      | inl same ↦ subst P same here
      | inr older ↦ was n older
    ]

-- ---- the names of a file's blobs

below_later : (a b : ℕ) (name : BlobName) → a ≤ b → IsFileBelow a name → IsFileBelow b name
below_later a b (File index number file) le low = let less : file < a = low in omega (arith, le, less)
below_later a b (Part index number file part) le low = let less : file < a = low in omega (arith, le, less)
below_later a b name le low = absurd low

pub are_below_later : (t : Ticket) (a b : ℕ) → a ≤ b → AreBelow t a → AreBelow t b
are_below_later t a b le below = λ name has. below_later a b name le (below name has)

pairs_all : (P : BlobName → Type 0) (names : List BlobName) (texts : List Bytes) → AllByRecursion P names → AllByRecursion (λ (w : BlobName × Bytes). P w.0) (pairs names texts)
pairs_all P [] texts all = tt
pairs_all P (name ∷ names) [] all = tt
pairs_all P (name ∷ names) (text ∷ texts) all = (all.0, pairs_all P names texts all.1)

parts_below : (index number file first n : ℕ) → AllByRecursion (IsFileBelow (file + 1)) (parts_from index number file first n)
parts_below index number file first zero = tt
parts_below index number file first (suc n) =
    let less : file < file + 1 = omega arith in
    (less, parts_below index number file (suc first) n)

names_below : (index number : ℕ) (e : FileEntry) → AllByRecursion (IsFileBelow (e.name + 1)) (part_names index number e)
names_below index number e =
    let less : e.name < e.name + 1 = omega arith in
    elim (leb e.len e.part_size) as (λ (b : Bool). AllByRecursion (IsFileBelow (e.name + 1)) (if b then File index number e.name ∷ [] else parts_from index number e.name 0 (part_count e.len e.part_size))) [
      | true ↦ (less, tt)
      | false ↦ parts_below index number e.name 0 (part_count e.len e.part_size)
    ]

-- a file more was stored, under this id
pub below_next : (s : Start) (index number : ℕ) (e : FileEntry) (bytes : Bytes) (old new : Ticket) → AreBelow old e.name → new ≡ after_writes s (file_blobs index number e bytes) old → AreBelow new (e.name + 1)
below_next s index number e bytes old new below is = λ name has.
    let next : e.name ≤ e.name + 1 = omega arith in
    noted_all (IsFileBelow (e.name + 1)) s (file_blobs index number e bytes) old
    (pairs_all (IsFileBelow (e.name + 1)) (part_names index number e) (pieces e.part_size (part_count e.len e.part_size) bytes) (names_below index number e)) (are_below_later old e.name (e.name + 1) next below) name
    (subst (λ (t : Ticket). Has t.noted name) is has)

-- a file that reuses nothing was stored under the id
pub below_new : (s : Start) (told : Option Bytes) (index number id : ℕ) (e : CodeEntry) (reused : Option CodeEntry) (old new : Ticket) → reused ≡ None → e.name.number ≡ id → AreBelow old id → Stored s told index number e old new
    → AreBelow new (id + is_new reused)
below_new s told index number id e reused old new none same below stored =
    let was : AreBelow old e.name.number = subst (λ (n : ℕ). AreBelow old n) (sym same) below in
    let one : is_new reused ≡ 1 = ap is_new none in
    let le : e.name.number + 1 ≤ id + is_new reused = omega (arith, same, one) in
    are_below_later new (e.name.number + 1) (id + is_new reused) le (below_next s index number (entry_of e) stored.bytes old new was stored.is)

-- a file that is reused takes no id
pub below_reused : (t : Ticket) (id : ℕ) (e : CodeEntry) (reused : Option CodeEntry) → reused ≡ Some e → AreBelow t id → AreBelow t (id + is_new reused)
below_reused t id e reused some below =
    let none : is_new reused ≡ 0 = ap is_new some in
    let same : id ≡ id + is_new reused = omega (arith, none) in
    subst (λ (n : ℕ). AreBelow t n) same below

-- ---- the snapshot and the index

-- after the snapshot's blob an index is not noted
pub index_unnoted : (s : Start) (index number uuid generation id : ℕ) (text : Bytes) (old new : Ticket) → AreBelow old id → new ≡ after_writes s ((ShardSnap index number uuid, text) ∷ []) old
    → Has new.noted (ShardIndex index number generation) → ⊥
index_unnoted s index number uuid generation id text old new below is has =
    elim (committing_only (ShardSnap index number uuid) (told_bytes s text) old (ShardIndex index number generation) (subst (λ (t : Ticket). Has t.noted (ShardIndex index number generation)) is has)) [
      | inl same ↦ cc
      | inr older ↦ below (ShardIndex index number generation) older
    ]
