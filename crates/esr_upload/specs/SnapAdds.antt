-- An index with one more snapshot, as the definitions see it.
use Rattle.std.proofs.Common.{◌≡◌, ℕ, ◌<◌, ◌==◌, nat_lt, Bool, true, false, if◌then◌else◌, List, [], ◌∷◌, ◌++◌, map, find, Option, Some, None, refl, ap, ◌∙◌, arith, inl, inr}
use Rattle.std.specs.List.{list_any, AllByRecursion}
use Rattle.std.proofs.lemmas.Bool.{cases_Bool, eqb-true, eqb-false, ltb-true, ltb-false, le-ltb, lt-ltb}
use Rattle.std.proofs.lemmas.List.{map-append}
use Rattle.esr_names.specs.declared.ids.Id.{Id}
use Rattle.esr_model.specs.Values.{FileEntry, SnapList}
use Rattle.esr_model.specs.Places.{put_by}
use Rattle.esr_model.specs.Uploads.{has_entry, id_first, with_entries, with_snap}
use Rattle.esr_shardidx.specs.declared.entry.FileEntry.{FileEntry as CodeEntry}
use Rattle.esr_shardidx.specs.declared.index.SnapList.{SnapList as CodeList}
use Rattle.esr_shardidx.specs.Snapshots.{SnapValue}
use Rattle.esr_shardidx.specs.Indices.{IndexValue, IsShardIndex, Rises, has_uuid, insert_file, insert_files, name_of, list_of_snap, with_snap_of}
use Rattle.esr_shardidx.specs.FileOrder.{all_map, not_equal, insert_file-rises}
use Rattle.esr_formats.specs.Ids.{number_of}
use Rattle.esr_formats.specs.Shards.{entry_of, snap_list_of, shard_index_of}

-- an id that is below all
none_has : (u : ℕ) (fs : List CodeEntry) → AllByRecursion (λ f. u < f.name.number) fs → has_entry (map entry_of fs) u ≡ false
none_has u [] all = refl
none_has u (f ∷ fs) all = elim (cases_Bool (f.name.number == u)) [
  | inl same ↦ let is = eqb-true f.name.number u same in absurd (omega (arith, all.0, is))
  | inr other ↦ rw other (none_has u fs all.1)
]

pushed : (b : Bool) (f : FileEntry) (have put : List FileEntry) → f ∷ (if b then have else put) ≡ (if b then f ∷ have else f ∷ put)
pushed true f have put = refl
pushed false f have put = refl

put_one : (e : CodeEntry) (fs : List CodeEntry) → Rises fs → map entry_of (insert_file e fs) ≡ (if has_entry (map entry_of fs) e.name.number then map entry_of fs else put_by id_first (entry_of e) (map entry_of fs))
put_one e [] rises = refl
put_one e (f ∷ fs) rises = elim (cases_Bool (nat_lt f.name.number e.name.number)) [
  | inl less ↦
      let lt = ltb-true f.name.number e.name.number less in
      let apart = not_equal f.name.number e.name.number lt in
      let after : nat_lt e.name.number f.name.number ≡ false = le-ltb e.name.number f.name.number (omega arith) in
      rw (less, apart, after) (ap (λ (l : List FileEntry). entry_of f ∷ l) (put_one e fs rises.1)
      ∙ pushed (has_entry (map entry_of fs) e.name.number) (entry_of f) (map entry_of fs) (put_by id_first (entry_of e) (map entry_of fs)))
  | inr least ↦ elim (cases_Bool (f.name.number == e.name.number)) [
    | inl same ↦ rw (least, same) refl
    | inr other ↦
        let low = ltb-false f.name.number e.name.number least in
        let ne = eqb-false f.name.number e.name.number other in
        let lt : e.name.number < f.name.number = omega (arith, low, ne) in
        let before : nat_lt e.name.number f.name.number ≡ true = lt-ltb e.name.number f.name.number lt in
        let none = none_has e.name.number fs (all_map (λ (x : CodeEntry) (h : f.name.number < x.name.number). let more : e.name.number < x.name.number = omega (arith, h, lt) in more) fs rises.0) in
        rw (least, other, none, before) refl
  ]
]

put_all : (fs es : List CodeEntry) → Rises fs → map entry_of (insert_files fs es) ≡ with_entries (map entry_of fs) (map entry_of es)
put_all fs [] rises = refl
put_all fs (e ∷ es) rises =
    put_all (insert_file e fs) es (insert_file-rises e fs rises) ∙ ap (λ (l : List FileEntry). with_entries l (map entry_of es)) (put_one e fs rises)

unlisted : (u : Id) (ls : List CodeList) → find (has_uuid u) ls ≡ None → list_any (has_uuid u) ls ≡ false
unlisted u [] none = refl
unlisted u (l ∷ ls) none = elim (cases_Bool (has_uuid u l)) [
  | inl here ↦ let found : ◌≡◌ {A = Option CodeList} (Some l) None = rw here at none in cc
  | inr other ↦ rw other (unlisted u ls (rw other at none))
]

names_are : (es : List CodeEntry) → map number_of (map name_of es) ≡ map (λ (e : FileEntry). e.name) (map entry_of es)
names_are [] = refl
names_are (e ∷ es) = ap (λ (l : List ℕ). e.name.number ∷ l) (names_are es)

lists_are : (ls : List CodeList) (snap : SnapValue) → map snap_list_of (ls ++ list_of_snap snap ∷ []) ≡ map snap_list_of ls ++ record { uuid = snap.uuid.number; files = map (λ (e : FileEntry). e.name) (map entry_of snap.files) } ∷ []
lists_are ls snap =
    map-append snap_list_of ls (list_of_snap snap ∷ [])
    ∙ ap (λ (ns : List ℕ). map snap_list_of ls ++ record { uuid = snap.uuid.number; files = ns } ∷ []) (names_are snap.files)

-- an index that doesn't list the snapshot yet
pub with_snap_is : (base : IndexValue) (snap : SnapValue) → IsShardIndex base → find (has_uuid snap.uuid) base.snapshots ≡ None
    → shard_index_of (with_snap_of base snap) ≡ with_snap (shard_index_of base) snap.uuid.number (map entry_of snap.files)
with_snap_is base snap whole none =
    let out = unlisted snap.uuid base.snapshots none in
    rw out (ap (λ (fs : List FileEntry). record { files = fs; snapshots = map snap_list_of (base.snapshots ++ list_of_snap snap ∷ []) }) (put_all base.files snap.files whole.rises)
    ∙ ap (λ (ls : List SnapList). record { files = with_entries (map entry_of base.files) (map entry_of snap.files); snapshots = ls }) (lists_are base.snapshots snap))
