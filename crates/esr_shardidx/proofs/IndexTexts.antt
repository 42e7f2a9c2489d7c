-- What is written of a shard's index is read as that index, and what is read has a text.
use Rattle.std.proofs.Common.{◌≡◌, ◌<◌, ◌^◌, ◌||◌, List, [], ◌∷◌, ◌++◌, Ok, subst}
use Rattle.std.specs.List.{list_any, list_all, AllByRecursion}
use Rattle.std.proofs.lemmas.List.{append_assoc, append-nil}
use Rattle.std.proofs.lemmas.Bool.{or_parts}
use Rattle.serde_json.specs.Data.{Data}
use Rattle.esr_names.specs.declared.ids.Id.{Id}
use Rattle.esr_json.specs.Access.{items_at, text_item}
use Rattle.esr_json.specs.declared.key.Key.TheVariants as keys
use Rattle.esr_shardidx.specs.Entries.{read_file, entry_of, IsEntry}
use Rattle.esr_shardidx.specs.Snapshots.{has_name, id_at}
use Rattle.esr_shardidx.specs.Indices.{repeats, has_uuid, has_file, index_files_from, file_item, file_ids_from, list_of, checked, lists_from, Rises, AreLists}
use Rattle.esr_shardidx.specs.declared.entry.FileEntry.{FileEntry}
use Rattle.esr_shardidx.specs.declared.index.SnapList.{SnapList}
use Rattle.esr_shardidx.proofs.Unrefused.{bind_ok, guard_ok, unless_ok, ok_same, some_from}
use Rattle.esr_shardidx.proofs.EntryTexts.{read_file-fits, entry_of-is}
use Rattle.esr_shardidx.proofs.SnapTexts.{id_at-fits}
use Rattle.esr_shardidx.specs.FileOrder.{all_push}
use Rattle.esr_shardidx.proofs.Files.{all_below, Rises-push}

-- ---- files

pub index_files_from-are : (before : List FileEntry) (ds : List Data) (es : List FileEntry) → AllByRecursion IsEntry before → Rises before → index_files_from before ds ≡ Ok es
    → AllByRecursion IsEntry es × Rises es
unfolding index_files_from
index_files_from-are before [] es entries rises h =
    let same : before ≡ es = ok_same h in
    subst (λ (xs : List FileEntry). AllByRecursion IsEntry xs × Rises xs) same (entries, rises)
index_files_from-are before (d ∷ ds) es entries rises h =
    let one = bind_ok (entry_of before [] d) _ es h in
    let fresh = guard_ok (list_any (has_name one.0.name) before) _ _ es one.2 in
    let is = entry_of-is before [] d one.0 one.1 in
    let below = all_below one.0.name before rises is.1 fresh.0 in
    index_files_from-are (before ++ one.0 ∷ []) ds es (all_push IsEntry before one.0 entries is.0) (Rises-push before one.0 rises below) fresh.1

-- ---- lists

file_ids_from-fit : (before : List Id) (ds : List Data) (us : List Id) → AllByRecursion (λ u. u.number < 2 ^ 128) before → file_ids_from before ds ≡ Ok us → AllByRecursion (λ u. u.number < 2 ^ 128) us
unfolding file_ids_from file_item
file_ids_from-fit before [] us fit h = let same : before ≡ us = ok_same h in subst (λ (xs : List Id). AllByRecursion (λ u. u.number < 2 ^ 128) xs) same fit
file_ids_from-fit before (d ∷ ds) us fit h =
    let one = bind_ok _ _ us h in
    let text = bind_ok (text_item keys.Files d) _ one.0 one.1 in
    let fits = read_file-fits text.0 one.0 (some_from (read_file text.0) _ one.0 text.2) in
    file_ids_from-fit (before ++ one.0 ∷ []) ds us (all_push (λ (u : Id). u.number < 2 ^ 128) before one.0 fit fits) one.2

list_of-fits : (d : Data) (l : SnapList) → list_of d ≡ Ok l → AllByRecursion (λ u. u.number < 2 ^ 128) l.files × (l.uuid.number < 2 ^ 128)
unfolding list_of
list_of-fits d l h =
    let items = bind_ok (items_at keys.Files d) _ l h in
    let files = bind_ok (file_ids_from [] items.0) _ l items.2 in
    let uuid = bind_ok (id_at keys.Uuid d) _ l files.2 in
    let whole : _ ≡ l = ok_same uuid.2 in
    rw (← whole) (file_ids_from-fit [] items.0 files.0 tt files.1, id_at-fits keys.Uuid d uuid.0 uuid.1)

pub AreLists-push : (files : List FileEntry) (before ls : List SnapList) (l : SnapList) → AreLists files before ls → AreLists files (before ++ ls) (l ∷ []) → AreLists files before (ls ++ l ∷ [])
AreLists-push files before [] l h last = rw append-nil at last
AreLists-push files before (m ∷ ls) l h last =
    (h.0, h.1, h.2, h.3, h.4, AreLists-push files (before ++ m ∷ []) ls l h.5 (rw (append_assoc before (m ∷ []) ls) last))

pub lists_from-are : (files : List FileEntry) (before : List SnapList) (ds : List Data) (ls : List SnapList) → AreLists files [] before → lists_from files before ds ≡ Ok ls → AreLists files [] ls
unfolding lists_from
lists_from-are files before [] ls good h = let same : before ≡ ls = ok_same h in subst (λ (xs : List SnapList). AreLists files [] xs) same good
lists_from-are files before (d ∷ ds) ls good h =
    let read = bind_ok (list_of d) _ ls h in
    let l = bind_ok (checked files before read.0) _ ls read.2 in
    let fresh = guard_ok (list_any (has_uuid read.0.uuid) before || repeats read.0.files) _ _ l.0 l.1 in
    let there = unless_ok (list_all (has_file files) read.0.files) _ _ l.0 fresh.1 in
    let same : read.0 ≡ l.0 = ok_same there.1 in
    let new = or_parts (list_any (has_uuid read.0.uuid) before) (repeats read.0.files) fresh.0 in
    let fits = list_of-fits d read.0 read.1 in
    let one : AreLists files before (l.0 ∷ []) = rw (← same) (fits.0, fits.1, new.0, new.1, there.0, tt) in
    lists_from-are files (before ++ l.0 ∷ []) ds ls (AreLists-push files [] before l.0 good one) l.2
