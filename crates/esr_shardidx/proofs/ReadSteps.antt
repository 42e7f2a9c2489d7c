-- One more element of a list that is read.
use Rattle.std.proofs.Common.{◌≡◌, ◌<◌, ◌+◌, ℕ, true, false, List, [], ◌∷◌, ◌++◌, length, map, drop, get_or, Result, Ok, Err, refl, sym, ap, ◌∙◌}
use Rattle.std.specs.List.{list_any}
use Rattle.std.proofs.lemmas.List.{drop_more}
use Rattle.serde_json.specs.Data.{Data}
use Rattle.serde_json.specs.View.{view}
use Rattle.serde_json.specs.declared.value.Value.{Value}
use Rattle.esr_json.specs.Access.{items_at}
use Rattle.esr_json.specs.declared.key.Key.TheVariants as keys
use Rattle.esr_json.specs.declared.refusal.Reason.{Reason}
use Rattle.esr_json.specs.declared.refusal.Reason.TheVariants.{Duplicate}
use Rattle.esr_shardidx.specs.declared.entry.FileEntry.{FileEntry}
use Rattle.esr_shardidx.specs.declared.index.SnapList.{SnapList}
use Rattle.esr_shardidx.specs.Entries.{last_of, entry_of}
use Rattle.esr_shardidx.specs.Snapshots.{has_name, snap_files_from}
use Rattle.esr_shardidx.specs.Indices.{IndexValue, Rises, is_at, named_by, index_files_from, lists_from, shard_index_of}
use Rattle.esr_shardidx.proofs.EntryTexts.{entry_of-is}
use Rattle.esr_shardidx.proofs.Files.{all_below, Rises-push}
use Rattle.esr_shardidx.proofs.Rising.{last_has}

-- the values from a place on: the one there, and the rest
pub values_from : (values : List Value) (i : ℕ) (v : Value) → i < length values → v ≡ get_or values i v → map view (drop i values) ≡ view v ∷ map view (drop (i + 1) values)
values_from values i v within is = ap (map view) (drop_more values i v within) ∙ ap (λ (w : Value). view w ∷ map view (drop (i + 1) values)) (sym is)

-- ---- the files of an index

pub index_file_again : (before : List FileEntry) (d : Data) (ds : List Data) (e : FileEntry) → Rises before → entry_of before [] d ≡ Ok e → is_at e.name (last_of before) ≡ true → index_files_from before (d ∷ ds) ≡ Err Duplicate
unfolding index_files_from
index_file_again before d ds e rises read last =
    let has = last_has e.name before rises (entry_of-is before [] d e read).1 ∙ last in
    rw (read, has) refl

pub index_file_new : (before : List FileEntry) (d : Data) (ds : List Data) (e : FileEntry) → Rises before → entry_of before [] d ≡ Ok e → is_at e.name (last_of before) ≡ false
    → Rises (before ++ e ∷ []) × (index_files_from before (d ∷ ds) ≡ index_files_from (before ++ e ∷ []) ds)
unfolding index_files_from
index_file_new before d ds e rises read last =
    let stays = (entry_of-is before [] d e read).1 in
    let new = last_has e.name before rises stays ∙ last in
    (Rises-push before e rises (all_below e.name before rises stays new), rw (read, new) refl)

-- ---- the files of a snapshot

pub snap_file_again : (before : List FileEntry) (d : Data) (ds : List Data) (e : FileEntry) → entry_of [] before d ≡ Ok e → list_any (has_name e.name) before ≡ true → snap_files_from before (d ∷ ds) ≡ Err Duplicate
unfolding snap_files_from
snap_file_again before d ds e read has = rw (read, has) refl

pub snap_file_new : (before : List FileEntry) (d : Data) (ds : List Data) (e : FileEntry) → entry_of [] before d ≡ Ok e → list_any (has_name e.name) before ≡ false
    → snap_files_from before (d ∷ ds) ≡ snap_files_from (before ++ e ∷ []) ds
unfolding snap_files_from
snap_file_new before d ds e read new = rw (read, new) refl

-- ---- the whole

pub value_of : List FileEntry → List SnapList → IndexValue
value_of files lists = record { files = files; snapshots = lists }

pub same_value : (files more : List FileEntry) (lists others : List SnapList) → files ≡ more → lists ≡ others → let v : IndexValue = record { files = files; snapshots = lists } in v ≡ record { files = more; snapshots = others }
unfolding value_of
same_value files more lists others files_same lists_same = ap (λ (fs : List FileEntry). value_of fs lists) files_same ∙ ap (value_of more) lists_same

pub index_read : (d : Data) (fs ls : List Data) (entries files : List FileEntry) (lists : List SnapList) → items_at keys.Files d ≡ Ok fs → index_files_from [] fs ≡ Ok entries → items_at keys.Snapshots d ≡ Ok ls
    → lists_from entries [] ls ≡ Ok lists
    → files ≡ named_by lists entries → shard_index_of d ≡ Ok (record { files = files; snapshots = lists })
unfolding shard_index_of
index_read d fs ls entries files lists first read second listed kept =
    let ok : IndexValue → Result IndexValue Reason = Ok in
    rw (first, read, second, listed) (ap ok (same_value (named_by lists entries) files lists lists (sym kept) refl))
