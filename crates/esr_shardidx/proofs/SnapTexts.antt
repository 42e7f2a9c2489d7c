-- What is written of a shard's snapshot is read as that snapshot, and what is read has a text.
use Rattle.std.proofs.Common.{◌≡◌, ◌<◌, ◌^◌, List, [], ◌∷◌, ◌++◌, Ok, subst}
use Rattle.std.specs.List.{list_any}
use Rattle.std.proofs.lemmas.List.{append_assoc, append-nil}
use Rattle.serde_json.specs.Data.{Data}
use Rattle.esr_names.specs.IdText.{read_id}
use Rattle.esr_names.specs.declared.ids.Id.{Id}
use Rattle.esr_names.specs.IdTextLaws.{read_id_fits}
use Rattle.esr_json.specs.Access.{text_at}
use Rattle.esr_json.specs.declared.key.Key.{Key}
use Rattle.esr_shardidx.specs.Entries.{entry_of}
use Rattle.esr_shardidx.specs.Snapshots.{has_name, id_at, snap_files_from, AreSnapFiles}
use Rattle.esr_shardidx.specs.declared.entry.FileEntry.{FileEntry}
use Rattle.esr_shardidx.proofs.Unrefused.{bind_ok, guard_ok, ok_same, some_from}
use Rattle.esr_shardidx.proofs.EntryTexts.{entry_of-is}

-- the files with one more
pub AreSnapFiles-push : (before es : List FileEntry) (e : FileEntry) → AreSnapFiles before es → AreSnapFiles (before ++ es) (e ∷ []) → AreSnapFiles before (es ++ e ∷ [])
AreSnapFiles-push before [] e h last = rw append-nil at last
AreSnapFiles-push before (f ∷ es) e h last =
    (h.0, h.1, h.2, AreSnapFiles-push (before ++ f ∷ []) es e h.3 (rw (append_assoc before (f ∷ []) es) last))

pub snap_files_from-are : (before : List FileEntry) (ds : List Data) (es : List FileEntry) → AreSnapFiles [] before → snap_files_from before ds ≡ Ok es → AreSnapFiles [] es
unfolding snap_files_from
snap_files_from-are before [] es good h = let same : before ≡ es = ok_same h in subst (λ (xs : List FileEntry). AreSnapFiles [] xs) same good
snap_files_from-are before (d ∷ ds) es good h =
    let one = bind_ok (entry_of [] before d) _ es h in
    let fresh = guard_ok (list_any (has_name one.0.name) before) _ _ es one.2 in
    let is = entry_of-is [] before d one.0 one.1 in
    snap_files_from-are (before ++ one.0 ∷ []) ds es (AreSnapFiles-push [] before one.0 good (is.0, is.2, fresh.0, tt)) fresh.1

pub id_at-fits : (key : Key) (d : Data) (u : Id) → id_at key d ≡ Ok u → u.number < 2 ^ 128
unfolding id_at
id_at-fits key d u h =
    let text = bind_ok (text_at key d) _ u h in
    read_id_fits text.0 u (some_from (read_id text.0) _ u text.2)
