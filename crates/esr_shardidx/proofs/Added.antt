-- An index with one more snapshot.
use Rattle.std.proofs.Common.{◌≡◌, ◌<◌, ◌^◌, ◌==◌, true, false, List, [], ◌∷◌, ◌++◌, map, refl, sym, ◌∙◌, inl, inr}
use Rattle.std.specs.List.{list_any, list_all, AllByRecursion}
use Rattle.std.proofs.lemmas.Bool.{cases_Bool, eq-eqb, eqb-true, eqb-false, or_left, or_right, or_parts}
use Rattle.std.proofs.lemmas.List.Folds.{list_any-append}
use Rattle.esr_names.specs.declared.ids.Id.{Id}
use Rattle.esr_shardidx.specs.declared.entry.FileEntry.{FileEntry}
use Rattle.esr_shardidx.specs.declared.index.SnapList.{SnapList}
use Rattle.esr_shardidx.specs.Entries.{IsEntry}
use Rattle.esr_shardidx.specs.Snapshots.{SnapValue, has_name, AreSnapFiles, IsShardSnap}
use Rattle.esr_shardidx.specs.Indices.{IndexValue, is_id, repeats, has_uuid, names_file, is_named, has_file, IsShardIndex, insert_file, insert_files, name_of, list_of_snap}
use Rattle.esr_shardidx.specs.FileOrder.{all_map}
use Rattle.esr_shardidx.specs.RoundTrip.{entries_of}
use Rattle.esr_shardidx.proofs.Files.{insert_files-all, insert_files-rises, insert_files-keeps, insert_file-own}
use Rattle.esr_shardidx.proofs.IndexTexts.{AreLists-push}
use Rattle.esr_shardidx.specs.IndexLists.{AreLists-where}

ids_fit : (es : List FileEntry) → AllByRecursion IsEntry es → AllByRecursion (λ u. u.number < 2 ^ 128) (map name_of es)
ids_fit [] h = tt
ids_fit (e ∷ es) h = (h.0.typed.name, ids_fit es h.1)

-- an id that is among those before is none of the later ones
pub later_differ : (u : Id) (before es : List FileEntry) → ((w : Id) → list_any (has_name w) before ≡ false → (w.number == u.number) ≡ false) → AreSnapFiles before es → list_any (is_id u) (map name_of es) ≡ false
later_differ u before [] apart h = refl
later_differ u before (e ∷ es) apart h =
    let rest = later_differ u (before ++ e ∷ []) es (λ w none. apart w (or_parts (list_any (has_name w) before) _ (sym (list_any-append (has_name w) before (e ∷ [])) ∙ none)).0) h.3 in
    rw (apart e.name h.2, rest) refl

pub differs : (w : Id) (before : List FileEntry) (e : FileEntry) → list_any (has_name w) (before ++ e ∷ []) ≡ false → (w.number == e.name.number) ≡ false
differs w before e none =
    let split = or_parts (list_any (has_name w) before) _ (sym (list_any-append (has_name w) before (e ∷ [])) ∙ none) in
    let here = or_parts (has_name w e) false split.1 in
    elim (cases_Bool (w.number == e.name.number)) [
      | inl same ↦ absurd (eqb-false e.name.number w.number here.0 (sym (eqb-true w.number e.name.number same)))
      | inr other ↦ other
    ]

pub snap_repeats : (before es : List FileEntry) → AreSnapFiles before es → repeats (map name_of es) ≡ false
snap_repeats before [] h = refl
snap_repeats before (e ∷ es) h =
    rw (later_differ e.name (before ++ e ∷ []) es (λ w none. differs w before e none) h.3, snap_repeats (before ++ e ∷ []) es h.3) refl

-- each of the entries is there
own_there : (fs es : List FileEntry) → list_all (has_file (insert_files fs es)) (map name_of es) ≡ true
own_there fs [] = refl
own_there fs (e ∷ es) = rw (insert_files-keeps (insert_file e fs) es e.name (insert_file-own e fs), own_there (insert_file e fs) es) refl

-- each of the entries is in the list of their names
own_named : (all es : List FileEntry) → ((v : Id) → list_any (is_id v) (map name_of es) ≡ true → list_any (is_id v) (map name_of all) ≡ true)
    → AllByRecursion (λ e. list_any (is_id e.name) (map name_of all) ≡ true) es
own_named all [] h = tt
own_named all (e ∷ es) h =
    (h e.name (or_left (e.name.number == e.name.number) _ (eq-eqb e.name.number e.name.number refl)), own_named all es (λ v later. h v (or_right (e.name.number == v.number) _ later)))

still_named : (ls : List SnapList) (l : SnapList) (e : FileEntry) → is_named ls e ≡ true → is_named (ls ++ l ∷ []) e ≡ true
still_named ls l e h = list_any-append (names_file e.name) ls (l ∷ []) ∙ or_left (is_named ls e) _ h

now_named : (ls : List SnapList) (l : SnapList) (e : FileEntry) → names_file e.name l ≡ true → is_named (ls ++ l ∷ []) e ≡ true
now_named ls l e h = list_any-append (names_file e.name) ls (l ∷ []) ∙ or_right (is_named ls e) _ (or_left (names_file e.name l) false h)

pub added : (v : IndexValue) (s : SnapValue) → IsShardIndex v → IsShardSnap s → list_any (has_uuid s.uuid) v.snapshots ≡ false
    → IsShardIndex (record { files = insert_files v.files s.files; snapshots = v.snapshots ++ list_of_snap s ∷ [] })
added v s index snap fresh =
    let entries = entries_of [] s.files snap.files in
    let old = AreLists-where v.files (insert_files v.files s.files) [] v.snapshots (λ u named has. insert_files-keeps v.files s.files u has) index.lists in
    record {
      entries = insert_files-all IsEntry v.files s.files index.entries entries;
      rises = insert_files-rises v.files s.files index.rises;
      lists = AreLists-push (insert_files v.files s.files) [] v.snapshots (list_of_snap s) old (ids_fit s.files entries, snap.uuid, fresh, snap_repeats [] s.files snap.files, own_there v.files s.files, tt);
      named = insert_files-all (λ (e : FileEntry). is_named (v.snapshots ++ list_of_snap s ∷ []) e ≡ true) v.files s.files
          (all_map (λ (e : FileEntry) (h : is_named v.snapshots e ≡ true). still_named v.snapshots (list_of_snap s) e h) v.files index.named)
          (all_map (λ (e : FileEntry) (h : list_any (is_id e.name) (map name_of s.files) ≡ true). now_named v.snapshots (list_of_snap s) e h) s.files (own_named s.files s.files (λ v here. here)));
    }
