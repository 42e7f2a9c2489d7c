-- The names that a delete dooms by what is held are those that it dooms by what was read.
use Rattle.std.proofs.Common.{◌≡◌, ℕ, ◌&&◌, ◌||◌, Bool, true, false, cond, List, [], ◌∷◌, ◌++◌, map, flat_map, Option, Some, None, refl, sym, ap, ◌∙◌, inl, inr, append_assoc}
use Rattle.std.specs.Prelude.{not, if◌then◌else◌}
use Rattle.std.specs.List.{list_any}
use Rattle.esr_names.specs.declared.ids.Id.{Id}
use Rattle.esr_names.specs.declared.blob.BlobName.{BlobName as CodeName}
use Rattle.esr_root.specs.Root.{Root as CodeRoot}
use Rattle.esr_shardidx.specs.declared.entry.FileEntry.{FileEntry as CodeEntry}
use Rattle.esr_shardidx.specs.declared.index.SnapList.{SnapList as CodeList}
use Rattle.esr_shardidx.specs.Indices.{IndexValue}
use Rattle.esr_root.specs.declared.snaps.RootSnap.{RootSnap as CodeSnap}
use Rattle.esr_root.specs.declared.indices.RootIndex.{RootIndex as CodeIndex}
use Rattle.esr_formats.specs.Ids.{number_of}
use Rattle.esr_formats.specs.Names.{name_of}
use Rattle.esr_formats.specs.Roots.{root_of, root_snap_of, root_index_of}
use Rattle.esr_formats.specs.Shards.{entry_of, snap_list_of, shard_index_of}
use Rattle.esr_model.specs.Names.{BlobName, Snap, Meta, IndexMeta, ShardSnap, ShardIndex}
use Rattle.esr_model.specs.Values.{Bytes, RootSnap, RootIndex, RootData, FileEntry, SnapList, ShardFiles, Formats}
use Rattle.esr_model.specs.Parts.{part_names}
use Rattle.esr_model.specs.Delete.{PrunedShard, names_uuid, uuids_of, lists_file, listed_lists, files_read, gone_shards, doomed_snaps, doomed_metas, doomed_index_metas, doomed_lists, doomed_parts, doomed_files, doomed_shards, doomed_root, doomed_names}
use Rattle.esr_reach.specs.Held.{HeldShard, held_at}
use Rattle.esr_reach.specs.Listing.{is_listed}
use Rattle.esr_reach.specs.Names.{Pushed}
use Rattle.esr_reach.specs.NamePieces.{pushed_none, pushed_one, pushed_as, pushed_more}
use Rattle.esr_results.specs.declared.pruned.PrunedShard.{PrunedShard as CodePruned}
use Rattle.esr_results.specs.Pruned.{pruned_of}
use Rattle.esr_dooming.specs.Pieces.{is_one, has_left_file, root_piece, root_count, snap_piece, meta_piece, metas_piece, list_piece, file_piece, held_piece, files_piece, shard_piece, snaps_names, gone_names}
use Rattle.esr_dooming.specs.Reading.{AreHeld}
use Rattle.esr_dooming.proofs.Numbers.{one_names, of_ids, of_snaps}

-- ---- where a test holds

-- a name is appended where it does
pub pushed_where : (old mid new : List CodeName) (n : CodeName) (b : Bool) → b ≡ true → mid ≡ old ++ n ∷ [] → new ≡ mid → Pushed old new (if b then name_of n ∷ [] else [])
pushed_where old mid new n b on one same = pushed_as old new (name_of n ∷ []) (if b then name_of n ∷ [] else []) (ap (λ (c : Bool). if c then name_of n ∷ [] else []) (sym on)) (pushed_one old new n (same ∙ one))

pub pushed_nowhere : (old new : List CodeName) (xs : List BlobName) (b : Bool) → b ≡ false → new ≡ old → Pushed old new (if b then xs else [])
pushed_nowhere old new xs b off same =
    pushed_as old new [] (if b then xs else []) (ap (λ (c : Bool). if c then xs else []) (sym off)) (ap (map name_of) same ∙ pushed_none old)

flagged : {A : Type 0} (b : Bool) (xs rest more : List A) → rest ≡ more → (if b then xs else []) ++ rest ≡ (if b then xs ++ more else more)
flagged {A} true xs rest more e = ap (λ (l : List A). xs ++ l) e
flagged false xs rest more e = e

unflagged : {A : Type 0} (b : Bool) (xs rest more : List A) → rest ≡ more → (if b then [] else xs) ++ rest ≡ (if b then more else xs ++ more)
unflagged true xs rest more e = e
unflagged {A} false xs rest more e = ap (λ (l : List A). xs ++ l) e

-- ---- the snapshots themselves

snaps_same : (uuids : List ℕ) (ss : List RootSnap) → flat_map (snap_piece (names_uuid uuids)) ss ≡ doomed_snaps uuids ss
snaps_same uuids [] = refl
snaps_same uuids (s ∷ ss) = flagged (names_uuid uuids s.uuid) (Snap s.uuid ∷ Meta s.uuid ∷ []) (flat_map (snap_piece (names_uuid uuids)) ss) (doomed_snaps uuids ss) (snaps_same uuids ss)

metas_same : (uuids : List ℕ) (index : ℕ) (us : List ℕ) → flat_map (meta_piece (names_uuid uuids) index) us ≡ doomed_metas uuids index us
metas_same uuids index [] = refl
metas_same uuids index (u ∷ us) = flagged (names_uuid uuids u) (IndexMeta index u ∷ []) (flat_map (meta_piece (names_uuid uuids) index) us) (doomed_metas uuids index us) (metas_same uuids index us)

index_metas_same : (uuids : List ℕ) (xs : List RootIndex) → flat_map (metas_piece (names_uuid uuids)) xs ≡ doomed_index_metas uuids xs
index_metas_same uuids [] = refl
index_metas_same uuids (x ∷ xs) = λ j. metas_same uuids x.id x.snapshots j ++ index_metas_same uuids xs j

-- ---- of a shard

leaves_same : (a k b : Bool) → (a && not (k && b)) ≡ (a && (if k then (if b then false else true) else true))
leaves_same a true true = refl
leaves_same a k b = refl

lists_same : (listed left : List ℕ) (p : PrunedShard) (ls : List SnapList) → flat_map (list_piece (names_uuid listed) (names_uuid left) p) ls ≡ doomed_lists listed left p ls
lists_same listed left p [] = refl
lists_same listed left p (l ∷ ls) =
    ap (λ (b : Bool). (if b then ShardSnap p.index p.number l.uuid ∷ [] else []) ++ flat_map (list_piece (names_uuid listed) (names_uuid left) p) ls) (leaves_same (names_uuid listed l.uuid) p.kept (names_uuid left l.uuid))
    ∙ flagged (names_uuid listed l.uuid && (if p.kept then (if names_uuid left l.uuid then false else true) else true)) (ShardSnap p.index p.number l.uuid ∷ [])
    (flat_map (list_piece (names_uuid listed) (names_uuid left) p) ls) (doomed_lists listed left p ls) (lists_same listed left p ls)

parts_same : (has : ℕ → Bool) (lists : List SnapList) (p : PrunedShard) → ((e : FileEntry) → has e.name ≡ lists_file lists e) → (files : List FileEntry) → flat_map (file_piece has p) files ≡ doomed_parts lists p files
parts_same has lists p same [] = refl
parts_same has lists p same (e ∷ files) =
    ap (λ (b : Bool). (if p.kept && b then [] else part_names p.index p.number e) ++ flat_map (file_piece has p) files) (same e)
    ∙ unflagged (p.kept && lists_file lists e) (part_names p.index p.number e) (flat_map (file_piece has p) files) (doomed_parts lists p files) (parts_same has lists p same files)

filtered : {A : Type 0} (q : A → Bool) (b c : Bool) (x : A) (rest : List A) (r : Bool) → c ≡ q x → r ≡ list_any q rest → ((b && c) || r) ≡ list_any q (cond b (x ∷ rest) rest)
filtered q true c x rest r same later = λ j. same j || later j
filtered q false c x rest r same later = later

left_file : (left : List ℕ) (ls : List SnapList) (e : FileEntry) → has_left_file (names_uuid left) ls e.name ≡ lists_file (listed_lists left ls) e
left_file left [] e = refl
left_file left (l ∷ ls) e =
    filtered (λ (x : SnapList). names_uuid x.files e.name) (names_uuid left l.uuid) (is_one l.files e.name) l (listed_lists left ls) (has_left_file (names_uuid left) ls e.name) (one_names l.files e.name) (left_file left ls e)

held_same : (listed left : List ℕ) (p : PrunedShard) (o : Option ShardFiles) → files_piece (names_uuid listed) (names_uuid left) p o ≡ doomed_files listed left p o
held_same listed left p None = refl
held_same listed left p (Some was) = λ j. lists_same listed left p was.snapshots j ++ parts_same (has_left_file (names_uuid left) was.snapshots) (listed_lists left was.snapshots) p (left_file left was.snapshots) was.files j

shards_same : (f : Formats) (blobs : List (BlobName × Bytes)) (held : List HeldShard) (listed left : List ℕ) (shards : List PrunedShard) → AreHeld f blobs held shards
    → flat_map (shard_piece (names_uuid listed) (names_uuid left) held) shards ≡ doomed_shards f blobs listed left shards
shards_same f blobs held listed left [] h = refl
shards_same f blobs held listed left (p ∷ shards) h =
    let own : files_piece (names_uuid listed) (names_uuid left) p (held_at held p.index p.number) ≡ doomed_files listed left p (files_read f blobs p) =
    ap (files_piece (names_uuid listed) (names_uuid left) p) (h p (inl refl)) ∙ held_same listed left p (files_read f blobs p) in
    λ j. ShardIndex p.index p.number p.base ∷ (own j ++ shards_same f blobs held listed left shards (λ q m. h q (inr m)) j)

-- ---- of the code

pub named_are : (root : CodeRoot) (uuids ids : List Id) (snaps : List CodeSnap) (indices : List CodeIndex) (named : ℕ → Bool) (first mid last : List CodeName) → ids ≡ uuids → snaps ≡ root.snapshots → indices ≡ root.indices
    → named ≡ is_one (map number_of ids)
    → Pushed first mid (flat_map (snap_piece named) (map root_snap_of snaps)) → Pushed mid last (flat_map (metas_piece named) (map root_index_of indices)) → Pushed first last (snaps_names (map number_of uuids) (root_of root))
named_are root uuids ids snaps indices named first mid last ids_is snaps_is indices_is named_is a b =
    let us : List ℕ = map number_of uuids in
    let names : named ≡ names_uuid us = named_is ∙ ap (λ (is : List Id). is_one (map number_of is)) ids_is ∙ of_ids us in
    pushed_more first mid last (flat_map (snap_piece named) (map root_snap_of snaps)) (flat_map (metas_piece named) (map root_index_of indices)) a b
    ∙ (λ j. map name_of first ++ (flat_map (snap_piece (names j)) (map root_snap_of (snaps_is j)) ++ flat_map (metas_piece (names j)) (map root_index_of (indices_is j))))

pub held_pushed : (listed left has : ℕ → Bool) (p : PrunedShard) (v : IndexValue) (lists : List CodeList) (files : List CodeEntry) (first mid last : List CodeName) → lists ≡ v.snapshots → files ≡ v.files
    → ((q : ℕ) → has q ≡ has_left_file left (map snap_list_of lists) q) → Pushed first mid (flat_map (list_piece listed left p) (map snap_list_of lists)) → Pushed mid last (flat_map (file_piece has p) (map entry_of files))
    → Pushed first last (held_piece listed left p (shard_index_of v))
held_pushed listed left has p v lists files first mid last lists_is files_is has_is a b =
    let same : has ≡ has_left_file left (map snap_list_of v.snapshots) = (λ j q. has_is q j) ∙ ap (λ (ls : List CodeList). has_left_file left (map snap_list_of ls)) lists_is in
    pushed_more first mid last (flat_map (list_piece listed left p) (map snap_list_of lists)) (flat_map (file_piece has p) (map entry_of files)) a b
    ∙ (λ j. map name_of first ++ (flat_map (list_piece listed left p) (map snap_list_of (lists_is j)) ++ flat_map (file_piece (same j) p) (map entry_of (files_is j))))

pub gone_named : (root next : CodeRoot) (held : List HeldShard) (before after : List CodeSnap) (listed left : ℕ → Bool) (items shards : List CodePruned) (first last : List CodeName) → before ≡ root.snapshots → after ≡ next.snapshots
    → listed ≡ is_listed (map root_snap_of before) → left ≡ is_listed (map root_snap_of after) → items ≡ shards → map pruned_of shards ≡ gone_shards (root_of next) (root_of root).indices
    → Pushed first last (flat_map (shard_piece listed left held) (map pruned_of items)) → Pushed first last (gone_names (root_of root) (root_of next) held)
gone_named root next held before after listed left items shards first last before_is after_is listed_is left_is items_is shards_are pushed =
    let was : listed ≡ names_uuid (uuids_of (root_of root)) = listed_is ∙ ap (λ (ss : List CodeSnap). is_listed (map root_snap_of ss)) before_is ∙ of_snaps (map root_snap_of root.snapshots) in
    let is : left ≡ names_uuid (uuids_of (root_of next)) = left_is ∙ ap (λ (ss : List CodeSnap). is_listed (map root_snap_of ss)) after_is ∙ of_snaps (map root_snap_of next.snapshots) in
    let gone : map pruned_of items ≡ gone_shards (root_of next) (root_of root).indices = ap (map pruned_of) items_is ∙ shards_are in
    pushed ∙ (λ j. map name_of first ++ flat_map (shard_piece (was j) (is j) held) (gone j))

root_same : (number : Option ℕ) → root_piece number ≡ doomed_root (root_count number)
root_same None = refl
root_same (Some n) = refl

pub doomed_are : (f : Formats) (blobs : List (BlobName × Bytes)) (held : List HeldShard) (number : Option ℕ) (old new : RootData) (uuids : List ℕ) (a b c d : List CodeName) → a ≡ []
    → Pushed a b (root_piece number) → Pushed b c (snaps_names uuids old) → Pushed c d (gone_names old new held) → AreHeld f blobs held (gone_shards new old.indices) → map name_of d ≡ doomed_names f (root_count number) old new uuids blobs
unfolding doomed_names
doomed_are f blobs held number old new uuids a b c d none first second third h =
    let snaps : List BlobName = flat_map (snap_piece (names_uuid uuids)) old.snapshots in
    let metas : List BlobName = flat_map (metas_piece (names_uuid uuids)) old.indices in
    let gone : List BlobName = gone_names old new held in
    third ∙ ap (λ (l : List BlobName). l ++ gone) (second ∙ ap (λ (l : List BlobName). l ++ (snaps ++ metas)) (first ∙ ap (λ (l : List CodeName). map name_of l ++ root_piece number) none))
    ∙ ap (λ (l : List BlobName). l ++ gone) (sym (append_assoc (root_piece number) snaps metas))
    ∙ (λ j. ((root_same number j ++ snaps_same uuids old.snapshots j) ++ index_metas_same uuids old.indices j) ++ shards_same f blobs held (uuids_of old) (uuids_of new) (gone_shards new old.indices) h j)
