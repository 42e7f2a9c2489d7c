-- The texts of the snapshot of a shard and of its index are read back, by the definitions alone.
use Rattle.std.proofs.Common.{◌≡◌, ◌<◌, ◌^◌, ◌-◌, nat_lt, false, List, length, Some, Ok, refl, arith, [], ◌∷◌, ◌++◌, map, ap, ◌∙◌, ℕ, ◌≤◌, ◌==◌, nat_le, Bool, true, cond, codes, IsUtf8}
use Rattle.std.specs.Str.{IsAscii}
use Rattle.std.proofs.lemmas.Bool.{le-ltb, leb-true, and_parts}
use Rattle.serde_json.specs.Data.{depth}
use Rattle.std.specs.List.{AllByRecursion, list_all}
use Rattle.std.proofs.lemmas.List.{append_assoc, append-nil}
use Rattle.std.proofs.lemmas.Str.{IsUtf8-append, IsUtf8-from_ascii}
use Rattle.std.proofs.lemmas.Str.Ascii.{IsAscii-nil, IsAscii-cons}
use Rattle.serde_json.specs.Read.{max_depth}
use Rattle.esr_json.specs.declared.key.Key.TheVariants as keys
use Rattle.esr_names.specs.declared.ids.Id.{Id}
use Rattle.esr_names.specs.IdTextLaws.{read_id-id_text, IsUtf8-id_text}
use Rattle.esr_hash.specs.DigitLaws.{read_print-digits_of, IsUtf8-digits_of}
use Rattle.esr_json.specs.Access.{member_at, text_at, number_at, items_at}
use Rattle.esr_json.specs.Shallow.{IsShallow}
use Rattle.esr_shardidx.specs.FileNames.{is_name_byte, is_relative, is_file_name}
use Rattle.esr_shardidx.specs.Entries.{file_text, read_file, last_of, id_falls, name_stays, file_after, physical_after, print_at, entry_of, entry_data, IsEntry}
use Rattle.esr_shardidx.specs.declared.entry.FileEntry.{FileEntry}
use Rattle.esr_names.specs.IdText.{id_text}
use Rattle.esr_json.specs.Items.{items_listed_of}
use Rattle.esr_json.specs.ShallowValues.{IsShallow-array_map}
use Rattle.esr_shardidx.specs.Snapshots.{SnapValue, id_at, snap_files_from, shard_snap_of, shard_snap_data, AreSnapFiles, IsShardSnap, shard_snap_text, shard_snap_from}
use Rattle.esr_shardidx.specs.Indices.{IndexValue, is_named, index_files_from, file_item, file_ids_from, list_of, lists_from, shard_index_of, file_data, list_data, shard_index_data, Rises, AreLists, IsShardIndex, shard_index_text, shard_index_from}
use Rattle.esr_shardidx.specs.declared.index.SnapList.{SnapList}
use Rattle.esr_json.specs.Plain.{IsPlain}
use Rattle.esr_json.specs.PlainTexts.{parsed-compact_text}
use Rattle.esr_json.specs.PlainValues.{IsUtf8-key_text, ItemsArePlain-map}
use Rattle.esr_shardidx.specs.FileOrder.{all_push, filter_all, Below, Above, none_has, not_falls}

pub read_file-file_text : (u : Id) → u.number < 2 ^ 128 → read_file (file_text u) ≡ Some u
unfolding read_file
read_file-file_text u fits =
    let long : nat_lt (length (file_text u)) 2 ≡ false = le-ltb (length (file_text u)) 2 (omega arith) in
    rw (long, read_id-id_text u fits) refl

pub entry_of-entry_data : (ids names : List FileEntry) (e : FileEntry) → IsEntry e → id_falls (last_of ids) e.name ≡ false → name_stays (last_of names) e.physical ≡ false
    → entry_of ids names (entry_data e) ≡ Ok e
unfolding entry_of entry_data file_after physical_after print_at text_at number_at member_at
entry_of-entry_data ids names e h id name =
    let low : nat_lt e.print.len 0 ≡ false = le-ltb e.print.len 0 (omega arith) in
    let high : nat_lt (2 ^ 60 - 1) e.print.len ≡ false = le-ltb (2 ^ 60 - 1) e.print.len (omega (arith, h.short)) in
    let least : nat_lt e.part_size 1 ≡ false = le-ltb e.part_size 1 h.least in
    let most : nat_lt (2 ^ 30) e.part_size ≡ false = le-ltb (2 ^ 30) e.part_size h.most in
    rw (low, high, read_file-file_text e.name h.typed.name, id, least, most, h.typed.physical, name, read_print-digits_of e.print h.typed.print) refl

pub entry_data-shallow : (e : FileEntry) → IsShallow 1 (entry_data e)
unfolding entry_data
entry_data-shallow e = (refl, omega arith)

snap_files_from-data : (before es : List FileEntry) → AreSnapFiles before es → snap_files_from before (map entry_data es) ≡ Ok (before ++ es)
unfolding snap_files_from
snap_files_from-data before [] h = rw append-nil refl
snap_files_from-data before (e ∷ es) h =
    rw (entry_of-entry_data [] before e h.0 refl h.1, h.2)
    (snap_files_from-data (before ++ e ∷ []) es h.3 ∙ ap Ok (append_assoc before (e ∷ []) es))

pub shard_snap_of-data : (s : SnapValue) → IsShardSnap s → shard_snap_of (shard_snap_data s) ≡ Ok s
unfolding shard_snap_of shard_snap_data id_at items_at text_at member_at
shard_snap_of-data s h =
    rw (items_listed_of (map entry_data s.files), snap_files_from-data [] s.files h.files, read_id-id_text s.uuid h.uuid) refl

pub shard_snap_data-shallow : (s : SnapValue) → IsShallow 3 (shard_snap_data s)
unfolding shard_snap_data
shard_snap_data-shallow s =
    let files = IsShallow-array_map 1 entry_data entry_data-shallow s.files in
    (rw files.0 refl, omega (arith, files.1))

-- each is above those before
abbrev Follow : List FileEntry → List FileEntry → Type 0
Follow before es = AllByRecursion (λ e. AllByRecursion (Below e.name) before) es

follow_push : (before : List FileEntry) (e : FileEntry) (es : List FileEntry) → Follow before es → AllByRecursion (Above e.name) es → Follow (before ++ e ∷ []) es
follow_push before e [] follow above = tt
follow_push before e (f ∷ es) follow above = (all_push (Below f.name) before e follow.0 above.0, follow_push before e es follow.1 above.1)

index_files_from-data : (before es : List FileEntry) → AllByRecursion IsEntry es → Rises es → Follow before es → index_files_from before (map entry_data es) ≡ Ok (before ++ es)
unfolding index_files_from
index_files_from-data before [] entries rises follow = rw append-nil refl
index_files_from-data before (e ∷ es) entries rises follow =
    rw (entry_of-entry_data before [] e entries.0 (not_falls e.name before follow.0) refl, none_has e.name before follow.0)
    (index_files_from-data (before ++ e ∷ []) es entries.1 rises.1 (follow_push before e es follow.1 rises.0) ∙ ap Ok (append_assoc before (e ∷ []) es))

follow_none : (es : List FileEntry) → Follow [] es
follow_none [] = tt
follow_none (e ∷ es) = (tt, follow_none es)

file_ids_from-data : (before us : List Id) → AllByRecursion (λ u. u.number < 2 ^ 128) us → file_ids_from before (map file_data us) ≡ Ok (before ++ us)
unfolding file_ids_from file_item
file_ids_from-data before [] h = rw append-nil refl
file_ids_from-data before (u ∷ us) h = rw (read_file-file_text u h.0) (file_ids_from-data (before ++ u ∷ []) us h.1 ∙ ap Ok (append_assoc before (u ∷ []) us))

list_of-data : (l : SnapList) → AllByRecursion (λ u. u.number < 2 ^ 128) l.files → l.uuid.number < 2 ^ 128 → list_of (list_data l) ≡ Ok l
unfolding list_of id_at items_at text_at member_at
list_of-data l files uuid = rw (items_listed_of (map file_data l.files), file_ids_from-data [] l.files files, read_id-id_text l.uuid uuid) refl

lists_from-data : (files : List FileEntry) (before ls : List SnapList) → AreLists files before ls → lists_from files before (map list_data ls) ≡ Ok (before ++ ls)
unfolding lists_from
lists_from-data files before [] h = rw append-nil refl
lists_from-data files before (l ∷ ls) h =
    rw (list_of-data l h.0 h.1, h.2, h.3, h.4)
    (lists_from-data files (before ++ l ∷ []) ls h.5 ∙ ap Ok (append_assoc before (l ∷ []) ls))

pub shard_index_of-data : (v : IndexValue) → IsShardIndex v → shard_index_of (shard_index_data v) ≡ Ok v
unfolding shard_index_of shard_index_data items_at member_at
shard_index_of-data v h =
    rw (
      items_listed_of (map entry_data v.files),
      index_files_from-data [] v.files h.entries h.rises (follow_none v.files),
      items_listed_of (map list_data v.snapshots),
      lists_from-data v.files [] v.snapshots h.lists,
      filter_all
          (is_named v.snapshots) v.files h.named,
    ) refl

list_data-shallow : (l : SnapList) → IsShallow 2 (list_data l)
list_data-shallow l =
    let files = IsShallow-array_map 0 file_data (λ u. (refl, omega arith)) l.files in
    (rw files.0 refl, omega (arith, files.1))

pub shard_index_data-shallow : (v : IndexValue) → IsShallow 4 (shard_index_data v)
unfolding shard_index_data
shard_index_data-shallow v =
    let files = IsShallow-array_map 1 entry_data entry_data-shallow v.files in
    let lists = IsShallow-array_map 2 list_data list_data-shallow v.snapshots in
    (rw (files.0, lists.0) refl, omega (arith, files.1, lists.1))

pub entries_of : (before es : List FileEntry) → AreSnapFiles before es → AllByRecursion IsEntry es
entries_of before [] h = tt
entries_of before (e ∷ es) h = (h.0, entries_of (before ++ e ∷ []) es h.3)

IsAscii-name : (s : List ℕ) → list_all is_name_byte s ≡ true → IsAscii s
IsAscii-name [] h = IsAscii-nil
IsAscii-name (c ∷ cs) h =
    let parts = and_parts (is_name_byte c) (list_all is_name_byte cs) h in
    let printed = and_parts (nat_le 33 c) _ parts.0 in
    let most : c ≤ 126 = leb-true c 126 (and_parts (nat_le c 126) _ printed.1).0 in
    IsAscii-cons c cs (omega arith) (IsAscii-name cs parts.1)

past : (t r : Bool) → cond t false r ≡ true → r ≡ true
past true r h = cc
past false r h = h

IsUtf8-name : (s : List ℕ) → is_file_name s ≡ true → IsUtf8 s
IsUtf8-name s h =
    IsUtf8-from_ascii s (IsAscii-name s (past (is_relative s) _ (past (nat_lt 255 (length s)) _ (past (length s == 0) _ h))))

pub IsUtf8-file_text : (u : Id) → IsUtf8 (file_text u)
IsUtf8-file_text u = IsUtf8-append (codes "__") (id_text u.number) (IsUtf8-from_ascii (codes "__") (IsAscii-cons 95 (95 ∷ []) (omega arith) (IsAscii-cons 95 [] (omega arith) IsAscii-nil))) (IsUtf8-id_text u.number)

IsPlain-entry : (e : FileEntry) → IsEntry e → IsPlain (entry_data e)
unfolding entry_data
IsPlain-entry e h =
    let len : e.print.len < 2 ^ 64 = omega (arith, h.short) in
    let size : e.part_size < 2 ^ 64 = omega (arith, h.most) in (
      IsUtf8-key_text keys.Length,
      len,
      refl,
      (
        IsUtf8-key_text keys.Name,
        IsUtf8-file_text e.name,
        refl,
        (
          IsUtf8-key_text keys.PartSize,
          size,
          refl,
          (
            IsUtf8-key_text keys.PhysicalName,
            IsUtf8-name e.physical h.typed.physical,
            refl,
            (IsUtf8-key_text keys.Sha256, IsUtf8-digits_of e.print.sha256, tt, tt),
          ),
        ),
      ),
    )

IsPlain-snap : (s : SnapValue) → IsShardSnap s → IsPlain (shard_snap_data s)
unfolding shard_snap_data
IsPlain-snap s h = (
  IsUtf8-key_text keys.Files,
  ItemsArePlain-map IsEntry entry_data IsPlain-entry s.files (entries_of [] s.files h.files),
  refl,
  (IsUtf8-key_text keys.Uuid, IsUtf8-id_text s.uuid.number, tt, tt),
)

IsPlain-list : (l : SnapList) → Unit {0} → IsPlain (list_data l)
IsPlain-list l h = (
  IsUtf8-key_text keys.Files,
  ItemsArePlain-map (λ (u : Id). Unit {0}) file_data (λ u k. IsUtf8-file_text u) l.files (none_asked l.files),
  refl,
  (IsUtf8-key_text keys.Uuid, IsUtf8-id_text l.uuid.number, tt, tt),
) where
  none_asked : (us : List Id) → AllByRecursion (λ (u : Id). Unit {0}) us
  none_asked [] = tt
  none_asked (u ∷ us) = (tt, none_asked us)

lists_asked : (ls : List SnapList) → AllByRecursion (λ (l : SnapList). Unit {0}) ls
lists_asked [] = tt
lists_asked (l ∷ ls) = (tt, lists_asked ls)

IsPlain-index : (v : IndexValue) → IsShardIndex v → IsPlain (shard_index_data v)
unfolding shard_index_data
IsPlain-index v h = (
  IsUtf8-key_text keys.Files,
  ItemsArePlain-map IsEntry entry_data IsPlain-entry v.files h.entries,
  refl,
  (IsUtf8-key_text keys.Snapshots, ItemsArePlain-map (λ (l : SnapList). Unit {0}) list_data IsPlain-list v.snapshots (lists_asked v.snapshots), tt, tt),
)

pub snap_reads_back : (s : SnapValue) → IsShardSnap s → shard_snap_from (shard_snap_text s) ≡ Ok s
snap_reads_back s h =
    let low : depth (shard_snap_data s) ≤ max_depth = omega (arith, (shard_snap_data-shallow s).1) in
    rw (parsed-compact_text (shard_snap_data s) (IsPlain-snap s h) low) (shard_snap_of-data s h)

pub index_reads_back : (v : IndexValue) → IsShardIndex v → shard_index_from (shard_index_text v) ≡ Ok v
index_reads_back v h =
    let low : depth (shard_index_data v) ≤ max_depth = omega (arith, (shard_index_data-shallow v).1) in
    rw (parsed-compact_text (shard_index_data v) (IsPlain-index v h) low) (shard_index_of-data v h)
