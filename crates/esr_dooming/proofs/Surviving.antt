-- What survives of a shard's index is what the definitions say.
use Rattle.std.proofs.Common.{◌≡◌, ◌==◌, ◌||◌, Bool, true, false, cond, List, [], ◌∷◌, map, refl, ap, ◌∙◌}
use Rattle.std.specs.Prelude.{filter}
use Rattle.std.specs.List.{list_any}
use Rattle.esr_dooming.proofs.Numbers.{or_if}
use Rattle.esr_names.specs.declared.ids.Id.{Id}
use Rattle.esr_shardidx.specs.declared.entry.FileEntry.{FileEntry as CodeEntry}
use Rattle.esr_shardidx.specs.declared.index.SnapList.{SnapList as CodeList}
use Rattle.esr_shardidx.specs.Indices.{IndexValue, is_id, is_named, named_by, listed_of, survivors_of}
use Rattle.esr_formats.specs.Ids.{number_of}
use Rattle.esr_formats.specs.Shards.{entry_of, snap_list_of, shard_index_of}
use Rattle.esr_model.specs.Values.{SnapList}
use Rattle.esr_model.specs.Delete.{names_uuid, lists_file, listed_lists, surviving}

ids_same : (u : Id) (us : List Id) → list_any (is_id u) us ≡ names_uuid (map number_of us) u.number
ids_same u [] = refl
ids_same u (v ∷ us) = or_if (v.number == u.number) (list_any (is_id u) us) (names_uuid (map number_of us) u.number) (ids_same u us)

-- one that passes the test comes before the rest
kept_one : {A B : Type 0} (f : A → B) (x : A) (rest : List A) (more : List B) (p q : Bool) → p ≡ q → map f rest ≡ more → map f (cond p (x ∷ rest) rest) ≡ cond q (f x ∷ more) more
kept_one {A} {B} f x rest more p q same later = ap (λ (b : Bool). map f (cond b (x ∷ rest) rest)) same ∙ go q
  where
    go : (b : Bool) → map f (cond b (x ∷ rest) rest) ≡ cond b (f x ∷ more) more
    go true = ap (λ (l : List B). f x ∷ l) later
    go false = later

lists_same : (us : List Id) (ls : List CodeList) → map snap_list_of (listed_of us ls) ≡ listed_lists (map number_of us) (map snap_list_of ls)
lists_same us [] = refl
lists_same us (l ∷ ls) =
    kept_one snap_list_of l (listed_of us ls) (listed_lists (map number_of us) (map snap_list_of ls)) (list_any (is_id l.uuid) us) (names_uuid (map number_of us) l.uuid.number) (ids_same l.uuid us) (lists_same us ls)

named_same : (ls : List CodeList) (e : CodeEntry) → is_named ls e ≡ lists_file (map snap_list_of ls) (entry_of e)
named_same [] e = refl
named_same (l ∷ ls) e = λ j. ids_same e.name l.files j || named_same ls e j

files_same : (ls : List CodeList) (es : List CodeEntry) → map entry_of (named_by ls es) ≡ filter (lists_file (map snap_list_of ls)) (map entry_of es)
files_same ls [] = refl
files_same ls (e ∷ es) =
    kept_one entry_of e (named_by ls es) (filter (lists_file (map snap_list_of ls)) (map entry_of es)) (is_named ls e) (lists_file (map snap_list_of ls) (entry_of e)) (named_same ls e) (files_same ls es)

pub left_same : (v : IndexValue) (us : List Id) → shard_index_of (survivors_of v us) ≡ surviving (map number_of us) (shard_index_of v)
left_same v us =
    let lists : map snap_list_of (listed_of us v.snapshots) ≡ listed_lists (map number_of us) (map snap_list_of v.snapshots) = lists_same us v.snapshots in
    let files : map entry_of (named_by (listed_of us v.snapshots) v.files) ≡ filter (lists_file (listed_lists (map number_of us) (map snap_list_of v.snapshots))) (map entry_of v.files) =
    files_same (listed_of us v.snapshots) v.files ∙ ap (λ (ls : List SnapList). filter (lists_file ls) (map entry_of v.files)) lists in
    λ j. record { files = files j; snapshots = lists j }
