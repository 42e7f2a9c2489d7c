-- What a cleanup dooms: what it listed and its new root doesn't reach, which is computed by what it read and wrote of the indices of shards.
use Rattle.std.proofs.Common.{◌≡◌, ℕ, Bool, true, false, List, [], ◌∷◌, ◌++◌, Option, Some, None, refl, sym, ap, ◌∙◌, subst, inl, inr}
use Rattle.std.specs.Prelude.{◌==◌, ◌&&◌}
use Rattle.std.proofs.lemmas.Bool.{and_from, cond-true, cond-false, cases_Bool}
use Rattle.std.proofs.lemmas.Option.{none-some}
use Rattle.esr_model.specs.Names.{BlobName, ShardIndex}
use Rattle.esr_model.specs.Values.{Bytes, Has, RootIndex, RootData, ShardFiles, IsOneEach, Formats}
use Rattle.esr_model.specs.Image.{IsOne, Reads, Generation, at_shard_of}
use Rattle.esr_model.specs.Delete.{PrunedShard, left_uuids, uuids_of, surviving, is_index, index_bytes, files_by, files_read, left_text, pruned_blobs, deleted_root}
use Rattle.esr_model.specs.Cleanup.{BlobSize, names_listed, reaches, unreached, cleaned_names}
use Rattle.esr_core.specs.Pruning.{is_touched, bare_shard, pruned_shards, AreRead, AreOfRoot, AreWritable}
use Rattle.esr_model.specs.Lists.{Has-left, Has-right, Has-either}
use Rattle.esr_core.specs.Laws.OneValue.{generation_index}
use Rattle.esr_core.specs.Laws.DeleteRoots.{AreApart, one_found, deleted_generations, bytes_same}
use Rattle.esr_core.specs.Laws.Tests.{clash, same_number}
use Rattle.esr_core.specs.Laws.CleanupReach.{IsHeldNow}
use Rattle.esr_core.proofs.DeletesHold.{fresh_is}
use Rattle.esr_core.specs.Laws.DeletePlans.{in_root, of_root_apart}
use Rattle.esr_core.proofs.Plans.{bytes_there, shard_reads}

-- ---- what was read of an index

index_test : (i k g : ℕ) → is_index i k g (ShardIndex i k g) ≡ true
index_test i k g = and_from ((i == i) && (k == k)) (g == g) (and_from (i == i) (k == k) (same_number i) (same_number k)) (same_number g)

-- where its blob is among some, one is found
index_found : (xs : List (BlobName × Bytes)) (i k g : ℕ) (b : Bytes) → Has xs (ShardIndex i k g, b) → (c : Bytes) × (index_bytes xs (bare_shard i k g) ≡ Some c)
index_found [] i k g b m = absurd m
index_found (blob ∷ xs) i k g b m = elim (cases_Bool (is_index i k g blob.0)) [
  | inl t ↦ (blob.1, cond-true _ _ _ t)
  | inr t ↦ elim m [
    | inl same ↦ absurd (clash (is_index i k g blob.0) (ap (λ (x : BlobName × Bytes). is_index i k g x.0) same ∙ index_test i k g) t)
    | inr later ↦ let (c, e) = index_found xs i k g b later in (c, cond-false _ _ _ t ∙ e)
  ]
]

files_split : (f : Formats) (o : Option Bytes) (was : ShardFiles) → files_by f o ≡ Some was → (b : Bytes) × (o ≡ Some b) × (f.shard_index.read b ≡ Some was)
files_split f None was e = absurd (none-some was e)
files_split f (Some b) was e = (b, refl, e)

module _ (f : Formats) (has : BlobName → Bytes → Type 0) (func : IsOne has) where
  -- among blobs that are all there the index that is there is read
  found_there : (xs : List (BlobName × Bytes)) → ((name : BlobName) (bytes : Bytes) → Has xs (name, bytes) → has name bytes) → (i k g : ℕ) (was : ShardFiles) (r : Reads has (ShardIndex i k g) f.shard_index was)
      → Has xs (ShardIndex i k g, r.bytes) → files_read f xs (bare_shard i k g) ≡ Some was
  found_there xs all i k g was r m =
      let (c, e) = index_found xs i k g r.bytes m in
      let same : c ≡ r.bytes = func (ShardIndex i k g) c r.bytes (all (ShardIndex i k g) c (bytes_there xs (bare_shard i k g) c e)) r.there in
      ap (files_by f) e ∙ ap f.shard_index.read same ∙ r.reads

module _ (f : Formats) (has : BlobName → Bytes → Type 0) (func : IsOne has) (root : RootData) (one : IsOneEach root.indices) (uuids : List ℕ) (read : List (BlobName × Bytes)) (first : ℕ) (clean : Bool) (cleans : clean ≡ true)
    (held : (name : BlobName) (bytes : Bytes) → Has read (name, bytes) → has name bytes) (are_read : AreRead f clean root uuids read) (of_root : AreOfRoot root (pruned_shards f clean root uuids read))
    (writable : AreWritable f root uuids read (pruned_shards f clean root uuids read))
    (written : (name : BlobName) (bytes : Bytes) → Has (pruned_blobs f read (left_uuids uuids (uuids_of root)) first (pruned_shards f clean root uuids read)) (name, bytes) → has name bytes) where
  abbrev shards : List PrunedShard
  shards = pruned_shards f clean root uuids read

  abbrev left : List ℕ
  left = left_uuids uuids (uuids_of root)

  abbrev own : List (BlobName × Bytes)
  own = pruned_blobs f read left first shards

  apart : AreApart shards
  apart = of_root_apart root shards of_root

  all_there : (name : BlobName) (bytes : Bytes) → Has (own ++ read) (name, bytes) → has name bytes
  all_there name bytes m = elim (Has-either own read (name, bytes) m) [ inl h ↦ written name bytes h | inr h ↦ held name bytes h ]

  -- a cleanup reads each shard of its root
  was_read : (i k g : ℕ) → Generation root i k g → (was : ShardFiles) × (files_read f read (bare_shard i k g) ≡ Some was)
  was_read i k g gen =
      let (x, there, id) = generation_index root i k g gen in
      are_read i k g (record {
        x = x;
        there = there;
        id = id;
        victim = ap (λ (c : Bool). is_touched c uuids x.snapshots) cleans;
        at = sym (ap (λ (z : Option RootIndex). at_shard_of z k) (one_found root.indices one x there i id)) ∙ gen;
      })

  pub cleaned_held : IsHeldNow f has (deleted_root root uuids shards first) (own ++ read)
  cleaned_held i k g gen = elim (deleted_generations root one uuids shards first apart i k g gen) [
    | inl old ↦
        let (was, e) = was_read i k g old.1 in
        let r : Reads has (ShardIndex i k g) f.shard_index was = shard_reads f has read held (bare_shard i k g) was e in
        let (b, at, reads) = files_split f (index_bytes read (bare_shard i k g)) was e in
        let there : Has read (ShardIndex i k g, b) = bytes_there read (bare_shard i k g) b at in
        let mine : Reads has (ShardIndex i k g) f.shard_index was = record { bytes = b; there = held (ShardIndex i k g) b there; reads = reads } in
        (was, found_there f has func (own ++ read) all_there i k g was mine (Has-right own read (ShardIndex i k g, b) there), r)
    | inr fresh ↦
        let r = fresh_is f read left shards first i k g fresh in
        let base : Generation root i k r.p.base = subst (λ (y : ℕ × ℕ). Generation root y.0 y.1 r.p.base) (λ j. (r.index_is j, r.number_is j)) (in_root root shards r.p of_root r.there) in
        let (was, e) = was_read i k r.p.base base in
        let its : files_read f read r.p ≡ Some was = ap (files_by f) (bytes_same read r.p (bare_shard i k r.p.base) r.index_is r.number_is refl) ∙ e in
        let text : Has own (ShardIndex i k g, f.shard_index.text (surviving left was)) = subst (λ (o : Option ShardFiles). Has own (ShardIndex i k g, left_text f left o)) its r.own in
        let now : Reads has (ShardIndex i k g) f.shard_index (surviving left was) = record {
          bytes = f.shard_index.text (surviving left was);
          there = written (ShardIndex i k g) (f.shard_index.text (surviving left was)) text;
          reads = writable r.p was r.there its;
        } in
        (surviving left was, found_there f has func (own ++ read) all_there i k g (surviving left was) now (Has-left own read (ShardIndex i k g, f.shard_index.text (surviving left was)) text), now)
  ]

-- ---- what is doomed

unreached_has : (f : Formats) (number : Option ℕ) (root : RootData) (read : List (BlobName × Bytes)) (names : List BlobName) (name : BlobName) → Has names name → reaches f number root read name ≡ false
    → Has (unreached f number root read names) name
unreached_has f number root read [] name m e = absurd m
unreached_has f number root read (x ∷ names) name m e = elim (cases_Bool (reaches f number root read x)) [
  | inl b ↦ subst (λ (ns : List BlobName). Has ns name) (sym (cond-true _ _ _ b)) (elim m [
    | inl same ↦ absurd (clash (reaches f number root read x) b (ap (reaches f number root read) same ∙ e))
    | inr later ↦ unreached_has f number root read names name later e
  ])
  | inr b ↦ subst (λ (ns : List BlobName). Has ns name) (sym (cond-false _ _ _ b)) (elim m [ inl same ↦ inl same | inr later ↦ inr (unreached_has f number root read names name later e) ])
]

pub cleaned_has : (f : Formats) (number : Option ℕ) (root : RootData) (read : List (BlobName × Bytes)) (listed : List BlobSize) (name : BlobName) → Has (names_listed f listed) name → reaches f number root read name ≡ false
    → Has (cleaned_names f number root read listed) name
unfolding cleaned_names
cleaned_has f number root read listed name m e = unreached_has f number root read (names_listed f listed) name m e
