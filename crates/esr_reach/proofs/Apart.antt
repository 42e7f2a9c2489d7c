-- What types say of the roots and the shard indices that there are: nothing stands twice.
use Rattle.std.proofs.Common.{◌≡◌, ◌==◌, ◌&&◌, Bool, List, [], ◌∷◌, map, Option, Some, cond, inl, inr, sym, ap, ◌∙◌, subst}
use Rattle.std.proofs.lemmas.Bool.{cases_Bool}
use Rattle.std.specs.List.{AllByRecursion}
use Rattle.std.specs.declared.cmp.Ordering.{Ordering}
use Rattle.std.specs.declared.cmp.Ordering.TheVariants.{Less, Equal, Greater}
use Rattle.std.specs.Ordering.{match_ordering}
use Rattle.std.specs.BTreeMap.{insert_entry}
use Rattle.esr_model.specs.Lists.{Has-mapped, all_has}
use Rattle.esr_names.specs.declared.blob.ShardId.{ShardId}
use Rattle.esr_root.specs.Ids.{same_id}
use Rattle.esr_root.specs.Snaps.{AreSnaps}
use Rattle.esr_root.specs.Indices.{AreIndices, IsIndex}
use Rattle.esr_root.specs.Root.{Root}
use Rattle.esr_root.specs.declared.indices.RootIndex.{RootIndex as CodeIndex}
use Rattle.esr_shardidx.specs.Indices.{IndexValue, IsShardIndex}
use Rattle.esr_formats.specs.Ids.{number_of}
use Rattle.esr_formats.specs.Roots.{root_of, root_index_of}
use Rattle.esr_formats.specs.Shards.{shard_index_of}
use Rattle.esr_model.specs.Values.{Has, RootIndex}
use Rattle.esr_reach.specs.Names.{AreOnce}
use Rattle.esr_reach.specs.Members.{once_distinct}
use Rattle.esr_reach.specs.Held.{held_of, held_at, IsApart, AreWhole, AreApart}
use Rattle.esr_reach.specs.Reached.{IsSingle}
use Rattle.esr_reach.specs.OnceEach.{tests_apart, snaps_once, indices_once, shard_apart}

-- ---- roots

metas_once : (is : List CodeIndex) → AreIndices is → (x : RootIndex) → Has (map root_index_of is) x → AreOnce x.snapshots
metas_once is rule x has =
    let found = Has-mapped root_index_of is x has in
    let each : IsIndex found.0 = all_has IsIndex is found.0 rule.each found.1 in
    subst (λ (y : RootIndex). AreOnce y.snapshots) found.2 (once_distinct same_id number_of (λ u v apart. tests_apart u.number v.number apart) found.0.snapshots each.snapshots.distinct)

pub root_single : (root : Root) → AreSnaps root.snapshots → AreIndices root.indices → IsSingle (root_of root)
root_single root snaps indices = record {
  snapshots = snaps_once root.snapshots snaps;
  indices = indices_once root.indices indices;
  metas = metas_once root.indices indices;
}

-- ---- what is held

abbrev pub AreIndexed : List (ShardId × IndexValue) → Type 0
AreIndexed es = AllByRecursion (λ e. IsShardIndex e.1) es

some_is : {A : Type 0} (x y : A) → ◌≡◌ {A = Option A} (Some x) (Some y) → x ≡ y
some_is x y e = cc

pub held_apart : (es : List (ShardId × IndexValue)) → AreIndexed es → AreApart (map held_of es)
held_apart [] rule i k v e = absurd (cc)
held_apart (x ∷ es) rule i k v e =
    let rest = held_at (map held_of es) i k in
    let test = i == x.0.index.number && k == x.0.number in
    elim (cases_Bool test) [
      | inl here ↦
          let own = some_is (shard_index_of x.1) v (sym (ap (λ (b : Bool). cond b (Some (shard_index_of x.1)) rest) here) ∙ e) in
          subst IsApart own (shard_apart x.1 rule.0)
      | inr there ↦ held_apart es rule.1 i k v (sym (ap (λ (b : Bool). cond b (Some (shard_index_of x.1)) rest) there) ∙ e)
    ]

pub held_whole : (es : List (ShardId × IndexValue)) → AreIndexed es → AreWhole (map held_of es)
held_whole [] rule i k v e = absurd (cc)
held_whole (x ∷ es) rule i k v e =
    let rest = held_at (map held_of es) i k in
    let test = i == x.0.index.number && k == x.0.number in
    elim (cases_Bool test) [
      | inl here ↦
          let own = some_is (shard_index_of x.1) v (sym (ap (λ (b : Bool). cond b (Some (shard_index_of x.1)) rest) here) ∙ e) in
          (x.1, rule.0, sym own)
      | inr there ↦ held_whole es rule.1 i k v (sym (ap (λ (b : Bool). cond b (Some (shard_index_of x.1)) rest) there) ∙ e)
    ]

pub indexed_insert : (cmp : ShardId → ShardId → Ordering) (es : List (ShardId × IndexValue)) (k : ShardId) (v : IndexValue) → AreIndexed es → IsShardIndex v → AreIndexed (insert_entry cmp es k v)
indexed_insert cmp [] k v all one = (one, tt)
indexed_insert cmp (e ∷ es) k v all one =
    let P : Ordering → Type 0 = λ o. AreIndexed (match_ordering o ((k, v) ∷ e ∷ es) ((e.0, v) ∷ es) (e ∷ insert_entry cmp es k v)) in
    elim (cmp k e.0) as P [
      | Less ↦ (one, all)
      | Equal ↦ (one, all.1)
      | Greater ↦ (all.0, indexed_insert cmp es k v all.1 one)
    ]
