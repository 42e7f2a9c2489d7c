-- How shards and names of blobs are compared: as equal exactly where they are.
use Rattle.std.proofs.Common.{◌≡◌, ◌==◌, ◌&&◌, Bool, true, false, List, [], ◌∷◌, map, Option, Some, cond, option_map, refl, sym, ap, ◌∙◌, inl, inr}
use Rattle.std.proofs.lemmas.Bool.{cases_Bool}
use Rattle.std.specs.Map.{lookup}
use Rattle.std.specs.declared.cmp.Ordering.{Ordering}
use Rattle.std.specs.declared.cmp.Ordering.TheVariants.{Less, Equal, Greater}
use Rattle.std.specs.Ordering.{is_eq, nat_cmp, ordering_then}
use Rattle.esr_names.specs.declared.blob.ShardId.{ShardId}
use Rattle.esr_shardidx.specs.Indices.{IndexValue}
use Rattle.esr_shardidx.specs.FileOrder.{is_eq-nat_cmp}
use Rattle.esr_formats.specs.Shards.{shard_index_of}
use Rattle.esr_model.specs.Values.{ShardFiles}
use Rattle.esr_reach.specs.Held.{held_of, held_at, Holds}
use Rattle.esr_reach.specs.NameOrder.{shard_cmp}

then_tells : (p q : Ordering) → is_eq (ordering_then p q) ≡ (is_eq p && is_eq q)
then_tells Less q = refl
then_tells Equal q = refl
then_tells Greater q = refl

pub shard_tells : (a b : ShardId) → is_eq (shard_cmp a b) ≡ (a.index.number == b.index.number && a.number == b.number)
shard_tells a b =
    then_tells (nat_cmp a.index.number b.index.number) (nat_cmp a.number b.number)
    ∙ ap (λ (t : Bool). t && is_eq (nat_cmp a.number b.number)) (is_eq-nat_cmp a.index.number b.index.number) ∙ ap (λ (t : Bool). a.index.number == b.index.number && t) (is_eq-nat_cmp a.number b.number)

-- ---- what a map holds

pub held_lookup : (k : ShardId) (es : List (ShardId × IndexValue)) → held_at (map held_of es) k.index.number k.number ≡ option_map shard_index_of (lookup (λ q. is_eq (shard_cmp k q)) es)
held_lookup k [] = refl
held_lookup k (e ∷ es) =
    let rest = held_at (map held_of es) k.index.number k.number in
    let older = lookup (λ q. is_eq (shard_cmp k q)) es in
    let test = shard_tells k e.0 in
    elim (cases_Bool (is_eq (shard_cmp k e.0))) [
      | inl same ↦ ap (λ (b : Bool). cond b (Some (shard_index_of e.1)) rest) (sym test ∙ same) ∙ sym (ap (λ (b : Bool). option_map shard_index_of (cond b (Some e.1) older)) same)
      | inr other ↦ ap (λ (b : Bool). cond b (Some (shard_index_of e.1)) rest) (sym test ∙ other) ∙ held_lookup k es ∙ sym (ap (λ (b : Bool). option_map shard_index_of (cond b (Some e.1) older)) other)
    ]

map_cond : (b : Bool) (v : IndexValue) (o : Option IndexValue) → option_map shard_index_of (cond b (Some v) o) ≡ cond b (Some (shard_index_of v)) (option_map shard_index_of o)
map_cond true v o = refl
map_cond false v o = refl

pub held_insert : (k : ShardId) (v : IndexValue) (old new : List (ShardId × IndexValue))
    → ((q : ShardId) → lookup (λ p. is_eq (shard_cmp q p)) new ≡ cond (is_eq (shard_cmp k q)) (Some v) (lookup (λ p. is_eq (shard_cmp q p)) old)) → Holds (map held_of old) (map held_of new) k.index.number k.number (shard_index_of v)
held_insert k v old new updates i n =
    let q : ShardId = record { index = record { number = i }; number = n } in
    let older = lookup (λ p. is_eq (shard_cmp q p)) old in
    held_lookup q new ∙ ap (option_map shard_index_of) (updates q) ∙ map_cond (is_eq (shard_cmp k q)) v older
    ∙ ap (λ (b : Bool). cond b (Some (shard_index_of v)) (option_map shard_index_of older)) (shard_tells k q)
    ∙ ap (λ (o : Option ShardFiles). cond (k.index.number == i && k.number == n) (Some (shard_index_of v)) o) (sym (held_lookup q old))
