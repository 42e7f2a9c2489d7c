-- One piece of names after another is appended.
use Rattle.std.proofs.Common.{◌≡◌, ℕ, ◌+◌, ◌<◌, ◌≤◌, List, [], ◌∷◌, ◌++◌, flat_map, map, length, take, get_or, sym, ap, ◌∙◌, arith, append_assoc}
use Rattle.std.proofs.lemmas.List.{append-nil, map-append, take_all}
use Rattle.std.proofs.lemmas.Grind.{flat_map-append}
use Rattle.esr_model.specs.Loops.{next}
use Rattle.esr_names.specs.declared.blob.BlobName.{BlobName as CodeName}
use Rattle.esr_names.specs.declared.blob.ShardId.{ShardId}
use Rattle.esr_shardidx.specs.declared.entry.FileEntry.{FileEntry as CodeEntry}
use Rattle.esr_shardidx.specs.Parts.{part_name as code_part_name, part_count as code_part_count}
use Rattle.esr_formats.specs.Names.{name_of}
use Rattle.esr_formats.specs.Shards.{entry_of}
use Rattle.esr_model.specs.Parts.{part_names}
use Rattle.esr_reach.specs.PartNames.{length-names, names_next}
use Rattle.esr_model.specs.Names.{BlobName}
use Rattle.esr_reach.specs.Names.{Pushed}

-- ---- pieces

pub pushed_none : (first : List CodeName) → Pushed first first []
pushed_none first = sym (append-nil (map name_of first))

pub pushed_more : (first old new : List CodeName) (xs ys : List BlobName) → Pushed first old xs → Pushed old new ys → Pushed first new (xs ++ ys)
pushed_more first old new xs ys before more = more ∙ ap (λ (l : List BlobName). l ++ ys) before ∙ append_assoc (map name_of first) xs ys

pub pushed_one : (old new : List CodeName) (n : CodeName) → new ≡ old ++ n ∷ [] → Pushed old new (name_of n ∷ [])
pushed_one old new n is = ap (map name_of) is ∙ map-append name_of old (n ∷ [])

pub pushed_as : (first new : List CodeName) (xs ys : List BlobName) → xs ≡ ys → Pushed first new xs → Pushed first new ys
pushed_as first new xs ys same pushed = pushed ∙ ap (λ (l : List BlobName). map name_of first ++ l) same

module _ {A B : Type 0} (f : B → List BlobName) (v : A → B) (xs : List A) (i : ℕ) where
  -- the piece of one more item
  pub pushed_item : (x : A) (first old new : List CodeName) → i < length xs → x ≡ get_or xs i x → Pushed first old (flat_map f (map v (take i xs))) → Pushed old new (f (v x)) → Pushed first new (flat_map f (map v (take (i + 1) xs)))
  pushed_item x first old new less is before more =
      let pieces : flat_map f (map v (take i xs)) ++ f (v x) ≡ flat_map f (map v (take (i + 1) xs)) =
      ap (λ (l : List BlobName). flat_map f (map v (take i xs)) ++ l) (sym (append-nil (f (v x)))) ∙ sym (flat_map-append f (map v (take i xs)) (v x ∷ []))
      ∙ ap (flat_map f) (sym (next v xs i x less is)) in
      pushed_as first new (flat_map f (map v (take i xs)) ++ f (v x)) (flat_map f (map v (take (i + 1) xs))) pieces (pushed_more first old new (flat_map f (map v (take i xs))) (f (v x)) before more)

-- ---- the parts of a file

pub parts_pushed : (shard : ShardId) (e : CodeEntry) → 1 ≤ e.part_size → (k : ℕ) (first old new : List CodeName) (n : CodeName) → k < code_part_count e.print.len e.part_size → n ≡ code_part_name shard e k → new ≡ old ++ n ∷ []
    → Pushed first old (take k (part_names shard.index.number shard.number (entry_of e))) → Pushed first new (take (k + 1) (part_names shard.index.number shard.number (entry_of e)))
parts_pushed shard e some k first old new n less is made so_far =
    let names = part_names shard.index.number shard.number (entry_of e) in
    pushed_as first new (take k names ++ name_of n ∷ []) (take (k + 1) names) (ap (λ (m : CodeName). take k names ++ name_of m ∷ []) is ∙ sym (names_next shard e some k less))
    (pushed_more first old new (take k names) (name_of n ∷ []) so_far (pushed_one old new n made))

pub parts_done : (shard : ShardId) (e : CodeEntry) → 1 ≤ e.part_size → (k : ℕ) → code_part_count e.print.len e.part_size ≤ k
    → take k (part_names shard.index.number shard.number (entry_of e)) ≡ part_names shard.index.number shard.number (entry_of e)
parts_done shard e some k past = take_all k (part_names shard.index.number shard.number (entry_of e)) (omega (arith, past, length-names shard e some))
