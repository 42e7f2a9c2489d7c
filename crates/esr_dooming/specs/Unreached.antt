-- What a cleanup dooms of what it lists, by a set of the names that its root reaches, and what is held of shards after it.
use Rattle.std.specs.Prelude.{◌≡◌, ℕ, ◌==◌, ◌||◌, Bool, true, false, if◌then◌else◌, List, [], ◌∷◌, Option, Some, None}
use Rattle.esr_names.specs.declared.blob.BlobName.{BlobName as CodeName}
use Rattle.esr_depot.specs.declared.listing.Listed.{Listed}
use Rattle.esr_core.specs.After.{is_latest}
use Rattle.esr_model.specs.Names.{BlobName, Root}
use Rattle.esr_model.specs.Values.{Has, ShardFiles}
use Rattle.esr_model.specs.Delete.{PrunedShard, surviving}
use Rattle.esr_formats.specs.Names.{code_name, name_kind}
use Rattle.esr_reach.specs.Held.{HeldShard, held_at}

-- ---- what it lists

-- the name is among those that are reached, or that of `index.latest`
abbrev pub is_spared : (CodeName → Bool) → BlobName → Bool
is_spared has name = is_latest name || has (code_name name)

-- a name of the layout, unless it is spared
abbrev pub name_piece : (CodeName → Bool) → Option BlobName → List BlobName
name_piece has None = []
name_piece has (Some name) = if is_spared has name then [] else name ∷ []

abbrev pub blob_piece : (CodeName → Bool) → Listed → List BlobName
blob_piece has b = name_piece has (name_kind.read b.name)

-- ---- its own root aside

abbrev pub is_root : ℕ → BlobName → Bool
is_root n (Root m) = n == m
is_root n name = false

abbrev pub rest_piece : ℕ → BlobName → List BlobName
rest_piece n name = if is_root n name then [] else name ∷ []

-- ---- what is held of shards after it

-- the shard of an index
abbrev pub place_of : PrunedShard → ℕ × ℕ
place_of p = (p.index, p.number)

-- of each of these shards of which something is left that is held, and of any other what was
pub record Renewed (old new : List HeldShard) (shards : List PrunedShard) (left : List ℕ) : Type 0 where
  pub kept : (p : PrunedShard) (was : ShardFiles) → Has shards p → p.kept ≡ true → held_at old p.index p.number ≡ Some was → held_at new p.index p.number ≡ Some (surviving left was)
  pub others : (index number : ℕ) → ((p : PrunedShard) → Has shards p → p.kept ≡ true → p.index ≡ index → p.number ≡ number → ⊥) → held_at new index number ≡ held_at old index number
