-- The real texts, with the digest SHA-256, and whatever the sources tell.
use Rattle.std.specs.Prelude.{ℕ, Bool, List, Option}
use Rattle.esr_hash.specs.Prints.{print_of}
use Rattle.esr_model.specs.Values.{Bytes, Formats}
use Rattle.esr_formats.specs.Names.{name_kind}
use Rattle.esr_formats.specs.Roots.{root_kind}
use Rattle.esr_formats.specs.OneEach.{root_one_each}
use Rattle.esr_formats.specs.Infos.{info_kind}
use Rattle.esr_formats.specs.Globals.{global_kind}
use Rattle.esr_formats.specs.IndexMetas.{index_meta_kind}
use Rattle.esr_formats.specs.Shards.{shard_snap_kind, shard_index_kind}
use Rattle.esr_formats.specs.Clusters.{cluster_kind}

-- the parameter, for sources that tell this
unfoldable pub formats : (Bytes → Bytes → ℕ → Bool) → (Bytes → Bytes → ℕ → Option (List (Bytes × Bytes))) → Formats
formats known told =
    record {
      names = name_kind;
      root = root_kind;
      info = info_kind;
      global = global_kind;
      index_meta = index_meta_kind;
      shard_snap = shard_snap_kind;
      shard_index = shard_index_kind;
      cluster = cluster_kind;
      one_each = root_one_each;
      digest = λ bytes. (print_of bytes).sha256;
      known = known;
      told = told;
    }
