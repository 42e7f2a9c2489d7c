use Rattle.std.proofs.Common.{List, option_map, sym, ap, ◌∙◌}
use Rattle.esr_formats.specs.Shards.{shard_index_of}
use Rattle.esr_reach.specs.Held.{HeldShard, held_at}
use Rattle.esr_reach.proofs.Comparing.{held_lookup}
use Rattle.esr_reach.proofs.held.ShardIndices.get.Goals as goal

pub returns : goal.returns
returns c =
    ap (option_map shard_index_of) c.get.ensures.value ∙ sym (held_lookup c.args.shard c.self.inside.by_shard.entries)
    ∙ ap (λ (h : List HeldShard). held_at h c.args.shard.index.number c.args.shard.number) c.self.view_is
