use Rattle.std.proofs.Common.{List, map, sym, subst}
use Rattle.esr_formats.specs.Shards.{shard_index_of}
use Rattle.esr_reach.specs.Held.{HeldShard, held_of, Holds}
use Rattle.esr_reach.proofs.Apart.{AreIndexed, indexed_insert}
use Rattle.esr_reach.specs.NameOrder.{shard_cmp}
use Rattle.esr_reach.proofs.Comparing.{held_insert}
use Rattle.esr_reach.proofs.held.ShardIndices.insert.Goals as goal

pub invariant_of-self-2 : goal.invariant_of-self-2
invariant_of-self-2 c =
    subst AreIndexed (sym c.in_ok-insert.ensures.entries) (indexed_insert shard_cmp c.self.inside.by_shard.entries c.args.shard c.args.index c.self.invariant c.files-files.ensures.whole)

pub returns-clause-ok : goal.returns-clause-ok
returns-clause-ok c =
    subst (λ (old : List HeldShard). Holds old (map held_of c.insert.new.self.entries) c.args.shard.index.number c.args.shard.number (shard_index_of c.args.index)) c.self.view_is
    (held_insert c.args.shard c.args.index c.self.inside.by_shard.entries c.insert.new.self.entries c.in_ok-insert.ensures.updates.0)
