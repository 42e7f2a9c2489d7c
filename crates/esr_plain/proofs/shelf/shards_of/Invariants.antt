use Rattle.std.proofs.Common.{◌≡◌, take}
use Rattle.std.specs.Prelude.{filter}
use Rattle.esr_model.specs.Shelf.{is_of_one}
use Rattle.esr_plain.proofs.shelf.shards_of.Given as goal

abbrev pub invariant-loop-shard : goal.invariant-loop-shard
invariant-loop-shard l = l.kept ≡ filter (is_of_one l.names) (take l.shard-index l.shards)
