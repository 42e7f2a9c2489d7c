use Rattle.std.proofs.Common.{map, take}
use Rattle.esr_formats.specs.Ids.{number_of}
use Rattle.esr_results.specs.Pruned.{pruned_of}
use Rattle.esr_dooming.specs.Unreached.{Renewed}
use Rattle.esr_dooming.proofs.clean.renew.Given as goal

abbrev pub invariant-loop-shard : goal.invariant-loop-shard
invariant-loop-shard l = Renewed l.fn.held l.held (map pruned_of (take l.shard-index l.shards)) (map number_of l.uuids)
