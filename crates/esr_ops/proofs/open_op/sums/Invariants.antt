use Rattle.std.proofs.Common.{◌≡◌, ◌-◌, ◌^◌, min, take}
use Rattle.std.specs.Prelude.{sum_by}
use Rattle.esr_ops.proofs.open_op.sums.Given as goal

abbrev pub invariant-loop-shard : goal.invariant-loop-shard
invariant-loop-shard l = record {
  files : l.files ≡ min (sum_by (λ r. r.files) (take l.shard-index l.shards)) (2 ^ 64 - 1);
  bytes : l.bytes ≡ min (sum_by (λ r. r.bytes) (take l.shard-index l.shards)) (2 ^ 64 - 1);
}
