use Rattle.std.proofs.Common.{take}
use Rattle.esr_formats.specs.Shards.{shard_index_of}
use Rattle.esr_reuse.specs.Plans.{IsPlan}
use Rattle.esr_reuse.proofs.reuse.plan.Given as goal

abbrev pub invariant-loop-file : goal.invariant-loop-file
invariant-loop-file l = IsPlan (shard_index_of l.base).files (take l.file-index l.files) l.plans
