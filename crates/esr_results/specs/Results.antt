-- What a shard's unit reports, as the definitions see it.
use Rattle.esr_results.specs.declared.result.ShardResult.{ShardResult as CodeResult}
use Rattle.esr_model.specs.Values.{ShardResult}

abbrev pub result_of : CodeResult → ShardResult
result_of r = record { index = r.shard.index.number; shard = r.shard.number; generation = r.generation.number; files = r.files; bytes = r.bytes }
