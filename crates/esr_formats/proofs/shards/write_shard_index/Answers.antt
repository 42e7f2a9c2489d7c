use Rattle.esr_formats.proofs.ByKind.{IfOk-text}
use Rattle.esr_formats.specs.ReadBack.{shard_index_reads_back}
use Rattle.esr_formats.proofs.ShardTexts.{shard_index_kind-text}
use Rattle.esr_formats.proofs.shards.write_shard_index.Goals as goal

pub returns-clause-text : goal.returns-clause-text
returns-clause-text c = IfOk-text c.shard_index_text.result _ _ (shard_index_kind-text c.args.index.now) c.shard_index_text.ensures.text

pub returns-clause-reads : goal.returns-clause-reads
returns-clause-reads c = shard_index_reads_back c.args.index.now c.files-files.ensures.whole
