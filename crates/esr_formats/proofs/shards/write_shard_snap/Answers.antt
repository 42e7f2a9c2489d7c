use Rattle.esr_formats.proofs.ByKind.{IfOk-text}
use Rattle.esr_formats.proofs.ShardTexts.{shard_snap_kind-text, shard_snap_reads_back}
use Rattle.esr_formats.proofs.shards.write_shard_snap.Goals as goal

pub returns-clause-text : goal.returns-clause-text
returns-clause-text c = IfOk-text c.shard_snap_text.result _ _ (shard_snap_kind-text c.args.snap.now) c.shard_snap_text.ensures.text

pub returns-clause-reads : goal.returns-clause-reads
returns-clause-reads c = shard_snap_reads_back c.args.snap.now c.files-files.ensures.whole
