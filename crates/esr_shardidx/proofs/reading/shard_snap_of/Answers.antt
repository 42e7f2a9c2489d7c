use Rattle.std.proofs.Common.{[], sym}
use Rattle.esr_shardidx.proofs.SnapTexts.{snap_files_from-are, id_at-fits}
use Rattle.esr_shardidx.proofs.reading.shard_snap_of.Goals as goal

pub invariant_of-result : goal.invariant_of-result
invariant_of-result c = record {
  files = snap_files_from-are [] _ c.in_ok-files.files tt c.in_ok-files.ensures;
  uuid = id_at-fits _ _ c.in_ok-uuid.uuid (sym c.in_ok-uuid.ensures);
}
