use Rattle.esr_shardidx.proofs.Found as found
use Rattle.esr_shardidx.proofs.laws.with_snap_adds.Goals as goal

pub returns-clause-files : goal.returns-clause-files
returns-clause-files c = found.with_snap_of-files

pub returns-clause-kept : goal.returns-clause-kept
returns-clause-kept c = found.with_snap_of-kept
