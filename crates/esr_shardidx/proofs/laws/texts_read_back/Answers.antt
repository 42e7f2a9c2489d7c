use Rattle.esr_shardidx.specs.RoundTrip.{snap_reads_back, index_reads_back}
use Rattle.esr_shardidx.proofs.laws.texts_read_back.Goals as goal

pub returns-clause-snap : goal.returns-clause-snap
returns-clause-snap c = snap_reads_back

pub returns-clause-index : goal.returns-clause-index
returns-clause-index c = index_reads_back
