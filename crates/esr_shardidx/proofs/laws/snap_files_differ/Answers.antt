use Rattle.std.proofs.Common.{[]}
use Rattle.esr_shardidx.proofs.Added.{snap_repeats}
use Rattle.esr_shardidx.specs.NamesRise.{snap_names_rise}
use Rattle.esr_shardidx.proofs.laws.snap_files_differ.Goals as goal

pub returns-clause-names : goal.returns-clause-names
returns-clause-names c = snap_names_rise

pub returns-clause-ids : goal.returns-clause-ids
returns-clause-ids c = λ s h. snap_repeats [] s.files h.files
