use Rattle.esr_shardidx.proofs.Cuts as cuts
use Rattle.esr_shardidx.proofs.laws.part_names_differ.Goals as goal

pub returns-clause-numbers : goal.returns-clause-numbers
returns-clause-numbers c = cuts.number_told

pub returns-clause-files : goal.returns-clause-files
returns-clause-files c = cuts.file_told

pub returns-clause-layout : goal.returns-clause-layout
returns-clause-layout c = cuts.name_is
