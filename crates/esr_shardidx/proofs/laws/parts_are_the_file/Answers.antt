use Rattle.esr_shardidx.proofs.Cuts as cuts
use Rattle.esr_shardidx.proofs.laws.parts_are_the_file.Goals as goal

pub returns-clause-joined : goal.returns-clause-joined
returns-clause-joined c = cuts.joined

pub returns-clause-cut : goal.returns-clause-cut
returns-clause-cut c = cuts.cut

pub returns-clause-counted : goal.returns-clause-counted
returns-clause-counted c = λ size bytes some. cuts.length-parts_of size bytes

pub returns-clause-full : goal.returns-clause-full
returns-clause-full c = cuts.all_full

pub returns-clause-sum : goal.returns-clause-sum
returns-clause-sum c = cuts.whole_len
