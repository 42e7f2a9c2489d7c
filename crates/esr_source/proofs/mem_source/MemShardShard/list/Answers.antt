use Rattle.std.proofs.Common.{◌∙◌, sym}
use Rattle.esr_source.proofs.ToldFiles.{told_by}
use Rattle.esr_source.proofs.mem_source.MemShardShard.list.Goals as goal

pub returns-clause-told : goal.returns-clause-told
returns-clause-told c = told_by c.args.self.now.files c.in-Some.listed (sym c.in-Some.is ∙ c.in_ok-listed.ensures)
