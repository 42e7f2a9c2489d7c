use Rattle.esr_formats.specs.ReadBack.{name_reads_back}
use Rattle.esr_repo.proofs.calls.reads_back.Goals as goal

pub returns : goal.returns
returns c = name_reads_back c.args.name.now c.print_name.ensures.ids c.requires
