use Rattle.esr_root.specs.ReadRoots.{root_is}
use Rattle.esr_root.proofs.read.read_roots_keep_the_rules.Goals as goal

pub returns : goal.returns
returns c = root_is
