use Rattle.esr_root.specs.RootTexts.{root_from-root_text}
use Rattle.esr_root.proofs.write.roots_read_back.Goals as goal

pub returns : goal.returns
returns c = root_from-root_text
