use Rattle.esr_core.proofs.Example.{a_snapshot}
use Rattle.esr_core.proofs.a_snapshot_is_legal.Goals as goal

pub returns : goal.returns
returns c = λ f size name moment can. a_snapshot f size name moment can
