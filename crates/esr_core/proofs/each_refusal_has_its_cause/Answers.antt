use Rattle.esr_core.proofs.Causes.{refusal_cause}
use Rattle.esr_core.proofs.each_refusal_has_its_cause.Goals as goal

pub returns : goal.returns
returns c = refusal_cause
