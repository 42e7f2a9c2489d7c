use Rattle.esr_core.proofs.Completing.{some_ready}
use Rattle.esr_core.proofs.some_unit_is_ready.Goals as goal

pub returns : goal.returns
returns c = λ f w shelf o l read opened idle. some_ready f w shelf l.lawful read o opened idle
