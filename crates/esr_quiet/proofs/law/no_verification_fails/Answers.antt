use Rattle.esr_quiet.proofs.Verifications.{none_unverified}
use Rattle.esr_quiet.proofs.law.no_verification_fails.Goals as goal

pub returns : goal.returns
returns c b = λ counts s log faults smooth shown. none_unverified s log smooth (b.each_world_is_free.ensures s log smooth) counts faults shown
