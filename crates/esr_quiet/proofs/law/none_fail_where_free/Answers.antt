use Rattle.esr_quiet.proofs.Failures.{none_failed}
use Rattle.esr_quiet.proofs.law.none_fail_where_free.Goals as goal

pub returns : goal.returns
returns c b = λ counts s log faults smooth prefixes shown. none_failed s log smooth prefixes counts faults shown
