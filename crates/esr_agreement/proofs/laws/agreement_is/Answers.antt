use Rattle.esr_agreement.specs.AgreementTests.{test_holds, holds_test}
use Rattle.esr_agreement.proofs.laws.agreement_is.Goals as goal

pub returns-clause-holds : goal.returns-clause-holds
returns-clause-holds c = test_holds

pub returns-clause-only : goal.returns-clause-only
returns-clause-only c = holds_test
