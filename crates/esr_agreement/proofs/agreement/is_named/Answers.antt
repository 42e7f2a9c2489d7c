use Rattle.std.proofs.Common.{sym, ◌∙◌}
use Rattle.esr_agreement.specs.AgreementTests.{same_bytes-is}
use Rattle.esr_agreement.proofs.agreement.is_named.Goals as goal

pub returns : goal.returns
returns c = c.eq.ensures ∙ sym (same_bytes-is c.args.a.now c.args.b.now)
