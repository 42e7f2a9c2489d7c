use Rattle.std.proofs.Common.{sym, ap, ◌∙◌}
use Rattle.esr_names.specs.declared.ids.Id.{Id}
use Rattle.esr_agreement.specs.AgreementTests.{so, not_so}
use Rattle.esr_agreement.proofs.Loops.{fails, exact_as}
use Rattle.esr_agreement.proofs.infos.is_own.Goals as goal

pub returns-then-not-is_id : goal.returns-then-not-is_id
returns-then-not-is_id c = fails (λ own. not_so c.is_id.result c.is_id.ensures c.if-not-is_id.true (ap (λ (u : Id). u.number) c.uuid_of.ensures ∙ own.0))

pub returns : goal.returns
returns c = exact_as c.is_of.result c.is_of.ensures (λ of. (sym (ap (λ (u : Id). u.number) c.uuid_of.ensures) ∙ so c.is_id.result c.is_id.ensures c.if-not-is_id.false, of)) (λ own. own.1)
