use Rattle.esr_quiet.proofs.Rules.{by_rule}
use Rattle.esr_quiet.proofs.law.rules_refuse_where_free.Goals as goal

pub returns : goal.returns
returns c = by_rule
