use Rattle.std.proofs.Common.{◌==◌, if◌then◌else◌, Option, None, option_map, sym, ap, ◌∙◌}
use Rattle.esr_report.specs.declared.tickets.End.{End}
use Rattle.esr_report.specs.Ends.{reply_of_end}
use Rattle.esr_report.proofs.Aborting.{either_none}
use Rattle.esr_report.proofs.aborts.with_op.Goals as goal

pub returns-in_default : goal.returns-in_default
returns-in_default c o = sym (ap (λ (e : Option End). if c.args.op == o then option_map reply_of_end e else None) c.in_default.is ∙ either_none (c.args.op == o))

pub returns : goal.returns
returns c o = sym (ap (λ (e : Option End). if c.args.op == o then option_map reply_of_end e else None) c.in-Some.is)
