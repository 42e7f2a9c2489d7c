use Rattle.std.proofs.Common.{sym, ◌∙◌}
use Rattle.esr_report.specs.Ends.{first_end}
use Rattle.esr_report.proofs.Aborting.{aborts_nothing}
use Rattle.esr_report.proofs.aborts.push_aborts.Goals as goal

pub returns : goal.returns
returns c op = aborts_nothing c.args.before.now c.args.entry.now op (first_end c.args.ends.now.items op) (sym c.asks_delete.ensures ∙ c.if-asks_delete.false)
