use Rattle.esr_run.proofs.Ending.{goes_before, goes_behind}
use Rattle.esr_run.proofs.verdict.exit_unprinted.Goals as goal

pub returns-then-status-gt1 : goal.returns-then-status-gt1
returns-then-status-gt1 c = goes_before c.args.status c.if-status-gt1.true

pub returns-else-status-gt1 : goal.returns-else-status-gt1
returns-else-status-gt1 c = goes_behind c.args.status c.if-status-gt1.false
