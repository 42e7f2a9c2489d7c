use Rattle.esr_progress.proofs.Reopening.{none_kept}
use Rattle.esr_progress.proofs.reopen.keep.Goals as goal

pub returns-in_default-clause-kept : goal.returns-in_default-clause-kept
returns-in_default-clause-kept c = none_kept c.args.deletes.now.items c.args.work.now c.in_default.not-Delete
