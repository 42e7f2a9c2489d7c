use Rattle.std.proofs.Common.{sym, subst}
use Rattle.esr_core.specs.Allowed.{HasTicket}
use Rattle.esr_ops.specs.Units.{IsLowest}
use Rattle.esr_progress.proofs.Cleanups.{lowest_ticket}
use Rattle.esr_progress.proofs.progress.Progress.first_out.Goals as goal

pub returns : goal.returns
returns c w is =
    let s = c.self.inside in
    let lowest = lowest_ticket s.ops.items s.deletes.items s.completed.items s.tickets s.next_op s.restores.items c.args.self.now c.self.view_is c.self.invariant w is in
    subst (IsLowest (HasTicket w)) (sym c.first.ensures) lowest
