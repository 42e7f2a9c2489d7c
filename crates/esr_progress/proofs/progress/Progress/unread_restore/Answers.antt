use Rattle.std.proofs.Common.{ℕ, List, length, subst}
use Rattle.esr_ops.specs.Plan.{RestorePlan}
use Rattle.esr_progress.specs.Choice.{NoneUnread}
use Rattle.esr_progress.proofs.Unread.{none_is_unread, lowest_restore, unread_in, restore_there}
use Rattle.esr_progress.proofs.progress.Progress.unread_restore.Goals as goal

pub returns-in_default : goal.returns-in_default
returns-in_default c w is =
    none_is_unread c.self.inside.ops.items c.self.inside.deletes.items c.self.inside.completed.items c.self.inside.tickets c.self.inside.next_op c.self.inside.restores.items c.args.self.now c.self.view_is c.self.invariant w is
    (subst (λ (es : List (ℕ × RestorePlan)). NoneUnread es (length es)) c.deref.ensures.value c.in_default.ensures)

pub returns : goal.returns
returns c w is =
    lowest_restore c.self.inside.ops.items c.self.inside.deletes.items c.self.inside.completed.items c.self.inside.tickets
    c.self.inside.next_op c.self.inside.restores.items c.args.self.now c.self.view_is c.self.invariant w is c.in-Some.at c.in-Some._i
    (unread_in c.self.inside.restores.items c.deref.result.now c.deref.ensures.value c.in-Some.at c.in-Some._i c.in-Some.ensures) c.index.result.now
    (restore_there c.self.inside.restores.items c.deref.result.now c.deref.ensures.value c.in-Some.at c.in-Some._i c.in-Some.ensures c.index.result.now c.index.ensures) c.number.result c.number.ensures
