use Rattle.std.proofs.Common.{sym, ◌∙◌}
use Rattle.esr_accept.proofs.DeleteRules.{waiting_is}
use Rattle.esr_accept.proofs.delete.waiting_delete.Goals as goal

pub returns : goal.returns
returns c w is term_is =
    let s = c.lists-list.result in
    c.waiting.ensures ∙ sym (waiting_is s.ops.now s.deletes.now s.completed.now s.tickets.now s.next_op s.restores.now c.args.progress.now c.lists-list.ensures.view c.lists-list.ensures.valid w is c.args.term term_is)
