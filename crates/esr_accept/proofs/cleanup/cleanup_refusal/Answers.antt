use Rattle.std.proofs.Common.{◌≡◌, Option, sym, subst}
use Rattle.esr_ops.specs.declared.refusal.Refusal.{Refusal}
use Rattle.esr_accept.specs.Asking.{open_cleanup, cleanup_refusal}
use Rattle.esr_progress.specs.Choice.{first_number, lower_of}
use Rattle.esr_accept.specs.Accepting.{IsCleanupRuledOn}
use Rattle.esr_accept.proofs.Cleanups.{ruled}
use Rattle.esr_accept.proofs.cleanup.cleanup_refusal.Goals as goal

pub returns : goal.returns
returns c w is =
    let s = c.lists-list.result in
    let ticket = c.first_out.result in
    let found : c.refusal.result ≡ cleanup_refusal (open_cleanup s.deletes.now) (lower_of (first_number s.ops.now) (first_number s.deletes.now)) ticket =
    c.refusal.ensures in
    subst (λ (o : Option Refusal). IsCleanupRuledOn w o) (sym found)
    (ruled s.ops.now s.deletes.now s.completed.now s.tickets.now s.next_op s.restores.now c.args.progress.now c.lists-list.ensures.view c.lists-list.ensures.valid w is ticket (c.first_out.ensures w is))
