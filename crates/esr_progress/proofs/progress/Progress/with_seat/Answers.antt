use Rattle.std.proofs.Common.{ℕ, ◌<◌, ◌^◌, ◌∙◌, None, false, ap, sym, subst}
use Rattle.esr_ops.specs.Plan.{Plan, Seat, TicketMaps, seat_of_code}
use Rattle.esr_ops.specs.Inside.{plan_with}
use Rattle.esr_progress.proofs.Takes.{progress_with, plan_seated}
use Rattle.esr_progress.proofs.progress.Progress.with_seat.Goals as goal

pub with_entries-requires : goal.with_entries-requires
with_entries-requires c =
    let s = c.self.inside in
    progress_with s.ops.items c.args.ops.items s.deletes.items c.in_ok-deletes.deletes.items s.completed.items s.tickets s.next_op s.restores.items c.in_ok-restores.restores.items c.args.self.now
    c.self.view_is (c.in_ok-deletes.ensures ∙ c.deref.ensures.value) (c.in_ok-restores.ensures ∙ c.deref-2.ensures.value) c.self.invariant c.requires.numbers

pub give-requires : goal.give-requires
give-requires c = subst (λ (n : ℕ). n < 2 ^ 62) (sym (ap (λ (p : Plan). p.next_ticket) (c.new.view_is ∙ c.in_ok-new.ensures))) c.requires.room

pub returns : goal.returns
returns c =
    let s = c.self.inside in
    let n = c.new.inside in
    let seat : Seat = seat_of_code (record { kind = c.args.kind; clean = c.args.clean; op = c.args.op; term = c.args.term; raised = None; settled = false }) in
    ap (λ (t : TicketMaps). plan_with n.ops.items n.deletes.items n.completed.items t n.next_op n.restores.items) c.in_ok-give.ensures
    ∙ plan_seated s.ops.items c.args.ops.items s.deletes.items c.in_ok-deletes.deletes.items s.completed.items s.tickets s.next_op s.restores.items c.in_ok-restores.restores.items c.args.self.now
    c.self.view_is (c.in_ok-deletes.ensures ∙ c.deref.ensures.value) (c.in_ok-restores.ensures ∙ c.deref-2.ensures.value)
    (plan_with n.ops.items n.deletes.items n.completed.items n.tickets n.next_op n.restores.items) seat (c.new.view_is ∙ c.in_ok-new.ensures)
