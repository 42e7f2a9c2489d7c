use Rattle.std.proofs.Common.{ℕ, ◌<◌, ◌^◌, ◌∙◌, ap, sym, subst}
use Rattle.esr_ops.specs.Plan.{Plan, ReaderSeat, TicketMaps, reader_of_code}
use Rattle.esr_ops.specs.Inside.{plan_with}
use Rattle.esr_progress.proofs.Takes.{progress_read, plan_read}
use Rattle.esr_progress.proofs.progress.Progress.with_reader.Goals as goal

pub with_entries-requires : goal.with_entries-requires
with_entries-requires c =
    let s = c.self.inside in
    progress_read s.ops.items c.in_ok-ops.ops.items s.deletes.items c.in_ok-deletes.deletes.items s.completed.items s.tickets s.next_op s.restores.items c.args.restores.items c.args.self.now
    c.self.view_is (c.in_ok-ops.ensures ∙ c.deref.ensures.value) (c.in_ok-deletes.ensures ∙ c.deref-2.ensures.value) c.self.invariant c.requires.numbers

pub give_reader-requires : goal.give_reader-requires
give_reader-requires c = subst (λ (n : ℕ). n < 2 ^ 62) (sym (ap (λ (p : Plan). p.next_ticket) (c.new.view_is ∙ c.in_ok-new.ensures))) c.requires.room

pub returns : goal.returns
returns c =
    let s = c.self.inside in
    let n = c.new.inside in
    let reader : ReaderSeat = reader_of_code (record { op = c.args.op; shard = c.args.shard }) in
    ap (λ (t : TicketMaps). plan_with n.ops.items n.deletes.items n.completed.items t n.next_op n.restores.items) c.in_ok-give_reader.ensures
    ∙ plan_read s.ops.items c.in_ok-ops.ops.items s.deletes.items c.in_ok-deletes.deletes.items s.completed.items s.tickets s.next_op s.restores.items c.args.restores.items c.args.self.now
    c.self.view_is (c.in_ok-ops.ensures ∙ c.deref.ensures.value) (c.in_ok-deletes.ensures ∙ c.deref-2.ensures.value)
    (plan_with n.ops.items n.deletes.items n.completed.items n.tickets n.next_op n.restores.items) reader (c.new.view_is ∙ c.in_ok-new.ensures)
