use Rattle.std.proofs.Common.{refl}
use Rattle.esr_progress.proofs.Choices.{none_in, ready_in, read_there}
use Rattle.esr_progress.proofs.NextUnits.{nothing, lowest_op}
use Rattle.esr_progress.proofs.progress.Progress.ready_op.Goals as goal

pub returns-in_default : goal.returns-in_default
returns-in_default c w is term_is =
    nothing c.self.inside.ops.items c.self.inside.deletes.items c.self.inside.completed.items c.self.inside.tickets c.self.inside.next_op c.self.inside.restores.items c.args.self.now c.self.view_is c.self.invariant
    w.root w.safe c.args.term w (record { plan = is; root_is = refl; safe_is = refl; term_is = term_is })
    (none_in c.self.inside.ops.items c.deref.result.now c.deref.ensures.value c.self.inside.deletes.items c.deref-2.result.now c.deref-2.ensures.value c.self.inside.completed.items c.deref-3.result.now
    c.deref-3.ensures.value c.self.inside.tickets c.self.inside.tickets refl c.self.inside.restores.items c.deref-4.result.now c.deref-4.ensures.value c.args.term c.in_default.ensures)

pub returns : goal.returns
returns c w is term_is =
    let there = read_there c.self.inside.ops.items c.deref.result.now c.deref.ensures.value c.deref-2.result.now c.deref-3.result.now
    c.self.inside.tickets c.deref-4.result.now c.args.term c.in-Some.at c.in-Some._kind c.in-Some.ensures c.index.result.now c.index.ensures in
    lowest_op c.self.inside.ops.items c.self.inside.deletes.items c.self.inside.completed.items c.self.inside.tickets c.self.inside.next_op c.self.inside.restores.items c.args.self.now c.self.view_is c.self.invariant
    w.root w.safe c.args.term w (record { plan = is; root_is = refl; safe_is = refl; term_is = term_is }) c.in-Some.at c.in-Some._kind
    (ready_in c.self.inside.ops.items c.deref.result.now c.deref.ensures.value c.self.inside.deletes.items c.deref-2.result.now c.deref-2.ensures.value c.self.inside.completed.items c.deref-3.result.now
    c.deref-3.ensures.value c.self.inside.tickets c.self.inside.tickets refl c.self.inside.restores.items c.deref-4.result.now c.deref-4.ensures.value c.args.term c.in-Some.at c.in-Some._kind c.in-Some.ensures)
    c.index.result.now there c.number.result c.number.ensures
