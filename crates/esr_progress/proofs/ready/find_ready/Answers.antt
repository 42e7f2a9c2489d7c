use Rattle.std.proofs.Common.{◌∙◌, sym}
use Rattle.esr_progress.proofs.Choices.{ready_here, none_more}
use Rattle.esr_progress.proofs.ready.find_ready.Goals as goal

pub returns-in-Some : goal.returns-in-Some
returns-in-Some c =
    ready_here c.args.ops.now c.args.deletes.now c.args.completed.now c.args.tickets.now c.args.restores.now c.args.term c.loop-at.at
    c.index-ops-at.result c.in-Some.kind c.loop-at-test.true c.index-ops-at.is (sym c.ready_of.ensures ∙ c.in-Some.is) c.loop-at.invariant

pub loop-at-preserved : goal.loop-at-preserved
loop-at-preserved c =
    none_more c.args.ops.now c.args.deletes.now c.args.completed.now c.args.tickets.now c.args.restores.now c.args.term c.loop-at.at
    c.index-ops-at.result c.loop-at-test.true c.index-ops-at.is (sym c.ready_of.ensures ∙ c.in_default.is) c.loop-at.invariant
