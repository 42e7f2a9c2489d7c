use Rattle.esr_report.specs.Ends.{first_end}
use Rattle.esr_report.proofs.Aborting.{aborts_unread, abort_read, aborts_read}
use Rattle.esr_report.proofs.aborts.push_aborted.Goals as goal

pub loop-accepted-init : goal.loop-accepted-init
loop-accepted-init c op = aborts_unread c.args.before.now c.args.entry.now op (first_end c.args.ends.now.items op)

pub loop-accepted-preserved : goal.loop-accepted-preserved
loop-accepted-preserved c =
    abort_read c.args.before.now c.args.entry.now c.args.ends.now.items c.loop-accepted.ends.items c.as_slice.result.now c.keep.new.ends.items c.loop-accepted.accepted-index c.accepted-item.result c.aborted-end.result
    c.loop-accepted-test.true c.accepted-item.is c.as_slice.ensures.value c.aborted-end.ensures c.in_ok-keep.ensures c.loop-accepted.invariant

pub returns : goal.returns
returns c = aborts_read c.args.before.now c.args.entry.now c.args.ends.now.items c.loop-accepted.ends.items c.loop-accepted.accepted-index c.loop-accepted-test.false c.loop-accepted.invariant
