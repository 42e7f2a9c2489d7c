use Rattle.std.proofs.Common.{option_map, sym, ◌∙◌}
use Rattle.esr_report.specs.Ends.{reply_of_end}
use Rattle.esr_report.proofs.Aborting.{aborted_none, aborted_ended, aborted_now}
use Rattle.esr_report.proofs.aborts.aborted.Goals as goal

pub returns-in_default : goal.returns-in_default
returns-in_default c op = aborted_none c.args.ends.now c.args.before.now c.args.accepted.now c.args.entry.now op (sym c.accepted_op.ensures ∙ c.in_default.is)

pub returns-then-is_some : goal.returns-then-is_some
returns-then-is_some c op =
    aborted_ended c.args.ends.now c.args.before.now c.args.accepted.now c.args.entry.now c.in-Some.op op c.end_of_op.result (sym c.accepted_op.ensures ∙ c.in-Some.is) c.end_of_op.ensures (sym c.is_some.ensures ∙ c.if-is_some.true)

pub returns : goal.returns
returns c op =
    aborted_now c.args.ends.now c.args.before.now c.args.accepted.now c.args.entry.now c.in-Some.op op c.with_op.result (option_map reply_of_end c.aborts_at.result)
    (sym c.accepted_op.ensures ∙ c.in-Some.is) (c.with_op.ensures op) c.aborts_at.ensures
