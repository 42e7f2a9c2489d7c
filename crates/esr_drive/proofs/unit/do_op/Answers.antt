use Rattle.esr_desk.specs.Start.{ticket_of}
use Rattle.esr_drive.proofs.Readers.{op_over}
use Rattle.esr_drive.proofs.Ended.{took_out, failed_ended, stale_ended}
use Rattle.esr_drive.proofs.unit.do_op.Goals as goal

pub returns-in-Ok-clause-over : goal.returns-in-Ok-clause-over
returns-in-Ok-clause-over g c =
    let s = g.Q.Desk.start in
    let old = g.Q.Desk.seen c.args.desk.now in
    let unit = c.args.unit.now in
    let who = unit.ready.ticket in
    op_over c.laws.ensures s c.requires.tracked c.requires.ops who old (g.Q.Desk.seen c.do_op_unit.new.desk) c.requires.legal c.do_op_unit.ensures.grew
    (took_out unit.ready.work unit.new_root unit.ready.op unit.ready.copy (ticket_of s old who) c.requires.fresh) c.in-Ok.ensures.ended

pub returns-in-Err-Failed-clause-over : goal.returns-in-Err-Failed-clause-over
returns-in-Err-Failed-clause-over g c =
    let s = g.Q.Desk.start in
    let old = g.Q.Desk.seen c.args.desk.now in
    let new = g.Q.Desk.seen c.do_op_unit.new.desk in
    let unit = c.args.unit.now in
    let who = unit.ready.ticket in
    op_over c.laws.ensures s c.requires.tracked c.requires.ops who old new c.requires.legal c.do_op_unit.ensures.grew (took_out unit.ready.work unit.new_root unit.ready.op unit.ready.copy (ticket_of s old who) c.requires.fresh)
    (failed_ended c.in-Err-Failed.field-0 c.in-Err-Failed.field-0-0 (ticket_of s new who) c.in-Err-Failed.field-0-is c.in-Err-Failed.ensures.ended)

pub returns-in-Err-Stale-clause-over : goal.returns-in-Err-Stale-clause-over
returns-in-Err-Stale-clause-over g c =
    let s = g.Q.Desk.start in
    let old = g.Q.Desk.seen c.args.desk.now in
    let new = g.Q.Desk.seen c.do_op_unit.new.desk in
    let unit = c.args.unit.now in
    let who = unit.ready.ticket in
    op_over c.laws.ensures s c.requires.tracked c.requires.ops who old new c.requires.legal c.do_op_unit.ensures.grew (took_out unit.ready.work unit.new_root unit.ready.op unit.ready.copy (ticket_of s old who) c.requires.fresh)
    (stale_ended c.in-Err-Stale.field-0 (ticket_of s new who) c.in-Err-Stale.field-0-is c.in-Err-Stale.ensures.ended)
