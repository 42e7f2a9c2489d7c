use Rattle.esr_desk.specs.Evidence.{evidence}
use Rattle.esr_desk.specs.Own.{reader_of}
use Rattle.esr_drive.proofs.Halting.{restore_halted}
use Rattle.esr_drive.proofs.Readers.{restore_over}
use Rattle.esr_drive.proofs.Ended.{took_reader, restored_ended, restore_ended, restore_stale}
use Rattle.esr_drive.proofs.unit.do_restore.Goals as goal

pub returns-in-Ok-clause-over : goal.returns-in-Ok-clause-over
returns-in-Ok-clause-over g c =
    let s = g.Q.Desk.start in
    let old = g.Q.Desk.seen c.args.desk.now in
    let new = g.Q.Desk.seen c.run_unit.new.desk in
    let ready = c.args.unit.ready in
    restore_over c.laws.ensures s c.requires.tracked c.requires.ops ready.ticket old new c.requires.legal c.run_unit.ensures.grew
    (took_reader ready.work ready.op (reader_of s old ready.ticket) c.requires.fresh) (restored_ended s old new ready.ticket c.in-Ok.ensures.ok)

pub returns-in-Failed-clause-over : goal.returns-in-Failed-clause-over
returns-in-Failed-clause-over g c =
    let s = g.Q.Desk.start in
    let old = g.Q.Desk.seen c.args.desk.now in
    let new = g.Q.Desk.seen c.run_unit.new.desk in
    let ready = c.args.unit.ready in
    restore_over c.laws.ensures s c.requires.tracked c.requires.ops ready.ticket old new c.requires.legal c.run_unit.ensures.grew (took_reader ready.work ready.op (reader_of s old ready.ticket) c.requires.fresh)
    (restore_ended (evidence g.Q.Stage.Counted.faults g.Q.Fetch.Counted.faults g.Q.Shard.Counted.faults g.Q.Target.Counted.faults g.Q.Shard.Shard.told g.Q.Target.Target.told)
    s old new ready.ticket c.in-Err.left.refusal c.in-Failed.field-0 c.in-Failed.is c.in-Err.ensures.refused)

pub unreachable-requires : goal.unreachable-requires
unreachable-requires g c =
    restore_stale (evidence g.Q.Stage.Counted.faults g.Q.Fetch.Counted.faults g.Q.Shard.Counted.faults g.Q.Target.Counted.faults g.Q.Shard.Shard.told g.Q.Target.Target.told) g.Q.Desk.start
    (g.Q.Desk.seen c.args.desk.now) (g.Q.Desk.seen c.run_unit.new.desk) c.args.unit.ready.ticket
    c.in-Err.left.refusal c.in-Stale.is c.in-Err.ensures.refused

pub returns-clause-stopped : goal.returns-clause-stopped
returns-clause-stopped g c =
    restore_halted (evidence g.Q.Stage.Counted.faults g.Q.Fetch.Counted.faults g.Q.Shard.Counted.faults g.Q.Target.Counted.faults g.Q.Shard.Shard.told g.Q.Target.Target.told) g.Q.Desk.start
    (g.Q.Desk.seen c.args.desk.now) (g.Q.Desk.seen c.run_unit.new.desk) c.args.unit.ready.ticket
    c.in-Err.left.refusal c.in-Stopped.refusal c.in-Stopped.is c.in-Err.ensures.refused
