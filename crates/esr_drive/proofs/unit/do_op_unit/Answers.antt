use Rattle.std.proofs.Common.{[], Some}
use Rattle.esr_desk.specs.Evidence.{evidence}
use Rattle.esr_upload.specs.Refused.{told_of}
use Rattle.esr_drive.proofs.Halting.{upload_stopped, master_stopped, delete_stopped}
use Rattle.esr_drive.proofs.Ended.{upload_ended, master_ended, delete_ended}
use Rattle.esr_drive.proofs.unit.do_op_unit.Goals as goal

-- ---- a shard

pub returns-in-Shard-clause-stopped : goal.returns-in-Shard-clause-stopped
returns-in-Shard-clause-stopped g c =
    let unit = c.args.unit.now in
    upload_stopped (evidence g.Q.Stage.Counted.faults g.Q.Fetch.Counted.faults g.S.Shard.Counted.faults g.Q.Target.Counted.faults g.S.Shard.Shard.told g.Q.Target.Target.told)
    g.Q.Desk.start (g.Q.Desk.seen c.args.desk.now) (g.Q.Desk.seen c.run_unit.new.desk) unit.ready.ticket (told_of (g.S.Sources.told c.args.sources.now).files unit.ready.work) c.run_unit.result c.run_unit.ensures.refused

pub returns-in-Shard-clause-ended : goal.returns-in-Shard-clause-ended
returns-in-Shard-clause-ended g c =
    let unit = c.args.unit.now in
    upload_ended (evidence g.Q.Stage.Counted.faults g.Q.Fetch.Counted.faults g.S.Shard.Counted.faults g.Q.Target.Counted.faults g.S.Shard.Shard.told g.Q.Target.Target.told)
    g.Q.Desk.start (g.Q.Desk.seen c.args.desk.now) (g.Q.Desk.seen c.run_unit.new.desk) unit.ready.ticket (told_of (g.S.Sources.told c.args.sources.now).files unit.ready.work) c.run_unit.result c.run_unit.ensures.ok c.run_unit.ensures.refused

-- ---- a clone's shard

pub returns-in-CloneShard-clause-stopped : goal.returns-in-CloneShard-clause-stopped
returns-in-CloneShard-clause-stopped g c =
    let run = c.run_unit-in-CloneShard in
    upload_stopped (evidence g.Q.Stage.Counted.faults g.Q.Fetch.Counted.faults g.S.Shard.Counted.faults g.Q.Target.Counted.faults g.S.Shard.Shard.told g.Q.Target.Target.told)
    g.Q.Desk.start (g.Q.Desk.seen c.args.desk.now) (g.Q.Desk.seen run.new.desk) c.args.unit.now.ready.ticket (Some []) run.result run.ensures.refused

pub returns-in-CloneShard-clause-ended : goal.returns-in-CloneShard-clause-ended
returns-in-CloneShard-clause-ended g c =
    let run = c.run_unit-in-CloneShard in
    upload_ended (evidence g.Q.Stage.Counted.faults g.Q.Fetch.Counted.faults g.S.Shard.Counted.faults g.Q.Target.Counted.faults g.S.Shard.Shard.told g.Q.Target.Target.told)
    g.Q.Desk.start (g.Q.Desk.seen c.args.desk.now) (g.Q.Desk.seen run.new.desk) c.args.unit.now.ready.ticket (Some []) run.result run.ensures.ok run.ensures.refused

-- ---- a finalization

pub returns-in-Finalize-clause-stopped : goal.returns-in-Finalize-clause-stopped
returns-in-Finalize-clause-stopped g c =
    let run = c.run_unit-in-Finalize in
    master_stopped (evidence g.Q.Stage.Counted.faults g.Q.Fetch.Counted.faults g.S.Shard.Counted.faults g.Q.Target.Counted.faults g.S.Shard.Shard.told g.Q.Target.Target.told)
    g.Q.Desk.start (g.Q.Desk.seen c.args.desk.now) (g.Q.Desk.seen run.new.desk) c.args.unit.now.ready.ticket run.result run.ensures.refused

pub returns-in-Finalize-clause-ended : goal.returns-in-Finalize-clause-ended
returns-in-Finalize-clause-ended g c =
    let run = c.run_unit-in-Finalize in
    master_ended (evidence g.Q.Stage.Counted.faults g.Q.Fetch.Counted.faults g.S.Shard.Counted.faults g.Q.Target.Counted.faults g.S.Shard.Shard.told g.Q.Target.Target.told)
    g.Q.Desk.start (g.Q.Desk.seen c.args.desk.now) (g.Q.Desk.seen run.new.desk) c.args.unit.now.ready.ticket run.result run.ensures.ok run.ensures.refused

-- ---- a delete or cleanup

pub returns-in-Delete-clause-stopped : goal.returns-in-Delete-clause-stopped
returns-in-Delete-clause-stopped g c =
    let run = c.run_unit-in-Delete in
    delete_stopped (evidence g.Q.Stage.Counted.faults g.Q.Fetch.Counted.faults g.S.Shard.Counted.faults g.Q.Target.Counted.faults g.S.Shard.Shard.told g.Q.Target.Target.told)
    g.Q.Desk.start (g.Q.Desk.seen c.args.desk.now) (g.Q.Desk.seen run.new.desk) c.args.unit.now.ready.ticket run.result run.ensures.refused

pub returns-in-Delete-clause-ended : goal.returns-in-Delete-clause-ended
returns-in-Delete-clause-ended g c =
    let run = c.run_unit-in-Delete in
    delete_ended (evidence g.Q.Stage.Counted.faults g.Q.Fetch.Counted.faults g.S.Shard.Counted.faults g.Q.Target.Counted.faults g.S.Shard.Shard.told g.Q.Target.Target.told)
    g.Q.Desk.start (g.Q.Desk.seen c.args.desk.now) (g.Q.Desk.seen run.new.desk) c.args.unit.now.ready.ticket run.result run.ensures.ok run.ensures.refused
