use Rattle.std.proofs.Common.{[], Some, subst, sym}
use Rattle.esr_desk.specs.declared.entry.Why.{Why}
use Rattle.esr_desk.specs.Evidence.{evidence}
use Rattle.esr_desk.specs.Grew.{grew_by_none}
use Rattle.esr_shardidx.specs.Snapshots.{are_snap_files}
use Rattle.esr_unit.specs.declared.trouble.Trouble.TheVariants.{Found}
use Rattle.esr_upload.specs.Trouble.{Shown}
use Rattle.esr_upload.specs.Runs.{went_none}
use Rattle.esr_upload.specs.Ends.{if_err}
use Rattle.esr_upload.proofs.Ending.{no_files}
use Rattle.esr_upload.proofs.publish.finish.Goals as goal

pub ahead-requires-clause-some : goal.ahead-requires-clause-some
ahead-requires-clause-some g c = (c.requires.ahead (no_files c.new.result (are_snap_files [] c.args.entries) c.new.ensures.exact c.in-None.is)).some

pub ahead-requires-clause-there : goal.ahead-requires-clause-there
ahead-requires-clause-there g c = (c.requires.ahead (no_files c.new.result (are_snap_files [] c.args.entries) c.new.ensures.exact c.in-None.is)).there

pub returns-in-None-clause-trouble : goal.returns-in-None-clause-trouble
returns-in-None-clause-trouble g c =
    let ahead = c.requires.ahead (no_files c.new.result (are_snap_files [] c.args.entries) c.new.ensures.exact c.in-None.is) in
    let found = c.ahead.ensures in
    let e = evidence g.Q.Stage.Counted.faults g.Q.Fetch.Counted.faults g.Q.Shard.Counted.faults g.Q.Target.Counted.faults g.Q.Shard.Shard.told g.Q.Target.Target.told in
    subst (λ (why : Why). Shown e 0 (Some []) g.Q.Desk.start (g.Q.Desk.seen c.args.desk.now) c.args.job.now.ticket (Found why)) (sym found.4) (ahead.shown found.0 found.1 found.2 found.3, tt)

pub returns-in-None-clause-went : goal.returns-in-None-clause-went
returns-in-None-clause-went g c = went_none g.Q.Desk.start (g.Q.Desk.seen c.args.desk.now) c.args.job.now.ticket

pub returns-in-None-clause-grew : goal.returns-in-None-clause-grew
returns-in-None-clause-grew g c = grew_by_none g.Q.Desk.start c.args.job.now.ticket (g.Q.Desk.seen c.args.desk.now)

pub returns-in_err-index-in-Some-clause-went : goal.returns-in_err-index-in-Some-clause-went
returns-in_err-index-in-Some-clause-went g c = if_err c.from_residual.result (went_none g.Q.Desk.start (g.Q.Desk.seen c.args.desk.now) c.args.job.now.ticket)

pub returns-in_err-index-in-Some-clause-grew : goal.returns-in_err-index-in-Some-clause-grew
returns-in_err-index-in-Some-clause-grew g c = grew_by_none g.Q.Desk.start c.args.job.now.ticket (g.Q.Desk.seen c.args.desk.now)
