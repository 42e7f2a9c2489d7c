use Rattle.std.proofs.Common.{List, length, sym, ap, ◌∙◌}
use Rattle.esr_shardidx.specs.declared.entry.FileEntry.{FileEntry as CodeEntry}
use Rattle.esr_shardidx.specs.Snapshots.{SnapValue}
use Rattle.esr_desk.specs.Start.{ticket_of}
use Rattle.esr_desk.specs.Grew.{grew_by_none}
use Rattle.esr_upload.specs.Runs.{went_none}
use Rattle.esr_upload.specs.Ends.{if_err}
use Rattle.esr_upload.specs.BaseReads.{none_below}
use Rattle.esr_clone.specs.Copied.{sum_entries}
use Rattle.esr_clone.proofs.Copying.{ready, drew_first}
use Rattle.esr_clone.proofs.copy.copy.Goals as goal

pub returns-in_err-index-clause-went : goal.returns-in_err-index-clause-went
returns-in_err-index-clause-went g c = if_err c.from_residual.result (went_none g.Q.Desk.start (g.Q.Desk.seen c.args.desk.now) c.args.job.ticket)

pub returns-in_err-index-clause-grew : goal.returns-in_err-index-clause-grew
returns-in_err-index-clause-grew g c = grew_by_none g.Q.Desk.start c.args.job.ticket (g.Q.Desk.seen c.args.desk.now)

pub end_shard-requires-clause-work : goal.end_shard-requires-clause-work
end_shard-requires-clause-work g c κs within = c.requires.read.at

pub end_shard-requires-clause-uuid : goal.end_shard-requires-clause-uuid
end_shard-requires-clause-uuid g c κs within = c.requires.read.uuid_is ∙ ap (λ (v : SnapValue). v.uuid.number) (sym c.under-own.ensures)

pub end_shard-requires-clause-drew : goal.end_shard-requires-clause-drew
end_shard-requires-clause-drew g c κs within =
    let s = g.Q.Desk.start in
    drew_first s c.args.job.at c.args.job.uuid c.args.base.now c.args.snap c.args.first (ticket_of s (g.Q.Desk.seen c.args.desk.now) c.args.job.ticket) c.requires.read

pub end_shard-requires-clause-files : goal.end_shard-requires-clause-files
end_shard-requires-clause-files g c κs within = none_below (ticket_of g.Q.Desk.start (g.Q.Desk.seen c.args.desk.now) c.args.job.ticket) c.args.first.number c.requires.read.unnoted

pub end_shard-requires-clause-ready : goal.end_shard-requires-clause-ready
end_shard-requires-clause-ready g c κs within =
    let s = g.Q.Desk.start in
    ready s c.args.job.at c.args.job.uuid c.args.base.now c.args.snap c.args.first (ticket_of s (g.Q.Desk.seen c.args.desk.now) c.args.job.ticket) c.requires.read
    c.under-own.result c.in_ok-index.index (length c.files-files.result.now) c.sum_of.result c.under-own.ensures c.in_ok-index.ensures
    (ap (λ (es : List CodeEntry). length es) c.files-files.ensures.files) (c.sum_of.ensures ∙ ap sum_entries c.files-files.ensures.files)
