use Rattle.std.proofs.Common.{◌≡◌, Some, subst}
use Rattle.esr_model.specs.Values.{Bytes}
use Rattle.esr_formats.specs.Shards.{shard_snap_of, shard_snap_kind}
use Rattle.esr_desk.specs.Evidence.{evidence}
use Rattle.esr_desk.specs.Own.{reader_of}
use Rattle.esr_restore.proofs.Reading.{has_snap, snap_unread}
use Rattle.esr_restore.proofs.snap.fetch_snap.Goals as goal

pub returns-in-Ok-clause-snap : goal.returns-in-Ok-clause-snap
returns-in-Ok-clause-snap g c =
    let s = g.Q.Desk.start in
    let who = c.args.job.ticket in
    let value = shard_snap_of c.in-Ok.snap in
    has_snap s (reader_of s (g.Q.Desk.seen c.args.desk.now) who) (reader_of s (g.Q.Desk.seen c.fetch_bytes.new.desk) who) c.args.job.at.index.number c.args.job.at.number c.args.job.uuid.number c.in_ok-bytes.bytes c.in-Ok.snap
    c.requires.at c.in_ok-bytes.ensures.fetched (subst (λ (b : Bytes). shard_snap_kind.read b ≡ Some value) c.as_slice.ensures c.in-Ok.ensures.read)

pub returns-clause-trouble : goal.returns-clause-trouble
returns-clause-trouble g c =
    let s = g.Q.Desk.start in
    let who = c.args.job.ticket in
    let old = g.Q.Desk.seen c.args.desk.now in
    let new = g.Q.Desk.seen c.fetch_bytes.new.desk in
    snap_unread (evidence g.Q.Stage.Counted.faults g.Q.Fetch.Counted.faults g.Q.Shard.Counted.faults g.Q.Target.Counted.faults g.Q.Shard.Shard.told g.Q.Target.Target.told)
    s old new who c.args.job.at c.args.job.uuid c.in_ok-bytes.bytes c.as_slice.result.now c.requires.at
    c.in_ok-bytes.ensures.fetched c.in_ok-bytes.ensures.found c.as_slice.ensures c.in-Err.refusal c.unread.result c.unread.ensures c.in-Err.ensures.reason
