use Rattle.std.proofs.Common.{◌≡◌, [], Some, subst}
use Rattle.esr_model.specs.Values.{Bytes}
use Rattle.esr_formats.specs.Shards.{shard_snap_of, shard_snap_kind}
use Rattle.esr_desk.specs.Evidence.{evidence}
use Rattle.esr_desk.specs.Start.{ticket_of}
use Rattle.esr_clone.proofs.Reading.{has_source, unread_shown}
use Rattle.esr_clone.proofs.snap.fetch_snap.Goals as goal

pub returns-in-Ok-clause-read : goal.returns-in-Ok-clause-read
returns-in-Ok-clause-read g c =
    let s = g.Q.Desk.start in
    let who = c.args.ticket in
    let value = shard_snap_of c.in-Ok.snap in
    has_source s (ticket_of s (g.Q.Desk.seen c.args.desk.now) who) (ticket_of s (g.Q.Desk.seen c.fetch_bytes.new.desk) who) c.args.at.index.number c.args.at.number c.args.source.number c.in_ok-bytes.bytes value
    c.in_ok-bytes.ensures.fetched (subst (λ (b : Bytes). shard_snap_kind.read b ≡ Some value) c.as_slice.ensures c.in-Ok.ensures.read)

pub returns-clause-trouble : goal.returns-clause-trouble
returns-clause-trouble g c =
    let e = evidence g.Q.Stage.Counted.faults g.Q.Fetch.Counted.faults g.Q.Shard.Counted.faults g.Q.Target.Counted.faults g.Q.Shard.Shard.told g.Q.Target.Target.told in
    unread_shown e 0 (Some []) g.Q.Desk.start (g.Q.Desk.seen c.args.desk.now) (g.Q.Desk.seen c.fetch_bytes.new.desk) c.args.ticket c.args.at c.args.source c.requires.at c.requires.source
    c.in_ok-bytes.bytes c.as_slice.result.now c.in-Err.refusal c.unread.result c.in_ok-bytes.ensures.fetched c.in_ok-bytes.ensures.found c.as_slice.ensures c.in-Err.ensures.reason c.unread.ensures
