use Rattle.std.proofs.Common.{[], Some, ap}
use Rattle.esr_model.specs.Names.{ShardSnap}
use Rattle.esr_core.specs.Entry.{FetchStep}
use Rattle.esr_desk.specs.Evidence.{evidence}
use Rattle.esr_desk.specs.Start.{ticket_of, told_bytes}
use Rattle.esr_desk.specs.Own.{Own}
use Rattle.esr_desk.specs.Made.{none_fresh}
use Rattle.esr_desk.specs.Told.{none_tells, fetch_tells}
use Rattle.esr_unit.specs.Refusals.{passed_on}
use Rattle.esr_upload.specs.Trouble.{Shown}
use Rattle.esr_upload.specs.Worked.{Went}
use Rattle.esr_upload.specs.BaseReads.{fetch_went, left_went, went_work}
use Rattle.esr_upload.specs.Ends.{fetch_shown}
use Rattle.esr_clone.proofs.Reading.{snap_name, to_fetch, index_new, came_fetched, came_found, absent_shown}
use Rattle.esr_clone.proofs.snap.fetch_bytes.Goals as goal
use Rattle.esr_clone.proofs.snap.fetch_bytes.Goals.{In_err-bytes}

pub fetch_whole-requires-clause-layout : goal.fetch_whole-requires-clause-layout
fetch_whole-requires-clause-layout g c κs within = snap_name c.args.at c.args.source c.requires.few

pub fetch_whole-requires-clause-may : goal.fetch_whole-requires-clause-may
fetch_whole-requires-clause-may g c κs within = record {
  out = c.requires.at.out;
  to_fetch = to_fetch (ticket_of g.Q.Desk.start (g.Q.Desk.seen c.args.desk.now) c.args.ticket) c.args.at.index.number c.args.at.number c.args.source.number c.requires.at c.requires.source;
}

pub fetch_whole-requires-clause-new : goal.fetch_whole-requires-clause-new
fetch_whole-requires-clause-new g c κs within = none_fresh g.Q.Desk.start (g.Q.Desk.seen c.args.desk.now) c.args.ticket (FetchStep (ShardSnap c.args.at.index.number c.args.at.number c.args.source.number)) c.requires.new

-- ---- it wasn't fetched

-- how far it went then
left_at : (g : _) (c : In_err-bytes g) → Went g.Q.Desk.start (g.Q.Desk.seen c.args.desk.now) (g.Q.Desk.seen c.fetch_whole.new.desk) c.args.ticket
left_at g c =
    left_went g.Q.Desk.start (g.Q.Desk.seen c.args.desk.now) (g.Q.Desk.seen c.fetch_whole.new.desk) c.args.ticket (ShardSnap c.args.at.index.number c.args.at.number c.args.source.number) c.fetch_whole.ensures.grew c.in_err-bytes.ensures.left

pub returns-in_err-bytes-clause-went : goal.returns-in_err-bytes-clause-went
returns-in_err-bytes-clause-went g c = left_at g (goal.at.returns-in_err-bytes-clause-went g c).In_err-bytes

pub returns-in_err-bytes-clause-trouble : goal.returns-in_err-bytes-clause-trouble
returns-in_err-bytes-clause-trouble g c =
    let s = g.Q.Desk.start in
    let new = g.Q.Desk.seen c.fetch_whole.new.desk in
    let who = c.args.ticket in
    let e = evidence g.Q.Stage.Counted.faults g.Q.Fetch.Counted.faults g.Q.Shard.Counted.faults g.Q.Target.Counted.faults g.Q.Shard.Shard.told g.Q.Target.Target.told in
    let i = c.args.at.index.number in
    let k = c.args.at.number in
    let trouble = c.in_err-bytes.field-0.0 in
    let went = left_at g (goal.at.returns-in_err-bytes-clause-trouble g c).In_err-bytes in
    passed_on c.from_residual.result (Shown e 0 (Some []) s new who) trouble c.from_residual.ensures.1
    (fetch_shown e 0 (Some []) s (g.Q.Desk.seen c.args.desk.now) new who i k (went_work s (g.Q.Desk.seen c.args.desk.now) new who i k went c.requires.at)
    (FetchStep (ShardSnap i k c.args.source.number)) trouble c.refusals_are_of_their_steps.ensures tt (λ swap. swap) c.in_err-bytes.ensures.trouble)

pub returns-in_err-bytes-clause-calls : goal.returns-in_err-bytes-clause-calls
returns-in_err-bytes-clause-calls g c = c.fetch_whole.ensures.others

-- ---- it was absent

pub returns-in-None-clause-trouble : goal.returns-in-None-clause-trouble
returns-in-None-clause-trouble g c =
    let e = evidence g.Q.Stage.Counted.faults g.Q.Fetch.Counted.faults g.Q.Shard.Counted.faults g.Q.Target.Counted.faults g.Q.Shard.Shard.told g.Q.Target.Target.told in
    absent_shown e 0 (Some []) g.Q.Desk.start (g.Q.Desk.seen c.args.desk.now) (g.Q.Desk.seen c.fetch_whole.new.desk) c.args.ticket c.args.at c.args.source c.requires.at c.requires.source
    c.in_ok-bytes.field-0 c.in-None.is c.in_ok-bytes.ensures.step c.in_ok-bytes.ensures.own

pub returns-in-None-clause-went : goal.returns-in-None-clause-went
returns-in-None-clause-went g c =
    fetch_went g.Q.Desk.start (g.Q.Desk.seen c.args.desk.now) (g.Q.Desk.seen c.fetch_whole.new.desk) c.args.ticket
    (ShardSnap c.args.at.index.number c.args.at.number c.args.source.number) c.in_ok-bytes.field-0 c.fetch_whole.ensures.grew c.in_ok-bytes.ensures.own

pub returns-in-None-clause-calls : goal.returns-in-None-clause-calls
returns-in-None-clause-calls g c = c.fetch_whole.ensures.others

-- ---- it was there

pub returns-in-Some-clause-fetched : goal.returns-in-Some-clause-fetched
returns-in-Some-clause-fetched g c = came_fetched g.Q.Desk.start (g.Q.Desk.seen c.args.desk.now) (g.Q.Desk.seen c.fetch_whole.new.desk) c.args.ticket
    (ShardSnap c.args.at.index.number c.args.at.number c.args.source.number) c.in_ok-bytes.field-0 c.in-Some.bytes c.in-Some.is c.in_ok-bytes.ensures.own

pub returns-in-Some-clause-found : goal.returns-in-Some-clause-found
returns-in-Some-clause-found g c = came_found g.Q.Desk.start (g.Q.Desk.seen c.args.desk.now) (g.Q.Desk.seen c.fetch_whole.new.desk) c.args.ticket
    (ShardSnap c.args.at.index.number c.args.at.number c.args.source.number) c.in_ok-bytes.field-0 c.in-Some.bytes c.in-Some.is c.in_ok-bytes.ensures.step

pub returns-in-Some-clause-unread : goal.returns-in-Some-clause-unread
returns-in-Some-clause-unread g c =
    λ generation.
    index_new g.Q.Desk.start (g.Q.Desk.seen c.args.desk.now) (g.Q.Desk.seen c.fetch_whole.new.desk) c.args.ticket c.args.at.index.number c.args.at.number c.args.source.number generation c.requires.new c.fetch_whole.ensures.made

pub returns-in-Some-clause-went : goal.returns-in-Some-clause-went
returns-in-Some-clause-went g c =
    fetch_went g.Q.Desk.start (g.Q.Desk.seen c.args.desk.now) (g.Q.Desk.seen c.fetch_whole.new.desk) c.args.ticket
    (ShardSnap c.args.at.index.number c.args.at.number c.args.source.number) c.in_ok-bytes.field-0 c.fetch_whole.ensures.grew c.in_ok-bytes.ensures.own

pub returns-in-Some-clause-tells : goal.returns-in-Some-clause-tells
returns-in-Some-clause-tells g c =
    let s = g.Q.Desk.start in
    let old = g.Q.Desk.seen c.args.desk.now in
    fetch_tells s old (g.Q.Desk.seen c.fetch_whole.new.desk) c.args.ticket (ShardSnap c.args.at.index.number c.args.at.number c.args.source.number)
    (told_bytes s) c.in_ok-bytes.field-0 c.requires.mine.some (none_tells s old c.args.ticket c.requires.new) c.in_ok-bytes.ensures.step
    (ap (λ (o : Own). o.ticket) c.in_ok-bytes.ensures.own)

pub returns-in-Some-clause-calls : goal.returns-in-Some-clause-calls
returns-in-Some-clause-calls g c = c.fetch_whole.ensures.others
