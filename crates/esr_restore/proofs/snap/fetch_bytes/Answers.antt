use Rattle.std.proofs.Common.{ℕ, Bool}
use Rattle.esr_model.specs.Names.{ShardSnap}
use Rattle.esr_desk.specs.Evidence.{evidence}
use Rattle.esr_desk.specs.Own.{reader_of}
use Rattle.esr_desk.specs.Outcome.{fetch_reply}
use Rattle.esr_desk.specs.Start.{told_bytes}
use Rattle.esr_desk.specs.Made.{read_once}
use Rattle.esr_unit.specs.Refusals.{passed_on}
use Rattle.esr_restore.specs.Trouble.{IsTrouble}
use Rattle.esr_restore.proofs.Going.{read_went, left_went, went_at}
use Rattle.esr_restore.proofs.Reading.{snap_name, can_snap, was_absent, was_fetched, read_whole}
use Rattle.esr_restore.proofs.Ending.{whole_trouble}
use Rattle.esr_restore.proofs.snap.fetch_bytes.Goals as goal

pub fetch_whole-requires-clause-layout : goal.fetch_whole-requires-clause-layout
fetch_whole-requires-clause-layout g c κs within =
    snap_name c.args.job.at c.args.job.uuid c.requires.few

pub fetch_whole-requires-clause-may : goal.fetch_whole-requires-clause-may
fetch_whole-requires-clause-may g c κs within =
    can_snap g.Q.Desk.start (reader_of g.Q.Desk.start (g.Q.Desk.seen c.args.desk.now) c.args.job.ticket) c.args.job.at.index.number c.args.job.at.number c.args.job.uuid.number c.requires.at

-- ---- it was refused, or failed

pub returns-in_err-bytes-clause-trouble : goal.returns-in_err-bytes-clause-trouble
returns-in_err-bytes-clause-trouble g c =
    let s = g.Q.Desk.start in
    let who = c.args.job.ticket in
    let old = g.Q.Desk.seen c.args.desk.now in
    let new = g.Q.Desk.seen c.fetch_whole.new.desk in
    let name = ShardSnap c.args.job.at.index.number c.args.job.at.number c.args.job.uuid.number in
    let e = evidence g.Q.Stage.Counted.faults g.Q.Fetch.Counted.faults g.Q.Shard.Counted.faults g.Q.Target.Counted.faults g.Q.Shard.Shard.told g.Q.Target.Target.told in
    let trouble = c.in_err-bytes.field-0.0 in
    let went = left_went s old new who name c.fetch_whole.ensures.grew c.in_err-bytes.ensures.left in
    let out = (went_at s old new who c.args.job.at.index.number c.args.job.at.number c.args.job.uuid.number went c.requires.at).out in
    passed_on c.from_residual.result (λ x. (n : ℕ) (sure : Bool) → IsTrouble e n sure s new who x) trouble c.from_residual.ensures.1
    (λ (n : ℕ) (sure : Bool). whole_trouble e c.refusals_are_of_their_steps.ensures s old new who name out n sure trouble c.in_err-bytes.ensures.trouble)

pub returns-in_err-bytes-clause-went : goal.returns-in_err-bytes-clause-went
returns-in_err-bytes-clause-went g c =
    let name = ShardSnap c.args.job.at.index.number c.args.job.at.number c.args.job.uuid.number in
    left_went g.Q.Desk.start (g.Q.Desk.seen c.args.desk.now) (g.Q.Desk.seen c.fetch_whole.new.desk) c.args.job.ticket name c.fetch_whole.ensures.grew c.in_err-bytes.ensures.left

-- ---- it was read

pub returns-in-Some-clause-fetched : goal.returns-in-Some-clause-fetched
returns-in-Some-clause-fetched g c =
    let name = ShardSnap c.args.job.at.index.number c.args.job.at.number c.args.job.uuid.number in
    read_whole c.in_ok-bytes.field-0 c.in-Some.bytes g.Q.Desk.start (g.Q.Desk.seen c.args.desk.now) (g.Q.Desk.seen c.fetch_whole.new.desk) c.args.job.ticket name c.in-Some.is c.in_ok-bytes.ensures.own

pub returns-in-Some-clause-found : goal.returns-in-Some-clause-found
returns-in-Some-clause-found g c =
    let name = ShardSnap c.args.job.at.index.number c.args.job.at.number c.args.job.uuid.number in
    was_fetched c.in_ok-bytes.field-0 c.in-Some.bytes g.Q.Desk.start (g.Q.Desk.seen c.args.desk.now) (g.Q.Desk.seen c.fetch_whole.new.desk) c.args.job.ticket name c.in-Some.is c.in_ok-bytes.ensures.step

pub returns-in-Some-clause-reads : goal.returns-in-Some-clause-reads
returns-in-Some-clause-reads g c =
    let name = ShardSnap c.args.job.at.index.number c.args.job.at.number c.args.job.uuid.number in
    read_once g.Q.Desk.start (g.Q.Desk.seen c.args.desk.now) (g.Q.Desk.seen c.fetch_whole.new.desk) c.args.job.ticket name (fetch_reply c.in_ok-bytes.field-0) c.requires.mine.some c.in_ok-bytes.ensures.step

pub returns-in-Some-clause-went : goal.returns-in-Some-clause-went
returns-in-Some-clause-went g c =
    let name = ShardSnap c.args.job.at.index.number c.args.job.at.number c.args.job.uuid.number in
    read_went (told_bytes g.Q.Desk.start) name c.in_ok-bytes.field-0 g.Q.Desk.start (g.Q.Desk.seen c.args.desk.now) (g.Q.Desk.seen c.fetch_whole.new.desk) c.args.job.ticket c.fetch_whole.ensures.grew c.in_ok-bytes.ensures.own

-- ---- there is none

pub returns-in-None-clause-trouble : goal.returns-in-None-clause-trouble
returns-in-None-clause-trouble g c =
    let name = ShardSnap c.args.job.at.index.number c.args.job.at.number c.args.job.uuid.number in
    λ (n : ℕ) (sure : Bool). was_absent c.in_ok-bytes.field-0 g.Q.Desk.start (g.Q.Desk.seen c.args.desk.now) (g.Q.Desk.seen c.fetch_whole.new.desk) c.args.job.ticket name c.in-None.is c.in_ok-bytes.ensures.step

pub returns-in-None-clause-went : goal.returns-in-None-clause-went
returns-in-None-clause-went g c =
    let name = ShardSnap c.args.job.at.index.number c.args.job.at.number c.args.job.uuid.number in
    read_went (told_bytes g.Q.Desk.start) name c.in_ok-bytes.field-0 g.Q.Desk.start (g.Q.Desk.seen c.args.desk.now) (g.Q.Desk.seen c.fetch_whole.new.desk) c.args.job.ticket c.fetch_whole.ensures.grew c.in_ok-bytes.ensures.own

pub returns-in_err-bytes-clause-calls : goal.returns-in_err-bytes-clause-calls
returns-in_err-bytes-clause-calls g c = c.fetch_whole.ensures.others

pub returns-in-Some-clause-calls : goal.returns-in-Some-clause-calls
returns-in-Some-clause-calls g c = c.fetch_whole.ensures.others

pub returns-in-None-clause-calls : goal.returns-in-None-clause-calls
returns-in-None-clause-calls g c = c.fetch_whole.ensures.others
