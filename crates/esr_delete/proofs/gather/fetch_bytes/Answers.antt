use Rattle.esr_model.specs.Names.{ShardIndex}
use Rattle.esr_desk.specs.declared.hand.Hand.TheVariants as hands
use Rattle.esr_desk.specs.Evidence.{evidence}
use Rattle.esr_desk.specs.Start.{ticket_of}
use Rattle.esr_unit.specs.Shown.{Shown}
use Rattle.esr_unit.specs.Refusals.{passed_on}
use Rattle.esr_delete.specs.Gathered.{HasRead}
use Rattle.esr_delete.proofs.Fetching.{index_laid, left_read, came_read, came_fetched, came_found, was_absent, fetch_shown}
use Rattle.esr_delete.proofs.gather.fetch_bytes.Goals as goal
use Rattle.esr_delete.proofs.gather.fetch_bytes.Goals.{In_err-bytes}

pub fetch_whole-requires-clause-layout : goal.fetch_whole-requires-clause-layout
fetch_whole-requires-clause-layout g c κs within = index_laid c.args.shard c.args.base c.requires.few

-- ---- it wasn't fetched

-- it has read more at most
left_at : (g : _) (c : In_err-bytes g) → HasRead (ticket_of g.Q.Desk.start (g.Q.Desk.seen c.args.desk.now) c.args.ticket) (ticket_of g.Q.Desk.start (g.Q.Desk.seen c.fetch_whole.new.desk) c.args.ticket)
left_at g c =
    left_read g.Q.Desk.start (g.Q.Desk.seen c.args.desk.now) (g.Q.Desk.seen c.fetch_whole.new.desk) c.args.ticket (ShardIndex c.args.shard.index.number c.args.shard.number c.args.base.number) c.in_err-bytes.ensures.left

pub returns-in_err-bytes-clause-trouble : goal.returns-in_err-bytes-clause-trouble
returns-in_err-bytes-clause-trouble g c =
    let s = g.Q.Desk.start in
    let new = g.Q.Desk.seen c.fetch_whole.new.desk in
    let who = c.args.ticket in
    let name = ShardIndex c.args.shard.index.number c.args.shard.number c.args.base.number in
    let e = evidence g.Q.Stage.Counted.faults g.Q.Fetch.Counted.faults g.Q.Shard.Counted.faults g.Q.Target.Counted.faults g.Q.Shard.Shard.told g.Q.Target.Target.told in
    let trouble = c.in_err-bytes.field-0.0 in
    passed_on c.from_residual.result (Shown hands.Delete e ⊥ s new who) trouble c.from_residual.ensures.1
    (fetch_shown e s (g.Q.Desk.seen c.args.desk.now) new who name trouble c.refusals_are_of_their_steps.ensures c.requires.may (left_at g (goal.at.returns-in_err-bytes-clause-trouble g c).In_err-bytes) c.in_err-bytes.ensures.trouble)

pub returns-in_err-bytes-clause-read : goal.returns-in_err-bytes-clause-read
returns-in_err-bytes-clause-read g c = left_at g (goal.at.returns-in_err-bytes-clause-read g c).In_err-bytes

pub returns-in_err-bytes-clause-calls : goal.returns-in_err-bytes-clause-calls
returns-in_err-bytes-clause-calls g c = c.fetch_whole.ensures.others

-- ---- it was there

pub returns-in-Some-clause-fetched : goal.returns-in-Some-clause-fetched
returns-in-Some-clause-fetched g c = came_fetched g.Q.Desk.start (g.Q.Desk.seen c.args.desk.now) (g.Q.Desk.seen c.fetch_whole.new.desk) c.args.ticket
    (ShardIndex c.args.shard.index.number c.args.shard.number c.args.base.number) c.in_ok-bytes.field-0 c.in-Some.bytes c.in-Some.is c.in_ok-bytes.ensures.own

pub returns-in-Some-clause-found : goal.returns-in-Some-clause-found
returns-in-Some-clause-found g c = came_found g.Q.Desk.start (g.Q.Desk.seen c.args.desk.now) (g.Q.Desk.seen c.fetch_whole.new.desk) c.args.ticket
    (ShardIndex c.args.shard.index.number c.args.shard.number c.args.base.number) c.in_ok-bytes.field-0 c.in-Some.bytes c.in-Some.is c.in_ok-bytes.ensures.step

pub returns-in-Some-clause-read : goal.returns-in-Some-clause-read
returns-in-Some-clause-read g c =
    came_read g.Q.Desk.start (g.Q.Desk.seen c.args.desk.now) (g.Q.Desk.seen c.fetch_whole.new.desk) c.args.ticket (ShardIndex c.args.shard.index.number c.args.shard.number c.args.base.number) c.in_ok-bytes.field-0 c.in_ok-bytes.ensures.own

pub returns-in-Some-clause-calls : goal.returns-in-Some-clause-calls
returns-in-Some-clause-calls g c = c.fetch_whole.ensures.others

-- ---- it was absent

pub returns-in-None-clause-trouble : goal.returns-in-None-clause-trouble
returns-in-None-clause-trouble g c =
    was_absent g.Q.Desk.start (g.Q.Desk.seen c.args.desk.now) (g.Q.Desk.seen c.fetch_whole.new.desk) c.args.ticket
    (ShardIndex c.args.shard.index.number c.args.shard.number c.args.base.number) c.in_ok-bytes.field-0 c.in-None.is c.requires.may c.in_ok-bytes.ensures.step c.in_ok-bytes.ensures.own

pub returns-in-None-clause-read : goal.returns-in-None-clause-read
returns-in-None-clause-read g c =
    came_read g.Q.Desk.start (g.Q.Desk.seen c.args.desk.now) (g.Q.Desk.seen c.fetch_whole.new.desk) c.args.ticket (ShardIndex c.args.shard.index.number c.args.shard.number c.args.base.number) c.in_ok-bytes.field-0 c.in_ok-bytes.ensures.own

pub returns-in-None-clause-calls : goal.returns-in-None-clause-calls
returns-in-None-clause-calls g c = c.fetch_whole.ensures.others
