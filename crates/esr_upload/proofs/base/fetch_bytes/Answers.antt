use Rattle.std.proofs.Common.{[], Option, Some, refl, inl, ap, ◌∙◌, subst}
use Rattle.esr_model.specs.Names.{ShardIndex}
use Rattle.esr_model.specs.Values.{Bytes}
use Rattle.esr_core.specs.Entry.{FetchStep, WasFetched, Reply}
use Rattle.esr_desk.specs.declared.hand.Hand.TheVariants as hands
use Rattle.esr_desk.specs.Evidence.{evidence}
use Rattle.esr_desk.specs.Start.{told_bytes}
use Rattle.esr_desk.specs.Own.{Own, own_of}
use Rattle.esr_desk.specs.Hands.{own_fetched}
use Rattle.esr_desk.specs.Outcome.{Stepped, fetch_reply}
use Rattle.esr_desk.specs.Told.{fetch_tells}
use Rattle.esr_unit.specs.Refusals.{stepped_had, passed_on}
use Rattle.esr_upload.specs.Trouble.{Shown}
use Rattle.esr_upload.specs.BaseReads.{fetch_went, left_went, went_work}
use Rattle.esr_upload.proofs.Reading.{index_name, absent_shown}
use Rattle.esr_upload.specs.Ends.{fetch_shown}
use Rattle.esr_upload.proofs.base.fetch_bytes.Goals as goal

pub fetch_whole-requires-clause-layout : goal.fetch_whole-requires-clause-layout
fetch_whole-requires-clause-layout g c κs within = index_name c.args.shard c.args.base c.requires.few

pub fetch_whole-requires-clause-new : goal.fetch_whole-requires-clause-new
fetch_whole-requires-clause-new g c κs within = c.requires.new c.args.base.number

pub fetch_whole-requires-clause-may : goal.fetch_whole-requires-clause-may
fetch_whole-requires-clause-may g c κs within = record {
  out = c.requires.at.out;
  to_fetch = (c.args.shard.index.number, c.args.shard.number, c.requires.at.work, inl (c.args.base.number, c.requires.base, refl));
}

-- ---- it wasn't fetched

pub returns-in_err-bytes-clause-went : goal.returns-in_err-bytes-clause-went
returns-in_err-bytes-clause-went g c =
    left_went g.Q.Desk.start (g.Q.Desk.seen c.args.desk.now) (g.Q.Desk.seen c.fetch_whole.new.desk) c.args.ticket (ShardIndex c.args.shard.index.number c.args.shard.number c.args.base.number) c.fetch_whole.ensures.grew
    c.in_err-bytes.ensures.left

pub returns-in_err-bytes-clause-trouble : goal.returns-in_err-bytes-clause-trouble
returns-in_err-bytes-clause-trouble g c =
    let s = g.Q.Desk.start in
    let old = g.Q.Desk.seen c.args.desk.now in
    let new = g.Q.Desk.seen c.fetch_whole.new.desk in
    let who = c.args.ticket in
    let e = evidence g.Q.Stage.Counted.faults g.Q.Fetch.Counted.faults g.Q.Shard.Counted.faults g.Q.Target.Counted.faults g.Q.Shard.Shard.told g.Q.Target.Target.told in
    let i = c.args.shard.index.number in
    let k = c.args.shard.number in
    let name = ShardIndex i k c.args.base.number in
    let trouble = c.in_err-bytes.field-0.0 in
    let went = left_went s old new who name c.fetch_whole.ensures.grew c.in_err-bytes.ensures.left in
    passed_on c.from_residual.result (Shown e 0 (Some []) s new who) trouble c.from_residual.ensures.1
    (fetch_shown e 0 (Some []) s old new who i k (went_work s old new who i k went c.requires.at) (FetchStep name) trouble c.refusals_are_of_their_steps.ensures tt (λ swap. swap) c.in_err-bytes.ensures.trouble)

pub returns-in_err-bytes-clause-calls : goal.returns-in_err-bytes-clause-calls
returns-in_err-bytes-clause-calls g c = c.fetch_whole.ensures.others

-- ---- it was absent

pub returns-in-None-clause-trouble : goal.returns-in-None-clause-trouble
returns-in-None-clause-trouble g c =
    let e = evidence g.Q.Stage.Counted.faults g.Q.Fetch.Counted.faults g.Q.Shard.Counted.faults g.Q.Target.Counted.faults g.Q.Shard.Shard.told g.Q.Target.Target.told in
    absent_shown e 0 (Some []) g.Q.Desk.start (g.Q.Desk.seen c.args.desk.now) (g.Q.Desk.seen c.fetch_whole.new.desk) c.args.ticket c.args.shard c.args.base c.requires.at c.requires.base
    c.in_ok-bytes.field-0 c.in-None.is c.in_ok-bytes.ensures.step c.in_ok-bytes.ensures.own

pub returns-in-None-clause-went : goal.returns-in-None-clause-went
returns-in-None-clause-went g c =
    fetch_went g.Q.Desk.start (g.Q.Desk.seen c.args.desk.now) (g.Q.Desk.seen c.fetch_whole.new.desk) c.args.ticket (ShardIndex c.args.shard.index.number c.args.shard.number c.args.base.number) c.in_ok-bytes.field-0
    c.fetch_whole.ensures.grew c.in_ok-bytes.ensures.own

pub returns-in-None-clause-calls : goal.returns-in-None-clause-calls
returns-in-None-clause-calls g c = c.fetch_whole.ensures.others

-- ---- it was there

pub returns-in-Some-clause-fetched : goal.returns-in-Some-clause-fetched
returns-in-Some-clause-fetched g c =
    let s = g.Q.Desk.start in
    let old = own_of s (g.Q.Desk.seen c.args.desk.now) c.args.ticket in
    let name = ShardIndex c.args.shard.index.number c.args.shard.number c.args.base.number in
    ap (λ (o : Own). o.ticket) (c.in_ok-bytes.ensures.own ∙ ap (λ (o : Option Bytes). own_fetched hands.Unit (told_bytes s) name o old) c.in-Some.is)

pub returns-in-Some-clause-found : goal.returns-in-Some-clause-found
returns-in-Some-clause-found g c =
    let s = g.Q.Desk.start in
    let old = g.Q.Desk.seen c.args.desk.now in
    let new = g.Q.Desk.seen c.fetch_whole.new.desk in
    let step = FetchStep (ShardIndex c.args.shard.index.number c.args.shard.number c.args.base.number) in
    stepped_had s old new c.args.ticket step WasFetched (subst (λ (reply : Reply). Stepped s old new c.args.ticket step reply) (ap fetch_reply c.in-Some.is) c.in_ok-bytes.ensures.step)

pub returns-in-Some-clause-went : goal.returns-in-Some-clause-went
returns-in-Some-clause-went g c =
    fetch_went g.Q.Desk.start (g.Q.Desk.seen c.args.desk.now) (g.Q.Desk.seen c.fetch_whole.new.desk) c.args.ticket (ShardIndex c.args.shard.index.number c.args.shard.number c.args.base.number) c.in_ok-bytes.field-0
    c.fetch_whole.ensures.grew c.in_ok-bytes.ensures.own

pub returns-in-Some-clause-tells : goal.returns-in-Some-clause-tells
returns-in-Some-clause-tells g c =
    let s = g.Q.Desk.start in
    let name = ShardIndex c.args.shard.index.number c.args.shard.number c.args.base.number in
    fetch_tells s (g.Q.Desk.seen c.args.desk.now) (g.Q.Desk.seen c.fetch_whole.new.desk) c.args.ticket name (told_bytes s) c.in_ok-bytes.field-0 c.requires.mine.some c.requires.tells c.in_ok-bytes.ensures.step
    (ap (λ (o : Own). o.ticket) c.in_ok-bytes.ensures.own)

pub returns-in-Some-clause-calls : goal.returns-in-Some-clause-calls
returns-in-Some-clause-calls g c = c.fetch_whole.ensures.others
