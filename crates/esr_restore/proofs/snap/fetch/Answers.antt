use Rattle.std.proofs.Common.{ℕ, Bool, ap, ◌∙◌}
use Rattle.esr_formats.specs.Names.{name_of}
use Rattle.esr_core.specs.Entry.{ReadStep, ReadBlob}
use Rattle.esr_desk.specs.Evidence.{evidence}
use Rattle.esr_desk.specs.Own.{Own}
use Rattle.esr_desk.specs.Outcome.{fetch_reply}
use Rattle.esr_desk.specs.Grew.{outcome_grew_by}
use Rattle.esr_desk.specs.Made.{read_once}
use Rattle.esr_unit.specs.declared.trouble.Trouble.TheVariants.{Step}
use Rattle.esr_unit.specs.Refusals.{passed_on}
use Rattle.esr_restore.specs.Trouble.{IsTrouble}
use Rattle.esr_restore.specs.Went.{Went}
use Rattle.esr_restore.proofs.Going.{went_same, read_went}
use Rattle.esr_restore.proofs.Reading.{was_absent, was_fetched, has_come}
use Rattle.esr_restore.proofs.Ending.{fetch_trouble}
use Rattle.esr_restore.proofs.snap.fetch.Goals.{In_ok-fetch}
use Rattle.esr_restore.proofs.snap.fetch.Goals as goal

pub returns-in_err-fetch-clause-trouble : goal.returns-in_err-fetch-clause-trouble
returns-in_err-fetch-clause-trouble g c =
    let s = g.Q.Desk.start in
    let who = c.args.ticket in
    let old = g.Q.Desk.seen c.args.desk.now in
    let new = g.Q.Desk.seen c.fetch.new.self in
    let name = name_of c.args.name in
    let e = evidence g.Q.Stage.Counted.faults g.Q.Fetch.Counted.faults g.Q.Shard.Counted.faults g.Q.Target.Counted.faults g.Q.Shard.Shard.told g.Q.Target.Target.told in
    let refusal = c.in_err-fetch.field-0.0 in
    passed_on c.from_residual.result (λ trouble. (n : ℕ) (sure : Bool) → IsTrouble e n sure s new who trouble) (Step refusal) c.from_residual.ensures.1
    (λ (n : ℕ) (sure : Bool). fetch_trouble e c.refusals_are_of_their_steps.ensures s old new who name (ap (λ (x : Own). x.reader.out) c.in_err-fetch.ensures.kept ∙ c.requires.may.out) n sure refusal c.in_err-fetch.ensures.step)

pub returns-in_err-fetch-clause-went : goal.returns-in_err-fetch-clause-went
returns-in_err-fetch-clause-went g c =
    let s = g.Q.Desk.start in
    let who = c.args.ticket in
    let old = g.Q.Desk.seen c.args.desk.now in
    let new = g.Q.Desk.seen c.fetch.new.self in
    let name = name_of c.args.name in
    went_same s old new who (outcome_grew_by s old new who (ReadStep (ReadBlob name)) fetch_reply c.fetch.result c.fetch.ensures.step) (ap (λ (x : Own). x.reader) c.in_err-fetch.ensures.kept)

pub returns-in_err-fetch-clause-calls : goal.returns-in_err-fetch-clause-calls
returns-in_err-fetch-clause-calls g c =
    c.fetch.ensures.calls

-- ---- it is there, or there is none

fetch_went : (g : _) (c : In_ok-fetch g) → Went g.Q.Desk.start (g.Q.Desk.seen c.args.desk.now) (g.Q.Desk.seen c.fetch.new.self) c.args.ticket
fetch_went g c =
    let s = g.Q.Desk.start in
    let who = c.args.ticket in
    let old = g.Q.Desk.seen c.args.desk.now in
    let new = g.Q.Desk.seen c.fetch.new.self in
    let name = name_of c.args.name in
    read_went g.Q.Fetch.Fetch.left name c.in_ok-fetch.field-0 s old new who (outcome_grew_by s old new who (ReadStep (ReadBlob name)) fetch_reply c.fetch.result c.fetch.ensures.step) c.in_ok-fetch.ensures.own

pub returns-in-Some-clause-came : goal.returns-in-Some-clause-came
returns-in-Some-clause-came g c =
    has_come g.Q.Fetch.Fetch.left g.Q.Fetch.Fetch.is_sure c.in_ok-fetch.field-0 c.in-Some.fetch g.Q.Desk.start (g.Q.Desk.seen c.args.desk.now)
    (g.Q.Desk.seen c.fetch.new.self) c.args.ticket (name_of c.args.name) c.in-Some.is c.in_ok-fetch.ensures.told c.in_ok-fetch.ensures.sure c.in_ok-fetch.ensures.own

pub returns-in-Some-clause-found : goal.returns-in-Some-clause-found
returns-in-Some-clause-found g c =
    was_fetched c.in_ok-fetch.field-0 c.in-Some.fetch g.Q.Desk.start (g.Q.Desk.seen c.args.desk.now) (g.Q.Desk.seen c.fetch.new.self) c.args.ticket (name_of c.args.name) c.in-Some.is c.in_ok-fetch.ensures.step

pub returns-in-Some-clause-reads : goal.returns-in-Some-clause-reads
returns-in-Some-clause-reads g c =
    read_once g.Q.Desk.start (g.Q.Desk.seen c.args.desk.now) (g.Q.Desk.seen c.fetch.new.self) c.args.ticket (name_of c.args.name) (fetch_reply c.in_ok-fetch.field-0) c.requires.mine.some c.in_ok-fetch.ensures.step

pub returns-in-Some-clause-went : goal.returns-in-Some-clause-went
returns-in-Some-clause-went g c = fetch_went g (goal.at.returns-in-Some-clause-went g c).In_ok-fetch

pub returns-in-Some-clause-calls : goal.returns-in-Some-clause-calls
returns-in-Some-clause-calls g c =
    c.fetch.ensures.calls

pub returns-in-None-clause-trouble : goal.returns-in-None-clause-trouble
returns-in-None-clause-trouble g c =
    λ (n : ℕ) (sure : Bool). was_absent c.in_ok-fetch.field-0 g.Q.Desk.start (g.Q.Desk.seen c.args.desk.now) (g.Q.Desk.seen c.fetch.new.self) c.args.ticket (name_of c.args.name) c.in-None.is c.in_ok-fetch.ensures.step

pub returns-in-None-clause-went : goal.returns-in-None-clause-went
returns-in-None-clause-went g c = fetch_went g (goal.at.returns-in-None-clause-went g c).In_ok-fetch

pub returns-in-None-clause-calls : goal.returns-in-None-clause-calls
returns-in-None-clause-calls g c =
    c.fetch.ensures.calls
