use Rattle.std.proofs.Common.{refl, sym, ◌∙◌, subst}
use Rattle.std.proofs.lemmas.Result.{on_ok_weaker}
use Rattle.esr_model.specs.Values.{Bytes}
use Rattle.esr_formats.specs.Names.{name_of}
use Rattle.esr_desk.specs.declared.hand.Hand.TheVariants.{Verify}
use Rattle.esr_desk.specs.Evidence.{evidence}
use Rattle.esr_unit.specs.Shown.{Shown}
use Rattle.esr_unit.specs.Refusals.{passed_on}
use Rattle.esr_verify.specs.Went.{Kept}
use Rattle.esr_verify.specs.Done.{Fetched}
use Rattle.esr_verify.proofs.Going.{kept_asked}
use Rattle.esr_verify.proofs.Refusing.{fetch_shown}
use Rattle.esr_verify.proofs.Doing.{can_fetch}
use Rattle.esr_verify.proofs.Judging.{fetched_drawn, left_drawn, absent_so, fetched, judged}
use Rattle.esr_verify.proofs.read.read_test.Goals.{In_ok-bytes, In-Some}
use Rattle.esr_verify.proofs.read.read_test.Goals as goal

pub fetch_whole-requires-clause-may : goal.fetch_whole-requires-clause-may
fetch_whole-requires-clause-may g c κs within =
    (record { alone = c.requires.alone; client = refl }, can_fetch g.Q.Desk.start (g.Q.Desk.seen c.args.desk.now) c.args.id.number (name_of c.args.name) c.requires.drew c.requires.committed c.requires.unremoved c.requires.once)

pub fetch_whole-requires-clause-mine : goal.fetch_whole-requires-clause-mine
fetch_whole-requires-clause-mine g c κs within = refl

pub fetch_whole-requires-clause-new : goal.fetch_whole-requires-clause-new
fetch_whole-requires-clause-new g c κs within = c.requires.new

-- ---- it was refused, or failed

pub returns-in_err-bytes-clause-trouble : goal.returns-in_err-bytes-clause-trouble
returns-in_err-bytes-clause-trouble g c =
    let s = g.Q.Desk.start in
    let old = g.Q.Desk.seen c.args.desk.now in
    let new = g.Q.Desk.seen c.fetch_whole.new.desk in
    let e = evidence g.Q.Stage.Counted.faults g.Q.Fetch.Counted.faults g.Q.Shard.Counted.faults g.Q.Target.Counted.faults g.Q.Shard.Shard.told g.Q.Target.Target.told in
    let failed = c.in_err-bytes in
    passed_on c.from_residual.result (Shown Verify e ⊥ s new 0) failed.field-0.0 c.from_residual.ensures.1
    (fetch_shown e s c.laws.ensures.refuses old new c.args.id.number (name_of c.args.name) failed.field-0.0 c.requires.alone c.requires.drew failed.ensures.trouble (left_drawn s old new (name_of c.args.name) failed.ensures.left))

pub returns-in_err-bytes-clause-kept : goal.returns-in_err-bytes-clause-kept
returns-in_err-bytes-clause-kept g c =
    let s = g.Q.Desk.start in
    let old = g.Q.Desk.seen c.args.desk.now in
    let new = g.Q.Desk.seen c.fetch_whole.new.desk in
    kept_asked c.laws.ensures.deposes s old new c.args.id.number (name_of c.args.name) c.requires.alone c.fetch_whole.ensures.asked c.requires.drew (left_drawn s old new (name_of c.args.name) c.in_err-bytes.ensures.left)

-- ---- it was read

fetch_kept : (g : _) (c : In_ok-bytes g) → Kept g.Q.Desk.start (g.Q.Desk.seen c.args.desk.now) (g.Q.Desk.seen c.fetch_whole.new.desk) c.args.id.number
fetch_kept g c =
    let s = g.Q.Desk.start in
    let old = g.Q.Desk.seen c.args.desk.now in
    let new = g.Q.Desk.seen c.fetch_whole.new.desk in
    kept_asked c.laws.ensures.deposes s old new c.args.id.number (name_of c.args.name) c.requires.alone c.fetch_whole.ensures.asked c.requires.drew
    (fetched_drawn s old new (name_of c.args.name) c.in_ok-bytes.field-0 c.in_ok-bytes.ensures.own)

bytes_fetched : (g : _) (c : In-Some g) → Fetched g.Q.Desk.start (g.Q.Desk.seen c.args.desk.now) (g.Q.Desk.seen c.fetch_whole.new.desk) (name_of c.args.name) c.in-Some.bytes
bytes_fetched g c =
    fetched g.Q.Desk.start (g.Q.Desk.seen c.args.desk.now) (g.Q.Desk.seen c.fetch_whole.new.desk) (name_of c.args.name) c.in_ok-bytes.field-0 c.in-Some.bytes c.in-Some.is c.requires.alone c.in_ok-bytes.ensures.step
    c.in_ok-bytes.ensures.own c.fetch_whole.ensures.made

pub returns-in-Some-clause-read : goal.returns-in-Some-clause-read
returns-in-Some-clause-read g c =
    on_ok_weaker c.judge.result
    (λ same. subst (λ (b : Bytes). Fetched g.Q.Desk.start (g.Q.Desk.seen c.args.desk.now) (g.Q.Desk.seen c.fetch_whole.new.desk) (name_of c.args.name) b)
    (sym c.as_slice.ensures ∙ same) (bytes_fetched g (goal.at.returns-in-Some-clause-read g c).In-Some)) c.judge.ensures.same

pub returns-in-Some-clause-trouble : goal.returns-in-Some-clause-trouble
returns-in-Some-clause-trouble g c =
    judged (evidence g.Q.Stage.Counted.faults g.Q.Fetch.Counted.faults g.Q.Shard.Counted.faults g.Q.Target.Counted.faults g.Q.Shard.Shard.told g.Q.Target.Target.told) g.Q.Desk.start (g.Q.Desk.seen c.args.desk.now)
    (g.Q.Desk.seen c.fetch_whole.new.desk) c.args.id.number c.args.name c.in-Some.bytes (fetch_kept g (goal.at.returns-in-Some-clause-trouble g c).In_ok-bytes).drew c.requires.committed
    (bytes_fetched g (goal.at.returns-in-Some-clause-trouble g c).In-Some) c.as_slice.result.now c.judge.result
    c.as_slice.ensures c.judge.ensures.other

pub returns-in-Some-clause-kept : goal.returns-in-Some-clause-kept
returns-in-Some-clause-kept g c = fetch_kept g (goal.at.returns-in-Some-clause-kept g c).In_ok-bytes

-- ---- there is none

pub returns-in-None-clause-trouble : goal.returns-in-None-clause-trouble
returns-in-None-clause-trouble g c =
    absent_so (evidence g.Q.Stage.Counted.faults g.Q.Fetch.Counted.faults g.Q.Shard.Counted.faults g.Q.Target.Counted.faults g.Q.Shard.Shard.told g.Q.Target.Target.told) g.Q.Desk.start (g.Q.Desk.seen c.args.desk.now)
    (g.Q.Desk.seen c.fetch_whole.new.desk) c.args.id.number c.args.name c.in_ok-bytes.field-0 c.in-None.is c.requires.alone c.requires.drew c.requires.committed c.requires.unremoved c.in_ok-bytes.ensures.step c.in_ok-bytes.ensures.own

pub returns-in-None-clause-kept : goal.returns-in-None-clause-kept
returns-in-None-clause-kept g c = fetch_kept g (goal.at.returns-in-None-clause-kept g c).In_ok-bytes
