use Rattle.esr_verify.specs.Went.{Kept}
use Rattle.esr_desk.specs.declared.hand.Hand.TheVariants.{Verify}
use Rattle.esr_desk.specs.Evidence.{evidence}
use Rattle.esr_unit.specs.declared.trouble.Trouble.TheVariants.{Step}
use Rattle.esr_unit.specs.Shown.{Shown}
use Rattle.esr_unit.specs.Refusals.{passed_on, on_err}
use Rattle.esr_verify.proofs.Going.{further_none, further_on, unverified_on, kept_none, kept_on}
use Rattle.esr_verify.proofs.Refusing.{wanting}
use Rattle.esr_verify.proofs.Naming.{has_master}
use Rattle.esr_verify.proofs.Ending.{ended_all}
use Rattle.esr_verify.proofs.verification.run.Goals as goal

pub returns-in_err-names-clause-trouble : goal.returns-in_err-names-clause-trouble
returns-in_err-names-clause-trouble g c =
    let s = g.Q.Desk.start in
    let log = g.Q.Desk.seen c.args.desk.now in
    let refusal = c.in_err-names.field-0.0 in
    passed_on c.from_residual.result (Shown Verify (evidence g.Q.Stage.Counted.faults g.Q.Fetch.Counted.faults g.Q.Shard.Counted.faults g.Q.Target.Counted.faults g.Q.Shard.Shard.told g.Q.Target.Target.told) ⊥ s log 0) (Step refusal)
    c.from_residual.ensures.1 (wanting (evidence g.Q.Stage.Counted.faults g.Q.Fetch.Counted.faults g.Q.Shard.Counted.faults g.Q.Target.Counted.faults g.Q.Shard.Shard.told g.Q.Target.Target.told) s log refusal c.in_err-names.ensures.wanting)

pub returns-in_err-names-clause-kept : goal.returns-in_err-names-clause-kept
returns-in_err-names-clause-kept g c =
    let s = g.Q.Desk.start in
    let log = g.Q.Desk.seen c.args.desk.now in
    let id = c.args.id.number in
    on_err c.from_residual.result (Kept s log log id) (kept_none s log id c.requires.drew)

pub returns-in_err-names-clause-grew : goal.returns-in_err-names-clause-grew
returns-in_err-names-clause-grew g c = further_none g.Q.Desk.start (g.Q.Desk.seen c.args.desk.now)

pub returns-in_err-write_all-clause-kept : goal.returns-in_err-write_all-clause-kept
returns-in_err-write_all-clause-kept g c =
    on_err c.from_residual-in_err-write_all.result (Kept g.Q.Desk.start (g.Q.Desk.seen c.args.desk.now) (g.Q.Desk.seen c.write_all.new.desk) c.args.id.number) c.write_all.ensures.kept

pub returns-in_err-read_all-clause-kept : goal.returns-in_err-read_all-clause-kept
returns-in_err-read_all-clause-kept g c =
    let s = g.Q.Desk.start in
    let old = g.Q.Desk.seen c.args.desk.now in
    let mid = g.Q.Desk.seen c.write_all.new.desk in
    let new = g.Q.Desk.seen c.read_all.new.desk in
    let id = c.args.id.number in
    on_err c.from_residual-in_err-read_all.result (Kept s old new id) (kept_on s old mid new id c.write_all.ensures.kept.grew c.write_all.ensures.kept.unverified c.read_all.ensures.kept)

pub returns-in_err-read_all-clause-grew : goal.returns-in_err-read_all-clause-grew
returns-in_err-read_all-clause-grew g c =
    further_on g.Q.Desk.start (g.Q.Desk.seen c.args.desk.now) (g.Q.Desk.seen c.write_all.new.desk) (g.Q.Desk.seen c.read_all.new.desk) c.write_all.ensures.kept.grew c.read_all.ensures.kept.grew

pub finish-requires-clause-master : goal.finish-requires-clause-master
finish-requires-clause-master g c κs within = has_master c.args.id.number c.args.workers c.in_ok-names.names c.in_ok-names.ensures.names

pub returns-in_err-finish-clause-trouble : goal.returns-in_err-finish-clause-trouble
returns-in_err-finish-clause-trouble g c =
    let s = g.Q.Desk.start in
    let new = g.Q.Desk.seen c.finish.new.desk in
    let refusal = c.in_err-finish.field-0.0 in
    passed_on c.from_residual-in_err-finish.result (Shown Verify (evidence g.Q.Stage.Counted.faults g.Q.Fetch.Counted.faults g.Q.Shard.Counted.faults g.Q.Target.Counted.faults g.Q.Shard.Shard.told g.Q.Target.Target.told) ⊥ s new 0)
    (Step refusal) c.from_residual-in_err-finish.ensures.1 c.in_err-finish.ensures.refused

pub returns-in_err-finish-clause-kept : goal.returns-in_err-finish-clause-kept
returns-in_err-finish-clause-kept g c =
    let s = g.Q.Desk.start in
    let old = g.Q.Desk.seen c.args.desk.now in
    let first = g.Q.Desk.seen c.write_all.new.desk in
    let mid = g.Q.Desk.seen c.read_all.new.desk in
    let new = g.Q.Desk.seen c.finish.new.desk in
    let id = c.args.id.number in
    let wrote = c.write_all.ensures.kept in
    let read = c.read_all.ensures.kept in
    on_err c.from_residual-in_err-finish.result (Kept s old new id) (kept_on s old mid new id (further_on s old first mid wrote.grew read.grew) (unverified_on old first mid wrote.unverified read.unverified) c.in_err-finish.ensures.kept)

pub returns-in_err-finish-clause-grew : goal.returns-in_err-finish-clause-grew
returns-in_err-finish-clause-grew g c =
    let s = g.Q.Desk.start in
    let old = g.Q.Desk.seen c.args.desk.now in
    let mid = g.Q.Desk.seen c.read_all.new.desk in
    further_on s old mid (g.Q.Desk.seen c.finish.new.desk) (further_on s old (g.Q.Desk.seen c.write_all.new.desk) mid c.write_all.ensures.kept.grew c.read_all.ensures.kept.grew) c.finish.ensures.grew

pub returns-clause-ended : goal.returns-clause-ended
returns-clause-ended g c =
    ended_all g.Q.Desk.start (g.Q.Desk.seen c.args.desk.now) (g.Q.Desk.seen c.write_all.new.desk) (g.Q.Desk.seen c.read_all.new.desk) (g.Q.Desk.seen c.finish.new.desk) c.args.id.number c.args.workers c.in_ok-names.names c.in_ok-names.ensures.names
    c.in_ok-write_all.ensures.went c.in_ok-read_all.ensures.went c.in_ok-finish.ensures.ended

pub returns-clause-grew : goal.returns-clause-grew
returns-clause-grew g c =
    let s = g.Q.Desk.start in
    let old = g.Q.Desk.seen c.args.desk.now in
    let mid = g.Q.Desk.seen c.read_all.new.desk in
    further_on s old mid (g.Q.Desk.seen c.finish.new.desk) (further_on s old (g.Q.Desk.seen c.write_all.new.desk) mid c.write_all.ensures.kept.grew c.read_all.ensures.kept.grew) c.finish.ensures.grew
