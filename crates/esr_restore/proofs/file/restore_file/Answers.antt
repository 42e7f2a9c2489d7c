use Rattle.std.proofs.Common.{◌≡◌, ◌∙◌, ap}
use Rattle.esr_source.specs.Told.{TargetTold}
use Rattle.esr_desk.specs.Evidence.{evidence}
use Rattle.esr_desk.specs.Own.{reader_of}
use Rattle.esr_unit.specs.Refusals.{passed_on, on_err}
use Rattle.esr_restore.specs.Trouble.{IsTrouble}
use Rattle.esr_restore.proofs.Going.{went_none, went_at}
use Rattle.esr_restore.proofs.Reading.{listed_more}
use Rattle.esr_restore.proofs.Standing.{judged_so, judged_well, restored_file}
use Rattle.esr_restore.proofs.Ending.{start_trouble}
use Rattle.esr_restore.proofs.file.restore_file.Goals as goal

pub returns-in_err-begin_file-clause-went : goal.returns-in_err-begin_file-clause-went
returns-in_err-begin_file-clause-went g c = went_none g.Q.Desk.start (g.Q.Desk.seen c.args.desk.now) c.args.job.ticket

pub returns-in_err-begin_file-clause-trouble : goal.returns-in_err-begin_file-clause-trouble
returns-in_err-begin_file-clause-trouble g c =
    let s = g.Q.Desk.start in
    let log = g.Q.Desk.seen c.args.desk.now in
    let e = evidence g.Q.Stage.Counted.faults g.Q.Fetch.Counted.faults g.Q.Shard.Counted.faults g.Q.Target.Counted.faults g.Q.Shard.Shard.told g.Q.Target.Target.told in
    let target = c.begin_file.new.target in
    let count = g.Q.Target.Counted.faults target in
    let sure = (g.Q.Target.Target.told target).is_sure in
    passed_on c.from_residual.result (IsTrouble e count sure s log c.args.job.ticket) c.in_err-begin_file.field-0.0 c.from_residual.ensures.1
    (start_trouble e count sure s log c.args.job.ticket c.in_err-begin_file.field-0.0 c.in_err-begin_file.ensures.trouble)

pub returns-in-Some-clause-trouble : goal.returns-in-Some-clause-trouble
returns-in-Some-clause-trouble g c =
    let s = g.Q.Desk.start in
    let who = c.args.job.ticket in
    let old = g.Q.Desk.seen c.args.desk.now in
    let new = g.Q.Desk.seen c.read_parts.new.desk in
    let done = c.in_ok-is_exact.ensures in
    judged_so (evidence g.Q.Stage.Counted.faults g.Q.Fetch.Counted.faults g.Q.Shard.Counted.faults g.Q.Target.Counted.faults g.Q.Shard.Shard.told g.Q.Target.Target.told) s new who c.read_parts.new.hasher
    (g.Q.Target.Target.told c.begin_file.new.target).begun (g.Q.Target.Target.told c.read_parts.new.target).begun c.args.job.at c.args.job.uuid c.args.entry.now c.end.result c.in_ok-is_exact.is_exact
    (went_at s old new who c.args.job.at.index.number c.args.job.at.number c.args.job.uuid.number done.went c.requires.at)
    (listed_more s (reader_of s old who) (reader_of s new who) c.args.entry.now done.went.worked c.requires.listed)
    done.read c.end.ensures.joined c.judge.result c.in-Some.why c.judge.ensures c.in-Some.is

pub returns-in-Ok-clause-restored : goal.returns-in-Ok-clause-restored
returns-in-Ok-clause-restored g c =
    let s = g.Q.Desk.start in
    let who = c.args.job.ticket in
    let e = c.args.entry.now in
    let well = judged_well c.args.job.at c.args.job.uuid e c.end.result c.in_ok-is_exact.is_exact c.judge.result c.judge.ensures c.in_default.is in
    restored_file s (reader_of s (g.Q.Desk.seen c.read_parts.new.desk) who) c.read_parts.new.hasher (g.Q.Target.Target.told c.begin_file.new.target).begun
    (g.Q.Target.Target.told c.read_parts.new.target).begun c.args.job.at e c.end.result c.in_ok-is_exact.is_exact
    (g.Q.Target.Target.told c.args.target.now).files (g.Q.Target.Target.told c.read_parts.new.target).files (g.Q.Target.Target.told c.end-2.new.self).files
    c.in_ok-is_exact.ensures.read c.end.ensures.joined well.0 well.1 c.in_ok-begin_file.ensures.begun (c.read_parts.ensures.files ∙ c.begin_file.ensures.files) (ap (λ (t : TargetTold). t.files) c.in-Ok.ensures.ok)

pub returns-in-Ok-clause-steady : goal.returns-in-Ok-clause-steady
returns-in-Ok-clause-steady g c = c.in-Ok.ensures.steady ∙ c.in_ok-is_exact.ensures.steady ∙ c.in_ok-begin_file.ensures.steady

pub returns-in_err-begin_file-clause-kept : goal.returns-in_err-begin_file-clause-kept
returns-in_err-begin_file-clause-kept g c = on_err c.from_residual.result ((g.Q.Target.Target.told c.begin_file.new.target).files ≡ (g.Q.Target.Target.told c.args.target.now).files) c.begin_file.ensures.files

pub returns-in_err-is_exact-clause-kept : goal.returns-in_err-is_exact-clause-kept
returns-in_err-is_exact-clause-kept g c =
    on_err c.from_residual-in_err-is_exact.result ((g.Q.Target.Target.told c.read_parts.new.target).files ≡ (g.Q.Target.Target.told c.args.target.now).files) (c.read_parts.ensures.files ∙ c.begin_file.ensures.files)

pub returns-in-Some-clause-kept : goal.returns-in-Some-clause-kept
returns-in-Some-clause-kept g c = c.read_parts.ensures.files ∙ c.begin_file.ensures.files

pub returns-in-Err-clause-kept : goal.returns-in-Err-clause-kept
returns-in-Err-clause-kept g c = ap (λ (t : TargetTold). t.files) c.in-Err.ensures.err ∙ c.read_parts.ensures.files ∙ c.begin_file.ensures.files

pub returns-in-Ok-clause-made_for : goal.returns-in-Ok-clause-made_for
returns-in-Ok-clause-made_for g c = ap (λ (t : TargetTold). t.made_for) c.in-Ok.ensures.ok ∙ c.read_parts.ensures.made_for ∙ c.begin_file.ensures.made_for

pub returns-in-Ok-clause-is_sure : goal.returns-in-Ok-clause-is_sure
returns-in-Ok-clause-is_sure g c = ap (λ (t : TargetTold). t.is_sure) c.in-Ok.ensures.ok ∙ c.read_parts.ensures.is_sure ∙ c.begin_file.ensures.is_sure

pub returns-in-Err-clause-made_for : goal.returns-in-Err-clause-made_for
returns-in-Err-clause-made_for g c = ap (λ (t : TargetTold). t.made_for) c.in-Err.ensures.err ∙ c.read_parts.ensures.made_for ∙ c.begin_file.ensures.made_for

pub returns-in-Err-clause-is_sure : goal.returns-in-Err-clause-is_sure
returns-in-Err-clause-is_sure g c = ap (λ (t : TargetTold). t.is_sure) c.in-Err.ensures.err ∙ c.read_parts.ensures.is_sure ∙ c.begin_file.ensures.is_sure

pub returns-in-Ok-clause-begun : goal.returns-in-Ok-clause-begun
returns-in-Ok-clause-begun g c = ap (λ (t : TargetTold). t.begun) c.in-Ok.ensures.ok
