use Rattle.std.proofs.Common.{Bool, [], Err, inl, ap, ◌∙◌, subst, List, refl, ◌≡◌, sym}
use Rattle.std.proofs.lemmas.Bool.{false≢true}
use Rattle.esr_core.specs.Entry.{BeginStep, CommitStep, WasBegun}
use Rattle.esr_formats.specs.Names.{name_of}
use Rattle.esr_parts.specs.Reads.{Copied, is_of_source, is_of_stage}
use Rattle.esr_parts.specs.declared.copy.CopyError.{CopyError}
use Rattle.esr_desk.specs.Calls.{Call, HasTaken}
use Rattle.esr_desk.specs.Refusals.{told_refusal}
use Rattle.esr_desk.specs.Start.{ticket_of}
use Rattle.esr_desk.specs.Outcome.{commit_reply, Stepped}
use Rattle.esr_desk.specs.Grew.{stepped_grew_by, refusing_grew_by}
use Rattle.esr_desk.specs.Evidence.{evidence}
use Rattle.esr_unit.specs.declared.trouble.Trouble.TheVariants.{Step}
use Rattle.esr_upload.specs.Trouble.{Shown}
use Rattle.esr_core.specs.World.{Ticket}
use Rattle.esr_upload.specs.Runs.{went_same}
use Rattle.esr_unit.specs.Objects.{has_risen, is_faulty}
use Rattle.esr_upload.specs.Ends.{step_shown}
use Rattle.esr_upload.proofs.FileParts.{begun_is, stage_holds, can_commit, went_refused, not_there, part_put, part_short, went_put}
use Rattle.esr_names.specs.declared.blob.BlobName.{BlobName as CodeName}
use Rattle.esr_model.specs.Names.{BlobName}
use Rattle.esr_desk.specs.Once.{IsFresh}
use Rattle.esr_desk.specs.Taken.{committed_by}
use Rattle.esr_desk.specs.Told.{begin_fresh, commit_fresh, blob_tells}
use Rattle.esr_unit.specs.Refusals.{passed_on}
use Rattle.esr_upload.proofs.file.put_part.Goals as goal

pub begin-requires-clause-may : goal.begin-requires-clause-may
begin-requires-clause-may g c = inl ([], c.requires.may.may [])

pub returns-in_err-named-clause-trouble : goal.returns-in_err-named-clause-trouble
returns-in_err-named-clause-trouble g c =
    let s = g.Q.Desk.start in
    let old = g.Q.Desk.seen c.args.desk.now in
    let log = g.Q.Desk.seen c.begin.new.self in
    let e = evidence g.Q.Stage.Counted.faults g.Q.Fetch.Counted.faults g.Q.Shard.Counted.faults g.Q.Target.Counted.faults g.Q.Shard.Shard.told g.Q.Target.Target.told in
    let files = (g.S.Shard.told c.args.shard.now).files in
    let n = g.S.Counted.faults c.args.shard.now in
    let may = c.requires.may in
    let same = begun_is s c.args.part.name c.begin.result (ticket_of s old c.args.job.now.ticket) (ticket_of s log c.args.job.now.ticket) may c.begin.ensures.own in
    passed_on c.from_residual.result (Shown e n files s log c.args.job.now.ticket) (Step c.in_err-named.field-0.0) c.from_residual.ensures.1
    (step_shown e n files s old log c.args.job.now.ticket may.index may.number (ap (λ (t : Ticket). t.work) same ∙ may.work)
    (BeginStep (name_of c.args.part.name)) c.in_err-named.field-0.0 c.refusals_are_of_their_steps.ensures tt (λ swap. swap) c.in_err-named.ensures.step)

pub returns-in_err-named-clause-went : goal.returns-in_err-named-clause-went
returns-in_err-named-clause-went g c =
    let s = g.Q.Desk.start in
    let old = g.Q.Desk.seen c.args.desk.now in
    let new = g.Q.Desk.seen c.begin.new.self in
    went_same s old new c.args.job.now.ticket (refusing_grew_by s old new c.args.job.now.ticket (BeginStep (name_of c.args.part.name)) (told_refusal c.in_err-named.field-0.0) c.in_err-named.ensures.step.0)
    (begun_is s c.args.part.name c.begin.result (ticket_of s old c.args.job.now.ticket) (ticket_of s new c.args.job.now.ticket) c.requires.may c.begin.ensures.own)

pub returns-in-Err-Stage-clause-trouble : goal.returns-in-Err-Stage-clause-trouble
returns-in-Err-Stage-clause-trouble g c = (
  is_faulty g.Q.Desk.start (g.Q.Stage.Counted.faults c.in_ok-named.named.stage) (g.Q.Stage.Counted.faults c.copy_part.new.stage) (is_of_stage {T = Bool} (Err c.in-Err-Stage.field-0)) c.in-Err-Stage.ensures.stage
      (λ quiet. c.in-Err-Stage.ensures.sure (c.in_ok-named.ensures.sure quiet))
      (ap (λ (e : CopyError). is_of_stage {T = Bool} (Err e)) c.in-Err-Stage.field-0-is),
  tt,
)

pub returns-in-Err-Source-clause-trouble : goal.returns-in-Err-Source-clause-trouble
returns-in-Err-Source-clause-trouble g c = (
  has_risen (g.S.Counted.faults c.args.shard.now) (g.S.Counted.faults c.copy_part.new.shard) (is_of_source {T = Bool} (Err c.in-Err-Source.field-0)) c.in-Err-Source.ensures.source
      (ap (λ (e : CopyError). is_of_source {T = Bool} (Err e)) c.in-Err-Source.field-0-is),
  tt,
)

pub returns-in-Ok-false-clause-put : goal.returns-in-Ok-false-clause-put
returns-in-Ok-false-clause-put g c =
    let s = g.Q.Desk.start in
    let who = c.args.job.now.ticket in
    let left_old = (g.S.Shard.told c.args.shard.now).left in
    let left_new = (g.S.Shard.told c.copy_part.new.shard).left in
    let before = g.Q.Stage.Stage.contents c.in_ok-named.named.stage in
    let now = g.Q.Stage.Stage.contents c.copy_part.new.stage in
    part_short s left_old left_new before now c.args.hasher.now c.copy_part.new.hasher (ticket_of s (g.Q.Desk.seen c.args.desk.now) who) (ticket_of s (g.Q.Desk.seen c.begin.new.self) who)
    (name_of c.args.part.name) c.args.part.size
    (subst (λ (full : Bool). Copied left_old left_new before now c.args.hasher.now c.copy_part.new.hasher c.args.part.size full) c.in-Ok-false.field-0-test c.in-Ok-false.ensures.copied)

pub returns-in-Ok-false-clause-tells : goal.returns-in-Ok-false-clause-tells
returns-in-Ok-false-clause-tells g c = λ full. absurd (false≢true full)

pub returns-in-Ok-false-clause-went : goal.returns-in-Ok-false-clause-went
returns-in-Ok-false-clause-went g c =
    let s = g.Q.Desk.start in
    let old = g.Q.Desk.seen c.args.desk.now in
    let mid = g.Q.Desk.seen c.begin.new.self in
    went_same s old mid c.args.job.now.ticket (stepped_grew_by s old mid c.args.job.now.ticket (BeginStep (name_of c.args.part.name)) WasBegun c.in_ok-named.ensures.step) c.in_ok-named.ensures.own

pub returns-in-Err-Source-clause-went : goal.returns-in-Err-Source-clause-went
returns-in-Err-Source-clause-went g c =
    let s = g.Q.Desk.start in
    let old = g.Q.Desk.seen c.args.desk.now in
    let mid = g.Q.Desk.seen c.begin.new.self in
    went_same s old mid c.args.job.now.ticket (stepped_grew_by s old mid c.args.job.now.ticket (BeginStep (name_of c.args.part.name)) WasBegun c.in_ok-named.ensures.step) c.in_ok-named.ensures.own

pub returns-in-Err-Stage-clause-went : goal.returns-in-Err-Stage-clause-went
returns-in-Err-Stage-clause-went g c =
    let s = g.Q.Desk.start in
    let old = g.Q.Desk.seen c.args.desk.now in
    let mid = g.Q.Desk.seen c.begin.new.self in
    went_same s old mid c.args.job.now.ticket (stepped_grew_by s old mid c.args.job.now.ticket (BeginStep (name_of c.args.part.name)) WasBegun c.in_ok-named.ensures.step) c.in_ok-named.ensures.own

pub commit-requires-clause-may : goal.commit-requires-clause-may
commit-requires-clause-may g c =
    let s = g.Q.Desk.start in
    let copied = c.in-Ok-true.ensures.copied in
    let begun = c.in_ok-named.ensures in (
      copied.piece,
      stage_holds s (g.Q.Stage.Stage.contents c.in_ok-named.named.stage) (g.Q.Stage.Stage.contents c.copy_part.new.stage) copied.piece begun.contents copied.stage_is,
      can_commit s (ticket_of s (g.Q.Desk.seen c.args.desk.now) c.args.job.now.ticket) (ticket_of s (g.Q.Desk.seen c.begin.new.self) c.args.job.now.ticket) c.args.part.name c.in_ok-named.named.name copied.piece c.requires.may begun.own begun.name,
    )

pub returns-clause-put : goal.returns-clause-put
returns-clause-put g c =
    let s = g.Q.Desk.start in
    let begun = c.in_ok-named.ensures in
    let committed = c.in_ok-commit.ensures in
    part_put s (g.S.Shard.told c.args.shard.now).left (g.S.Shard.told c.copy_part.new.shard).left (g.Q.Stage.Stage.contents c.in_ok-named.named.stage) (g.Q.Stage.Stage.contents c.copy_part.new.stage)
    c.args.hasher.now c.copy_part.new.hasher (ticket_of s (g.Q.Desk.seen c.args.desk.now) c.args.job.now.ticket)
    (ticket_of s (g.Q.Desk.seen c.begin.new.self) c.args.job.now.ticket) (ticket_of s (g.Q.Desk.seen c.commit.new.self) c.args.job.now.ticket) c.args.part.name c.in_ok-named.named.name c.args.part.size c.in_ok-commit.field-0
    (subst (λ (full : Bool). Copied (g.S.Shard.told c.args.shard.now).left (g.S.Shard.told c.copy_part.new.shard).left (g.Q.Stage.Stage.contents c.in_ok-named.named.stage)
    (g.Q.Stage.Stage.contents c.copy_part.new.stage) c.args.hasher.now c.copy_part.new.hasher c.args.part.size full) c.in-Ok-true.field-0-test c.in-Ok-true.ensures.copied)
    begun.contents begun.own begun.name
    (not_there c.args.part.name c.in_ok-named.named.name c.in_ok-commit.field-0 begun.name c.requires.may.own committed.found) committed.own

pub returns-clause-went : goal.returns-clause-went
returns-clause-went g c =
    let s = g.Q.Desk.start in
    let old = g.Q.Desk.seen c.args.desk.now in
    let mid = g.Q.Desk.seen c.begin.new.self in
    let new = g.Q.Desk.seen c.commit.new.self in
    went_put s (g.S.Shard.told c.args.shard.now).left (g.S.Shard.told c.copy_part.new.shard).left c.args.hasher.now c.copy_part.new.hasher old mid new c.args.job.now.ticket (name_of c.args.part.name) c.args.part.size
    (stepped_grew_by s old mid c.args.job.now.ticket (BeginStep (name_of c.args.part.name)) WasBegun c.in_ok-named.ensures.step)
    (stepped_grew_by s mid new c.args.job.now.ticket (CommitStep (name_of c.in_ok-named.named.name)) (commit_reply c.in_ok-commit.field-0) c.in_ok-commit.ensures.step)
    (returns-clause-put g c)

pub returns-in_err-commit-clause-trouble : goal.returns-in_err-commit-clause-trouble
returns-in_err-commit-clause-trouble g c =
    let s = g.Q.Desk.start in
    let refusal = c.in_err-commit.field-0.0 in
    let mid = g.Q.Desk.seen c.begin.new.self in
    let step = CommitStep (name_of c.in_ok-named.named.name) in
    let log = g.Q.Desk.seen c.commit.new.self in
    let e = evidence g.Q.Stage.Counted.faults g.Q.Fetch.Counted.faults g.Q.Shard.Counted.faults g.Q.Target.Counted.faults g.Q.Shard.Shard.told g.Q.Target.Target.told in
    let files = (g.S.Shard.told c.args.shard.now).files in
    let n = g.S.Counted.faults c.copy_part.new.shard in
    let may = c.requires.may in
    passed_on c.from_residual-in_err-commit.result (Shown e n files s log c.args.job.now.ticket) (Step refusal) c.from_residual-in_err-commit.ensures.1
    (step_shown e n files s mid log c.args.job.now.ticket may.index may.number (ap (λ (t : Ticket). t.work) (c.in_err-commit.ensures.kept ∙ c.in_ok-named.ensures.own) ∙ may.work)
    step refusal c.refusals_are_of_their_steps.ensures tt (λ swap. swap) c.in_err-commit.ensures.step)

pub returns-in_err-commit-clause-went : goal.returns-in_err-commit-clause-went
returns-in_err-commit-clause-went g c =
    let s = g.Q.Desk.start in
    let old = g.Q.Desk.seen c.args.desk.now in
    let mid = g.Q.Desk.seen c.begin.new.self in
    let new = g.Q.Desk.seen c.commit.new.self in
    let begun = c.in_ok-named.ensures in
    let refused = c.in_err-commit.ensures in
    went_refused s old mid new c.args.job.now.ticket
    (stepped_grew_by s old mid c.args.job.now.ticket (BeginStep (name_of c.args.part.name)) WasBegun begun.step)
    (refusing_grew_by s mid new c.args.job.now.ticket (CommitStep (name_of c.in_ok-named.named.name)) (told_refusal c.in_err-commit.field-0.0) refused.step.0)
    begun.own refused.kept

pub begin-requires-clause-new : goal.begin-requires-clause-new
begin-requires-clause-new g c =
    let may = c.requires.may.may [] in
    begin_fresh g.Q.Desk.start (g.Q.Desk.seen c.args.desk.now) c.args.job.now.ticket (name_of c.args.part.name) c.requires.tells may.stored (may.once c.requires.may.own)

pub commit-requires-clause-new : goal.commit-requires-clause-new
commit-requires-clause-new g c =
    let s = g.Q.Desk.start in
    let mid = g.Q.Desk.seen c.begin.new.self in
    let who = c.args.job.now.ticket in
    let may = c.requires.may.may [] in
    subst (λ (n : CodeName). IsFresh s mid who (CommitStep (name_of n))) (sym c.in_ok-named.ensures.name)
    (commit_fresh s (g.Q.Desk.seen c.args.desk.now) mid who (name_of c.args.part.name) c.requires.mine.some c.requires.tells (may.once c.requires.may.own) c.in_ok-named.ensures.step)

pub returns-clause-tells : goal.returns-clause-tells
returns-clause-tells g c =
    let s = g.Q.Desk.start in
    let old = g.Q.Desk.seen c.args.desk.now in
    let mid = g.Q.Desk.seen c.begin.new.self in
    let new = g.Q.Desk.seen c.commit.new.self in
    let who = c.args.job.now.ticket in
    let contents = g.Q.Stage.Stage.contents c.copy_part.new.stage in
    let done = c.in_ok-commit.field-0 in
    let is = ap name_of c.in_ok-named.ensures.name in
    let may = c.requires.may.may [] in
    λ full. blob_tells s old mid new who (name_of c.args.part.name) contents done c.requires.mine.some c.requires.tells may.stored c.in_ok-named.ensures.step c.in_ok-named.ensures.own
    (subst (λ (n : BlobName). Stepped s mid new who (CommitStep n) (commit_reply done)) is c.in_ok-commit.ensures.step)
    (subst (λ (n : BlobName). ticket_of s new who ≡ committed_by n contents done (ticket_of s mid who)) is c.in_ok-commit.ensures.own)

pub commit-requires-clause-mine : goal.commit-requires-clause-mine
commit-requires-clause-mine g c = subst (λ (calls : List Call). HasTaken calls c.args.job.now.ticket) (sym c.begin.ensures.calls) c.requires.mine

pub returns-in_err-named-clause-kept : goal.returns-in_err-named-clause-kept
returns-in_err-named-clause-kept g c = refl
