use Rattle.std.proofs.Common.{◌≡◌, inl, List, Option, Ok, sym, ap, ◌∙◌, subst}
use Rattle.std.specs.Result.{is_err}
use Rattle.std.specs.Io.KnownBytes.{append_known}
use Rattle.esr_names.specs.declared.blob.BlobName.{BlobName as CodeName}
use Rattle.esr_model.specs.Names.{BlobName}
use Rattle.esr_model.specs.Values.{Bytes}
use Rattle.esr_core.specs.World.{Ticket}
use Rattle.esr_core.specs.Entry.{BeginStep, CommitStep, WasBegun, Moment}
use Rattle.esr_core.specs.Allowed.{IsMetadata}
use Rattle.esr_formats.specs.Names.{name_of}
use Rattle.esr_desk.specs.Conditions.{CanCommit}
use Rattle.esr_desk.specs.Start.{ticket_of, told_bytes}
use Rattle.esr_desk.specs.Once.{IsFresh}
use Rattle.esr_desk.specs.Outcome.{Stepped, commit_reply}
use Rattle.esr_desk.specs.Made.{fresh_after}
use Rattle.esr_desk.specs.Taken.{committed_by}
use Rattle.esr_desk.specs.Told.{blob_tells}
use Rattle.esr_desk.specs.Grew.{GrewBy, grew_by_on, outcome_grew_by}
use Rattle.esr_unit.specs.declared.trouble.Trouble.TheVariants.{Step}
use Rattle.esr_unit.specs.Put.{PutErr}
use Rattle.esr_unit.specs.Objects.{is_faulty, never_err, on_ok, told_append}
use Rattle.esr_unit.specs.Refusals.{passed_on, on_err}
use Rattle.esr_unit.proofs.Bytes.{begun_same}
use Rattle.esr_unit.proofs.Reports.{begin_refused, commit_refused}
use Rattle.esr_unit.proofs.blob.put.Goals as goal
use Rattle.esr_unit.proofs.blob.put.Goals.{In_ok-named}

-- ---- the begin was refused

pub returns-in_err-named-clause-left : goal.returns-in_err-named-clause-left
returns-in_err-named-clause-left g c =
    let s = g.Q.Desk.start in
    let old = ticket_of s (g.Q.Desk.seen c.args.desk.now) c.args.ticket in
    on_err c.from_residual.result (ticket_of s (g.Q.Desk.seen c.begin.new.self) c.args.ticket ≡ old) (c.begin.ensures.own ∙ begun_same (name_of c.args.name) c.begin.result old c.requires.may.stored)

pub returns-in_err-named-clause-trouble : goal.returns-in_err-named-clause-trouble
returns-in_err-named-clause-trouble g c =
    let s = g.Q.Desk.start in
    let new = g.Q.Desk.seen c.begin.new.self in
    let refusal = c.in_err-named.field-0.0 in
    passed_on c.from_residual.result (PutErr g.Q.Stage.Counted.faults s new c.args.ticket (name_of c.args.name)) (Step refusal) c.from_residual.ensures.1
    (begin_refused s (g.Q.Desk.seen c.args.desk.now) new c.args.ticket (name_of c.args.name) refusal c.in_err-named.ensures.step)

pub returns-in_err-named-clause-grew : goal.returns-in_err-named-clause-grew
returns-in_err-named-clause-grew g c =
    outcome_grew_by g.Q.Desk.start (g.Q.Desk.seen c.args.desk.now) (g.Q.Desk.seen c.begin.new.self) c.args.ticket (BeginStep (name_of c.args.name)) (λ x. WasBegun) c.begin.result c.begin.ensures.step

-- ---- the write failed

pub returns-then-is_err-clause-left : goal.returns-then-is_err-clause-left
returns-then-is_err-clause-left g c = c.in_ok-named.ensures.own

pub returns-then-is_err-clause-trouble : goal.returns-then-is_err-clause-trouble
returns-then-is_err-clause-trouble g c =
    is_faulty g.Q.Desk.start (g.Q.Stage.Counted.faults c.in_ok-named.named.stage) (g.Q.Stage.Counted.faults c.write.new.self) (is_err c.write.result) c.write.ensures.cause
    (λ quiet. never_err c.write.result (c.write.ensures.sure_ok (c.in_ok-named.ensures.sure quiet))) (sym c.is_err.ensures.value ∙ c.if-is_err.true)

pub returns-then-is_err-clause-grew : goal.returns-then-is_err-clause-grew
returns-then-is_err-clause-grew g c =
    outcome_grew_by g.Q.Desk.start (g.Q.Desk.seen c.args.desk.now) (g.Q.Desk.seen c.begin.new.self) c.args.ticket (BeginStep (name_of c.args.name)) (λ x. WasBegun) c.begin.result c.begin.ensures.step

-- ---- the commit

-- the history goes on from the begin
begun_grew : (g : _) (c : In_ok-named g) (new : List Moment) → GrewBy g.Q.Desk.start c.args.ticket (g.Q.Desk.seen c.begin.new.self) new → GrewBy g.Q.Desk.start c.args.ticket (g.Q.Desk.seen c.args.desk.now) new
begun_grew g c new more =
    let s = g.Q.Desk.start in
    let old = g.Q.Desk.seen c.args.desk.now in
    let mid = g.Q.Desk.seen c.begin.new.self in
    grew_by_on s c.args.ticket old mid new (outcome_grew_by s old mid c.args.ticket (BeginStep (name_of c.args.name)) (λ x. WasBegun) c.begin.result c.begin.ensures.step) more

pub commit-requires-clause-new : goal.commit-requires-clause-new
commit-requires-clause-new g c =
    let s = g.Q.Desk.start in
    let mid = g.Q.Desk.seen c.begin.new.self in
    let name = name_of c.args.name in
    subst (λ (n : CodeName). IsFresh s mid c.args.ticket (CommitStep (name_of n))) (sym c.in_ok-named.ensures.name)
    (fresh_after s (g.Q.Desk.seen c.args.desk.now) mid c.args.ticket (CommitStep name) (BeginStep name) WasBegun c.requires.mine.some (λ same. same) c.requires.whole c.in_ok-named.ensures.step)

pub returns-in_err-commit-clause-left : goal.returns-in_err-commit-clause-left
returns-in_err-commit-clause-left g c =
    let s = g.Q.Desk.start in
    let old = ticket_of s (g.Q.Desk.seen c.args.desk.now) c.args.ticket in
    on_err c.from_residual-in_err-commit.result (ticket_of s (g.Q.Desk.seen c.commit.new.self) c.args.ticket ≡ old) (c.in_err-commit.ensures.kept ∙ c.in_ok-named.ensures.own)

pub returns-in_err-commit-clause-trouble : goal.returns-in_err-commit-clause-trouble
returns-in_err-commit-clause-trouble g c =
    let s = g.Q.Desk.start in
    let new = g.Q.Desk.seen c.commit.new.self in
    let refusal = c.in_err-commit.field-0.0 in
    passed_on c.from_residual-in_err-commit.result (PutErr g.Q.Stage.Counted.faults s new c.args.ticket (name_of c.args.name)) (Step refusal) c.from_residual-in_err-commit.ensures.1
    (commit_refused s (g.Q.Desk.seen c.begin.new.self) new c.args.ticket c.args.name c.in_ok-named.named.name c.in_ok-named.ensures.name refusal c.in_err-commit.ensures.step)

pub returns-in_err-commit-clause-grew : goal.returns-in_err-commit-clause-grew
returns-in_err-commit-clause-grew g c =
    let new = g.Q.Desk.seen c.commit.new.self in
    begun_grew g (goal.at.returns-in_err-commit-clause-grew g c).In_ok-named new
    (outcome_grew_by g.Q.Desk.start (g.Q.Desk.seen c.begin.new.self) new c.args.ticket (CommitStep (name_of c.in_ok-named.named.name)) commit_reply c.commit.result c.commit.ensures.step)

pub returns-clause-own : goal.returns-clause-own
returns-clause-own g c =
    let s = g.Q.Desk.start in
    let who = c.args.ticket in
    let done = c.in_ok-commit.field-0 in
    let name = ap name_of c.in_ok-named.ensures.name in
    let holds = on_ok c.write.result _ (sym c.is_err.ensures.value ∙ c.if-is_err.false) c.write.ensures.written ∙ ap (λ (o : Option Bytes). append_known o c.args.bytes.now) c.in_ok-named.ensures.contents ∙ told_append s c.args.bytes.now in
    c.in_ok-commit.ensures.own ∙ ap (λ (n : BlobName). committed_by n (g.Q.Stage.Stage.contents c.write.new.self) done (ticket_of s (g.Q.Desk.seen c.begin.new.self) who)) name
    ∙ ap (λ (o : Option Bytes). committed_by (name_of c.args.name) o done (ticket_of s (g.Q.Desk.seen c.begin.new.self) who)) holds
    ∙ ap (committed_by (name_of c.args.name) (told_bytes s c.args.bytes.now) done) c.in_ok-named.ensures.own

pub returns-clause-found : goal.returns-clause-found
returns-clause-found g c = λ same. subst (λ (n : CodeName). IsMetadata (name_of n)) c.in_ok-named.ensures.name (c.commit.ensures.found (c.in_ok-commit.was ∙ ap Ok same))

pub returns-clause-tells : goal.returns-clause-tells
returns-clause-tells g c = λ tells.
    let s = g.Q.Desk.start in
    let old = g.Q.Desk.seen c.args.desk.now in
    let mid = g.Q.Desk.seen c.begin.new.self in
    let new = g.Q.Desk.seen c.commit.new.self in
    let who = c.args.ticket in
    let contents = g.Q.Stage.Stage.contents c.write.new.self in
    let done = c.in_ok-commit.field-0 in
    let is = ap name_of c.in_ok-named.ensures.name in
    blob_tells s old mid new who (name_of c.args.name) contents done c.requires.mine.some tells c.requires.may.stored c.in_ok-named.ensures.step c.in_ok-named.ensures.own
    (subst (λ (n : BlobName). Stepped s mid new who (CommitStep n) (commit_reply done)) is c.in_ok-commit.ensures.step)
    (subst (λ (n : BlobName). ticket_of s new who ≡ committed_by n contents done (ticket_of s mid who)) is c.in_ok-commit.ensures.own)

pub returns-clause-grew : goal.returns-clause-grew
returns-clause-grew g c =
    let new = g.Q.Desk.seen c.commit.new.self in
    begun_grew g (goal.at.returns-clause-grew g c).In_ok-named new (outcome_grew_by g.Q.Desk.start (g.Q.Desk.seen c.begin.new.self) new c.args.ticket (CommitStep (name_of c.in_ok-named.named.name)) commit_reply c.commit.result c.commit.ensures.step)

-- ---- what the steps ask for

pub begin-requires-clause-may : goal.begin-requires-clause-may
begin-requires-clause-may g c = inl (c.args.bytes.now, c.requires.may)

pub commit-requires-clause-may : goal.commit-requires-clause-may
commit-requires-clause-may g c =
    let s = g.Q.Desk.start in
    let who = c.args.ticket in
    let told = c.args.bytes.now in
    let named = c.in_ok-named.named in
    let t0 = ticket_of s (g.Q.Desk.seen c.args.desk.now) who in (
      told,
      on_ok c.write.result _ (sym c.is_err.ensures.value ∙ c.if-is_err.false) c.write.ensures.written ∙ ap (λ (o : Option Bytes). append_known o c.args.bytes.now) c.in_ok-named.ensures.contents ∙ told_append s c.args.bytes.now,
      subst (λ (t : Ticket). CanCommit s t (name_of named.name) told) (sym c.in_ok-named.ensures.own) (subst (λ (n : CodeName). CanCommit s t0 (name_of n) told) (sym c.in_ok-named.ensures.name) c.requires.may),
    )
