use Rattle.esr_core.specs.Entry.{BeginStep, CommitStep}
use Rattle.esr_formats.specs.Names.{name_of}
use Rattle.esr_desk.specs.Start.{ticket_of, told_bytes}
use Rattle.esr_desk.specs.Outcome.{commit_reply, Stepped}
use Rattle.esr_desk.specs.Grew.{outcome_grew_by}
use Rattle.esr_unit.specs.declared.trouble.Trouble.TheVariants.{Step}
use Rattle.esr_finish.specs.Went.{Went}
use Rattle.esr_finish.specs.Refused.{IsPutRefused}
use Rattle.esr_finish.specs.Runs.{taken_on, went_on, worked_not}
use Rattle.esr_finish.proofs.Runs.{worked_to, begin_went, commit_went}
use Rattle.esr_finish.proofs.Stopping.{other_than_latest, writing_refused}
use Rattle.esr_finish.proofs.Writing.{wrote_one}
use Rattle.std.proofs.Common.{◌≡◌, inl, Option, refl, sym, ap, ◌∙◌, subst}
use Rattle.std.specs.Io.KnownBytes.{append_known}
use Rattle.std.specs.Result.{is_err}
use Rattle.esr_model.specs.Values.{Bytes}
use Rattle.esr_core.specs.World.{Ticket}
use Rattle.esr_desk.specs.Conditions.{CanCommit}
use Rattle.esr_unit.specs.Objects.{is_faulty, never_err, on_ok, told_append}
use Rattle.esr_names.specs.declared.blob.BlobName.{BlobName as CodeName}
use Rattle.esr_model.specs.Names.{BlobName}
use Rattle.esr_desk.specs.Once.{IsFresh}
use Rattle.esr_desk.specs.Taken.{committed_by}
use Rattle.esr_desk.specs.Told.{begin_fresh, commit_fresh, blob_tells}
use Rattle.esr_unit.specs.Refusals.{passed_on}
use Rattle.esr_finish.proofs.one_blob.put.Goals as goal
use Rattle.esr_finish.proofs.one_blob.put.Goals.{In_ok-named}

-- how far the begin went
begun_went : (g : _) (c : In_ok-named g) → Went g.Q.Desk.start (g.Q.Desk.seen c.args.desk.now) (g.Q.Desk.seen c.begin.new.self) c.args.ticket
begun_went g c = begin_went g.Q.Desk.start (g.Q.Desk.seen c.args.desk.now) (g.Q.Desk.seen c.begin.new.self) c.args.ticket (name_of c.args.name) c.begin.result c.begin.ensures.step c.begin.ensures.own

pub returns-in_err-named-clause-went : goal.returns-in_err-named-clause-went
returns-in_err-named-clause-went g c =
    let seen = g.Q.Desk.seen in
    begin_went g.Q.Desk.start (seen c.args.desk.now) (seen c.begin.new.self) c.args.ticket (name_of c.args.name) c.begin.result c.begin.ensures.step c.begin.ensures.own

pub returns-then-is_err-clause-went : goal.returns-then-is_err-clause-went
returns-then-is_err-clause-went g c =
    let seen = g.Q.Desk.seen in
    begin_went g.Q.Desk.start (seen c.args.desk.now) (seen c.begin.new.self) c.args.ticket (name_of c.args.name) c.begin.result c.begin.ensures.step c.begin.ensures.own

pub returns-then-is_err-clause-refused : goal.returns-then-is_err-clause-refused
returns-then-is_err-clause-refused g c =
    is_faulty g.Q.Desk.start (g.Q.Stage.Counted.faults c.in_ok-named.named.stage) (g.Q.Stage.Counted.faults c.write.new.self) (is_err c.write.result) c.write.ensures.cause
    (λ quiet. never_err c.write.result (c.write.ensures.sure_ok (c.in_ok-named.ensures.sure quiet))) (sym c.is_err.ensures.value ∙ c.if-is_err.true)

pub returns-in_err-commit-clause-went : goal.returns-in_err-commit-clause-went
returns-in_err-commit-clause-went g c =
    let s = g.Q.Desk.start in
    let mid = g.Q.Desk.seen c.begin.new.self in
    let new = g.Q.Desk.seen c.commit.new.self in
    let t = ticket_of s mid c.args.ticket in
    went_on s (g.Q.Desk.seen c.args.desk.now) mid new c.args.ticket (begun_went g (goal.at.returns-in_err-commit-clause-went g c).In_ok-named)
    (record {
      grew = outcome_grew_by s mid new c.args.ticket (CommitStep (name_of c.in_ok-named.named.name)) commit_reply c.commit.result c.commit.ensures.step;
      worked = worked_to t t (ticket_of s new c.args.ticket) (worked_not t) c.in_err-commit.ensures.kept;
    })

pub returns-clause-went : goal.returns-clause-went
returns-clause-went g c =
    let s = g.Q.Desk.start in
    let mid = g.Q.Desk.seen c.begin.new.self in
    let new = g.Q.Desk.seen c.commit.new.self in
    went_on s (g.Q.Desk.seen c.args.desk.now) mid new c.args.ticket (begun_went g (goal.at.returns-clause-went g c).In_ok-named)
    (commit_went s mid new c.args.ticket (name_of c.in_ok-named.named.name) (g.Q.Stage.Stage.contents c.write.new.self) c.in_ok-commit.field-0 c.in_ok-commit.ensures.step c.in_ok-commit.ensures.own)

pub begin-requires-clause-may : goal.begin-requires-clause-may
begin-requires-clause-may g c = inl (c.requires.may.0, c.requires.may.2)

pub commit-requires-clause-may : goal.commit-requires-clause-may
commit-requires-clause-may g c =
    let s = g.Q.Desk.start in
    let who = c.args.ticket in
    let told = c.requires.may.0 in
    let named = c.in_ok-named.named in
    let t0 = ticket_of s (g.Q.Desk.seen c.args.desk.now) who in (
      told,
      on_ok c.write.result _ (sym c.is_err.ensures.value ∙ c.if-is_err.false) c.write.ensures.written
          ∙ ap (λ (o : Option Bytes). append_known o c.args.bytes.now) c.in_ok-named.ensures.contents ∙ told_append s c.args.bytes.now ∙ c.requires.may.1,
      subst (λ (t : Ticket). CanCommit s t (name_of named.name) told) (sym c.in_ok-named.ensures.own) (subst (λ (n : CodeName). CanCommit s t0 (name_of n) told) (sym c.in_ok-named.ensures.name) c.requires.may.2),
    )

pub begin-requires-clause-new : goal.begin-requires-clause-new
begin-requires-clause-new g c = begin_fresh g.Q.Desk.start (g.Q.Desk.seen c.args.desk.now) c.args.ticket (name_of c.args.name) c.requires.tells c.requires.may.2.stored c.requires.new

pub commit-requires-clause-new : goal.commit-requires-clause-new
commit-requires-clause-new g c =
    let s = g.Q.Desk.start in
    let mid = g.Q.Desk.seen c.begin.new.self in
    let who = c.args.ticket in
    subst (λ (n : CodeName). IsFresh s mid who (CommitStep (name_of n))) (sym c.in_ok-named.ensures.name)
    (commit_fresh s (g.Q.Desk.seen c.args.desk.now) mid who (name_of c.args.name) c.requires.mine.some c.requires.tells c.requires.new c.in_ok-named.ensures.step)

pub returns-clause-ok : goal.returns-clause-ok
returns-clause-ok g c =
    let s = g.Q.Desk.start in
    let mid = ticket_of s (g.Q.Desk.seen c.begin.new.self) c.args.ticket in
    let done = c.in_ok-commit.field-0 in
    let holds : g.Q.Stage.Stage.contents c.write.new.self ≡ told_bytes s c.args.bytes.now =
    on_ok c.write.result _ (sym c.is_err.ensures.value ∙ c.if-is_err.false) c.write.ensures.written ∙ ap (λ (o : Option Bytes). append_known o c.args.bytes.now) c.in_ok-named.ensures.contents ∙ told_append s c.args.bytes.now in
    wrote_one s (name_of c.args.name) c.args.bytes.now done (ticket_of s (g.Q.Desk.seen c.args.desk.now) c.args.ticket) (ticket_of s (g.Q.Desk.seen c.commit.new.self) c.args.ticket)
    (c.in_ok-commit.ensures.own ∙ ap (λ (n : BlobName). committed_by n (g.Q.Stage.Stage.contents c.write.new.self) done mid) (ap name_of c.in_ok-named.ensures.name)
    ∙ ap (λ (o : Option Bytes). committed_by (name_of c.args.name) o done mid) holds
    ∙ ap (committed_by (name_of c.args.name) (told_bytes s c.args.bytes.now) done) c.in_ok-named.ensures.own)

pub returns-clause-tells : goal.returns-clause-tells
returns-clause-tells g c =
    let s = g.Q.Desk.start in
    let mid = g.Q.Desk.seen c.begin.new.self in
    let new = g.Q.Desk.seen c.commit.new.self in
    let who = c.args.ticket in
    let name = name_of c.args.name in
    let contents = g.Q.Stage.Stage.contents c.write.new.self in
    let is = ap name_of c.in_ok-named.ensures.name in
    let done = c.in_ok-commit.field-0 in
    blob_tells s (g.Q.Desk.seen c.args.desk.now) mid new who name contents done c.requires.mine.some c.requires.tells c.requires.may.2.stored c.in_ok-named.ensures.step c.in_ok-named.ensures.own
    (subst (λ (n : BlobName). Stepped s mid new who (CommitStep n) (commit_reply done)) is c.in_ok-commit.ensures.step)
    (subst (λ (n : BlobName). ticket_of s new who ≡ committed_by n contents done (ticket_of s mid who)) is c.in_ok-commit.ensures.own)

pub commit-requires-clause-mine : goal.commit-requires-clause-mine
commit-requires-clause-mine g c = taken_on (g.Q.Desk.calls c.args.desk.now) (g.Q.Desk.calls c.begin.new.self) c.args.ticket c.begin.ensures.calls c.requires.mine

pub returns-in_err-named-clause-refused : goal.returns-in_err-named-clause-refused
returns-in_err-named-clause-refused g c =
    let s = g.Q.Desk.start in
    let new = g.Q.Desk.seen c.begin.new.self in
    let name = name_of c.args.name in
    let refusal = c.in_err-named.field-0.0 in
    passed_on c.from_residual.result (IsPutRefused s g.Q.Stage.Counted.faults new c.args.ticket) (Step refusal) c.from_residual.ensures.1
    (writing_refused {S = g.row.Q-Stage.Denot} g.row.Q-Fetch.Denot s g.Q.Stage.Counted.faults (g.Q.Desk.seen c.args.desk.now) new c.args.ticket
    (BeginStep name) refusal tt (λ fault. other_than_latest name c.requires.may.2.stored) c.in_err-named.ensures.step)

pub returns-in_err-commit-clause-refused : goal.returns-in_err-commit-clause-refused
returns-in_err-commit-clause-refused g c =
    let s = g.Q.Desk.start in
    let new = g.Q.Desk.seen c.commit.new.self in
    let refusal = c.in_err-commit.field-0.0 in
    passed_on c.from_residual-in_err-commit.result (IsPutRefused s g.Q.Stage.Counted.faults new c.args.ticket) (Step refusal) c.from_residual-in_err-commit.ensures.1
    (writing_refused {S = g.row.Q-Stage.Denot} g.row.Q-Fetch.Denot s g.Q.Stage.Counted.faults (g.Q.Desk.seen c.begin.new.self) new c.args.ticket (CommitStep (name_of c.in_ok-named.named.name)) refusal tt (λ fault. refl) c.in_err-commit.ensures.step)

pub returns-in_err-commit-clause-calls : goal.returns-in_err-commit-clause-calls
returns-in_err-commit-clause-calls g c = c.commit.ensures.calls ∙ c.begin.ensures.calls

pub returns-clause-calls : goal.returns-clause-calls
returns-clause-calls g c = c.commit.ensures.calls ∙ c.begin.ensures.calls
