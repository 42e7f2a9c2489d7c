use Rattle.std.proofs.Common.{List, refl, sym, ap, ◌∙◌, subst}
use Rattle.std.specs.Result.{is_err}
use Rattle.esr_core.specs.Entry.{Moment, ReadStep, BeginTest, CommitTest, WasBegun, WasDone}
use Rattle.esr_names.specs.declared.blob.BlobName.{BlobName as CodeName}
use Rattle.esr_names.specs.IdText.{id_text}
use Rattle.esr_formats.specs.Names.{name_of}
use Rattle.esr_desk.specs.Own.{caller_of}
use Rattle.esr_desk.specs.Once.{IsFresh}
use Rattle.esr_desk.specs.declared.hand.Hand.TheVariants.{Verify}
use Rattle.esr_desk.specs.Evidence.{evidence}
use Rattle.esr_unit.specs.declared.trouble.Trouble.TheVariants.{Step}
use Rattle.esr_unit.specs.Shown.{Shown}
use Rattle.esr_unit.specs.Refusals.{passed_on}
use Rattle.esr_unit.specs.Objects.{never_err, on_ok, is_faulty}
use Rattle.esr_verify.specs.Went.{Kept}
use Rattle.esr_verify.proofs.Going.{kept_by, kept_on, drawn_same}
use Rattle.esr_verify.proofs.Refusing.{step_refused}
use Rattle.esr_verify.proofs.Making.{client_fresh}
use Rattle.esr_verify.proofs.Doing.{is_own, can_commit, committed_drawn, held_text, holds_text, wrote_one}
use Rattle.esr_verify.proofs.write.write_test.Goals.{After-begin_test}
use Rattle.esr_verify.proofs.write.write_test.Goals as goal

-- the verification goes on with the blob that is begun
begun : (g : _) (c : After-begin_test g) → Kept g.Q.Desk.start (g.Q.Desk.seen c.args.desk.now) (g.Q.Desk.seen c.begin_test.new.self) c.args.id.number
begun g c =
    let s = g.Q.Desk.start in
    let old = g.Q.Desk.seen c.args.desk.now in
    let new = g.Q.Desk.seen c.begin_test.new.self in
    kept_by c.laws.ensures.deposes s old new c.args.id.number (BeginTest (name_of c.args.name)) (λ x. WasBegun) c.begin_test.result c.requires.alone tt (λ e. cc) c.begin_test.ensures.step c.requires.drew
    (drawn_same (caller_of s old) (caller_of s new) c.begin_test.ensures.own)

-- so it does if it goes on from there
kept_then : (g : _) (c : After-begin_test g) (new : List Moment) → Kept g.Q.Desk.start (g.Q.Desk.seen c.begin_test.new.self) new c.args.id.number → Kept g.Q.Desk.start (g.Q.Desk.seen c.args.desk.now) new c.args.id.number
kept_then g c new next =
    let first = begun g c in
    kept_on g.Q.Desk.start (g.Q.Desk.seen c.args.desk.now) (g.Q.Desk.seen c.begin_test.new.self) new c.args.id.number first.grew first.unverified next

pub begin_test-requires-clause-may : goal.begin_test-requires-clause-may
begin_test-requires-clause-may g c = is_own g.Q.Desk.start (g.Q.Desk.seen c.args.desk.now) c.args.id.number (name_of c.args.name) c.requires.drew c.requires.own

pub returns-in_err-named-clause-trouble : goal.returns-in_err-named-clause-trouble
returns-in_err-named-clause-trouble g c =
    let s = g.Q.Desk.start in
    let old = g.Q.Desk.seen c.args.desk.now in
    let new = g.Q.Desk.seen c.begin_test.new.self in
    let refusal = c.in_err-named.field-0.0 in
    passed_on c.from_residual.result (Shown Verify (evidence g.Q.Stage.Counted.faults g.Q.Fetch.Counted.faults g.Q.Shard.Counted.faults g.Q.Target.Counted.faults g.Q.Shard.Shard.told g.Q.Target.Target.told) ⊥ s new 0)
    (Step refusal) c.from_residual.ensures.1
    (step_refused (evidence g.Q.Stage.Counted.faults g.Q.Fetch.Counted.faults g.Q.Shard.Counted.faults g.Q.Target.Counted.faults g.Q.Shard.Shard.told g.Q.Target.Target.told) s c.laws.ensures.refuses old new c.args.id.number
    (BeginTest (name_of c.args.name)) refusal (λ r how. how) c.requires.alone c.requires.drew c.in_err-named.ensures.step (drawn_same (caller_of s old) (caller_of s new) c.begin_test.ensures.own))

pub returns-in_err-named-clause-kept : goal.returns-in_err-named-clause-kept
returns-in_err-named-clause-kept g c = begun g (goal.at.returns-in_err-named-clause-kept g c).After-begin_test

pub returns-then-is_err-clause-trouble : goal.returns-then-is_err-clause-trouble
returns-then-is_err-clause-trouble g c = record {
  client = refl;
  shown = is_faulty g.Q.Desk.start (g.Q.Stage.Counted.faults c.in_ok-named.named.stage) (g.Q.Stage.Counted.faults c.write.new.self) (is_err c.write.result) c.write.ensures.cause
      (λ quiet. never_err c.write.result (c.write.ensures.sure_ok (c.in_ok-named.ensures.sure quiet))) (sym c.is_err.ensures.value ∙ c.if-is_err.true);
}

pub returns-then-is_err-clause-kept : goal.returns-then-is_err-clause-kept
returns-then-is_err-clause-kept g c = begun g (goal.at.returns-then-is_err-clause-kept g c).After-begin_test

pub commit_test-requires-clause-holds : goal.commit_test-requires-clause-holds
commit_test-requires-clause-holds g c =
    let s = g.Q.Desk.start in
    holds_text s (g.Q.Desk.seen c.args.desk.now) (g.Q.Desk.seen c.begin_test.new.self) c.args.id.number (g.Q.Stage.Stage.contents c.write.new.self) c.requires.drew c.begin_test.ensures.own
    (held_text s c.args.id.number (g.Q.Stage.Stage.contents c.in_ok-named.named.stage) (g.Q.Stage.Stage.contents c.write.new.self) c.id_text-text.result c.id_text-text.ensures.text c.in_ok-named.ensures.contents
    (on_ok c.write.result _ (sym c.is_err.ensures.value ∙ c.if-is_err.false) c.write.ensures.written))

pub commit_test-requires-clause-may : goal.commit_test-requires-clause-may
commit_test-requires-clause-may g c =
    let s = g.Q.Desk.start in
    can_commit s (g.Q.Desk.seen c.args.desk.now) (g.Q.Desk.seen c.begin_test.new.self) c.args.id.number (name_of c.args.name) (name_of c.in_ok-named.named.name) c.requires.drew c.requires.own c.requires.once c.begin_test.ensures.own
    (ap name_of c.in_ok-named.ensures.name)

pub commit_test-requires-clause-new : goal.commit_test-requires-clause-new
commit_test-requires-clause-new g c =
    let s = g.Q.Desk.start in
    let mid = g.Q.Desk.seen c.begin_test.new.self in
    let name = name_of c.args.name in
    subst (λ (n : CodeName). IsFresh s mid 0 (ReadStep (CommitTest (name_of n)))) (sym c.in_ok-named.ensures.name)
    (client_fresh s (g.Q.Desk.seen c.args.desk.now) mid (ReadStep (CommitTest name)) (ReadStep (BeginTest name)) WasBegun c.requires.alone (λ same. same) c.in_ok-named.ensures.step c.requires.whole)

pub returns-in_err-commit_test-clause-trouble : goal.returns-in_err-commit_test-clause-trouble
returns-in_err-commit_test-clause-trouble g c =
    let s = g.Q.Desk.start in
    let mid = g.Q.Desk.seen c.begin_test.new.self in
    let new = g.Q.Desk.seen c.commit_test.new.self in
    let refusal = c.in_err-commit_test.field-0.0 in
    passed_on c.from_residual-in_err-commit_test.result (Shown Verify (evidence g.Q.Stage.Counted.faults g.Q.Fetch.Counted.faults g.Q.Shard.Counted.faults g.Q.Target.Counted.faults g.Q.Shard.Shard.told g.Q.Target.Target.told) ⊥ s new 0)
    (Step refusal) c.from_residual-in_err-commit_test.ensures.1
    (step_refused (evidence g.Q.Stage.Counted.faults g.Q.Fetch.Counted.faults g.Q.Shard.Counted.faults g.Q.Target.Counted.faults g.Q.Shard.Shard.told g.Q.Target.Target.told)
    s c.laws.ensures.refuses mid new c.args.id.number (CommitTest (name_of c.in_ok-named.named.name)) refusal (λ r how. how) c.requires.alone
    (begun g (goal.at.returns-in_err-commit_test-clause-trouble g c).After-begin_test).drew c.in_err-commit_test.ensures.step (drawn_same (caller_of s mid) (caller_of s new) c.in_err-commit_test.ensures.kept))

pub returns-in_err-commit_test-clause-kept : goal.returns-in_err-commit_test-clause-kept
returns-in_err-commit_test-clause-kept g c =
    let s = g.Q.Desk.start in
    let mid = g.Q.Desk.seen c.begin_test.new.self in
    let new = g.Q.Desk.seen c.commit_test.new.self in
    kept_then g (goal.at.returns-in_err-commit_test-clause-kept g c).After-begin_test new
    (kept_by c.laws.ensures.deposes s mid new c.args.id.number (CommitTest (name_of c.in_ok-named.named.name)) (λ x. WasDone) c.commit_test.result c.requires.alone tt
    (λ e. cc) c.commit_test.ensures.step (begun g (goal.at.returns-in_err-commit_test-clause-kept g c).After-begin_test).drew
    (drawn_same (caller_of s mid) (caller_of s new) c.in_err-commit_test.ensures.kept))

pub returns-clause-wrote : goal.returns-clause-wrote
returns-clause-wrote g c =
    let s = g.Q.Desk.start in
    wrote_one s (g.Q.Desk.seen c.args.desk.now) (g.Q.Desk.seen c.begin_test.new.self) (g.Q.Desk.seen c.commit_test.new.self) (name_of c.args.name)
    (name_of c.in_ok-named.named.name) (g.Q.Stage.Stage.contents c.write.new.self) (id_text c.args.id.number) c.requires.alone
    (ap name_of c.in_ok-named.ensures.name)
    (held_text s c.args.id.number (g.Q.Stage.Stage.contents c.in_ok-named.named.stage) (g.Q.Stage.Stage.contents c.write.new.self) c.id_text-text.result c.id_text-text.ensures.text c.in_ok-named.ensures.contents
    (on_ok c.write.result _ (sym c.is_err.ensures.value ∙ c.if-is_err.false) c.write.ensures.written))
    c.in_ok-named.ensures.step c.begin_test.ensures.own c.in_ok-commit_test.ensures.step c.in_ok-commit_test.ensures.own

pub returns-clause-kept : goal.returns-clause-kept
returns-clause-kept g c =
    let s = g.Q.Desk.start in
    let mid = g.Q.Desk.seen c.begin_test.new.self in
    let new = g.Q.Desk.seen c.commit_test.new.self in
    kept_then g (goal.at.returns-clause-kept g c).After-begin_test new
    (kept_by c.laws.ensures.deposes s mid new c.args.id.number (CommitTest (name_of c.in_ok-named.named.name))
    (λ x. WasDone) c.commit_test.result c.requires.alone tt (λ e. cc) c.commit_test.ensures.step (begun g (goal.at.returns-clause-kept g c).After-begin_test).drew
    (committed_drawn (caller_of s mid) (caller_of s new) (name_of c.in_ok-named.named.name) (g.Q.Stage.Stage.contents c.write.new.self) c.in_ok-commit_test.ensures.own))
