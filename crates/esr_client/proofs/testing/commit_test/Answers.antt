use Rattle.std.proofs.Common.{refl, rules}
use Rattle.esr_core.specs.Entry.{CommitTest, WasDone}
use Rattle.esr_formats.specs.Names.{name_of}
use Rattle.esr_client.proofs.CallerSteps.{kept_caller}
use Rattle.esr_client.proofs.Verifying.{workers_of, may_commit_test, committed_test, committed_caller}
use Rattle.esr_client.proofs.testing.commit_test.Goals as goal

pub call_commit-requires-clause-may : goal.call_commit-requires-clause-may
call_commit-requires-clause-may g c =
    may_commit_test g.K.Told.start c.args.repo.now c.check.new.self (name_of c.args.stage.name)
    (g.D.Stage.Stage.contents c.args.stage.stage) c.in_ok-check.ensures.step.0 c.rules.ensures.read_tracked c.requires.may (workers_of c.args.stage.name c.requires.layout) c.requires.holds

pub returns-in_err-call_commit-clause-kept : goal.returns-in_err-call_commit-clause-kept
returns-in_err-call_commit-clause-kept g c = kept_caller c.entries_tell_the_caller.ensures g.K.Told.start c.args.repo.now c.args.repo.now c.call_commit.new.self 0
    (CommitTest (name_of c.args.stage.name)) (λ _. WasDone) c.from_residual-in_err-call_commit.result (λ is. cc) refl (search rules)

pub returns-clause-step : goal.returns-clause-step
returns-clause-step g c =
    committed_test g.K.Told.start c.args.repo.now c.check.new.self c.call_commit.new.self (name_of c.args.stage.name)
    (g.D.Stage.Stage.contents c.args.stage.stage) c.in_ok-call_commit.field-0 c.in_ok-check.ensures.step.0 c.requires.may c.in_ok-call_commit.ensures.step

pub returns-clause-own : goal.returns-clause-own
returns-clause-own g c =
    committed_caller c.entries_tell_the_caller.ensures g.K.Told.start c.args.repo.now c.check.new.self c.call_commit.new.self (name_of c.args.stage.name)
    (g.D.Stage.Stage.contents c.args.stage.stage) c.in_ok-call_commit.field-0 c.in_ok-check.ensures.step.0 c.requires.may c.in_ok-call_commit.ensures.step
