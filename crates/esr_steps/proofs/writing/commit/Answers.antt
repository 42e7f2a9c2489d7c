use Rattle.esr_formats.specs.Names.{name_of}
use Rattle.esr_steps.proofs.Written.{may_commit, committed_ticket, commit_kept}
use Rattle.esr_steps.proofs.writing.commit.Goals as goal

pub call_commit-requires-clause-may : goal.call_commit-requires-clause-may
call_commit-requires-clause-may g c =
    may_commit g.K.Told.start c.args.repo.now c.check.new.self c.args.ticket (name_of c.args.stage.name) (g.D.Stage.Stage.contents c.args.stage.stage) c.in_ok-check.ensures.step.0 c.rules.ensures.pruning c.rules.ensures.of_ops c.requires.may

pub returns-clause-own : goal.returns-clause-own
returns-clause-own g c =
    committed_ticket g.K.Told.start c.args.repo.now c.check.new.self c.call_commit.new.self c.args.ticket (name_of c.args.stage.name)
    (g.D.Stage.Stage.contents c.args.stage.stage) c.call_commit.result c.in_ok-check.ensures.step.0 c.requires.may c.call_commit.ensures.step

pub returns-clause-kept : goal.returns-clause-kept
returns-clause-kept g c =
    commit_kept g.K.Told.start c.args.repo.now c.check.new.self c.call_commit.new.self c.args.ticket (name_of c.args.stage.name)
    (g.D.Stage.Stage.contents c.args.stage.stage) c.call_commit.result c.in_ok-check.ensures.step.0 c.call_commit.ensures.step
