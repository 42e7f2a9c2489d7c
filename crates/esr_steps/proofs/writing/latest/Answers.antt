use Rattle.std.proofs.Common.{refl, rules}
use Rattle.esr_steps.proofs.Written.{may_replace, replaced_ticket}
use Rattle.esr_steps.proofs.writing.latest.Goals as goal

pub returns-in_err-check-clause-own : goal.returns-in_err-check-clause-own
returns-in_err-check-clause-own g c =
    replaced_ticket g.K.Told.start c.args.repo.now c.args.repo.now c.check.new.self c.args.ticket (g.D.Stage.Stage.contents c.args.stage.stage) c.from_residual.result refl c.requires.may (search rules)

pub call_replace-requires-clause-may : goal.call_replace-requires-clause-may
call_replace-requires-clause-may g c = may_replace g.K.Told.start c.args.repo.now c.check.new.self c.args.ticket (g.D.Stage.Stage.contents c.args.stage.stage) c.in_ok-check.ensures.step.0 c.requires.may

pub returns-clause-own : goal.returns-clause-own
returns-clause-own g c =
    replaced_ticket g.K.Told.start c.args.repo.now c.check.new.self c.call_replace.new.self c.args.ticket (g.D.Stage.Stage.contents c.args.stage.stage) c.call_replace.result c.in_ok-check.ensures.step.0 c.requires.may c.call_replace.ensures.step
