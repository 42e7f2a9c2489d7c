use Rattle.esr_formats.specs.Names.{name_of}
use Rattle.std.proofs.Common.{refl, rules}
use Rattle.esr_steps.proofs.Written.{may_begin, begun_ticket}
use Rattle.esr_steps.proofs.writing.begin.Goals as goal

pub returns-in_err-check-clause-own : goal.returns-in_err-check-clause-own
returns-in_err-check-clause-own g c =
    begun_ticket g.K.Told.start c.args.repo.now c.args.repo.now c.check.new.self c.args.ticket (name_of c.args.name) c.from_residual.result refl c.requires.may (search rules)

pub call_begin-requires-clause-may : goal.call_begin-requires-clause-may
call_begin-requires-clause-may g c = may_begin g.K.Told.start c.args.repo.now c.check.new.self c.args.ticket (name_of c.args.name) c.in_ok-check.ensures.step.0 c.rules.ensures.of_ops c.requires.may

pub returns-clause-own : goal.returns-clause-own
returns-clause-own g c = begun_ticket g.K.Told.start c.args.repo.now c.check.new.self c.call_begin.new.self c.args.ticket (name_of c.args.name) c.call_begin.result c.in_ok-check.ensures.step.0 c.requires.may c.call_begin.ensures.step
