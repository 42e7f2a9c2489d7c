use Rattle.esr_formats.specs.Names.{name_of}
use Rattle.esr_client.proofs.Verifying.{workers_of, may_begin_test, begun_caller}
use Rattle.esr_client.proofs.testing.begin_test.Goals as goal

pub call_begin-requires-clause-may : goal.call_begin-requires-clause-may
call_begin-requires-clause-may g c = may_begin_test g.K.Told.start c.args.repo.now c.check.new.self (name_of c.args.name) c.in_ok-check.ensures.step.0 c.rules.ensures.read_tracked c.requires.may (workers_of c.args.name c.requires.layout)

pub returns-clause-own : goal.returns-clause-own
returns-clause-own g c = begun_caller c.entries_tell_the_caller.ensures g.K.Told.start c.args.repo.now c.check.new.self c.call_begin.new.self (name_of c.args.name) c.call_begin.result c.in_ok-check.ensures.step.0 c.call_begin.ensures.step
