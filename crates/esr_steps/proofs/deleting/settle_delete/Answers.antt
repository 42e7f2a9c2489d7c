use Rattle.std.proofs.Common.{rules}
use Rattle.esr_core.specs.Entry.{PruneStep, SettlePruned, WasSettled}
use Rattle.esr_formats.specs.Roots.{root_of}
use Rattle.esr_ops.specs.Plan.{seat_of_code}
use Rattle.esr_repo.specs.Stepping.{on_done, did_from}
use Rattle.esr_steps.proofs.DeleteTickets.{settled_ticket, settle_left}
use Rattle.esr_steps.proofs.DeleteMays.{may_refuse_delete}
use Rattle.esr_steps.proofs.deleting.settle_delete.Goals as goal

pub refuse-requires-clause-may : goal.refuse-requires-clause-may
refuse-requires-clause-may g c =
    may_refuse_delete g.K.Told.start c.args.repo.now c.check.new.self c.args.ticket (root_of c.args.root.now)
    (seat_of_code c.seat-own.result) c.term-now.result c.in_ok-check.ensures.step.0 c.rules.ensures.tracked c.rules.ensures.of_ops c.requires.may
    c.seat-own.ensures c.term-now.ensures.term (search rules)

pub returns-clause-own : goal.returns-clause-own
returns-clause-own g c =
    on_done g.K.Told.start c.check.new.self c.swap.new.self c.args.ticket (PruneStep SettlePruned) WasSettled c.swap.result c.swap.ensures.step
    (settled_ticket g.K.Told.start c.args.repo.now c.check.new.self c.swap.new.self c.args.ticket (root_of c.args.root.now) c.in_ok-check.ensures.step.0 c.requires.may)

pub returns-clause-kept : goal.returns-clause-kept
returns-clause-kept g c =
    settle_left g.K.Told.start c.args.repo.now c.swap.new.self c.args.ticket (root_of c.args.root.now) c.swap.result c.requires.may
    (did_from g.K.Told.start c.args.repo.now c.check.new.self c.swap.new.self c.args.ticket (PruneStep SettlePruned) (λ x. WasSettled) c.swap.result c.in_ok-check.ensures.step.0 c.swap.ensures.step)
