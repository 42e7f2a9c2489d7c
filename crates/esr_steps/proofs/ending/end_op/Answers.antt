use Rattle.std.proofs.Common.{rules, List, sym, subst}
use Rattle.esr_core.specs.Entry.{DroppedStep, HasEnded, Moment}
use Rattle.esr_ops.specs.Plan.{seat_of_code}
use Rattle.esr_steps.specs.Leave.{CanLeave}
use Rattle.esr_repo.specs.Stepping.{on_done, did_from}
use Rattle.esr_steps.proofs.Swapping.{may_refuse_drop, dropped_ticket, drop_left}
use Rattle.esr_steps.proofs.ending.end_op.Goals as goal

pub refuse-requires-clause-may : goal.refuse-requires-clause-may
refuse-requires-clause-may g c =
    may_refuse_drop g.K.Told.start c.args.repo.now c.check.new.self c.args.ticket
    (seat_of_code c.seat-own.result) c.term-now.result c.in_ok-check.ensures.step.0 c.rules.ensures.tracked c.requires.may c.seat-own.ensures c.term-now.ensures.term (search rules)

pub without_op-requires-clause-may : goal.without_op-requires-clause-may
without_op-requires-clause-may g c = subst (λ (log : List Moment). CanLeave g.K.Told.start log c.args.ticket) (sym c.in_ok-check.ensures.step.0) c.requires.may

pub returns-clause-own : goal.returns-clause-own
returns-clause-own g c =
    on_done g.K.Told.start c.check.new.self c.swap.new.self c.args.ticket DroppedStep HasEnded c.swap.result c.swap.ensures.step
    (dropped_ticket g.K.Told.start c.args.repo.now c.check.new.self c.swap.new.self c.args.ticket c.in_ok-check.ensures.step.0 c.requires.may)

pub returns-clause-kept : goal.returns-clause-kept
returns-clause-kept g c =
    drop_left g.K.Told.start c.args.repo.now c.swap.new.self c.args.ticket c.swap.result c.requires.may
    (did_from g.K.Told.start c.args.repo.now c.check.new.self c.swap.new.self c.args.ticket DroppedStep (λ x. HasEnded) c.swap.result c.in_ok-check.ensures.step.0 c.swap.ensures.step)
