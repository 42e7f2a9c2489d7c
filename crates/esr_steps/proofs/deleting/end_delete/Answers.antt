use Rattle.esr_core.specs.Entry.{PruneStep, EndDelete, HasEnded}
use Rattle.esr_repo.specs.Stepping.{on_done}
use Rattle.esr_steps.proofs.Stepping.{seat_is_kept}
use Rattle.esr_steps.proofs.DeleteTickets.{ended_ticket}
use Rattle.esr_steps.proofs.DeleteMays.{may_end_delete}
use Rattle.esr_repo.specs.Fresh.{free_fresh}
use Rattle.esr_steps.proofs.deleting.end_delete.Goals as goal

pub ended-requires : goal.ended-requires
ended-requires g c = seat_is_kept g.K.Told.start c.args.repo.now c.check.new.self c.args.ticket c.plan.result.now c.in_ok-check.ensures.step.0 c.requires.may.out c.plan.ensures

pub note-requires-clause-may : goal.note-requires-clause-may
note-requires-clause-may g c =
    may_end_delete g.K.Told.start c.args.repo.now c.check.new.self c.args.ticket c.plan.result.now c.in_ok-ended.ended c.next_id-next.result.number c.in_ok-check.ensures.step.0 c.rules.ensures.tracked c.rules.ensures.of_ops c.requires.may
    c.plan.ensures c.in_ok-ended.ensures c.next_id-next.ensures.number

pub returns-clause-own : goal.returns-clause-own
returns-clause-own g c =
    on_done g.K.Told.start c.check.new.self c.note.new.self c.args.ticket (PruneStep EndDelete) HasEnded c.note.result c.note.ensures.step
    (ended_ticket g.K.Told.start c.args.repo.now c.check.new.self c.note.new.self c.args.ticket c.in_ok-check.ensures.step.0 c.requires.may.out)

pub check-requires-clause-fresh : goal.check-requires-clause-fresh
check-requires-clause-fresh g c = free_fresh g.K.Told.start c.args.repo.now c.args.ticket (PruneStep EndDelete) tt
